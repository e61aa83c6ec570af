-- A name at the end of a directory, and a file without bytes that gets some.
use Rattle.imagemake.proofs.Common.{none-some, same_Some, ◌≡◌, ℕ, zero, suc, ◌-◌, ◌<◌, ◌≤◌, true, List, [], ◌∷◌, ◌++◌}
use Rattle.imagemake.proofs.Common.{length, None, Option, Some, inl, inr, ap, sym, refl, ◌∙◌, arith, subst, is_some}
use Rattle.imagemake.proofs.Common.{cases_lt, Node, blocks_for, size_of, slot, Folder, blocks_of, Entry, Thing, Ok}
use Rattle.imagemake.proofs.Common.{Result, OnOk, ◌+◌, set-set, FileTree, IsNow, now-files, blocks_of-set, slot-within}
use Rattle.imagemake.proofs.Common.{Files, put, Directory, false, nat_lt, IfOk-at_ok, cond-false, cond-true, le-ltb}
use Rattle.imagemake.proofs.Common.{lt-ltb, false≢true, get_or-append_right, get_or_append_left, length_push, entered}
use Rattle.imagemake.proofs.Common.{room_in, Looks, change_node, most_places, appended, linked, more_links}
use Rattle.imagemake.proofs.Common.{HasDirectory, change-is, blocks_of-entered, entered-is, room-end, ◌⊎◌, cond, Bool}
use Rattle.imagemake.proofs.Common.{take, nat_le, le-leb, leb-false, lt-leb, append-nil, drop_all, take_all, longest}
use Rattle.imagemake.proofs.Common.{File}
use Rattle.imagemake.proofs.Putting.{slot-put}
use Rattle.blockdev.specs.declared.DeviceFault.{DeviceFault}
use Rattle.tree.proofs.Links.{links-size}
use Rattle.tree.specs.Written.{Written, count_of, files_after, fitting, with_bytes, write_to, written}
use Rattle.unixmodel.specs.FileCalls.{greatest, with_file}
use Rattle.unixmodel.specs.Memory.{overwrite}
use Rattle.tree.specs.Entering.{growth, placed, room_behind, HasRoom}
use Rattle.imagemake.specs.Added.{IsPacked, LacksRoomFor}

-- ---- a name at the end of a directory of which each entry is in use

module _ (places : List (Option Entry)) (packed : IsPacked places) where
  room-packed : room_in places ≡ room_behind (length places)
  room-packed = room-end places _ _ refl (omega arith) packed

  room-is : ((length places < most_places) × (room_in places ≡ Some (length places)))
      ⊎ ((most_places ≤ length places) × (room_in places ≡ None))
  room-is = elim (cases_lt (length places) most_places) [
    | inl l ↦ inl (l, room-packed ∙ cond-true _ _ None (lt-ltb _ _ l))
    | inr m ↦ inr (m, room-packed ∙ cond-false _ _ None (le-ltb (length places) _ m))
  ]

  room-some : (k : ℕ) → room_in places ≡ Some k → k ≡ length places
  room-some k some = elim room-is
      [ inl e ↦ same_Some k _ (sym some ∙ e.1) | inr e ↦ absurd (none-some k (sym e.1 ∙ some)) ]

pub packed-more : (places : List (Option Entry)) (e : Entry) → IsPacked places → IsPacked (places ++ Some e ∷ [])
packed-more places e packed k high = elim (cases_lt k (length places)) [
  | inl l ↦ ap is_some (get_or_append_left places (Some e ∷ []) None k l) ∙ packed k l
  | inr m ↦
      let last : k - length places ≡ 0 = omega (arith, length_push places (Some e)) in
      ap is_some (get_or-append_right places _ _ k None refl m ∙ ap (λ j. slot (Some e ∷ []) j) last)
]

pub placed-end : (places : List (Option Entry)) (e : Entry) → placed places (length places) e ≡ places ++ Some e ∷ []
placed-end places e = cond-false (nat_lt (length places) (length places)) (put places (length places) e)
    (places ++ Some e ∷ []) (le-ltb (length places) (length places) (omega arith))

-- ---- what it takes

pub linked-size : (t : Thing) (node : Node) → size_of (linked t node) ≡ size_of node
linked-size Folder node = links-size node _
linked-size thing node = refl

-- a link takes no room
lacks-linked : (limit : ℕ) (files : Files) (d : ℕ) (t : Thing) (node : Node) → d < length files
    → LacksRoomFor limit files d node → LacksRoomFor limit files d (linked t node)
lacks-linked limit files d t node h lacks =
    let size : size_of (linked t node) ≡ size_of node = linked-size t node in
    let blocks : blocks_for (size_of (linked t node)) ≡ blocks_for (size_of node) = ap blocks_for size in
    elim lacks [
      | inl long ↦ inl (omega arith)
      | inr full ↦ inr (omega (
        arith,
        blocks_of-set files d (Some node) h,
        blocks_of-set files d (Some (linked t node)) h,
      ))
    ]

module _ {files : Files} {d : ℕ} (h : HasDirectory files d) (e : Entry) where
  abbrev named : Node
  named = appended e (Directory h.links h.places)

  pub within : d < length files
  within = slot-within files d _ h.here

  -- the directory with its new name
  pub named-is : (k : ℕ) → room_in h.places ≡ Some k → entered files d k e ≡ put files d named
  named-is k room =
      let end = room-some h.places h.packed k room in
      entered-is files d h.links _ h.here k e ∙ ap (λ k. put files d (Directory h.links (placed h.places k e))) end
      ∙ ap (λ ps. put files d (Directory h.links ps)) (placed-end _ e)

  module _ (limit : ℕ) (t : Thing) where
    pub lacks-place : None ≡ room_in h.places → LacksRoomFor limit files d (linked t named)
    lacks-place none =
        let many : most_places ≤ length h.places =
        elim (room-is h.places h.packed) [ inl e ↦ absurd (none-some _ (none ∙ e.1)) | inr e ↦ e.0 ] in
        lacks-linked limit files d t named within (inl (omega (arith, length_push h.places (Some e))))

    pub lacks-growth : (k : ℕ) → room_in h.places ≡ Some k → limit < blocks_of files + (growth h.places k + 0)
        → LacksRoomFor limit files d (linked t named)
    lacks-growth k room few =
        lacks-linked limit files d t named within
        (inr (omega (arith, ap blocks_of (named-is k room), blocks_of-entered files d h.links h.places h.here k e)))

  -- and with a link more
  pub named-linked : change_node (put files d named) d more_links ≡ put files d (linked Folder named)
  named-linked = change-is _ d _ named (slot-put files d named within) ∙ set-set files d _ _

-- ---- the directory after reads

module _ {old mid : FileTree} (now : IsNow old mid old.files) {d : ℕ} where
  abbrev pub room-now : {k : ℕ} → HasRoom old.files d k → HasRoom mid.files d k
  room-now r = record {
    links = r.links;
    places = r.places;
    here = ap (λ (fs : Files). slot fs d) (now-files now)
        ∙ r.here;
    room = r.room;
  }

  abbrev pub room-was : {k : ℕ} → HasRoom mid.files d k → HasRoom old.files d k
  room-was r = record {
    links = r.links;
    places = r.places;
    here = ap (λ (fs : Files). slot fs d) (sym (now-files now))
        ∙ r.here;
    room = r.room;
  }

abbrev pub room-at : {files : Files} {d k : ℕ} (h : HasDirectory files d) → room_in h.places ≡ Some k
    → HasRoom files d k
room-at h room = record { links = h.links; places = h.places; here = h.here; room = room }

-- ---- the last entry

module _ {files : Files} {d : ℕ} (h : HasDirectory files d) where
  pub room-full-at : most_places ≤ length h.places → None ≡ room_in h.places
  room-full-at full = elim (room-is h.places h.packed) [ inl e ↦ absurd (let l = e.0 in omega arith) | inr e ↦ sym e.1 ]

  pub room-end-at : {k : ℕ} → k ≡ length h.places → k < most_places → Some k ≡ room_in h.places
  room-end-at is less = elim (room-is h.places h.packed)
      [ inl e ↦ ap Some is ∙ sym e.1 | inr e ↦ absurd (let m = e.0 in omega arith) ]

-- what follows a look
pub looks-done : {old now : FileTree} {T U : Type 0} {Was : T → Type 0} {Told : U → Type 0} {r : Result T DeviceFault}
    {x : T} {y : U} → Looks old now r Was → r ≡ Ok x → Told y → Looks old now (Ok y) Told
looks-done {old} {now} {T} {Was = Was} {r = r} looks was told = record {
  told = ((IfOk-at_ok (λ x. (now ≡ record old { failures = now.failures }) × Was x) was looks.told).0, told);
  up = subst (λ (q : Result T DeviceFault). OnOk q (now.failed ≡ false)) was looks.up;
  down = tt;
  same_device = looks.same_device;
  cause = record { later = looks.cause.later; failed = λ e. absurd (false≢true e) };
}

pub now-looked : {old now : FileTree} {T : Type 0} {Was : T → Type 0} {r : Result T DeviceFault} {x : T}
    → Looks old now r Was → r ≡ Ok x → IsNow old now old.files
now-looked {old} {now} {Was = Was} looks was =
    record {
      is = (IfOk-at_ok (λ x. (now ≡ record old { failures = now.failures }) × Was x) was looks.told).0;
      later = looks.cause.later;
    }

-- ---- a file without bytes gets some, where there is room for all of them

greatest-tells : (test : ℕ → Bool) (n : ℕ) → (greatest test n ≤ n) × (greatest test n < n → test n ≡ false)
greatest-tells test zero = (omega arith, λ h. absurd (omega arith))
greatest-tells test (suc n) = go _ refl (greatest-tells test n).0 where
  go : (b : Bool) → test (suc n) ≡ b → greatest test n ≤ n
      → (elim b [ true ↦ suc n | false ↦ greatest test n ] ≤ suc n)
      × (elim b [ true ↦ suc n | false ↦ greatest test n ] < suc n → test (suc n) ≡ false)
  go true e h = (omega arith, λ l. absurd (omega arith))
  go false e h = (omega arith, λ l. e)

-- bytes that are written into none are all that there are
over-none : (bytes : List ℕ) (k : ℕ) → length bytes ≤ k → overwrite [] 0 (take k bytes) ≡ bytes
over-none bytes k all = ap (λ r. take k bytes ++ r) (drop_all _ [] (omega arith)) ∙ append-nil _ ∙ take_all k bytes all

module _ (limit : ℕ) (files : Files) (n : ℕ) (bytes : List ℕ) (here : slot files n ≡ Some (File 1 [])) where
  abbrev fit : ℕ
  fit = fitting limit files n 0 1 [] bytes

  abbrev all : Written
  all = with_bytes files n 0 1 [] bytes fit

  abbrev w : Option Written
  w = written limit files n 0 bytes

  w-is : w ≡ cond (nat_le (0 + length bytes) longest) (Some all) None
  unfolding written
  w-is = ap (write_to limit files n 0 bytes) here

  short : length bytes ≤ longest → w ≡ Some all
  short h = w-is ∙ rw (le-leb (0 + length bytes) longest (omega arith)) refl

  long : longest < length bytes → w ≡ None
  long h = w-is ∙ rw (lt-leb (0 + length bytes) longest (omega arith)) refl

  pub fill-long : None ≡ count_of w → longest < length bytes
  fill-long told = elim (cases_lt longest (length bytes))
      [ inl l ↦ l | inr m ↦ absurd (none-some fit (told ∙ ap count_of (short m))) ]

  module _ {count : ℕ} (told : Some count ≡ count_of w) where
    -- it is written at all
    fits : length bytes ≤ longest
    fits = elim (cases_lt longest (length bytes))
        [ inl l ↦ absurd (none-some count (sym (ap count_of (long l)) ∙ sym told)) | inr m ↦ m ]

    counted : count ≡ fit
    counted = same_Some count fit (told ∙ ap count_of (short fits))

    pub fill-less : count < length bytes → limit < blocks_of (put files n (File 1 bytes))
    unfolding fitting
    fill-less less =
        let no = (greatest-tells (λ k. nat_le (blocks_of (with_file files n 1 (overwrite [] 0 (take k bytes)))) limit)
        (length bytes)).1 (omega (arith, counted)) in
        leb-false (blocks_of (put files n (File 1 bytes))) limit
        (ap (λ bs. nat_le (blocks_of (put files n (File 1 bs))) limit)
        (sym (over-none bytes (length bytes) (omega arith))) ∙ no)

    pub fill-whole : length bytes ≤ count → files_after files w ≡ put files n (File 1 bytes)
    unfolding fitting
    fill-whole whole =
        let most = (greatest-tells
        (λ k. nat_le (blocks_of (with_file files n 1 (overwrite [] 0 (take k bytes)))) limit) (length bytes)).0
        in
        let many : length bytes ≤ fit = omega (arith, counted) in
        ap (files_after files) (short fits) ∙ ap (λ bs. put files n (File 1 bs)) (over-none bytes fit many)
