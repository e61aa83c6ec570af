-- An entry is added to a directory, and bytes are written into a file.
use Rattle.tree.proofs.Common.{◌≡◌, ◌≢◌, None, ℕ, ◌+◌, ◌-◌, ◌*◌, ◌/◌, ◌<◌, ◌≤◌, List, [], ◌∷◌, ◌++◌, Option, Some}
use Rattle.tree.proofs.Common.{length, drop, ap, sym, ◌∙◌, arith, subst, cond, inl, inr, All, flat_map, nat_lt}
use Rattle.tree.proofs.Common.{cases_lt, drop_all, take_all, All-append, All-cons, All-nil, All-set, splice}
use Rattle.tree.proofs.Common.{length-place_bytes, length-spelling, IsPlain, PlaceFits, taken_for, HasRoom, entered}
use Rattle.tree.proofs.Common.{growth, placed, room_in, FileTree, IsWhole, blocks_of, longest, place_bytes, slot}
use Rattle.tree.proofs.Common.{Directory, set, take, zero, suc, append_assoc, length-set, All-head, All-tail, HasPlace}
use Rattle.tree.proofs.Common.{FitsPlaces, blocks_for, erase, without_place, zeros, Bool, Err, Ok, Result, refl, true}
use Rattle.tree.proofs.Common.{false, nat_le, ◌&&◌, and_from, and_left, and_right, cases_eq, false≢true, le-leb, lt-leb}
use Rattle.tree.proofs.Common.{length-append, length-take-le, Changes, Keeps, LacksWriting, Store, Writes, raw_at}
use Rattle.tree.proofs.Common.{PastEnd, TooLong, Geometry, IsFileSystem, Stores, IsFile, Written, count_of, files_after}
use Rattle.tree.proofs.Common.{fitting, written, Files, File, data_blocks_of, DeviceFault, Rewrites, Tries, Entry}
use Rattle.tree.proofs.Common.{Serves, IsInside, tree_of, Inside}
use Rattle.unixmodel.specs.Memory.{overwrite}
use Rattle.inode.specs.declared.InodeFault.{InodeFault}
use Rattle.std.proofs.lemmas.List.Concat.{flat_map-append}
use Rattle.tree.proofs.Places.{blocks_of-entered, entered-is, placed-behind, placed-inside, room-cases}
use Rattle.tree.proofs.Ending.{Becomes}
use Rattle.std.proofs.Math.Seq.{drop-append-add, drop-append_seam, take-append-add}
use Rattle.tree.proofs.Storing.{blocks_of-set, change-is, slot-within, taken_by, kept-stores, held-again, held-raw}
use Rattle.tree.proofs.Storing.{inside-holds, inside-room, inside-after, done-inside, lost-inside, with_volume}
use Rattle.tree.proofs.Stored.{file-stores, never-full, rewritten-stores, rewritten-within, taken-grows}
use Rattle.inode.specs.Store.{has_failed, is_device, with_bytes}
use Rattle.inode.specs.declared.InodeFault.TheVariants.{Blocks, Device}
use Rattle.inode.specs.Writing.{LacksAt}
use Rattle.tree.specs.Calls.{HasBlocks, HasPlaces, WritesAt}
use Rattle.unixmodel.specs.FileCalls.{greatest, with_file}
use Rattle.inode.specs.Store as inode
use Rattle.tree.specs.Written as tree

-- ---- the bytes of a directory with a slot replaced

splice-after : (m : ℕ) (new first rest : List ℕ)
    → splice (length first + m) new (first ++ rest) ≡ first ++ splice m new rest
splice-after m new first rest =
    let e : length first + m + length new ≡ length first + (m + length new) = omega arith in
    ap (λ r. r ++ (new ++ drop (length first + m + length new) (first ++ rest))) (take-append-add first rest m)
    ∙ ap (λ r. (first ++ take m rest) ++ (new ++ r)) (ap (λ n. drop n (first ++ rest)) e ∙ drop-append-add first rest _)
    ∙ append_assoc first _ _

spelling-set : (places : List (Option Entry)) (k : ℕ) (o : Option Entry) → All PlaceFits places → PlaceFits o
    → k < length places → splice (16 * k) (place_bytes o) (flat_map place_bytes places)
    ≡ flat_map place_bytes (set places k o)
spelling-set [] k o fits fit h = absurd (omega arith)
spelling-set (p ∷ os) zero o fits fit h =
    let z : 16 * zero ≡ 0 = omega arith in
    let e : 16 * zero + length (place_bytes o) ≡ length (place_bytes p) =
    omega (arith, length-place_bytes o fit, length-place_bytes p (All-head PlaceFits p os fits)) in
    ap (λ n. take n (place_bytes p ++ flat_map place_bytes os)
    ++ (place_bytes o ++ drop (16 * zero + length (place_bytes o)) (place_bytes p ++ flat_map place_bytes os))) z
    ∙ ap (λ n. place_bytes o ++ drop n (place_bytes p ++ flat_map place_bytes os)) e
    ∙ ap (λ r. place_bytes o ++ r) (drop-append_seam (place_bytes p) _)
spelling-set (p ∷ os) (suc k) o fits fit h =
    let long = length-place_bytes p (All-head PlaceFits p os fits) in
    let e : 16 * suc k ≡ length (place_bytes p) + 16 * k = omega arith in
    ap (λ n. splice n (place_bytes o) (place_bytes p ++ flat_map place_bytes os)) e
    ∙ splice-after (16 * k) (place_bytes o) (place_bytes p) (flat_map place_bytes os)
    ∙ ap (λ r. place_bytes p ++ r) (spelling-set os k o (All-tail PlaceFits p os fits) fit (omega arith))

-- ---- a slot becomes free

module _ {t : FileTree} (whole : IsWhole t) {d k : ℕ} (at : HasPlace t.files d k) where
  pub place-high : 16 * k + 16 ≤ longest
  place-high = let short = whole.short d (Directory at.links at.places) at.here in let within = at.within in omega arith

  pub erased-becomes : Becomes t d (16 * k) (zeros 16) (erase t.files d k)
  unfolding erase zeros
  erased-becomes =
      let fits : All PlaceFits at.places = subst FitsPlaces at.here (whole.places d) in
      let next = set at.places k None in
      let b = blocks_of-set t.files d (Some (Directory at.links next))
      (slot-within t.files d (Directory at.links at.places) at.here) in
      let was : taken_by (slot t.files d) ≡ taken_by (Some (Directory at.links at.places)) = ap taken_by at.here in
      let same : taken_by (Some (Directory at.links next)) ≡ taken_by (Some (Directory at.links at.places)) =
      ap (λ k. blocks_for (16 * k)) (length-set at.places k None) in
      let all = whole.within in
      let size = length-spelling at.places fits in
      let within = at.within in
      let high = place-high in
      let sixteen : length (zeros 16) ≡ 16 = length-place_bytes None tt in
      record {
        next = next;
        able = record {
          links = at.links;
          places = at.places;
          here = at.here;
          spelled = sym (spelling-set at.places k None fits tt at.within);
          fits = All-set PlaceFits at.places k None tt fits;
          within = omega arith;
          short = omega arith;
          room = omega arith;
        };
        is = sym (change-is t.files d (without_place k) (Directory at.links at.places) at.here);
      }

-- ---- the blocks that an entry takes

pub growth-size : (places : List (Option Entry)) (place size grown : ℕ) → size ≡ 16 * length places
    → grown ≡ cond (nat_lt place (size / 16)) 0 (taken_for (size + 16) - taken_for size) → grown ≡ growth places place
growth-size places place size grown e is =
    let d : 16 * length places / 16 ≡ length places = omega arith in
    is ∙ ap (λ s. cond (nat_lt place (s / 16)) 0 (taken_for (s + 16) - taken_for s)) e
    ∙ ap (λ n. cond (nat_lt place n) 0 (taken_for (16 * length places + 16) - taken_for (16 * length places))) d

-- ---- the bytes of a directory with an entry added

placed-fits : (places : List (Option Entry)) (k : ℕ) (e : Entry) → All PlaceFits places → IsPlain e
    → All PlaceFits (placed places k e)
placed-fits places k e fits plain = elim (cases_lt k _) [
  | inl l ↦ subst (All PlaceFits) (sym (placed-inside _ k e l)) (All-set PlaceFits _ k _ plain fits)
  | inr m ↦ subst (All PlaceFits) (sym (placed-behind _ k e m))
      (All-append PlaceFits _ _ fits (All-cons PlaceFits _ [] plain (All-nil PlaceFits)))
]

spelling-behind : (places : List (Option Entry)) (k : ℕ) (e : Entry) → All PlaceFits places → length places ≡ k
    → splice (16 * k) (place_bytes (Some e)) (flat_map place_bytes places)
    ≡ flat_map place_bytes (places ++ Some e ∷ [])
spelling-behind places k e fits h =
    let xs = flat_map place_bytes places in
    let new = place_bytes (Some e) in
    let long = length-spelling _ fits in
    ap (λ r. r ++ (new ++ drop (16 * k + length new) xs)) (take_all (16 * k) xs (omega arith))
    ∙ ap (λ r. xs ++ (new ++ r)) (drop_all (16 * k + length new) xs (omega arith))
    ∙ sym (flat_map-append place_bytes _ _)

spelling-placed : (places : List (Option Entry)) (k : ℕ) (e : Entry) → All PlaceFits places → IsPlain e
    → room_in places ≡ Some k
    → splice (16 * k) (place_bytes (Some e)) (flat_map place_bytes places) ≡ flat_map place_bytes (placed places k e)
spelling-placed places k e fits plain room = elim (room-cases places k room) [
  | inl l ↦ spelling-set _ k _ fits plain l ∙ ap (flat_map place_bytes) (sym (placed-inside places k e l))
  | inr m ↦ let past : length places ≤ k = let h = m.1 in omega arith in spelling-behind places k e fits m.1
      ∙ ap (flat_map place_bytes) (sym (placed-behind _ k e past))
]

-- ---- a directory with an entry

module _ {t : FileTree} (whole : IsWhole t) {d k : ℕ} (room : HasRoom t.files d k) where
  place-bounds : (k ≤ length room.places) × (16 * k + 16 ≤ longest)
  place-bounds =
      let short = whole.short d (Directory room.links room.places) room.here in
      elim (room-cases _ k room.room) [
        | inl l ↦ (omega arith, omega arith)
        | inr m ↦ let low = m.0 in let is = m.1 in (omega arith, omega arith)
      ]

  pub entry-high : 16 * k + 16 ≤ longest
  entry-high = place-bounds.1

  entered-becomes : (e : Entry) → IsPlain e → blocks_of t.files + growth room.places k ≤ t.block_limit
      → Becomes t d (16 * k) (place_bytes (Some e)) (entered t.files d k e)
  entered-becomes e plain enough =
      let fits : All PlaceFits room.places = subst FitsPlaces room.here (whole.places d) in
      let is = entered-is t.files d room.links room.places room.here k e in
      let blocks = blocks_of-entered t.files d room.links room.places room.here k e in
      let same = ap blocks_of is in
      let size = length-spelling room.places fits in
      let long = length-place_bytes (Some e) plain in
      let low = place-bounds.0 in
      let high = place-bounds.1 in
      record {
        next = placed room.places k e;
        able = record {
          links = room.links;
          places = room.places;
          here = room.here;
          spelled = sym (spelling-placed room.places k e fits plain room.room);
          fits = placed-fits room.places k e fits plain;
          within = omega arith;
          short = omega arith;
          room = omega arith;
        };
        is = sym is;
      }

  -- the entry of a node
  module _ (name : List ℕ) (n : ℕ) (plain : (m : ℕ) → m < 65536 → IsPlain (record { name = name; number = m }))
      (some : slot t.files n ≢ None) where
    pub entry-plain : IsPlain (record { name = name; number = n })
    entry-plain = let high = (whole.numbers n some).1 in plain n (omega arith)

    pub entry-becomes : HasBlocks t d k → {bytes : List ℕ}
        → bytes ≡ place_bytes (Some (record { name = name; number = n }))
        → Becomes t d (16 * k) bytes (entered t.files d k (record { name = name; number = n }))
    entry-becomes fits is = subst
        (λ bytes. Becomes t d (16 * k) bytes (entered t.files d k (record { name = name; number = n }))) (sym is)
        (entered-becomes _ entry-plain (fits room))

-- ---- bytes are written into a file, as many as there are blocks for

-- the greatest number that passes
greatest-is : (test : ℕ → Bool) (n k : ℕ) → k ≤ n → test k ≡ true → ((j : ℕ) → k < j → j ≤ n → test j ≡ false)
    → greatest test n ≡ k
greatest-is test zero k high here above = omega arith
greatest-is test (suc n) k high here above = elim (cases_eq k _) [
  | inl e ↦ ap (λ (b : Bool). elim b [ true ↦ suc n | false ↦ greatest test n ]) (ap test (sym e) ∙ here) ∙ sym e
  | inr s ↦ ap (λ (b : Bool). elim b [ true ↦ suc n | false ↦ greatest test n ])
      (above (suc n) (omega arith) (omega arith))
      ∙ greatest-is test n k (omega arith) here (λ j l m. above j l (omega arith))
]

-- how many bytes were written
abbrev count_after : List ℕ → Result (Unit {0}) InodeFault → Option ℕ
count_after new (Ok u) = Some (length new)
count_after new (Err (Blocks k)) = Some k
count_after new (Err _) = None

-- what a write of an inode's bytes leaves
abbrev Wrote : {D : Type 0} → (D → List ℕ) → Store D → Store D → ℕ → ℕ → List ℕ → Result (Unit {0}) InodeFault → Type 0
Wrote identity v v' n at new r =
    inode.Serves identity is_device v v' r (λ _. Writes v v' n at new) (LacksWriting v v' n at new)

module _ {D : Type 0} {v : Store D} {files : Files} {limit : ℕ} (holds : Stores v files)
    (room : v.free + blocks_of files ≡ limit) (n at : ℕ) (new : List ℕ) (file : IsFile files n) where
  abbrev old : List ℕ
  old = (raw_at v.nodes n).bytes

  abbrev more : ℕ → Files
  more k = with_file files n file.links (overwrite file.bytes at (take k new))

  file-bytes : old ≡ file.bytes
  file-bytes = (held-raw holds n _ file.here).bytes

  long-enough : (k : ℕ) → at ≤ length file.bytes → k ≤ length new
      → at + k ≤ length (overwrite file.bytes at (take k new))
  long-enough k low high =
      omega (
        arith,
        length-append (take at file.bytes ++ take k new) (drop (at + length (take k new)) file.bytes),
        length-append (take at file.bytes) (take k new),
        length-take-le at file.bytes low,
        length-take-le k new high,
      )

  -- there are no blocks for one byte more
  too-many : (k : ℕ) → at ≤ length file.bytes → k < length new → LacksAt v.free old (at + k) → (j : ℕ) → k < j
      → j ≤ length new → nat_le (blocks_of (more j)) limit ≡ false
  too-many k low some few j above high =
      let bytes = overwrite file.bytes at (take j new) in
      let b = blocks_of-set files n (Some (File file.links bytes))
      (slot-within files n (File file.links file.bytes) file.here) in
      let used : taken_by (slot files n) ≡ taken_by (Some (File file.links old)) = ap taken_by file.here
      ∙ ap (λ b. taken_by (Some (File file.links b))) (sym file-bytes) in
      let long = long-enough j low high in
      let grows = taken-grows (at + k + 1) (length bytes) (omega arith) in
      lt-leb (blocks_of (more j)) limit (omega (arith, room))

  -- a write that begins within the file and isn't too long, or another
  written-is : (within : Bool) → (nat_le at (length file.bytes) && nat_le (at + length new) longest) ≡ within
      → written limit files n at new
      ≡ cond within (Some (tree.with_bytes files n
      at file.links file.bytes new (fitting limit files n at file.links file.bytes new))) None
  unfolding written
  written-is within h = rw (file.here, h) refl

  abbrev w : Option Written
  w = written limit files n at new

  -- k bytes were written
  abbrev Told : Store D → Option ℕ → Type 0
  Told v' k = (k ≡ count_of w) × Stores v' (files_after files w)

  module _ {v' : Store D} (same : v'.geometry ≡ v.geometry) where
    -- k bytes are written, and there are no blocks for more
    write-some : (k : ℕ) → k ≤ length new → at ≤ length old → at + length new ≤ longest
        → Changes v v' n (Some (with_bytes (raw_at v.nodes n) (splice at (take k new) old)))
        → ((j : ℕ) → k < j → j ≤ length new → nat_le (blocks_of (more j)) limit ≡ false) → Told v' (Some k)
    unfolding fitting
    write-some k high low short changes above =
        let bytes : splice at (take k new) old ≡ overwrite file.bytes at (take k new) =
        ap (splice at (take k new)) file-bytes ∙ sym (append_assoc (take at file.bytes) _ _) in
        let held = file-stores holds same n file
        (subst (λ b. Changes v v' n (Some (with_bytes (raw_at v.nodes n) b))) bytes changes) in
        let balance = held.free ∙ ap (λ (g : Geometry). data_blocks_of g.size g.inodes) same in
        let fits : nat_le (blocks_of (more k)) limit ≡ true =
        le-leb (blocks_of (more k)) limit (omega (arith, holds.free, room)) in
        let most : fitting limit files n at file.links file.bytes new ≡ k =
        greatest-is (λ j. nat_le (blocks_of (more j)) limit) _ k high fits above in
        let begins = le-leb at (length file.bytes) (subst (λ b. at ≤ length b) file-bytes low) in
        let is : w ≡ Some (tree.with_bytes files n at file.links file.bytes new k) =
        written-is true (and_from _ _ begins (le-leb (at + length new) longest short))
        ∙ ap (λ j. Some (tree.with_bytes files n at file.links file.bytes new j)) most in
        (ap count_of (sym is), subst (λ o. Stores v' (files_after files o)) (sym is) held)

    write-none : (nat_le at (length file.bytes) && nat_le (at + length new) longest) ≡ false → Keeps v v' → Told v' None
    write-none h keeps = let none =
        written-is false h in (
          ap count_of (sym none),
          subst (λ o. Stores v' (files_after files o)) (sym none) (kept-stores same keeps holds),
        )

    write-told : {identity : D → List ℕ} (r : Result (Unit {0}) InodeFault) → Wrote identity v v' n at new r
        → v'.failed ≡ false → Told v' (count_after new r)
    write-told (Ok u) wrote up =
        let done = wrote.done in
        write-some (length new) (omega arith) done.within done.short
        (subst (λ b. Changes v v' n (Some (with_bytes (raw_at v.nodes n) (splice at b old))))
        (sym (take_all (length new) new (omega arith))) done.changes) (λ j l m. absurd (omega arith))
    write-told (Err (Blocks k)) wrote up =
        let full = wrote.refused refl in
        let some = full.some_left in
        write-some k (omega arith) full.within full.short full.changes
        (too-many k (subst (λ b. at ≤ length b) file-bytes full.within) some full.few)
    write-told (Err PastEnd) wrote up =
        let past = wrote.refused refl in
        write-none (and_left _ _ (lt-leb at _ (subst (λ b. length b < at) file-bytes past.1))) past.0
    write-told (Err TooLong) wrote up = let long =
        wrote.refused refl in write-none (and_right _ _ (lt-leb _ longest long.2)) long.0
    write-told (Err Device) wrote up = absurd (false≢true (sym up ∙ wrote.failed))

-- ---- writes, as callers of the tree see them

-- slots of a directory are there, and the blocks suffice
pub rewrite-refused : {D : Type 0} {v : Store D} (v' : Store D) {seen : FileTree} {d at : ℕ} {bytes : List ℕ}
    {next : List (Option Entry)} → Stores v seen.files → v.free + blocks_of seen.files ≡ seen.block_limit
    → Rewrites seen d at bytes next → (fault : InodeFault) → fault ≢ Device
    → (is_device fault ≡ false → LacksWriting v v' d at bytes fault) → ⊥
rewrite-refused v' holds room able (Blocks k) other lacks = never-full holds able room k (lacks refl)
rewrite-refused v' holds room able PastEnd other lacks = omega (arith, rewritten-within holds able, (lacks refl).1)
rewrite-refused v' holds room able TooLong other lacks = omega (arith, (lacks refl).2, able.short)
rewrite-refused v' holds room able Device other lacks = other refl

module _ {D : Type 0} {identity : D → List ℕ} {t : Inside D} {seen : FileTree} (whole : IsInside t)
    (is : tree_of identity t ≡ seen) (up : seen.failed ≡ false) {v' : Store D} where
  -- an access failed
  pub device-lost : {T U : Type 0} {Done : U → Type 0} {Why : InodeFault → Type 0} {Told : T → Type 0}
      {e : DeviceFault} → inode.Serves {T = U} identity is_device t.volume v' (Err Device) Done Why
      → Tries {T = T} seen (tree_of identity (with_volume t v')) (Err e) Told
  device-lost wrote = lost-inside whole is up wrote.follows wrote.failed (wrote.cause refl)

  module _ {n at : ℕ} {new : List ℕ} (file : IsFile seen.files n) (r : Result (Unit {0}) InodeFault)
      (wrote : Wrote identity t.volume v' n at new r) where
    told : v'.failed ≡ false
        → (count_after new r ≡ count_of (written seen.block_limit seen.files n at new))
        × Stores v' (files_after seen.files (written seen.block_limit seen.files n at new))
    told = write-told (inside-holds whole is up) (inside-room whole is up) n at new file wrote.follows.geometry r wrote

    pub write-inside : IsInside (with_volume t v')
    write-inside = inside-after whole is up wrote.follows (λ now. held-again (told now).1)

    pub write-serves : has_failed is_device r ≡ false
        → Serves seen (tree_of identity (with_volume t v')) (Ok (count_after new r))
        (WritesAt seen (tree_of identity (with_volume t v')) n at new)
    write-serves good = let now = wrote.failed
        ∙ good in (done-inside whole is up wrote.follows now
        (λ turn. let both = told now in (turn _ both.1, both.0))).serves

  module _ {d at : ℕ} {bytes : List ℕ} where
    -- the directory has the slots
    pub rewrite-done : {u : Unit {0}} → Wrote identity t.volume v' d at bytes (Ok u)
        → Tries seen (tree_of identity (with_volume t v')) (Ok u)
        (λ _. HasPlaces seen (tree_of identity (with_volume t v')) d at bytes)
    rewrite-done wrote = done-inside whole is up wrote.follows wrote.failed
        (λ turn next r. turn _ (rewritten-stores (inside-holds whole is up) r wrote.follows.geometry wrote.done))

    -- the volume holds files still
    pub rewrite-inside : {next : List (Option Entry)} → Rewrites seen d at bytes next
        → (r : Result (Unit {0}) InodeFault) → Wrote identity t.volume v' d at bytes r → IsInside (with_volume t v')
    rewrite-inside able r wrote = inside-after whole is up wrote.follows (go r wrote) where
      go : (r : Result (Unit {0}) InodeFault) → Wrote identity t.volume v' d at bytes r → v'.failed ≡ false
          → IsFileSystem v'
      go (Ok u) wrote now = held-again
          (rewritten-stores (inside-holds whole is up) able wrote.follows.geometry wrote.done)
      go (Err (Blocks k)) wrote now =
          absurd (never-full (inside-holds whole is up) able (inside-room whole is up) k (wrote.refused refl))
      go (Err Device) wrote now = absurd (false≢true (sym now ∙ wrote.failed))
      go (Err PastEnd) wrote now =
          held-again (kept-stores wrote.follows.geometry (wrote.refused refl).0 (inside-holds whole is up))
      go (Err TooLong) wrote now =
          held-again (kept-stores wrote.follows.geometry (wrote.refused refl).0 (inside-holds whole is up))
