-- The slots of a directory, and an entry that is put into one.
use Rattle.tree.proofs.Common.{◌≡◌, ℕ, ◌+◌, ◌-◌, ◌<◌, ◌≤◌, Bool, List, [], ◌∷◌, None, Option, Some, length, ap, refl}
use Rattle.tree.proofs.Common.{sym, ◌∙◌, arith, cond, true, false, suc, drop, nat_lt, option_and_then, ◌==◌, list_all}
use Rattle.tree.proofs.Common.{cond-false, cond-true, false≢true, le-ltb, lt-ltb, ne_eqb, get_or-drop, length-drop}
use Rattle.tree.proofs.Common.{none-some, Found, found_at, found_in, is_bare, place_of_bytes, has_name, slot, taken}
use Rattle.tree.proofs.Common.{number_at, ◌*◌, ◌⊎◌, ◌++◌, inl, inr, is_none, is_some, option_map, cases_lt, ltb-true}
use Rattle.tree.proofs.Common.{length-append, length-set, position-Some, same_Some, taken_for, entered, growth, placed}
use Rattle.tree.proofs.Common.{room_at, room_behind, room_in, blocks_of, Files, Spot, change_node, enter, free_slot}
use Rattle.tree.proofs.Common.{live_places, most_places, put, with_entry, with_entry_at, with_places, Directory, subst}
use Rattle.tree.proofs.Common.{All, IsFolder, FitsPlaces, FileTree, IsWhole, PlaceFits, Node, Entry, InodeStat, Tells}
use Rattle.tree.proofs.Common.{◌/◌}
use Rattle.tree.proofs.Storing.{position-at, position-none, blocks_of-set, change-is, slot-within, taken_by}
use Rattle.tree.proofs.Stored.{taken-grows}
use Rattle.imagerules.proofs.Spelling.{place-free, place-taken}

-- ---- what is read of a directory's slots

none-taken : (os : List (Option Entry)) → ((k : ℕ) → k < length os → slot os k ≡ None) → taken os ≡ []
none-taken [] h = refl
none-taken (None ∷ os) h = none-taken os (λ k l. h (suc k) (omega arith))
none-taken (Some e ∷ os) h = absurd (none-some e (sym (h 0 (omega arith))))

some-taken : (os : List (Option Entry)) (k : ℕ) (e : Entry) → slot os k ≡ Some e → 1 ≤ length (taken os)
some-taken (Some d ∷ os) k e h = omega arith
some-taken (None ∷ os) (suc k) e h = some-taken os k e h
some-taken _ _ e h = absurd (none-some e h)

slot-drop : (os : List (Option Entry)) (k : ℕ) → slot (drop 2 os) k ≡ slot os (2 + k)
slot-drop os k = get_or-drop 2 os k None

-- a slot with a name is taken, by the number at its start
pub named-place : (bytes name : List ℕ) (k n : ℕ) → has_name name (place_of_bytes bytes) ≡ true
    → n ≡ number_at 2 0 bytes
    → found_at k (place_of_bytes bytes) ≡ Some (record { place = k; number = n })
named-place bytes name k n has is = go (list_all (λ b. b == 0) bytes) refl where
  go : (t : Bool) → list_all (λ b. b == 0) bytes ≡ t
      → found_at k (place_of_bytes bytes) ≡ Some (record { place = k; number = n })
  go true e = absurd (false≢true (sym (ap (has_name name) (place-free bytes e)) ∙ has))
  go false e = ap (found_at k) (place-taken _ e)
      ∙ ap (λ m. let f : Found = record { place = k; number = m } in Some f) (sym is)

-- a test that makes no difference
pub cond-none : {X : Type 0} (b : Bool) {o : Option X} → o ≡ None → cond b o None ≡ None
cond-none true e = e
cond-none false e = refl

pub none-not : {X : Type 0} (o : Option X) → is_some o ≡ true → is_none o ≡ false
none-not None h = absurd (false≢true h)
none-not (Some x) h = refl

-- a directory's slots, and the slot of a new entry
module _ (places : List (Option Entry)) where
  pub found-at : (name : List ℕ) (i : ℕ) → i < length places → ((k : ℕ) → k < i → has_name name (slot places k) ≡ false)
      → has_name name (slot places i) ≡ true
      → found_in places name ≡ found_at i (slot places i)
  unfolding found_in
  found-at name i h before here =
      ap (option_and_then (λ k. found_at k (slot places k))) (position-at _ _ i None h before here)

  pub found-none : (name : List ℕ) (n : ℕ) → length places ≤ n
      → ((k : ℕ) → k < n → has_name name (slot places k) ≡ false)
      → found_in places name ≡ None
  unfolding found_in
  found-none name n past none =
      ap (option_and_then (λ k. found_at k (slot places k))) (position-none _ _ n None past none)

  pub bare-yes : (n : ℕ) → length places ≤ n → ((k : ℕ) → k < n → 2 ≤ k → slot places k ≡ None) → is_bare places ≡ true
  bare-yes n past none =
      ap (λ (es : List Entry). length es == 0)
      (none-taken (drop 2 places)
      (λ k l. slot-drop _ k ∙ none (2 + k) (omega (arith, length-drop 2 places)) (omega arith)))

  pub bare-no : (k : ℕ) (e : Entry) → 2 ≤ k → slot places k ≡ Some e → is_bare places ≡ false
  bare-no k e low here =
      let s : 2 + (k - 2) ≡ k = omega arith in
      let some = some-taken (drop 2 places) (k - 2) e (slot-drop places (k - 2) ∙ ap (slot places) s ∙ here) in
      ne_eqb (length (taken (drop 2 places))) 0 (λ z. absurd (omega arith))

  pub room-free : (k : ℕ) → k < length places → ((j : ℕ) → j < k → is_some (slot places j) ≡ true)
      → slot places k ≡ None
      → room_in places ≡ Some k
  unfolding room_in
  room-free k h before here =
      ap (room_at places) (position-at is_none _ k None h (λ j l. none-not _ (before j l)) (ap is_none here))

  pub room-end : (n count : ℕ) → length places ≡ count → count ≤ n → ((j : ℕ) → j < n → is_some (slot places j) ≡ true)
      → room_in places ≡ room_behind count
  unfolding room_in
  room-end n count e h all =
      ap (room_at places) (position-none is_none places n None (omega arith) (λ j l. none-not _ (all j l)))
      ∙ ap room_behind e

  -- the end, where there is room
  behind-is : (k : ℕ) → room_behind (length places) ≡ Some k → (length places < most_places) × (length places ≡ k)
  behind-is k h = go (nat_lt (length places) most_places) refl h where
    go : (b : Bool) → nat_lt (length places) most_places ≡ b → cond b (Some (length places)) None ≡ Some k
        → (length places < most_places) × (length places ≡ k)
    go true e q = (ltb-true _ most_places e, same_Some _ k q)
    go false e q = absurd (none-some k q)

  pub room-cases : (k : ℕ) → room_in places ≡ Some k
      → (k < length places) ⊎ ((length places < most_places) × (length places ≡ k))
  unfolding room_in
  room-cases k h = go (free_slot places) refl h where
    go : (o : Option ℕ) → free_slot places ≡ o → room_at places o ≡ Some k
        → (k < length places) ⊎ ((length places < most_places) × (length places ≡ k))
    go (Some j) e q = let s = (position-Some is_none _ j None e).0 in let same = same_Some j k q in inl (omega arith)
    go None e q = inr (behind-is k q)

  pub placed-inside : (k : ℕ) (e : Entry) → k < length places → placed places k e ≡ put places k e
  placed-inside k e h = cond-true _ _ _ (lt-ltb k _ h)

  pub placed-behind : (k : ℕ) (e : Entry) → length places ≤ k → placed places k e ≡ places ++ Some e ∷ []
  placed-behind k e h = cond-false _ _ _ (le-ltb k _ h)

  with-room : (k : ℕ) (e : Entry) → room_in places ≡ Some k → with_entry places e ≡ Some (placed places k e)
  unfolding room_in with_entry
  with-room k e h = go (free_slot places) refl h where
    go : (o : Option ℕ) → free_slot places ≡ o → room_at places o ≡ Some k
        → with_entry_at places e o ≡ Some (placed places k e)
    go (Some j) at q =
        let s = (position-Some is_none _ j None at).0 in
        ap (λ i. Some (put places i e)) (same_Some j k q)
        ∙ ap Some (sym (placed-inside k e (let same = same_Some j k q in omega arith)))
    go None at q =
        let b = behind-is k q in
        cond-true _ _ None (lt-ltb _ most_places b.0) ∙ ap Some (sym (placed-behind k e (omega arith)))

  without-room : (e : Entry) → room_in places ≡ None → with_entry places e ≡ None
  unfolding room_in with_entry
  without-room e h = go (free_slot places) h where
    behind : (b : Bool) → cond b (Some (length places)) None ≡ None → cond b (Some (places ++ Some e ∷ [])) None ≡ None
    behind true q = absurd (none-some _ (sym q))
    behind false q = refl

    go : (o : Option ℕ) → room_at places o ≡ None → with_entry_at places e o ≡ None
    go (Some j) q = absurd (none-some j (sym q))
    go None q = behind (nat_lt (length places) most_places) q

  taken-placed : (k : ℕ) (e : Entry)
      → taken_for (16 * length (placed places k e)) ≡ taken_for (16 * length places) + growth places k
  taken-placed k e = elim (cases_lt k _) [
    | inl l ↦
        let grown : growth places k ≡ 0 = cond-true _ 0 _ (lt-ltb k _ l) in
        omega (arith, ap (λ n. taken_for (16 * n)) (ap length (placed-inside k e l) ∙ length-set places k (Some e)))
    | inr m ↦
        let grown : growth places k ≡ taken_for (16 * length places + 16) - taken_for (16 * length places) =
        cond-false _ 0 _ (le-ltb k _ m) in
        let more : 16 * (length places + 1) ≡ 16 * length places + 16 = omega arith in
        omega (
          arith,
          ap (λ n. taken_for (16 * n))
              (ap length (placed-behind k e m) ∙ length-append places (Some e ∷ [])),
          ap taken_for more,
          taken-grows (16 * length places) (16 * length places + 16) (omega arith),
        )
  ]

-- ---- an entry

module _ (files : Files) (d links : ℕ) (places : List (Option Entry))
    (here : slot files d ≡ Some (Directory links places)) where
  pub entered-is : (k : ℕ) (e : Entry) → entered files d k e ≡ put files d (Directory links (placed places k e))
  unfolding entered
  entered-is k e = change-is _ d _ _ here

enter-at : (files : Files) (at : Spot) (n links : ℕ) (places : List (Option Entry))
    → slot files at.directory ≡ Some (Directory (suc links) places)
    → enter files at n ≡ option_map (λ ps. change_node files at.directory (λ node. with_places node ps))
    (with_entry places (record { name = at.name; number = n }))
unfolding enter
enter-at files at n links places here =
    ap (λ o. option_map (λ ps. change_node files at.directory (λ node. with_places node ps))
    (option_and_then (λ ps. with_entry ps (record { name = at.name; number = n })) (live_places o))) here

module _ (files : Files) (at : Spot) (n links : ℕ) (places : List (Option Entry))
    (here : slot files at.directory ≡ Some (Directory (suc links) places)) where
  pub enter-room : (k : ℕ) → room_in places ≡ Some k
      → enter files at n ≡ Some (entered files at.directory k (record { name = at.name; number = n }))
  enter-room k room =
      let e : Entry = record { name = at.name; number = n } in
      enter-at _ at n _ _ here
      ∙ ap (option_map (λ ps. change_node files at.directory (λ node. with_places node ps))) (with-room _ k e room)
      ∙ ap Some (change-is _ _ (λ node. with_places node (placed places k e)) _ here
      ∙ sym (entered-is _ _ _ _ here k e))

  pub enter-full : room_in places ≡ None → enter files at n ≡ None
  enter-full none =
      let e : Entry = record { name = at.name; number = n } in
      enter-at _ at n _ _ here
      ∙ ap (option_map (λ ps. change_node files at.directory (λ node. with_places node ps))) (without-room _ e none)

pub blocks_of-entered : (files : Files) (d links : ℕ) (places : List (Option Entry))
    → slot files d ≡ Some (Directory links places) → (k : ℕ) (e : Entry)
    → blocks_of (entered files d k e) ≡ blocks_of files + growth places k
blocks_of-entered files d links places here k e =
    let next = Directory links (placed places k e) in
    let b = blocks_of-set _ d (Some next) (slot-within files d (Directory links places) here) in
    let used : taken_by (slot files d) ≡ taken_for (16 * length places) = ap taken_by here in
    let now : taken_by (Some next) ≡ taken_for (16 * length (placed places k e)) = refl in
    let is = ap blocks_of (entered-is _ d _ _ here k e) in
    omega (arith, taken-placed places k e)

-- ---- the slots of a directory

pub folder-fits : {t : FileTree} {d : ℕ} → IsWhole t → (f : IsFolder t.files d) → All PlaceFits f.places
folder-fits {d = d} whole f = subst FitsPlaces f.here (whole.places d)

pub folder-node : {files : Files} {d : ℕ} → IsFolder files d → (x : Node) × (slot files d ≡ Some x)
folder-node f = (Directory f.links f.places, f.here)

-- how many there are, by its attributes
pub size-told : {files : Files} {d : ℕ} {s : InodeStat} (f : IsFolder files d)
    → ((node : Node) → slot files d ≡ Some node → Tells s node) → s.size / 16 ≡ length f.places
size-told f told =
    let is = told (Directory f.links f.places) f.here in
    let size = is.2 in
    omega arith
