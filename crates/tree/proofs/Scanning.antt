-- The slots that a scan of a directory goes through.
use Rattle.tree.proofs.Common.{◌≡◌, ℕ, ◌+◌, ◌-◌, ◌<◌, ◌≤◌, Bool, List, None, Option, Some, length, ap, refl, sym, ◌∙◌}
use Rattle.tree.proofs.Common.{arith, true, false, drop, false≢true, length-drop, Found, found_at, found_in, is_bare}
use Rattle.tree.proofs.Common.{place_of_bytes, has_name, slot, number_at, ◌*◌, ◌++◌, inl, inr, is_none, is_some}
use Rattle.tree.proofs.Common.{cases_lt, room_behind, room_in, ◌/◌, ◌%◌, min, take, All, flat_map, not, append-nil}
use Rattle.tree.proofs.Common.{drop-drop, drop-take, drop_all, length-take, length-take-le, take-take, part, Name}
use Rattle.tree.proofs.Common.{NameOrFree, Taken, IsFirst, Scans, is_sought, place_in, PlaceFits, length-spelling}
use Rattle.tree.proofs.Common.{places_in-back, slot-places_in, place_bytes, Entry}
use Rattle.tree.specs.Calls.{TellsRoomFor}
use Rattle.tree.specs.Entering.{room_told}
use Rattle.tree.proofs.Common.{or_parts, le_refl, ◌||◌}
use Rattle.tree.proofs.Places.{bare-no, bare-yes, found-at, found-none, named-place, room-end, room-free}
use Rattle.std.specs.Borrow.{Bor}
use Rattle.tree.specs.declared.place.Sought.{Sought}

-- ---- a read

-- as many bytes as there is room for
pub read-whole : (at count : ℕ) (bytes old new : List ℕ) → count ≡ min (length old) (length bytes - at)
    → at + length old ≤ length bytes → new ≡ part at count bytes ++ drop count old → new ≡ part at (length old) bytes
read-whole at count bytes old new is fits read =
    let whole : count ≡ length old = omega arith in
    read ∙ ap (λ n. part at n bytes ++ drop n old) whole
    ∙ ap (λ r. part at (length old) bytes ++ r) (drop_all (length old) old (omega arith)) ∙ append-nil _

-- the slots that are read next: no more than there are, and than a block has
pub record IsNext (size k m : ℕ) : Type 0 where
  pub fits : 16 * (k + m) ≤ size
  pub most : 16 * m ≤ 1024

module _ (places : List (Option Entry)) (fits : All PlaceFits places) (k m : ℕ) where
  abbrev size : ℕ
  size = length (flat_map place_bytes places)

  pub next-is : {count : ℕ} → count ≡ length places → k < count → m ≡ min (64 - k % 64) (count - k) → IsNext size k m
  next-is same low least = let long = length-spelling _ fits in record { fits = omega arith; most = omega arith }

  module _ (next : IsNext size k m) (block : List ℕ) where
    pub next-within : 16 * k + length (take (16 * m) block) ≤ 16 * length places
    next-within = let low = next.fits in omega (arith, length-take (16 * m) block, length-spelling places fits)

    pub next-read : length block ≡ 1024 → {out : List ℕ}
        → out ≡ part (16 * k) (length (take (16 * m) block)) (flat_map place_bytes places)
        → out ≡ part (16 * k) (16 * m) (flat_map place_bytes places)
    next-read long read = read
        ∙ ap (λ n. part (16 * k) n (flat_map place_bytes places))
        (length-take-le (16 * m) block (let most = next.most in omega arith))

-- ---- m slots from slot k on

module _ (bytes : List ℕ) (k m : ℕ) (fits : 16 * (k + m) ≤ length bytes) where
  abbrev some : List ℕ
  some = part (16 * k) (16 * m) bytes

  length-some : length some ≡ 16 * m
  length-some = length-take-le (16 * m) (drop (16 * k) bytes) (omega (arith, length-drop (16 * k) bytes))

  part-some : (j : ℕ) → j < m → part (16 * j) 16 some ≡ part (16 * (k + j)) 16 bytes
  part-some j low =
      let rest : 16 * m ≡ 16 * j + (16 * m - 16 * j) = omega arith in
      let at : 16 * k + 16 * j ≡ 16 * (k + j) = omega arith in
      ap (λ r. take 16 (drop (16 * j) (take r (drop (16 * k) bytes)))) rest
      ∙ ap (take 16) (drop-take (16 * j) (16 * m - 16 * j) (drop (16 * k) bytes))
      ∙ take-take 16 (16 * m - 16 * j) (drop (16 * j) (drop (16 * k) bytes)) (omega arith)
      ∙ ap (take 16) (drop-drop (16 * j) (16 * k) bytes ∙ ap (λ n. drop n bytes) at)

  module _ (sought : Sought) (from : ℕ)
      (before : (j : ℕ) → j < k → from ≤ j → is_sought sought (place_in bytes j) ≡ false) where
    -- none of the first n of them is sought
    passed : (n : ℕ) → n ≤ m → ((i : ℕ) → i < n → 0 ≤ i → is_sought sought (place_in some i) ≡ false) → (j : ℕ)
        → j < k + n → from ≤ j → is_sought sought (place_in bytes j) ≡ false
    passed n most none j less low = elim (cases_lt j k) [
      | inl l ↦ before j l low
      | inr r ↦
          let i : k + (j - k) ≡ j = omega arith in
          ap (λ x. is_sought sought (place_in bytes x)) (sym i)
          ∙ ap (λ b. is_sought sought (place_of_bytes b)) (sym (part-some (j - k) (omega arith)))
          ∙ none (j - k) (omega arith) (omega arith)
    ]

    pub all-passed : Scans sought some 0 None → (j : ℕ) → j < k + m → from ≤ j
        → is_sought sought (place_in bytes j) ≡ false
    all-passed none = passed m (omega arith) (λ i l _. none i (let s = length-some in omega arith) (omega arith))

    pub first-there : (found : Found) → from ≤ k → IsFirst sought some 0 found
        → IsFirst sought bytes from (record { place = k + found.place; number = found.number })
    first-there found low is =
        let within : found.place < m = let w = is.within in let s = length-some in omega arith in
        record {
          behind = omega arith;
          within = omega arith;
          before = passed found.place (omega arith) is.before;
          here = ap (λ b. is_sought sought (place_of_bytes b)) (sym (part-some found.place within)) ∙ is.here;
          number = is.number ∙ ap (number_at 2 0) (part-some found.place within);
        }

-- ---- what is sought

some-not : (o : Option Entry) → is_none o ≡ false → is_some o ≡ true
some-not None h = absurd (false≢true (sym h))
some-not (Some e) h = refl

none-there : (o : Option Entry) → is_none o ≡ true → o ≡ None
none-there None h = refl
none-there (Some e) h = absurd (false≢true h)

left-of : (a b : Bool) → (a || b) ≡ true → b ≡ false → a ≡ true
left-of true b e f = refl
left-of false b e f = absurd (false≢true (sym f ∙ e))

entry-of : (o : Option Entry) → is_some o ≡ true → (e : Entry) × (o ≡ Some e)
entry-of None h = absurd (false≢true h)
entry-of (Some e) h = (e, refl)

none-is : (o : Option Found) (b : Bool) → is_some o ≡ not b → b ≡ is_none o
none-is None true h = refl
none-is None false h = absurd (false≢true h)
none-is (Some found) true h = absurd (false≢true (sym h))
none-is (Some found) false h = refl

free-of : (o : Option Entry) → is_some o ≡ false → o ≡ None
free-of None h = refl
free-of (Some e) h = absurd (false≢true (sym h))

module _ (places : List (Option Entry)) (fits : All PlaceFits places) where
  abbrev bytes : List ℕ
  bytes = flat_map place_bytes places

  long : length places ≡ length bytes / 16
  long = omega (arith, length-spelling places fits)

  place-is : (k : ℕ) → k < length bytes / 16 → slot places k ≡ place_in bytes k
  place-is k low = ap (λ (ps : List (Option Entry)). slot ps k) (sym (places_in-back _ fits)) ∙ slot-places_in _ k low

  -- a name
  pub name-told : (name : Bor (List ℕ)) (o : Option Found) → Scans (Name name) bytes 0 o → o ≡ found_in places name.now
  name-told name None none =
      sym (found-none places name.now (length bytes / 16) (omega (arith, long))
      (λ k l. ap (has_name name.now) (place-is k l) ∙ none k l (omega arith)))
  name-told name (Some found) is =
      let here = place-is _ is.within in
      let before = λ (k : ℕ) (l : k < found.place). let w = is.within in let low : k < length bytes / 16 =
      omega arith in ap (has_name name.now) (place-is k low) ∙ is.before k l (omega arith) in
      sym (found-at places name.now found.place (let w = is.within in omega (arith, long)) before
      (ap (has_name name.now) here ∙ is.here)
      ∙ ap (found_at found.place) here ∙ named-place (part (16 * found.place) 16 bytes) name.now _ _ is.here is.number)

  -- a scan from a slot on, where those before it aren't sought
  whole-scan : (sought : Sought) (from : ℕ) (o : Option Found)
      → ((j : ℕ) → j < from → is_sought sought (place_in bytes j) ≡ false) → Scans sought bytes from o
      → Scans sought bytes 0 o
  whole-scan sought from None before none = λ k l low. elim (cases_lt k from) [
    | inl b ↦ before k b
    | inr a ↦ none k l a
  ]
  whole-scan sought from (Some found) before is = record {
    behind = omega arith;
    within = is.within;
    before = λ k l low. elim (cases_lt k from) [
      | inl b ↦ before k b
      | inr a ↦ is.before k l a
    ];
    here = is.here;
    number = is.number;
  }

  -- neither a name nor a free slot
  pub none-told : (name : Bor (List ℕ)) → Scans (NameOrFree name) bytes 0 None → (count : ℕ) → count ≡ length places
      → (found_in places name.now ≡ None) × (room_in places ≡ room_behind count)
  none-told name none count is = (
    sym (name-told name None (λ k l low. (or_parts _ _ (none k l low)).1)),
    room-end places count count (sym is) (omega arith)
        (λ j l. let low : j < length bytes / 16 = omega (arith, long) in ap is_some (place-is j low)
        ∙ some-not _ (or_parts _ _ (none j low (omega arith))).0),
  )

  -- the first free slot, or the name
  module _ (name : Bor (List ℕ)) (found : Found) (is : IsFirst (NameOrFree name) bytes 0 found) where
    passed-both : (j : ℕ) → j < found.place
        → (is_none (place_in bytes j) ≡ false) × (has_name name.now (place_in bytes j) ≡ false)
    passed-both j l = or_parts _ _ (is.before j l (omega arith))

    pub later-told : (o : Option Found) → Scans (Name name) bytes found.place o → o ≡ found_in places name.now
    later-told o scanned =
        name-told name o (whole-scan (Name name) found.place o (λ j l. (passed-both j l).1) scanned)

    pub free-told : Scans (Name name) bytes found.place None → room_in places ≡ Some found.place
    free-told none =
        let w = is.within in
        room-free places found.place (omega (arith, long))
        (λ j l. let low : j < length bytes / 16 = omega arith in ap is_some (place-is j low)
        ∙ some-not _ (passed-both j l).0)
        (place-is _ w ∙ none-there _ (left-of _ _ is.here (none found.place w (le_refl _))))

  -- a slot in use, after the first two
  bare-is : (o : Option Found) → Scans Taken bytes 2 o → is_none o ≡ is_bare places
  bare-is None none = sym (bare-yes places (length bytes / 16) (omega (arith, long))
      (λ k l low. place-is k l ∙ free-of _ (none k l low)))
  bare-is (Some found) is =
      let entry = entry-of _ is.here in
      sym (bare-no _ _ entry.0 is.behind (place-is _ is.within ∙ entry.1))

  pub bare-told : (o : Option Found) → Scans Taken bytes 2 o → (none : Bool) → is_some o ≡ not none
      → none ≡ is_bare places
  bare-told o scanned none is = none-is o none is ∙ bare-is o scanned

-- where an entry of a name goes if nothing has the name
pub unnamed-told : (places : List (Option Entry)) (name : List ℕ) (o : Option ℕ) → found_in places name ≡ None
    → room_in places ≡ o → TellsRoomFor places name (room_told o)
unnamed-told places name None none room = (none, room)
unnamed-told places name (Some k) none room = (none, room)
