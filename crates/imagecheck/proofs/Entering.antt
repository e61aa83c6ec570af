-- The slots of a directory, one after the other, and what holds of their entries: that each name occurs once, and what
-- the entries name.
use Rattle.imagecheck.proofs.Common.{◌≡◌, ◌≢◌, ℕ, List, [], ◌∷◌, None, Option, Some, get_or, drop, ap, sym, refl, ◌∙◌}
use Rattle.imagecheck.proofs.Common.{arith, true, false, suc, All, AllPairs, bytes_eq, cond-false, cond-true, cond_both}
use Rattle.imagecheck.proofs.Common.{false≢true, none-some, All-cons, All-head, All-nil, All-tail, bytes_eq-Decides}
use Rattle.imagecheck.proofs.Common.{dot, dot_dot, has_name, is_dot_name, slot, taken, first_named, Entry, ◌+◌, ◌-◌}
use Rattle.imagecheck.proofs.Common.{◌*◌, ◌/◌, ◌<◌, ◌≤◌, ◌++◌, length, take, subst, inl, inr, not, IsSome, is_some}
use Rattle.imagecheck.proofs.Common.{◌==◌, cases_eq, get_or-drop, length-drop, length-take-le, take_more}
use Rattle.imagecheck.proofs.Common.{filter_map-append, Node, inodes_in, kind_in, entries_in, entries_to, files_in}
use Rattle.imagecheck.proofs.Common.{place_of_bytes, places_in, file_in-used, slot-files_in, slot-places_in, Bool, cond}
use Rattle.imagecheck.proofs.Common.{nat_eq, cases_lt, is_directory, most_links, Directory, contents_in}
use Rattle.imagecheck.proofs.Common.{is_directory_at, links_in, major_in, minor_in, names_of, subdirectories, HasBlocks}
use Rattle.imagecheck.proofs.Common.{FitsLinks, HasEntries, HasLinks, LinksAt, node_in, node_in-directory, slot-past}
use Rattle.imagecheck.proofs.Common.{slot-zero, nat_lt, IsTrue, ◌↔◌, IsAllAdjacentAnswer, list_all, Decides-eqb}
use Rattle.imagecheck.proofs.Common.{Decides-like, same_from_decides, name_bytes, number, number_at, name_numbers}
use Rattle.imagecheck.proofs.Common.{without_zeros, EntriesAt}
use Rattle.std.proofs.lemmas.Bool.{ne_eqb, false_from_ne_true, ltb-false, ltb-true, or_parts}
use Rattle.std.proofs.lemmas.List.{take_all, drop-append-le, drop_all, get_or-map, get_or_default, length-map}
use Rattle.std.proofs.lemmas.List.{length-take}
use Rattle.unixmodel.specs.Files.Node.{Device, File}
use Rattle.std.proofs.lemmas.List.Kept.{AllPairs-from_increasing}
use Rattle.std.proofs.lemmas.Map.Keys.{IsDistinct-IsPermutation}
use Rattle.std.proofs.lemmas.Map.Made.{AllPairs-from_IsDistinct, IsDistinct-from_AllPairs}
use Rattle.unixmodel.specs.Memory.{zeros}
use Rattle.imagecheck.proofs.Judging.{never, told}
use Rattle.std.proofs.Common.{IsPermutation, IsSorted, nat_cmp, option_to_list}
use Rattle.std.proofs.lemmas.List.Sorted.{IsNonDecreasingBy-from_sort, IsPermutation-sym}
use Rattle.imagerules.proofs.Nodes.{by_kind, node_in-device, node_in-file, slot-free}
use Rattle.imagerules.proofs.Spelling.{chunk-fits, length-places_in, without_zeros-spelled}
use Rattle.imagecheck.specs.Entries.{AreNamed, AreOther, HasFronts, IfTaken, name_number, NamesDirectories}

-- ---- what the names of a directory find

module _ (P : Option Entry → Type 0) (none : P None) where
  -- what holds of the entry of each taken slot holds of each slot
  pub holds_taken : (os : List (Option Entry)) → All (λ e. P (Some e)) (taken os) → All P os
  holds_taken [] h = All-nil P
  holds_taken (None ∷ os) h = All-cons P None os none (holds_taken os h)
  holds_taken (Some e ∷ os) h =
      All-cons P _ os (All-head (λ x. P (Some x)) e _ h) (holds_taken os (All-tail (λ x. P (Some x)) e _ h))

  -- and of the slot that a name finds
  pub holds_named : (name : List ℕ) (os : List (Option Entry)) → All P os → P (first_named name os)
  holds_named name [] h = none
  holds_named name (o ∷ os) h =
      cond_both _ o _ P (λ _. All-head P o os h) (λ _. holds_named name os (All-tail P o os h))

same_name : (name : List ℕ) → bytes_eq name name ≡ true
same_name name = (bytes_eq-Decides name name).1 refl

other_name : (one other : List ℕ) → one ≢ other → bytes_eq one other ≡ false
other_name one other h = false_from_ne_true _ (λ t. h ((bytes_eq-Decides one other).0 t))

-- where no two have one name, each is found by its own
pub each_named : (os : List (Option Entry)) → AllPairs AreOther (taken os)
    → All (λ (e : Entry). first_named e.name os ≡ Some e) (taken os)
each_named [] h = All-nil (λ (e : Entry). first_named e.name [] ≡ Some e)
each_named (None ∷ os) h = each_named os h
each_named (Some f ∷ os) h =
    All-cons (λ (e : Entry). first_named e.name (Some f ∷ os) ≡ Some e) f (taken os)
    (cond-true (bytes_eq f.name f.name) (Some f) (first_named f.name os) (same_name f.name))
    (λ k d l.
    let e = get_or (taken os) k d in
    let other : f.name ≢ e.name = h 0 (suc k) d (omega arith) (omega arith) in
    cond-false (bytes_eq f.name e.name) (Some f) (first_named e.name os) (other_name f.name e.name other)
    ∙ each_named os (λ i j x m n. h (suc i) (suc j) x (omega arith) (omega arith)) k d l)

-- a name that isn't "." or ".." comes after these two
pub behind_dots : (name : List ℕ) (places : List (Option Entry)) (a b : ℕ)
    → slot places 0 ≡ Some (record { name = dot; number = a })
    → slot places 1 ≡ Some (record { name = dot_dot; number = b }) → is_dot_name name ≡ false
    → first_named name places ≡ first_named name (drop 2 places)
behind_dots name [] a b p q h = absurd (none-some (record { name = dot; number = a }) p)
behind_dots name (o ∷ []) a b p q h = absurd (none-some (record { name = dot_dot; number = b }) q)
behind_dots name (o ∷ r ∷ os) a b p q h =
    let no = or_parts (bytes_eq name dot) (bytes_eq name dot_dot) h in
    cond-false _ o _ (ap (has_name name) p
    ∙ other_name dot name (λ e. false≢true (sym no.0 ∙ (bytes_eq-Decides name dot).1 (sym e))))
    ∙ cond-false _ r _ (ap (has_name name) q
    ∙ other_name dot_dot name (λ e. false≢true (sym no.1 ∙ (bytes_eq-Decides name dot_dot).1 (sym e))))

-- ---- numbers in use

pub used-is : (image : List ℕ) (n : ℕ) → 1 ≤ n → n < inodes_in image
    → not (kind_in image n == 0) ≡ is_some (slot (files_in image) n)
used-is image n low high = elim (cases_eq _ 0) [
  | inl z ↦ rw (slot-free image n high z, z) refl
  | inr used ↦ rw (slot-files_in image n high, file_in-used image n low used, ne_eqb _ 0 used) refl
]

pub none_used : {o : Option Node} → o ≡ None → IsSome o → ⊥
none_used e used = false≢true (sym (ap is_some e) ∙ used)

-- ---- the entries, one more slot

taken_one : (o : Option Entry) → taken (o ∷ []) ≡ option_to_list o
taken_one None = refl
taken_one (Some e) = refl

pub entries_more : (bytes : List ℕ) (k : ℕ) → 2 ≤ k → k < length bytes / 16
    → entries_to bytes (k + 1) ≡ entries_to bytes k ++ option_to_list (place_of_bytes (take 16 (drop (16 * k) bytes)))
entries_more bytes k low high =
    let places = places_in bytes in
    let within : k < length places = omega (arith, length-places_in bytes) in
    let two : 2 ≤ length (take k places) = omega (arith, length-take-le k places (omega arith)) in
    rw (take_more places k None within, drop-append-le 2 _ _ two, filter_map-append, slot-places_in bytes k high)
    (ap (λ r. entries_to bytes k ++ r) (taken_one (place_of_bytes (take 16 (drop (16 * k) bytes)))))

pub entries_none : (bytes : List ℕ) → entries_to bytes 2 ≡ []
entries_none bytes = ap taken (drop_all 2 (take 2 (places_in bytes)) (omega (arith, length-take 2 (places_in bytes))))

pub entries_all : (bytes : List ℕ) (k : ℕ) → length bytes / 16 ≤ k → entries_to bytes k ≡ entries_in bytes
entries_all bytes k h = ap (λ os. taken (drop 2 os)) (take_all k _ (omega (arith, length-places_in bytes)))

-- ---- what holds of each entry, slot by slot

module _ (P : Entry → Type 0) where
  taken_holds : (os : List (Option Entry)) → All (IfTaken P) os → All P (taken os)
  taken_holds [] h = All-nil P
  taken_holds (None ∷ os) h = taken_holds os (All-tail (IfTaken P) None os h)
  taken_holds (Some e ∷ os) h =
      All-cons P e _ (All-head (IfTaken P) (Some e) os h) (taken_holds os (All-tail (IfTaken P) (Some e) os h))

  module _ (bytes : List ℕ) where
    place-at : (j : ℕ) → j < length (drop 2 (places_in bytes)) → (o : Option Entry)
        → get_or (drop 2 (places_in bytes)) j o ≡ place_of_bytes (take 16 (drop (16 * (2 + j)) bytes))
    place-at j l o =
        let high : 2 + j < length bytes / 16 = omega (arith, length-drop 2 (places_in bytes), length-places_in bytes) in
        get_or_default _ j o None l ∙ get_or-drop 2 _ j None ∙ slot-places_in bytes _ high

    pub entries-hold : ((k : ℕ) → k < length bytes / 16 → 2 ≤ k
        → IfTaken P (place_of_bytes (take 16 (drop (16 * k) bytes)))) → All P (entries_in bytes)
    entries-hold h = taken_holds (drop 2 (places_in bytes))
        (λ j o l. subst (IfTaken P) (sym (place-at j l o))
        (h (2 + j) (omega (arith, l, length-drop 2 (places_in bytes), length-places_in bytes)) (omega arith)))

    pub entries-holding : All P (entries_in bytes) → (k : ℕ) → 2 ≤ k → k < length bytes / 16
        → IfTaken P (place_of_bytes (take 16 (drop (16 * k) bytes)))
    entries-holding h k low high =
        let within : k - 2 < length (drop 2 (places_in bytes)) =
        omega (arith, length-drop 2 (places_in bytes), length-places_in bytes) in
        let e : 2 + (k - 2) ≡ k = omega arith in
        subst (λ m. IfTaken P (place_of_bytes (take 16 (drop (16 * m) bytes)))) e
        (subst (IfTaken P) (place-at (k - 2) within None)
        (holds_taken (IfTaken P) tt (drop 2 (places_in bytes)) h (k - 2) None within))

-- ---- what holds of each number of the files of an image, type by type, and so the rules of entries and of links

-- a property of numbers and their nodes, by the four types
module _ (image : List ℕ) (b : HasBlocks image) (P : ℕ → Option Node → Type 0)
    (free : (n : ℕ) → (1 ≤ n → n < inodes_in image → kind_in image n ≡ 0) → P n None)
    (directory : (n : ℕ) → 1 ≤ n → n < inodes_in image → kind_in image n ≡ 1
    → P n (Some (Directory (links_in image n) (places_in (contents_in image n)))))
    (file : (n : ℕ) → 1 ≤ n → n < inodes_in image → kind_in image n ≡ 2
    → P n (Some (File (links_in image n) (contents_in image n))))
    (device : (n : ℕ) → 1 ≤ n → n < inodes_in image → kind_in image n ≡ 3
    → P n (Some (Device (links_in image n) (major_in image n) (minor_in image n)))) where
  pub stands_each : (n : ℕ) → P n (slot (files_in image) n)
  stands_each n = elim (cases_lt n (inodes_in image)) [
    | inr past ↦ rw (slot-past image n past) (free n (λ low high. absurd (omega arith)))
    | inl high ↦ elim (cases_eq n 0) [
      | inl z ↦ rw (slot-zero image n z (omega arith)) (free n (λ low _. absurd (omega arith)))
      | inr some ↦
          let low : 1 ≤ n = omega arith in
          let used = λ (u : kind_in image n ≢ 0). slot-files_in image n high ∙ file_in-used image n low u in
          by_kind (kind_in image n) (b.inodes.kinds.known n low high)
          (λ e. rw (slot-free image n high e) (free n (λ _ _. e)))
          (λ e. rw (used (λ z. absurd (omega arith)), node_in-directory image n e) (directory n low high e))
          (λ e. rw (used (λ z. absurd (omega arith)), node_in-file image n e) (file n low high e))
          (λ e. rw (used (λ z. absurd (omega arith)), node_in-device image n e) (device n low high e))
    ]
  ]

-- ---- entries

pub HasEntries-from : (image : List ℕ) → HasBlocks image → NamesDirectories image → AreNamed image → HasFronts image
    → HasEntries (files_in image)
HasEntries-from image b names named fronts =
    let files = files_in image in
    stands_each image b (EntriesAt files) (λ n _. tt) (λ n low high e.
    let good = names n low high e in
    let front = fronts n low high e in
    record {
      own = front.own;
      parent = front.parent;
      names = λ k d l. (good.good k d l).name;
      once = good.once;
      numbers = λ k d l. (good.good k d l).number;
      named = named n low high e;
    }) (λ n low high e. tt) (λ n low high e. tt)

-- ---- links

abbrev pub LinksFit : List ℕ → ℕ → Type 0
LinksFit image n = FitsLinks (kind_in image n) (links_in image n) (names_of (files_in image) n)
    (subdirectories (files_in image) n)

pub HasLinks-from : (image : List ℕ) → HasBlocks image → ((n : ℕ) → 1 ≤ n → n < inodes_in image → LinksFit image n)
    → HasLinks (files_in image)
HasLinks-from image b h =
    stands_each image b (LinksAt (files_in image)) (λ n _. tt) (λ n low high e. (h n low high).directory e)
    (λ n low high e. named n low high (λ z. absurd (omega arith)) (λ z. absurd (omega arith)))
    (λ n low high e. named n low high (λ z. absurd (omega arith)) (λ z. absurd (omega arith)))
  where
    named : (n : ℕ) → 1 ≤ n → n < inodes_in image → kind_in image n ≢ 0 → kind_in image n ≢ 1
        → (links_in image n ≡ names_of (files_in image) n) × (1 ≤ links_in image n) × (links_in image n ≤ most_links)
    named n low high used other = let fits =
        h n low high in (fits.counted used other, fits.least used other, fits.most used other)

leaf_fits : {k l n s : ℕ} → k ≢ 1 → (k ≢ 0 → (l ≡ n) × (1 ≤ l) × (l ≤ most_links)) → FitsLinks k l n s
leaf_fits other at = record {
  directory = λ e. absurd (other e);
  counted = λ used _. (at used).0;
  least = λ used _. (at used).1;
  most = λ used _. (at used).2;
}

pub FitsLinks-at : (image : List ℕ) → HasBlocks image → HasLinks (files_in image) → (n : ℕ) → 1 ≤ n
    → n < inodes_in image → LinksFit image n
FitsLinks-at image b h n =
    stands_each image b (λ m o. LinksAt (files_in image) m o → 1 ≤ m → m < inodes_in image → LinksFit image m)
    (λ m free at low high. leaf_fits (λ d. absurd (omega (arith, free low high)))
    (λ used. absurd (used (free low high))))
    (λ m low high e at _ _. record {
      directory = λ _. at;
      counted = λ used other. absurd (other e);
      least = λ used other. absurd (other e);
      most = λ used other. absurd (other e);
    })
    (λ m low high e at _ _. leaf_fits (λ d. absurd (omega arith)) (λ _. at))
    (λ m low high e at _ _. leaf_fits (λ d. absurd (omega arith)) (λ _. at)) n (h n)

-- ---- numbers in use

pub some_low : (image : List ℕ) (n : ℕ) → 0 < inodes_in image → IsSome (slot (files_in image) n) → 1 ≤ n
some_low image n some h =
    elim (cases_eq n 0) [ inl z ↦ absurd (none_used (slot-zero image n z some) h) | inr other ↦ omega arith ]

pub some_high : (image : List ℕ) (n : ℕ) → IsSome (slot (files_in image) n) → n < inodes_in image
some_high image n h = elim (cases_lt n _) [ inl l ↦ l | inr past ↦ absurd (none_used (slot-past image n past) h) ]

is_node : (a b : Bool) (links : ℕ) (bytes : List ℕ) (major minor : ℕ)
    → is_directory (cond a (Directory links (places_in bytes)) (cond b (File links bytes) (Device links major minor)))
    ≡ a
is_node true b links bytes major minor = refl
is_node false true links bytes major minor = refl
is_node false false links bytes major minor = refl

-- its type is that of a directory where its node is one
pub is_directory-is : (image : List ℕ) (n : ℕ) → 1 ≤ n → n < inodes_in image
    → nat_eq (kind_in image n) 1 ≡ is_directory_at (files_in image) n
unfolding node_in
is_directory-is image n low high = elim (cases_eq _ 0) [
  | inl z ↦ rw (slot-free image n high z, z) refl
  | inr used ↦ rw (slot-files_in image n high, file_in-used image n low used)
      (sym (is_node (kind_in image n == 1) (kind_in image n == 2) (links_in image n) (contents_in image n)
      (major_in image n) (minor_in image n)))
]

-- ---- names that occur once, told apart by their numbers

number-same : (xs ys : List ℕ) → length xs ≡ length ys → ((i : ℕ) → get_or xs i 0 < 256)
    → ((i : ℕ) → get_or ys i 0 < 256) → number xs ≡ number ys → xs ≡ ys
number-same [] [] l f g e = refl
number-same [] (y ∷ ys) l f g e = absurd (omega arith)
number-same (x ∷ xs) [] l f g e = absurd (omega arith)
number-same (x ∷ xs) (y ∷ ys) l f g e =
    let a : x < 256 = f 0 in
    let b : y < 256 = g 0 in
    let here : x ≡ y = omega arith in
    let rest : number xs ≡ number ys = omega arith in
    ap (λ z. z ∷ xs) here ∙ ap (λ r. y ∷ r) (number-same xs ys (omega arith) (λ i. f (suc i)) (λ i. g (suc i)) rest)

-- its name is what comes before the zeros in 14 bytes
pub record IsTrimmed (e : Entry) : Type 0 where
  pub long : length (name_bytes e.name) ≡ 14
  pub fits : (i : ℕ) → get_or (name_bytes e.name) i 0 < 256
  pub back : without_zeros (name_bytes e.name) ≡ e.name

same-name : (e f : Entry) → IsTrimmed e → IsTrimmed f → name_number e ≡ name_number f → e.name ≡ f.name
same-name e f a b h = sym a.back ∙ ap without_zeros (number-same _ _ (a.long ∙ sym b.long) a.fits b.fits h) ∙ b.back

pub name_bytes-spelled : (raw : List ℕ) → length raw ≡ 14 → name_bytes (without_zeros raw) ≡ raw
name_bytes-spelled raw long = ap (λ m. without_zeros raw ++ zeros (m - length (without_zeros raw))) (sym long)
    ∙ without_zeros-spelled raw

module _ (place : List ℕ) (long : length place ≡ 16) where
  rest : length (drop 2 place) ≡ 14
  rest = omega (arith, length-drop 2 place)

  trimmed-place : ((i : ℕ) → get_or place i 0 < 256) → IfTaken IsTrimmed (place_of_bytes place)
  trimmed-place fits = go (list_all (λ b. b == 0) place) where
    e : name_bytes (without_zeros (drop 2 place)) ≡ drop 2 place
    e = name_bytes-spelled _ rest

    go : (t : Bool) → IfTaken IsTrimmed
        (cond t None (Some (record { name = without_zeros (drop 2 place); number = number_at 2 0 place })))
    go true = tt
    go false = record {
      long = ap length e ∙ rest;
      fits = λ i. let f = fits (2 + i) in omega (arith, ap (λ xs. get_or xs i 0) e, get_or-drop 2 place i 0);
      back = ap without_zeros e;
    }

pub all-trimmed : (bytes : List ℕ) → ((i : ℕ) → get_or bytes i 0 < 256) → All IsTrimmed (entries_in bytes)
all-trimmed bytes fits = entries-hold IsTrimmed bytes (λ k high low.
    let place = take 16 (drop (16 * k) bytes) in
    trimmed-place place (length-take-le 16 (drop (16 * k) bytes) (omega (arith, length-drop (16 * k) bytes)))
    (chunk-fits bytes k fits))

-- names differ where their numbers do, and the other way round
pub names-from_numbers : (es : List Entry) → AllPairs (λ a b. a ≢ b) (name_numbers es) → AllPairs AreOther es
names-from_numbers es h i j d l m = λ e.
    h i j 0 l (omega (arith, length-map es name_number))
    (get_or-map _ es i d 0 (omega arith) ∙ ap (λ name. number (name_bytes name)) e ∙ sym (get_or-map _ es j d 0 m))

pub numbers-from_names : (es : List Entry) → All IsTrimmed es → AllPairs AreOther es
    → AllPairs (λ a b. a ≢ b) (name_numbers es)
numbers-from_names es trimmed h i j d l m = λ e.
    let none : Entry = record { name = []; number = 0 } in
    let high : j < length es = omega (arith, length-map es name_number) in
    let low : i < length es = omega arith in
    h i j none l high
    (same-name (get_or es i none) (get_or es j none) (trimmed i none low) (trimmed j none high)
    (sym (get_or-map _ es i none d low) ∙ e ∙ get_or-map _ es j none d high))

-- ---- numbers in order

-- numbers that differ do so in another order
pub distinct-moved : (xs ys : List ℕ) → IsPermutation xs ys → AllPairs (λ a b. a ≢ b) xs → AllPairs (λ a b. a ≢ b) ys
distinct-moved xs ys moved h =
    AllPairs-from_IsDistinct Decides-eqb ys
    (IsDistinct-IsPermutation nat_eq
    (λ x y. same_from_decides _ _ (Decides-eqb x y) (Decides-like _ (λ e. sym e) (λ e. sym e) (Decides-eqb y x)))
    xs ys moved
    (IsDistinct-from_AllPairs Decides-eqb xs h))

-- sorted numbers differ where all neighbours do
pub distinct-sorted : (xs ys : List ℕ) (r : Bool) → IsPermutation xs ys → IsSorted nat_cmp ys
    → IsAllAdjacentAnswer (λ x y b. b ≡ nat_lt x y) ys r
    → IsTrue r ↔ AllPairs (λ a b. a ≢ b) xs
distinct-sorted xs ys true moved sorted h = told (distinct-moved ys xs (IsPermutation-sym xs ys moved) (λ i j d l m e.
    let less = AllPairs-from_increasing ys (λ k n. ltb-true (get_or ys k 0) (get_or ys (k + 1) 0) (sym (h k 0 n))) i j
    d l m in
    absurd (omega arith)))
distinct-sorted xs ys false moved sorted h = never (λ pairs.
    let k = h.0 in
    let most : get_or ys (k + 1) 0 ≤ get_or ys k 0 = ltb-false (get_or ys k 0) (get_or ys (k + 1) 0) (sym (h.2 0)) in
    let least : get_or ys k 0 ≤ get_or ys (k + 1) 0 =
    IsNonDecreasingBy-from_sort (λ x. x) ys sorted k (k + 1) 0 (omega arith) h.1 in
    distinct-moved xs ys moved pairs k (k + 1) 0 (omega arith) h.1 (omega arith))
