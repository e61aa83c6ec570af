-- The entries of all directories, one directory after the other, and how tables of them describe the files.
use Rattle.imagecheck.proofs.Common.{◌≡◌, ◌≢◌, ℕ, ◌+◌, ◌<◌, ◌≤◌, Bool, List, [], ◌∷◌, ◌++◌, Some, length, get_or, map}
use Rattle.imagecheck.proofs.Common.{ap, sym, refl, ◌∙◌, arith, cond, inl, inr, true, false, zero, suc, All, count_by}
use Rattle.imagecheck.proofs.Common.{filter, flat_map, option_map, slice_get, unwrap_or, ◌&&◌, ◌==◌, range_with_len}
use Rattle.imagecheck.proofs.Common.{cases_eq, map-append, All-map, All-nil, sum_by-append, sum_by-cons, Geometry, slot}
use Rattle.imagecheck.proofs.Common.{all_entries, entries_of, inodes_in, is_directory_at, kind_in, names_number}
use Rattle.imagecheck.proofs.Common.{names_of, parent_of, subdirectories, BlockRules, HasBlocks-of, CountsNames}
use Rattle.imagecheck.proofs.Common.{CountsSubdirectories, namings_of, files_in, Naming, range-split, length-files_in}
use Rattle.imagecheck.proofs.Common.{slot-zero, Entry, None, Option, set, take, IfSome, cond_both, get_or-set_other}
use Rattle.imagecheck.proofs.Common.{get_or-set_same, take_more, All-head, All-tail, HasFirsts, at_or}
use Rattle.std.proofs.lemmas.List.Concat.{flat_map-append}
use Rattle.std.specs.List.{find, sum_by}
use Rattle.std.proofs.lemmas.Bool.{eq-eqb, ne_eqb}
use Rattle.std.proofs.lemmas.List.{append-nil, length-set}
use Rattle.std.proofs.lemmas.List.FromFn.{fill_by_all}
use Rattle.std.proofs.lemmas.Simd.{map-map}
use Rattle.imagecheck.proofs.Reaching.{all-entries}
use Rattle.imagecheck.proofs.Entering.{some_high, stands_each}
use Rattle.std.proofs.Common.{find, add-zero}
use Rattle.std.specs.Option.{option_or}
use Rattle.std.proofs.lemmas.List.Folds.{find-append}
use Rattle.imagecheck.specs.Namings.{directory_or_zero, first_directory, HasParents, HasParentsAmong, IsListed}
use Rattle.imagecheck.specs.Namings.{IsNaming, naming, namings_in, TellsNames, TellsSubdirectories}

-- ---- sums

pub sum_by-map : {A B : Type 0} (f : B → ℕ) (g : A → B) (xs : List A) → sum_by f (map g xs) ≡ sum_by (λ x. f (g x)) xs
sum_by-map f g [] = refl
sum_by-map f g (x ∷ xs) = sum_by-cons f _ (map g xs) ∙ ap (λ s. f (g x) + s) (sum_by-map f g xs)
    ∙ sym (sum_by-cons (λ x. f (g x)) x xs)

-- slot by slot
pub sum_by-places : {A : Type 0} (f : A → ℕ) (d : A) (xs : List A)
    → sum_by f xs ≡ sum_by (λ k. f (get_or xs k d)) (range_with_len 0 (length xs))
sum_by-places f d xs = ap (sum_by f) (fill_by_all (λ k. get_or xs k d) xs _ d refl (λ k l. refl))
    ∙ sum_by-map f (λ k. get_or xs k d) (range_with_len 0 (length xs))

sum_by-flat_map : {A B : Type 0} (f : B → ℕ) (g : A → List B) (h : A → ℕ) → ((x : A) → sum_by f (g x) ≡ h x)
    → (xs : List A) → sum_by f (flat_map g xs) ≡ sum_by h xs
sum_by-flat_map f g h e [] = refl
sum_by-flat_map f g h e (x ∷ xs) =
    rw (sum_by-append f _ (flat_map g xs), e x, sum_by-flat_map f g h e xs) (sym (sum_by-cons h x xs))

-- over a range, of what is 0 except at d
sum-at : (h : ℕ → ℕ) (d : ℕ) → ((k : ℕ) → k ≢ d → h k ≡ 0) → (a n : ℕ)
    → (d < a → sum_by h (range_with_len a n) ≡ 0) × (a ≤ d → d < a + n → sum_by h (range_with_len a n) ≡ h d)
sum-at h d z a zero = (λ past. refl, λ low high. absurd (omega arith))
sum-at h d z a (suc n) =
    let rest = sum-at h d z (a + 1) n in
    let first = sum_by-cons h a (range_with_len (a + 1) n) in
    elim (cases_eq a d) [
      | inl here ↦ (λ past. absurd (omega arith), λ low high. omega (arith, first, ap h here, rest.0 (omega arith)))
      | inr other ↦ (
        λ past. omega (arith, first, z a other, rest.0 (omega arith)),
        λ low high. omega (arith, first, z a other, rest.1 (omega arith) (omega arith)),
      )
    ]

-- ---- directory by directory

-- those of the directories before n
abbrev pub namings_to : List ℕ → ℕ → List Naming
namings_to image n = map naming
    (flat_map (λ d. map (λ (e : Entry). (d, e)) (entries_of (slot (files_in image) d))) (range_with_len 0 n))

pub namings_to-all : (image : List ℕ) → namings_to image (inodes_in image) ≡ namings_in image
unfolding all_entries
namings_to-all image = ap (namings_to image) (sym (length-files_in image))

pub namings_to-more : (image : List ℕ) (n : ℕ)
    → namings_to image (n + 1) ≡ namings_to image n ++ namings_of n (entries_of (slot (files_in image) n))
namings_to-more image n =
    let f : 0 + n ≡ n = omega arith in
    rw (range-split 0 n 1, flat_map-append, map-append, append-nil, map-map, f) refl

pub namings_to-first : (image : List ℕ) → 0 < inodes_in image → namings_to image 1 ≡ []
namings_to-first image h = rw (slot-zero image 0 refl h) refl

-- an inode of another type has no entries
pub entries-other : (image : List ℕ) → BlockRules image → (n : ℕ) → kind_in image n ≢ 1
    → entries_of (slot (files_in image) n) ≡ []
entries-other image rules =
    stands_each image (HasBlocks-of image rules) (λ m o. kind_in image m ≢ 1 → entries_of o ≡ []) (λ m _ k. refl)
    (λ m low high e k. absurd (k e)) (λ m low high e k. refl) (λ m low high e k. refl)

-- ---- each is one of a directory and of a number in use

module _ {image : List ℕ} {g : Geometry} {namings : List Naming} (h : IsListed image g namings) where
  pub namings-fitting : All (IsNaming image) namings
  namings-fitting =
      let fits = λ (x : ℕ × Entry). IsNaming image (naming x) in
      let none = λ (n : ℕ). All-nil (λ (e : Entry). fits (n, e)) in
      rw h.all (All-map (IsNaming image) naming (all_entries (files_in image)) (all-entries (files_in image) fits
      (stands_each image (HasBlocks-of image h.blocks) (λ n o. All (λ e. fits (n, e)) (entries_of o)) (λ n _. none n)
      (λ n low high e k d l. record { low = low; high = high; number = ((h.names n low high e).good k d l).number })
      (λ n low high e. none n) (λ n low high e. none n))))

  -- each number has a row in a table that is as long as there are inodes
  pub numbers-within : (long : ℕ) → long ≡ g.inodes → All (λ (m : Naming). m.number < long) namings
  numbers-within long e k d l = let high =
      some_high image (get_or namings k d).number (namings-fitting k d l).number in omega (arith, h.geometry.inodes)

  -- ---- what holds of tables

  -- the number of slots that name a number
  pub TellsNames-from : (counts : List ℕ) → CountsNames namings counts → TellsNames image counts
  unfolding names_of
  TellsNames-from counts told n l = told n l
      ∙ rw h.all (sum_by-map (λ (m : Naming). cond (m.number == n) 1 0) naming (all_entries (files_in image)))

  -- the directory that names it
  first_filter : (n : ℕ) (xs : List (ℕ × Entry))
      → first_directory (map naming xs) n
      ≡ unwrap_or (option_map (λ (e : ℕ × Entry). e.0) (slice_get (filter (names_number n) xs) 0)) 0
  first_filter n [] = refl
  first_filter n (x ∷ xs) = go (names_number n x) (first_filter n xs) where
    go : (b : Bool) → first_directory (map naming xs) n
        ≡ unwrap_or (option_map (λ (e : ℕ × Entry). e.0) (slice_get (filter (names_number n) xs) 0)) 0
        → directory_or_zero (cond b (Some (naming x)) (find (λ (m : Naming). m.number == n) (map naming xs)))
        ≡ unwrap_or (option_map (λ (e : ℕ × Entry). e.0)
        (slice_get (cond b (x ∷ filter (names_number n) xs) (filter (names_number n) xs)) 0)) 0
    go true e = refl
    go false e = e

  pub HasParents-from : (parents : List ℕ) → HasParentsAmong namings parents → HasParents image parents
  unfolding parent_of
  HasParents-from parents told n l = told n l
      ∙ rw h.all (ap (λ x. cond (n == 1) 1 x) (first_filter n (all_entries (files_in image))))

  -- how many directories it has
  count-and : {X : Type 0} (t : Bool) (q : X → Bool) (xs : List X)
      → count_by (λ x. t && q x) xs ≡ cond t (count_by q xs) 0
  count-and true q xs = refl
  count-and false q [] = refl
  count-and false q (x ∷ xs) = sum_by-cons (λ y. cond (false && q y) 1 0) x xs ∙ ap (λ s. 0 + s) (count-and false q xs)

  pub TellsSubdirectories-from : (counts : List ℕ) → length counts ≡ g.inodes
      → CountsSubdirectories image namings counts → TellsSubdirectories image counts
  unfolding subdirectories all_entries
  TellsSubdirectories-from counts long told d l =
      let files = files_in image in
      let is_folder = λ (e : Entry). is_directory_at files e.number in
      let held = λ (k : ℕ). cond {A = ℕ} (k == d) (count_by is_folder (entries_of (slot files k))) 0 in
      let counts_for = λ (x : ℕ × Entry). cond {A = ℕ} ((x.0 == d) && is_folder x.1) 1 0 in
      let at_most : d < 0 + length files = omega (arith, length-files_in image, h.geometry.inodes) in
      told d l ∙ rw h.all (sum_by-map (λ (m : Naming). cond ((m.directory == d) && is_directory_at files m.number) 1 0)
      naming (all_entries files)
      ∙ sum_by-flat_map counts_for (λ k. map (λ (e : Entry). (k, e)) (entries_of (slot files k))) held
      (λ k. sum_by-map counts_for (λ (e : Entry). (k, e)) (entries_of (slot files k))
      ∙ count-and (k == d) is_folder (entries_of (slot files k))) (range_with_len 0 (length files))
      ∙ (sum-at held d (λ k other. ap (λ b. cond b (count_by is_folder (entries_of (slot files k))) 0)
      (ne_eqb k d other)) 0 (length files)).1 (omega arith) at_most
      ∙ ap (λ b. cond b (count_by is_folder (entries_of (slot files d))) 0) (eq-eqb d d refl))

-- ---- tables of items, one item more at a time

pub counted_more : (counts : List ℕ) (at k : ℕ) → at < length counts
    → get_or (set counts at (get_or counts at 0 + 1)) k 0 ≡ get_or counts k 0 + cond (at == k) 1 0
counted_more counts at k high =
    at_or (λ j. get_or (set counts at (get_or counts at 0 + 1)) j 0 ≡ get_or counts j 0 + cond (at == j) 1 0)
    at k (rw (get_or-set_same counts at (get_or counts at 0 + 1) 0 high, eq-eqb at at refl) refl)
    (λ other. rw (get_or-set_other counts at k _ 0 other, ne_eqb at k (λ e. other (sym e)), add-zero) refl)

pub counts_both : (a b : Bool) → b ≡ true → cond {A = ℕ} (a && b) 1 0 ≡ cond a 1 0
counts_both true b e = ap (λ t. cond {A = ℕ} t 1 0) e
counts_both false b e = refl

-- ---- the first directory that names a number

abbrev HasDirectory : Naming → Type 0
HasDirectory m = 1 ≤ m.directory

first_among : (p : Naming → Bool) (xs : List Naming) → All HasDirectory xs → IfSome (find p xs) HasDirectory
first_among p [] h = tt
first_among p (x ∷ xs) h =
    cond_both (p x) (Some x) _ (λ o. IfSome o HasDirectory) (λ _. All-head HasDirectory x xs h)
    (λ _. first_among p xs (All-tail HasDirectory x xs h))

-- after those that were found before
first_or : (o : Option Naming) → IfSome o HasDirectory → (m : Naming)
    → (directory_or_zero o ≡ 0 → directory_or_zero (option_or o (Some m)) ≡ m.directory)
    × (directory_or_zero o ≢ 0 → directory_or_zero (option_or o (Some m)) ≡ directory_or_zero o)
first_or None some m = (λ z. refl, λ other. absurd (other refl))
first_or (Some n) some m = (λ z. absurd (omega arith), λ other. refl)

option_or-none : {X : Type 0} (o : Option X) → option_or o None ≡ o
option_or-none None = refl
option_or-none (Some x) = refl

module _ (namings : List Naming) (i : ℕ) (x : Naming) (within : i < length namings) (parents : List ℕ)
    (h : HasFirsts (take i namings) parents) (high : (get_or namings i x).number < length parents)
    (some : All HasDirectory (take i namings)) where
  abbrev m : Naming
  m = get_or namings i x

  -- the first that names m's number
  abbrev first : Option Naming
  first = find (λ (y : Naming). y.number == m.number) (take i namings)

  found_more : (k : ℕ) → first_directory (take (i + 1) namings) k
      ≡ directory_or_zero (option_or (find (λ (y : Naming). y.number == k) (take i namings))
      (cond (m.number == k) (Some m) None))
  found_more k = rw (take_more namings i x within, find-append) refl

  -- a table that differs at m's number alone
  firsts : (new : List ℕ) → length new ≡ length parents → ((k : ℕ) → k ≢ m.number → get_or new k 0 ≡ get_or parents k 0)
      → get_or new m.number 0 ≡ directory_or_zero (option_or first (Some m)) → HasFirsts (take (i + 1) namings) new
  firsts new long away here n l =
      at_or (λ k. get_or new k 0 ≡ first_directory (take (i + 1) namings) k) m.number n
      (rw (found_more m.number, eq-eqb m.number m.number refl) here)
      (λ other. rw (found_more n, ne_eqb m.number n (λ e. other (sym e)), option_or-none)
      (away n other ∙ h n (omega arith)))

  -- its number has no directory yet, or has one
  pub firsts_more : get_or parents m.number 0 ≡ 0 → HasFirsts (take (i + 1) namings) (set parents m.number m.directory)
  firsts_more z =
      let told = first_or first (first_among (λ (y : Naming). y.number == m.number) (take i namings) some) m in
      firsts _ (length-set parents _ _) (λ k other. get_or-set_other parents _ k _ 0 other)
      (get_or-set_same parents m.number m.directory 0 high ∙ sym (told.0 (sym (h m.number high) ∙ z)))

  pub firsts_kept : get_or parents m.number 0 ≢ 0 → HasFirsts (take (i + 1) namings) parents
  firsts_kept other =
      let told = first_or first (first_among (λ (y : Naming). y.number == m.number) (take i namings) some) m in
      firsts parents refl (λ k _. refl) (h _ high ∙ sym (told.1 (λ z. other (h _ high ∙ z))))
