-- The pieces of a path, one after the other, and what they reach in the list of what is made.
use Rattle.imagemake.proofs.Common.{◌≡◌, ℕ, ◌+◌, ◌-◌, ◌<◌, ◌≤◌, Bool, List, [], ◌∷◌, None, Option, Some, length, take}
use Rattle.imagemake.proofs.Common.{drop, ap, sym, refl, ◌∙◌, arith, cond, true, false, add-one, nat_lt}
use Rattle.imagemake.proofs.Common.{option_and_then, option_map, position, slice_get, unwrap_or, ◌&&◌, ◌==◌, list_all}
use Rattle.imagemake.proofs.Common.{cond-false, cond-true, le-ltb, lt-ltb, take_rest, position-Some, onto_first, pieces}
use Rattle.imagemake.proofs.Common.{split_last, with_last, is_name, MadeName, found, is_folder, reach, seek}
use Rattle.imagemake.proofs.Common.{position-None, not, ◌++◌, map, ap₂, bytes_eq, nat_eq, Bor, position_or_len}
use Rattle.imagemake.proofs.Common.{none-some, slice_get-map, made_name, name_of, stands_at}
use Rattle.std.proofs.Math.Bool.{and-true}
use Rattle.tree.proofs.Naming.{pieces-split, pieces-whole}
use Rattle.std.specs.Cmp.{nat_eq_equiv}
use Rattle.std.specs.Cmp.Lexicographic.{nat_list_eq_equiv}
use Rattle.std.specs.Map.{keys_of}
use Rattle.indexmap.specs.IndexMap.{insert_entry}
use Rattle.indexmap.proofs.MapLemmas.{Missing-position, insert_entry-absent}
use Rattle.std.proofs.lemmas.List.{drop-drop, length-drop, length-map, map-append}

-- up to the first slash
pub pieces_first : (bs : List ℕ) (i : ℕ) → position (λ b. b == 0x2f) bs ≡ Some i
    → pieces bs ≡ take i bs ∷ pieces (drop (i + 1) bs)
pieces_first bs i at =
    let s = position-Some (λ b. b == 0x2f) bs i 0 at in
    pieces-split bs i s.0 s.1 s.2 ∙ ap (λ n. take i bs ∷ pieces (drop n bs)) (sym (add-one i))

pub pieces_last : (bs : List ℕ) → position (λ b. b == 0x2f) bs ≡ None → pieces bs ≡ bs ∷ []
pieces_last bs none = pieces-whole bs (position-None (λ b. b == 0x2f) bs 0 none)

-- where the first slash from an offset on is, as a range of a slice has it
pub first-in : (path : List ℕ) (at : ℕ) (o : Option ℕ)
    → o ≡ position (λ b. b == 0x2f) (take (length path - at) (drop at path))
    → position (λ b. b == 0x2f) (drop at path) ≡ o
first-in path at o e = ap (position (λ b. b == 0x2f)) (sym (take_rest path at)) ∙ sym e

-- the next name ends at a slash, as the code finds it
module _ (path : List ℕ) (at i : ℕ)
    (told : Some i ≡ position (λ b. b == 0x2f) (take (length path - at) (drop at path))) where
  slash : position (λ b. b == 0x2f) (drop at path) ≡ Some i
  slash = first-in path at (Some i) told

  pub within_next : at + (i + 1) ≤ length path
  within_next = let s = (position-Some (λ b. b == 0x2f) (drop at path) i 0 slash).0
      in omega (arith, length-drop at path)

  pub all_next : (good : Bool) → is_name (take (at + i - at) (drop at path)) ≡ good
      → list_all is_name (pieces (drop at path)) ≡ (good && list_all is_name (pieces (drop (at + (i + 1)) path)))
  all_next good is =
      let e : at + i - at ≡ i = omega arith in
      ap (list_all is_name) (pieces_first (drop at path) i slash
      ∙ ap (λ bs. take i (drop at path) ∷ pieces bs) (drop-drop (i + 1) at path))
      ∙ ap (λ b. b && list_all is_name (pieces (drop (at + (i + 1)) path)))
      (ap (λ n. is_name (take n (drop at path))) (sym e) ∙ is)

pub good_last : (bs : List ℕ) → position (λ b. b == 0x2f) bs ≡ None → list_all is_name (pieces bs) ≡ is_name bs
good_last bs none = ap (list_all is_name) (pieces_last bs none) ∙ and-true (is_name bs)

-- ---- what all but the last name reach

pub reach_some : (made : List MadeName) (d : ℕ) (ws : List (List ℕ)) (s : List (List ℕ) × List ℕ)
    → split_last ws ≡ Some s → reach made d ws ≡ Some (seek made d s.0, s.1)
unfolding reach
reach_some made d ws s e = ap (option_map (λ (split : List (List ℕ) × List ℕ). (seek made d split.0, split.1))) e

pub split-pieces : (bs : List ℕ) → (s : List (List ℕ) × List ℕ) × (split_last (pieces bs) ≡ Some s)
split-pieces [] = (([], []), refl)
split-pieces (b ∷ bs) = go _ _ (split-pieces bs) where
  onto : (b : ℕ) (ws : List (List ℕ)) → (s : List (List ℕ) × List ℕ) × (split_last (onto_first b ws) ≡ Some s)
  onto b [] = (([], b ∷ []), refl)
  onto b (w ∷ ws) = (with_last _ _, refl)

  go : (t : Bool) (ws : List (List ℕ)) → (s : List (List ℕ) × List ℕ) × (split_last ws ≡ Some s)
      → (s : List (List ℕ) × List ℕ) × (split_last (cond t ([] ∷ ws) (onto_first b ws)) ≡ Some s)
  go true ws h = (with_last [] _, refl)
  go false ws h = onto b ws

module _ (made : List MadeName) (d : ℕ) (w bs : List ℕ) where
  reach_onto : reach made d (w ∷ pieces bs)
      ≡ (let s = split-pieces bs in Some (option_and_then (λ next. seek made next s.0.0) (found made d w), s.0.1))
  unfolding reach
  reach_onto = ap (λ o. option_map (λ (split : List (List ℕ) × List ℕ). (seek made d split.0, split.1))
      (Some (with_last w o))) (split-pieces bs).1

  pub reach_found : (next : ℕ) → found made d w ≡ Some next → reach made d (w ∷ pieces bs) ≡ reach made next (pieces bs)
  reach_found next e = reach_onto ∙ rw e (let s = split-pieces bs in sym (reach_some made next (pieces bs) s.0 s.1))

  pub reach_none : found made d w ≡ None → (last : List ℕ) × (reach made d (w ∷ pieces bs) ≡ Some (None, last))
  reach_none e = ((split-pieces bs).0.1, reach_onto ∙ rw e refl)

pub reach_last : (made : List MadeName) (d : ℕ) (bs : List ℕ) → position (λ b. b == 0x2f) bs ≡ None
    → reach made d (pieces bs) ≡ Some (Some d, bs)
unfolding reach
reach_last made d bs none = ap (reach made d) (pieces_last bs none)

-- ---- directories

pub is_folder-low : (made : List MadeName) (n : ℕ) → n < 2 → is_folder made n ≡ (n == 1)
unfolding is_folder
is_folder-low made n h = cond-true _ _ _ (lt-ltb n 2 h)

pub is_folder-high : (made : List MadeName) (n : ℕ) → 2 ≤ n
    → is_folder made n ≡ unwrap_or (option_map (λ (m : MadeName). m.folder) (slice_get made (n - 2))) false
unfolding is_folder
is_folder-high made n h = cond-false _ _ _ (le-ltb n 2 h)

-- ---- names that are made, as the entries of a map

-- the test of a map's keys
abbrev pub is_key : ℕ × Bor (List ℕ) → ℕ × Bor (List ℕ) → Bool
is_key k l = nat_eq k.0 l.0 && bytes_eq k.1.now l.1.now

module _ (k : ℕ × Bor (List ℕ)) where
  same-place : (es : List ((ℕ × Bor (List ℕ)) × Bool))
      → position_or_len (is_key k) (keys_of es) ≡ position_or_len (stands_at k.0 k.1.now) (map name_of es)
  same-place [] = refl
  same-place (e ∷ es) = λ i. cond (not (nat_eq_equiv.symm k.0 e.0.0 i && nat_list_eq_equiv.symm k.1.now e.0.1.now i))
      (1 + same-place es i) 0

  pub position-names : (es : List ((ℕ × Bor (List ℕ)) × Bool))
      → position (is_key k) (keys_of es) ≡ position (stands_at k.0 k.1.now) (map name_of es)
  position-names es = ap₂ (λ n l. cond (nat_lt n l) (Some n) None) (same-place es)
      (length-map es (λ e. e.0) ∙ sym (length-map es name_of))

  pub found-index : (es : List ((ℕ × Bor (List ℕ)) × Bool)) (o : Option ℕ) → o ≡ position (is_key k) (keys_of es)
      → option_map (λ i. i + 2) o ≡ found (map name_of es) k.0 k.1.now
  unfolding found
  found-index es o e = ap (option_map (λ i. i + 2)) (e ∙ position-names es)

  no_index : (es : List ((ℕ × Bor (List ℕ)) × Bool)) (o : Option ℕ) → o ≡ position (is_key k) (keys_of es)
      → option_map (λ i. i + 2) o ≡ None → position (is_key k) (keys_of es) ≡ None
  no_index es None e none = sym e
  no_index es (Some i) e none = absurd (none-some _ (sym none))

  -- a new name goes last
  pub names-insert : (es : List ((ℕ × Bor (List ℕ)) × Bool)) (folder : Bool) → found (map name_of es) k.0 k.1.now ≡ None
      → map name_of (insert_entry is_key es k folder) ≡ map name_of es ++ made_name k.0 k.1.now folder ∷ []
  names-insert es folder absent =
      let o = position (is_key k) (keys_of es) in
      let missing = Missing-position _ es (no_index es o refl (found-index es o refl ∙ absent)) in
      ap (map name_of) (insert_entry-absent is_key k folder es missing.absent)
      ∙ map-append name_of es ((k, folder) ∷ [])

-- ---- directories

folder-name : (o : Option ((ℕ × Bor (List ℕ)) × Bool))
    → unwrap_or (option_map (λ (m : MadeName). m.folder) (option_map name_of o)) false
    ≡ unwrap_or (option_map (λ e. e.1) o) false
folder-name None = refl
folder-name (Some e) = refl

pub folder-entry : (es : List ((ℕ × Bor (List ℕ)) × Bool)) (n : ℕ) → 2 ≤ n → (o : Option ((ℕ × Bor (List ℕ)) × Bool))
    → o ≡ slice_get es (n - 2) → unwrap_or (option_map (λ e. e.1) o) false ≡ is_folder (map name_of es) n
folder-entry es n high o e =
    ap (λ o. unwrap_or (option_map (λ e. e.1) o) false) e ∙ sym (folder-name (slice_get es (n - 2)))
    ∙ ap (λ o. unwrap_or (option_map (λ (m : MadeName). m.folder) o) false) (sym (slice_get-map name_of es _))
    ∙ sym (is_folder-high _ n high)
