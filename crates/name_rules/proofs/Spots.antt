-- Where the last name of a path goes, and whether it is free there.
use Rattle.name_rules.proofs.Common.{◌≡◌, ◌≢◌, ℕ, suc, Bool, true, cond, List, [], ◌∷◌, None, Option, Some, length}
use Rattle.name_rules.proofs.Common.{get_or, ap, sym, refl, ◌∙◌, arith, subst, nat_lt, ltb-true, cond_some, none-some}
use Rattle.name_rules.proofs.Common.{option_and_then_some, same_Some, Entry, Files, Node, Spot, lookup, slot, Directory}
use Rattle.name_rules.proofs.Common.{zero, not, take, All, cond_both, is_some, ◌==◌, list_all, and_parts, ne_eqb}
use Rattle.name_rules.proofs.Common.{length-take, All-head, All-tail, find, parts, spot_of, KeepsLive, KeepsTree}
use Rattle.name_rules.proofs.Finding.{IsGap, absent-plain}
use Rattle.std.proofs.lemmas.Bool.{and_from, le-leb}
use Rattle.std.proofs.lemmas.List.Elements.{All-cons, All-filter, All-map, All-nil, filter_passes}
use Rattle.std.specs.Prelude.{◌&&◌, filter, IfSome, nat_le, option_and_then}
use Rattle.unixmodel.specs.Files.{follow, live_places, live_spot, onto_first, pieces, split_last, start_of, with_last}

-- ---- where the last name of a path goes

-- ---- the parts of a path without a 0: 1 to 14 bytes, without a slash

abbrev pub is_plain : ℕ → Bool
is_plain b = not (b == 0) && not (b == 0x2f)

abbrev pub is_part : List ℕ → Bool
is_part name = nat_le 1 (length name) && nat_le (length name) 14 && list_all is_plain name

abbrev AllPlain : List ℕ → Type 0
AllPlain w = list_all is_plain w ≡ true

abbrev ArePlain : List (List ℕ) → Type 0
ArePlain ws = All AllPlain ws

plain-onto : (b : ℕ) (ws : List (List ℕ)) → is_plain b ≡ true → ArePlain ws → ArePlain (onto_first b ws)
plain-onto b [] h k = All-cons AllPlain _ [] (and_from _ true h refl) (All-nil AllPlain)
plain-onto b (w ∷ ws) h k =
    All-cons AllPlain _ ws (and_from _ _ h (All-head AllPlain w ws k)) (All-tail AllPlain w ws k)

plain-pieces : (path : List ℕ) → All (λ b. b ≢ 0) path → ArePlain (pieces path)
plain-pieces [] h = All-cons AllPlain [] [] refl (All-nil AllPlain)
plain-pieces (b ∷ bs) h =
    let rest = plain-pieces bs (All-tail (λ b. b ≢ 0) b bs h) in
    cond_both _ _ _ ArePlain (λ e. All-cons AllPlain [] _ refl rest)
    (λ e. plain-onto b _ (and_from _ _ (ap not (ne_eqb b 0 (All-head (λ b. b ≢ 0) b bs h))) (ap not e)) rest)

plain-take : (n : ℕ) (w : List ℕ) → AllPlain w → AllPlain (take n w)
plain-take zero w h = refl
plain-take (suc n) [] h = refl
plain-take (suc n) (b ∷ bs) h =
    let both = and_parts _ _ h in
    and_from _ _ both.0 (plain-take n bs both.1)

part-from : (w : List ℕ) → AllPlain w → nat_lt 0 (length w) ≡ true → is_part (take 14 w) ≡ true
part-from w plain some =
    let l = ltb-true 0 _ some in
    let long = length-take 14 w in
    and_from _ _
    (and_from (nat_le 1 (length (take 14 w))) (nat_le (length (take 14 w)) 14)
    (le-leb 1 (length (take 14 w)) (omega arith)) (le-leb (length (take 14 w)) 14 (omega arith)))
    (plain-take 14 w plain)

each-part : (path : List ℕ) → All (λ b. b ≢ 0) path → All (λ w. is_part w ≡ true) (parts path)
unfolding parts
each-part path h =
    let some = λ (w : List ℕ). nat_lt 0 _ in
    All-map (λ w. is_part w ≡ true) _ _ (λ k d l.
    part-from (get_or (filter some (pieces path)) k d) (All-filter some AllPlain _ (plain-pieces path h) k d l)
    (filter_passes some (pieces path) k d l))

-- ---- the last of them

last-holds : (P : List ℕ → Type 0) (ws : List (List ℕ)) → All P ws → IfSome (split_last ws) (λ split. P split.1)
last-holds P [] h = tt
last-holds P (w ∷ ws) h = go _ (last-holds P ws (All-tail P w ws h)) where
  go : (o : Option (List (List ℕ) × List ℕ)) → IfSome o (λ split. P split.1) → P (with_last w o).1
  go None k = All-head P w ws h
  go (Some split) k = k

follow-last : (files : Files) (w : List ℕ) (ws : List (List ℕ)) (d : ℕ)
    → follow files d (w ∷ ws)
    ≡ option_and_then (λ k. lookup files k (with_last w (split_last ws)).1)
    (follow files d (with_last w (split_last ws)).0)
follow-last files w [] d = itself _ where
  itself : (o : Option ℕ) → option_and_then (λ next. Some next) o ≡ o
  itself None = refl
  itself (Some n) = refl
follow-last files w (x ∷ xs) d = (λ j. option_and_then (λ n. follow-last files x xs n j) (lookup files d w))
    ∙ chain (lookup files d w) where
      chain : (o : Option ℕ) → (let s = with_last x (split_last xs)
          in option_and_then (λ n. option_and_then (λ k. lookup files k s.1) (follow files n s.0)) o
          ≡ option_and_then (λ k. lookup files k s.1) (option_and_then (λ n. follow files n s.0) o))
      chain None = refl
      chain (Some n) = refl

split-follow : (files : Files) (ws : List (List ℕ)) (split : List (List ℕ) × List ℕ) → split_last ws ≡ Some split
    → (d : ℕ) → follow files d ws ≡ option_and_then (λ k. lookup files k split.1) (follow files d split.0)
split-follow files [] split h d = absurd (none-some split h)
split-follow files (w ∷ ws) split h d =
    follow-last files w ws d
    ∙ ap (λ (s : List (List ℕ) × List ℕ). option_and_then (λ k. lookup files k s.1) (follow files d s.0))
    (same_Some _ split h)

-- ---- a spot

-- d is a directory with links, and the name a part of a path
pub record IsSpot (files : Files) (at : Spot) : Type 0 where
  pub links : ℕ
  pub places : List (Option Entry)
  pub here : slot files at.directory ≡ Some (Directory (suc links) places)
  pub name : is_part at.name ≡ true

pub spot-parts : (files : Files) (d : ℕ) (path : List ℕ) (at : Spot) → All (λ b. b ≢ 0) path
    → spot_of files d path ≡ Some at → IsSpot files at
unfolding spot_of
spot-parts files d path at plain h =
    option_and_then_some (λ (split : List (List ℕ) × List ℕ). option_and_then (live_spot files split.1)
    (follow files (start_of d path) split.0)) _ at h (λ split e rest.
    option_and_then_some _ _
    at rest (λ k _ last. at_node split.1 (rw e at (last-holds (λ w. is_part w ≡ true) _ (each-part path plain))) k
    _ refl last))
  where
    at_node : (name : List ℕ) → is_part name ≡ true → (k : ℕ) (o : Option Node) → slot files k ≡ o
        → cond (is_some (live_places o)) (Some (record { directory = k; name = name })) None ≡ Some at → IsSpot files at
    at_node name good k (Some (Directory (suc links) places)) here h =
        subst (IsSpot files) (same_Some (let s : Spot = record { directory = k; name = name } in s) at h)
        (record { links = links; places = places; here = here; name = good })
    at_node name good k _ here h = absurd (none-some at h)

-- a path that finds nothing has a free name
pub spot-absent : (files : Files) (d : ℕ) (path : List ℕ) (at : Spot)
    → spot_of files d path ≡ Some at → find files d path ≡ None → lookup files at.directory at.name ≡ None
unfolding spot_of find
spot-absent files d path at h none =
    option_and_then_some (λ (split : List (List ℕ) × List ℕ). option_and_then (live_spot files split.1)
    (follow files (start_of d path) split.0)) _ at h (λ split e rest.
    option_and_then_some _ _ at rest (λ k f last.
    let s : Spot = record { directory = k; name = split.1 } in
    ap (λ (x : Spot). lookup files x.directory x.name) (sym (cond_some _ s at last).1)
    ∙ sym (ap (option_and_then (λ j. lookup files j split.1)) f) ∙ sym (split-follow files _ split e _) ∙ none))

-- ---- a free name

pub gap-from : {files : Files} → KeepsTree files → (at : Spot)
    → IsSpot files at → lookup files at.directory at.name ≡ None → IsGap files at
gap-from {files} keeps at spot absent = record {
  links = spot.links;
  places = spot.places;
  here = spot.here;
  name = and_from _ _ spot.name
      (ap not (absent-plain files at.directory spot.links spot.places at.name spot.here
      (subst (KeepsLive files at.directory) spot.here (keeps.nodes at.directory)) absent));
  absent = absent;
}
