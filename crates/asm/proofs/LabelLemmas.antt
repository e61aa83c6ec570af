-- Lines that are looked up by their labels.
use Rattle.asm.proofs.Common.{◌≡◌, ◌∙◌, ◌+◌, ◌∷◌, ◌<◌, ◌≤◌, Bool, List, None, Option, Some, [], ap, bytes_eq, cond}
use Rattle.asm.proofs.Common.{add-one, drop, false, find, get_or, if◌then◌else◌, length, map, option_map, refl}
use Rattle.asm.proofs.Common.{slice_get, sym, true, zero, suc, ℕ, HoldsAt, position_from, option_and_then, option_or}
use Rattle.asm.proofs.Common.{IfSome, MatchOption, is_some, HashMap, UpdatesBy, get_by, definition, Finds, named}
use Rattle.std.specs.Borrow.{Bor}
use Rattle.std.proofs.lemmas.Map.Text.{hash_map_updates_str}
use Rattle.std.proofs.lemmas.Option.{slice_get-map, slice_get_past, slice_get_read}
use Rattle.std.proofs.lemmas.Slice.Eq.{bytes_eq-Decides}
use Rattle.unixmodel.specs.Assembly.{Placed as ThePlaced}

module _ {X : Type 0} where
  item_at : (i : ℕ) (all : List X) (x : X) (xs : List X) → drop i all ≡ x ∷ xs → slice_get all i ≡ Some x
  item_at zero all x xs e = ap (λ l. slice_get l 0) e
  item_at (suc i) [] x xs e = absurd cc
  item_at (suc i) (y ∷ ys) x xs e = item_at i ys x xs e

  items_behind : (i : ℕ) (all : List X) (x : X) (xs : List X) → drop i all ≡ x ∷ xs → drop (suc i) all ≡ xs
  items_behind zero all x xs e = ap (drop 1) e
  items_behind (suc i) [] x xs e = absurd cc
  items_behind (suc i) (y ∷ ys) x xs e = items_behind i ys x xs e

  split : (get : ℕ → Option X) (b : Bool) (x : X) (i : ℕ) (rest : Option X) (place : Option ℕ) → get i ≡ Some x
      → rest ≡ option_and_then get place
      → cond b (Some x) rest ≡ option_and_then get (cond b (Some i) place)
  split get true x i rest place here there = sym here
  split get false x i rest place here there = there

module _ {X : Type 0} (test : X → Bool) (all : List X) where
  found_from : (i : ℕ) (xs : List X) → drop i all ≡ xs
      → find test xs ≡ option_and_then (slice_get all) (position_from test i xs)
  found_from i [] e = refl
  found_from i (x ∷ xs) e =
      split (slice_get all) (test x) x i (find test xs) (position_from test (i + 1) xs)
      (item_at i all x xs e)
      (found_from (i + 1) xs (ap (λ n. drop n all) (add-one i) ∙ items_behind i all x xs e))

  pub found_at : find test all ≡ option_and_then (slice_get all) (position_from test 0 all)
  found_at = found_from 0 all refl

-- the first line with a label, by a map that finds it
pub defined : {S : Type 0} (labels : HashMap (Bor (List ℕ)) ℕ S) (all : List ThePlaced) → Finds labels all
    → (name : List ℕ) → (place : Option ℕ) → place ≡ get_by (λ k. bytes_eq name k.now) labels
    → option_and_then (slice_get all) place ≡ definition all name
unfolding definition
defined labels all finds name place is = ap (option_and_then (slice_get all)) (is ∙ finds name)
    ∙ sym (found_at (named name) all)

-- a label that is noted where it was not there
is_none_of : (o : Option ℕ) → is_some o ≡ false → o ≡ None
is_none_of None e = refl
is_none_of (Some x) e = absurd cc

noted_at : (b : Bool) (old : Option ℕ) (i : ℕ) → (b ≡ true → old ≡ None)
    → cond b (Some i) old ≡ option_or old (if b then Some i else None)
noted_at true old i absent = ap (λ o. option_or o (Some i)) (sym (absent refl))
noted_at false None i absent = refl
noted_at false (Some x) i absent = refl

pub noted : {S : Type 0} (old new : HashMap (Bor (List ℕ)) ℕ S) (label : List ℕ) (i : ℕ)
    → UpdatesBy (λ x y. bytes_eq x.now y.now) (λ k. bytes_eq label k.now) old new (Some i)
    → is_some (get_by (λ k. bytes_eq label k.now) old) ≡ false → (name : List ℕ)
    → get_by (λ k. bytes_eq name k.now) new
    ≡ option_or (get_by (λ k. bytes_eq name k.now) old) (if bytes_eq label name then Some i else None)
noted old new label i updates absent name =
    hash_map_updates_str label old new (Some i) updates name
    ∙ noted_at (bytes_eq label name) (get_by (λ k. bytes_eq name k.now) old) i
    (λ t. is_none_of _ (ap (λ other. is_some (get_by (λ k. bytes_eq other k.now) old))
    (sym ((bytes_eq-Decides label name).0 t)) ∙ absent))

-- what a slice has at an index, as its items are seen
pub shown : {X Y : Type 0} (f : X → Y) (xs : List X) (i : ℕ) (r : Option (Bor X))
    → MatchOption r (length xs ≤ i) (λ x. (i < length xs) × HoldsAt (λ y. x.now ≡ y) xs i)
    → IfSome r (λ x. x.now ≡ get_or xs i x.now)
    → option_map (λ x. f x.now) r ≡ slice_get (map f xs) i
shown f xs i None past same = sym (slice_get-map f xs i ∙ ap (option_map f) (slice_get_past xs i past))
shown f xs i (Some x) within same =
    sym (slice_get-map f xs i ∙ ap (option_map f) (slice_get_read xs (length xs) i x.now refl within.0 same))
