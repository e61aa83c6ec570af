-- Lemmas on what the lines of a text say.
use Rattle.std.proofs.Common.{◌≡◌, ◌∙◌, ◌+◌, ◌<◌, ◌++◌, ℕ, List, Err, Ok, Result, [], ◌∷◌, refl, length, map, subst}
use Rattle.std.proofs.Common.{sym, take, arith, false, true}
use Rattle.std.specs.Prelude.{IfErr, IsErrAnd, ◌==◌}
use Rattle.std.specs.List.{slice_index_or}
use Rattle.std.proofs.lemmas.List.{get_or-map, length-map, take_more}
use Rattle.std.proofs.lemmas.Bool.{false≢true, ne_eqb}
use Rattle.events.specs.Lines.{AreSaid, IsFaultOf, IsFirstFault}
use Rattle.events.specs.declared.lines.TextFault.{TextFault}
use Rattle.events.specs.declared.lines.TextFault.TheVariants as fault

said-empty : {X : Type 0} (Says : List ℕ → X → Type 0) (lines : List (List ℕ)) (items : List X)
    → AreSaid Says lines items → AreSaid Says (lines ++ [] ∷ []) items
said-empty Says [] items h = h
said-empty Says ([] ∷ lines) items h = said-empty Says lines items h
said-empty Says ((x ∷ xs) ∷ lines) items h = (h.0, h.1, h.2, h.3, said-empty Says lines h.1 h.4)

said-more : {X : Type 0} (Says : List ℕ → X → Type 0) (lines : List (List ℕ)) (items : List X) (x : ℕ) (xs : List ℕ)
    (item : X) → AreSaid Says lines items → Says (x ∷ xs) item
    → AreSaid Says (lines ++ (x ∷ xs) ∷ []) (items ++ item ∷ [])
said-more Says [] items x xs item h is = (item, [], rw h refl, is, refl)
said-more Says ([] ∷ lines) items x xs item h is = said-more Says lines items x xs item h is
said-more Says ((y ∷ ys) ∷ lines) items x xs item h is =
    (h.0, h.1 ++ item ∷ [], rw h.2 refl, h.3, said-more Says lines h.1 x xs item h.4 is)

spoken-from : (line : List ℕ) → false ≡ (length line == 0) → 0 < length line
spoken-from [] e = absurd (false≢true e)
spoken-from (x ∷ xs) e = omega arith

-- one line more, an empty one or one that says something
module _ {X R : Type 0} (Says : List ℕ → X → Type 0) (now : R → List ℕ) (lines : List R) (i : ℕ) (none : R)
    (items : List X) (within : i < length lines) (h : AreSaid Says (take i (map now lines)) items) where
  long : i < length (map now lines)
  long = omega (arith, length-map lines now)

  at : slice_index_or (map now lines) i [] ≡ now (slice_index_or lines i none)
  at = get_or-map now lines i none [] within

  pub said-next : true ≡ (length (now (slice_index_or lines i none)) == 0)
      → AreSaid Says (take (i + 1) (map now lines)) items
  said-next empty = go (now (slice_index_or lines i none)) at empty
    where
      go : (line : List ℕ) → slice_index_or (map now lines) i [] ≡ line → true ≡ (length line == 0)
          → AreSaid Says (take (i + 1) (map now lines)) items
      go [] is e = rw (take_more (map now lines) i [] long, is) (said-empty Says (take i (map now lines)) items h)
      go (x ∷ xs) is e = absurd (false≢true (sym (ne_eqb (length (x ∷ xs)) 0 (λ z. absurd (omega (arith, z)))) ∙ sym e))

  pub said-item : (item : X) → false ≡ (length (now (slice_index_or lines i none)) == 0)
      → Says (now (slice_index_or lines i none)) item → AreSaid Says (take (i + 1) (map now lines)) (items ++ item ∷ [])
  said-item item some is = go (now (slice_index_or lines i none)) at some is
    where
      go : (line : List ℕ) → slice_index_or (map now lines) i [] ≡ line → false ≡ (length line == 0) → Says line item
          → AreSaid Says (take (i + 1) (map now lines)) (items ++ item ∷ [])
      go [] f e k = absurd (false≢true e)
      go (x ∷ xs) f e k = rw (take_more (map now lines) i [] long, f)
          (said-more Says (take i (map now lines)) items x xs item h k)

  -- the line can't be read
  pub first-fault : false ≡ (length (now (slice_index_or lines i none)) == 0)
      → ((item : X) → ¬ (Says (now (slice_index_or lines i none)) item)) → IsFirstFault Says (map now lines) (i + 1)
  first-fault some never = record {
    index = i;
    counted = refl;
    within = long;
    spoken = subst (λ line. 0 < length line) (sym at) (spoken-from (now (slice_index_or lines i none)) some);
    none = λ item. subst (λ line. ¬ (Says line item)) (sym at) (never item);
    before = items;
    sound = h;
  }

-- memory ran out
pub memory-told : {X T : Type 0} (Says : List ℕ → X → Type 0) (lines : List (List ℕ)) (r : Result T TextFault)
    → IsErrAnd r (λ told. told ≡ fault.NoMemory) → IfErr r (IsFaultOf Says lines)
memory-told Says lines (Ok x) h = tt
memory-told Says lines (Err told) h = subst (IsFaultOf Says lines) (sym h) tt
