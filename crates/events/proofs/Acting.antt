-- The lines of a play, read one after the other.
use Rattle.std.proofs.Common.{List, ℕ, [], ap, arith, inl, inr, length, map, refl, take, ◌++◌, ◌+◌, ◌<◌}
use Rattle.std.proofs.Common.{◌∙◌, ◌∷◌, ◌≡◌}
use Rattle.std.specs.List.{slice_index_or}
use Rattle.std.proofs.lemmas.List.{map-append}
use Rattle.std.proofs.lemmas.List.{get_or-map, length-map, length-take-le, take_more}
use Rattle.events.specs.PlayTexts.{Adds, AreActs, IsDeed, bare, unended}
use Rattle.events.specs.Words.{HasNone}
use Rattle.events.specs.declared.grammar.Act.{Act}
use Rattle.events.specs.declared.grammar.Deed.{Deed}
use Rattle.events.specs.declared.grammar.Deed.TheVariants.{End, Give, Repeat, Set, Until}

-- a line that says nothing
acts-silent : (number : ℕ) (lines : List (List ℕ)) (acts : List Act) (line : List ℕ) → AreActs number lines acts
    → HasNone line → AreActs number (lines ++ line ∷ []) acts
acts-silent number [] acts line h none = inl (none, h)
acts-silent number (l ∷ lines) acts line (inl h) none = inl (h.0, acts-silent (number + 1) lines acts line h.1 none)
acts-silent number (l ∷ lines) acts line (inr h) none =
    inr (h.0, h.1, h.2, h.3, h.4, acts-silent (number + 1) lines h.1 line h.5 none)

-- one that says an act
acts-one : (number : ℕ) (lines : List (List ℕ)) (acts : List Act) (line : List ℕ) (act : Act)
    → AreActs number lines acts → act.line ≡ number + length lines → IsDeed line act.deed
    → AreActs number (lines ++ line ∷ []) (acts ++ act ∷ [])
acts-one number [] acts line act h counted says = inr (act, [], rw h refl, omega arith, says, refl)
acts-one number (l ∷ lines) acts line act (inl h) counted says =
    inl (h.0, acts-one (number + 1) lines acts line act h.1 (omega arith) says)
acts-one number (l ∷ lines) acts line act (inr h) counted says =
    inr (
      h.0,
      h.1 ++ act ∷ [],
      rw h.2 refl,
      h.3,
      h.4,
      acts-one (number + 1) lines h.1 line act h.5 (omega arith) says,
    )

acts-more : (lines : List (List ℕ)) (old new : List Act) (line : List ℕ) → AreActs 1 lines (map bare old)
    → Adds (length lines + 1) line old new → AreActs 1 (lines ++ line ∷ []) (map bare new)
acts-more lines old new line before (inl h) = rw h.1 (acts-silent 1 lines (map bare old) line before h.0)
acts-more lines old new line before (inr h) =
    rw h.1 (acts-one 1 lines (map bare old) line h.0 before (omega arith) h.3)

pub next-line : {R : Type 0} (now : R → List ℕ) (lines : List R) (i : ℕ) (none : R) (old new : List Act)
    → i < length lines → AreActs 1 (take i (map now lines)) (map bare old)
    → Adds (i + 1) (now (slice_index_or lines i none)) old new → AreActs 1 (take (i + 1) (map now lines)) (map bare new)
next-line now lines i none old new within before more =
    let long : i < length (map now lines) = omega (arith, length-map lines now) in
    let count : length (take i (map now lines)) ≡ i = length-take-le i (map now lines) (omega arith) in
    rw (take_more (map now lines) i [] long, get_or-map now lines i none [] within)
    (acts-more (take i (map now lines)) old new (now (slice_index_or lines i none)) before (rw count more))

deed-unended : (line : List ℕ) (deed : Deed) → IsDeed line deed → IsDeed line (unended deed)
deed-unended line (Give given) h = h
deed-unended line (Until goal most) h = h
deed-unended line (Set clock) h = h
deed-unended line (Repeat times end) h = h
deed-unended line End h = h

-- an act is added
pub adds-act : (number : ℕ) (line : List ℕ) (old mid new : List Act) (deed : Deed) → map bare mid ≡ map bare old
    → new ≡ mid ++ record { line = number; deed = deed } ∷ [] → IsDeed line deed → Adds number line old new
adds-act number line old mid new deed same is says = inr (
  record { line = number; deed = unended deed },
  ap (map bare) is ∙ map-append bare mid _ ∙ ap (λ xs. xs ++ record { line = number; deed = unended deed } ∷ []) same,
  refl,
  deed-unended line deed says,
)
