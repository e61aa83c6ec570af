-- Which slot a pick finds.
use Rattle.std.specs.Prelude.{Bool, List, MatchOption, Option, false, true, ℕ, ◌%◌, ◌+◌, ◌<◌, ◌≡◌, ◌≤◌}
use Rattle.std.specs.Borrow.{Bor}
use Rattle.std.specs.Fn.{FnReturns, Shared}
use Rattle.proc.specs.declared.process.Process.{Process}
use Rattle.unixmodel.specs.State.{place_limit}

-- called with these slots and the number i, f may return b
pub record Answers {F : Type 0} (g : Shared F (Bor (List (Option Process)) × (ℕ × Unit {0})) Bool) (f : F)
    (places : List (Option Process)) (i : ℕ) (b : Bool) : Type 0 where
  pub shown : Bor (List (Option Process))
  pub shows : shown.now ≡ places
  pub says : FnReturns g f (shown, (i, tt)) b

-- the slot that a round looks at in its turn k, from 1 to 64: it begins after the last picked, and ends there
abbrev pub place_in_round : ℕ → ℕ → ℕ
place_in_round last k = (last + k) % place_limit

-- says i b: the result at slot i may be b. Slot i is the first of the round at which it is true.
pub record IsFirst (says : ℕ → Bool → Type 0) (last i : ℕ) : Type 0 where
  pub turn : ℕ
  pub in_round : (1 ≤ turn) × (turn ≤ place_limit)
  pub there : i ≡ place_in_round last turn
  pub yes : says i true
  pub before : (k : ℕ) → 1 ≤ k → k < turn → says (place_in_round last k) false

-- at no slot of the round it is true
abbrev pub NoneSays : (ℕ → Bool → Type 0) → ℕ → Type 0
NoneSays says last = (k : ℕ) → 1 ≤ k → k ≤ place_limit → says (place_in_round last k) false

-- what a pick returns
abbrev pub Picks : (ℕ → Bool → Type 0) → ℕ → Option ℕ → Type 0
Picks says last result = MatchOption result (NoneSays says last) (IsFirst says last)
