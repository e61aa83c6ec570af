-- A set of slots, as a list that says of each slot whether it is in.
use Rattle.std.specs.Prelude.{Bool, List, MatchOption, Option, [], false, slice_index_or, suc, true, zero, ℕ, ◌%◌, ◌+◌}
use Rattle.std.specs.Prelude.{◌/◌, ◌<◌, ◌==◌, ◌∷◌, ◌≡◌, ◌≤◌}
use Rattle.proc.specs.Pick.{place_in_round}
use Rattle.unixmodel.specs.State.{place_limit}

-- the lowest bits of a number, from the lowest on
unfoldable pub bits_of : ℕ → ℕ → List Bool
bits_of zero n = []
bits_of (suc w) n = (n % 2 == 1) ∷ bits_of w (n / 2)

-- each slot is in
unfoldable pub all_in : ℕ → List Bool
all_in zero = []
all_in (suc n) = true ∷ all_in n

-- whether slot i is in; each slot past the last is
abbrev pub is_in : List Bool → ℕ → Bool
is_in places i = slice_index_or places i true

-- in the turns from `from` to before `to` no slot of the round is in
abbrev pub NoneIsIn : List Bool → ℕ → ℕ → ℕ → Type 0
NoneIsIn places last from to = (k : ℕ) → from ≤ k → k < to → is_in places (place_in_round last k) ≡ false

-- turn k is the first from turn `from` on whose slot is in
pub record IsNext (places : List Bool) (last from k : ℕ) : Type 0 where
  pub in_round : (from ≤ k) × (k ≤ place_limit)
  pub there : is_in places (place_in_round last k) ≡ true
  pub before : NoneIsIn places last from k

-- the first turn of the round, from turn `from` on, whose slot is in
abbrev pub Finds : List Bool → ℕ → ℕ → Option ℕ → Type 0
Finds places last from result =
    MatchOption result (NoneIsIn places last from (place_limit + 1)) (IsNext places last from)

-- a pick that began after the last picked has left no slot awake that it passed over
abbrev pub Passes : List Bool → ℕ → Option ℕ → Type 0
Passes awake last result =
    MatchOption result (NoneIsIn awake last 1 (place_limit + 1))
    (λ i. (k : ℕ) × (1 ≤ k) × (k ≤ place_limit) × (i ≡ place_in_round last k) × NoneIsIn awake last 1 k)

-- no slot from slot `from` on is in
abbrev pub NoneFrom : List Bool → ℕ → Type 0
NoneFrom places from = (j : ℕ) → from ≤ j → j < place_limit → is_in places j ≡ false

-- slot i is the first from slot `from` on that is in
pub record IsFirstFrom (places : List Bool) (from i : ℕ) : Type 0 where
  pub in_places : (from ≤ i) × (i < place_limit)
  pub there : is_in places i ≡ true
  pub before : (j : ℕ) → from ≤ j → j < i → is_in places j ≡ false

-- the first slot from slot `from` on that is in
abbrev pub FindsFrom : List Bool → ℕ → Option ℕ → Type 0
FindsFrom places from result = MatchOption result (NoneFrom places from) (IsFirstFrom places from)
