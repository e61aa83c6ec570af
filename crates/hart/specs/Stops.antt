-- Addresses at which a run stops: it goes on from the one that it begins at, and no further than to the next.
use Rattle.std.specs.Prelude.{Bool, List, [], false, true, ℕ, ◌*◌, ◌<◌, ◌==◌, ◌≤◌, ◌≡◌, ◌⊎◌}
use Rattle.std.specs.List.{list_any}
use Rattle.unixmodel.specs.Numbers.{plus}
use Rattle.hart.specs.declared.stops.Known.{Known}

-- the address of word k of the page at `base`
abbrev pub pc_at : ℕ → ℕ → ℕ
pc_at base k = plus base (4 * k)

abbrev pub is_stop : List ℕ → ℕ → Bool
is_stop stops address = list_any (λ s. s == address) stops

-- after n instructions, if any, one does not begin at a stop
abbrev pub IsPast : List ℕ → ℕ → ℕ → Type 0
IsPast stops n pc = 0 < n → is_stop stops pc ≡ false

-- a run goes from a pc to another by `done` instructions, and if there are any it is at no stop after them
abbrev pub IsBehind : List ℕ → ℕ → ℕ → ℕ → Type 0
IsBehind stops done old new = ((0 < done) × (is_stop stops new ≡ false)) ⊎ ((done ≡ 0) × (new ≡ old))

-- no word of a page between two is at a stop
abbrev pub IsClear : List ℕ → ℕ → ℕ → ℕ → Type 0
IsClear stops base from to = (j : ℕ) → from < j → j < to → is_stop stops (pc_at base j) ≡ false

-- no word of a page from one up to another is at a stop
abbrev pub IsFree : List ℕ → ℕ → ℕ → ℕ → Type 0
IsFree stops base from to = (j : ℕ) → from ≤ j → j < to → is_stop stops (pc_at base j) ≡ false

-- no word of two stretches of a page is at a stop
pub record AreFree (stops : List ℕ) (base : ℕ) (known : Known) : Type 0 where
  pub here : IsFree stops base known.here.from known.here.to
  pub before : IsFree stops base known.before.from known.before.to
  pub within : known.here.to ≤ 1024
  pub within_before : known.before.to ≤ 1024

-- as many are done as were requested, or the next one is at a stop
abbrev pub EndsAt : List ℕ → ℕ → ℕ → ℕ → Type 0
EndsAt stops count done pc = (done ≡ count) ⊎ ((0 < done) × (is_stop stops pc ≡ true))

-- how few operations are done at once: one, or as many as a part has where there are no stops
abbrev pub IsLeast : ℕ → List ℕ → Type 0
IsLeast least stops = (least ≡ 1) ⊎ ((least ≡ 64) × (stops ≡ []))

-- A run goes on at an index of the page at `base`, which has this address and is at no stop. It is in the first of two
-- stretches without a stop.
pub record IsOnward (stops : List ℕ) (base address : ℕ) (to : ℕ × Known) : Type 0 where
  pub below : to.0 < 1024
  pub at : pc_at base to.0 ≡ address
  pub past : is_stop stops address ≡ false
  pub free : AreFree stops base to.1
  pub since : to.1.here.from ≤ to.0
  pub before : to.0 < to.1.here.to
