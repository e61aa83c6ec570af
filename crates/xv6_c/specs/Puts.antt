-- What is put where a caller wants it.
use Rattle.std.proofs.Common.{Global, Vec}
use Rattle.std.specs.Prelude.{Err, List, None, Ok, Option, Result, Some, length, ℕ, ◌≡◌}
use Rattle.calls.specs.declared.halt.Halt.{Halt}
use Rattle.machine.specs.declared.inodes.Stat.{Stat}
use Rattle.session.specs.Copied.{copied}
use Rattle.xv6_c.specs.Numbers.{stat_told}
use Rattle.xv6_c.specs.declared.told.StatTold.{StatTold}

-- what there is and 0, or 1 where there is nothing
abbrev pub Puts : {X : Type 0} → Option X → X → X → ℕ → Type 0
Puts None old new number = (number ≡ 1) × (new ≡ old)
Puts (Some value) old new number = (number ≡ 0) × (new ≡ value)

-- a node, unless there was an error
abbrev pub stat_put : Result (Option Stat) Halt → StatTold → StatTold
stat_put (Ok stat) old = stat_told stat
stat_put (Err halt) old = old

-- a number, unless there was an error
abbrev pub number_put : {X : Type 0} → Result X Halt → X → X
number_put (Ok value) old = value
number_put (Err halt) old = old

-- as many bytes of an image as there is room for, and how many it has, unless there was an error
abbrev pub image_put : Result (Vec ℕ Global) Halt → List ℕ → List ℕ
image_put (Ok image) old = copied image.items old
image_put (Err halt) old = old

abbrev pub length_put : Result (Vec ℕ Global) Halt → ℕ → ℕ
length_put (Ok image) old = length image.items
length_put (Err halt) old = old
