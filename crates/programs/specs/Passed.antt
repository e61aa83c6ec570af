-- The arguments of a program on its stack.
use Rattle.std.specs.Prelude.{List, None, Option, Some, false, if◌then◌else◌, length, nat_lt, option_and_then}
use Rattle.std.specs.Prelude.{option_map, take, true, ℕ, ◌*◌, ◌++◌, ◌+◌, ◌-◌, ◌<◌, ◌∷◌, ◌≡◌, ◌≤◌, []}
use Rattle.programs.specs.declared.arguments.Arguments.{Arguments}
use Rattle.unixmodel.specs.Memory.{Memory, Page, overwrite, string_at, zero_page}
use Rattle.unixmodel.specs.Numbers.{number_at, round_down}
use Rattle.unixmodel.specs.Plan.{Plan, stack_marks, with_args}
use Rattle.unixmodel.specs.ProcessCalls.{args_at}

-- pages, the guard page above them, and a page for the stack with these bytes
abbrev pub stacked : Memory → List ℕ → Memory
stacked pages page = pages ++ zero_page (stack_marks false)
    ∷ (let p : Page = record { bytes = page; marks = stack_marks true } in p) ∷ []

-- the program of these pages that begins at pc with the arguments
abbrev pub plan_with : Memory → ℕ → Arguments → Plan
plan_with pages pc a = record
    { memory = stacked pages a.page; size = 4096 * (length pages + 2); pc = pc; argc = a.count; sp = a.sp }

-- a program of `count` pages gets these arguments, or none can be passed to it
abbrev pub Passes : Memory → ℕ → ℕ → Option Arguments → Type 0
Passes mem argv count told = (pages : Memory) (pc : ℕ) → length pages ≡ count
    → option_and_then (with_args pages pc) (args_at mem argv) ≡ option_map (plan_with pages pc) told

-- a program of `count` pages gets a string as its only argument, or it can't be passed to it; these bytes are the
-- string and its NUL
abbrev pub PassesOne : List ℕ → ℕ → Option Arguments → Type 0
PassesOne bytes count told = (string : List ℕ) → bytes ≡ string ++ 0 ∷ [] → (pages : Memory) (pc : ℕ)
    → length pages ≡ count → with_args pages pc (string ∷ []) ≡ option_map (plan_with pages pc) told

-- ---- the steps to it

-- the first word
abbrev pub word_in : List ℕ → Option ℕ
word_in bytes = if nat_lt (length (take 8 bytes)) 8 then None else Some (number_at 8 0 bytes)

-- bytes are pushed to an offset of a page
pub record HasPushed (old new : List ℕ) (top : ℕ) (bytes : List ℕ) (place : ℕ) : Type 0 where
  pub fits : length bytes ≤ top
  pub stands : place ≡ round_down (top - length bytes) 16
  pub page : new ≡ overwrite old place bytes

-- they are, or there is no room for them
abbrev pub Pushes : List ℕ → List ℕ → ℕ → List ℕ → Option ℕ → Type 0
Pushes old new top bytes None = top < length bytes
Pushes old new top bytes (Some place) = HasPushed old new top bytes place

-- a string is pushed with its NUL
abbrev pub PushesString : Memory → ℕ → List ℕ → List ℕ → ℕ → Option ℕ → Type 0
PushesString mem address old new top None = (string : List ℕ) → string_at mem address ≡ Some string
    → top < length string + 1
PushesString mem address old new top (Some place) = (string : List ℕ) × (string_at mem address ≡ Some string)
    × HasPushed old new top (string ++ 0 ∷ []) place

-- the pointers are pushed
abbrev pub Finishes : List ℕ → ℕ → List ℕ → ℕ → ℕ → Option Arguments → Type 0
Finishes page top bytes count base None = top < length bytes
Finishes page top bytes count base (Some a) = (place : ℕ) × HasPushed page a.page top bytes place
    × (a.sp ≡ base + place) × (a.count ≡ count)
