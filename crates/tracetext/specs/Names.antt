-- The calls by their names.
use Rattle.std.specs.Prelude.{Bool, List, None, Option, Some, [], codes, cond, decimal, false, get_or, is_none}
use Rattle.std.specs.Prelude.{nat_lt, option_map, slice_index_or, ℕ, ◌+◌, ◌++◌, ◌-◌, ◌<◌, ◌==◌, ◌&&◌, ◌||◌, ◌≡◌, ◌∷◌}
use Rattle.std.specs.Prelude.{if◌then◌else◌}
use Rattle.std.specs.List.{slice_split}
use Rattle.tracetext.specs.declared.call_names.CallSet.{CallSet}
use Rattle.unixmodel.specs.Operands.{place_among}

-- the names of the calls, in the order of their numbers from 1 on
unfoldable pub names : List (List ℕ)
names =
    codes "fork" ∷ codes "exit" ∷ codes "wait" ∷ codes "pipe" ∷ codes "read" ∷ codes "kill" ∷ codes "exec"
    ∷ codes "fstat" ∷ codes "chdir" ∷ codes "dup" ∷ codes "getpid" ∷ codes "sbrk" ∷ codes "sleep" ∷ codes "uptime"
    ∷ codes "open" ∷ codes "write" ∷ codes "mknod" ∷ codes "unlink" ∷ codes "link" ∷ codes "mkdir" ∷ codes "close"
    ∷ []

-- the name of the call of a number, or `call_` and the number where no call has it
unfoldable pub call_name : ℕ → List ℕ
call_name number =
    if nat_lt 0 number && nat_lt number 22 then slice_index_or names (number - 1) []
    else codes "call_" ++ decimal number

-- the number of the call of a name
abbrev pub number_named : List ℕ → Option ℕ
number_named name = option_map (λ index. index + 1) (place_among names name)

-- the names that a text has, with commas between them
abbrev pub parts : List ℕ → List (List ℕ)
parts text = slice_split (λ byte. byte == 44) text

-- the first name that no call has
abbrev pub first_unknown : List (List ℕ) → Option (List ℕ)
first_unknown [] = None
first_unknown (name ∷ more) = cond (is_none (number_named name)) (Some name) (first_unknown more)

abbrev pub is_number : ℕ → Option ℕ → Bool
is_number number None = false
is_number number (Some known) = known == number

-- one of the names is that of the call of a number
abbrev pub is_among : ℕ → List (List ℕ) → Bool
is_among number [] = false
is_among number (name ∷ more) = is_number number (number_named name) || is_among number more

-- the set has just the calls of these names, each of which is a call's
pub record IsSetOf (names : List (List ℕ)) (set : CallSet) : Type 0 where
  pub known : first_unknown names ≡ None
  pub has : (number : ℕ) → number < 22 → get_or set.has number false ≡ is_among number names
