-- What goes on, and how: parts of a text with `;` between them.
use Rattle.std.specs.Prelude.{◌==◌, ◌≡◌, ◌<◌, ◌++◌, ◌∷◌, ◌^◌, ℕ, ⊤, List, [], None, Option, Some, codes, if◌then◌else◌}
use Rattle.std.specs.Prelude.{option_map}
use Rattle.gdbwire.specs.Hex.{hex_number, number_of}
use Rattle.gdbwire.specs.Packets.{IsThread, cut, thread_of, thread_sent, ◌>>=◌}
use Rattle.gdbwire.specs.declared.actions.Action.{Action}
use Rattle.gdbwire.specs.declared.actions.Going.{Going}
use Rattle.gdbwire.specs.declared.actions.Going.TheVariants.{Continue, Range, Step}
use Rattle.gdbwire.specs.declared.packets.Thread.{Thread}

abbrev pub range_of : List ℕ → Option Going
range_of text = do
  two ← cut 44 text
  from ← number_of two.0
  end ← number_of two.1
  Some (Range from end)

-- a letter alone
abbrev pub alone : Going → List ℕ → Option Going
alone going [] = Some going
alone going (b ∷ bs) = None

-- c and s, with a signal C and S, and r with two addresses
abbrev pub going_by : ℕ → List ℕ → Option Going
going_by b rest =
    if b == 99 then alone Continue rest
    else if b == 67 then Some Continue
    else if b == 115 then alone Step rest
    else if b == 83 then Some Step
    else if b == 114 then range_of rest
    else None

unfoldable pub going_of : List ℕ → Option Going
going_of [] = None
going_of (b ∷ rest) = going_by b rest

abbrev pub action_with : List ℕ → Option (List ℕ × List ℕ) → Option Action
action_with text None = option_map (λ going. record { going = going; thread = None }) (going_of text)
action_with text (Some two) = do
  going ← going_of two.0
  thread ← thread_of two.1
  Some (record { going = going; thread = Some thread })

unfoldable pub action_of : List ℕ → Option Action
action_of text = action_with text (cut 58 text)

-- ---- actions as they are sent

abbrev pub going_sent : Going → List ℕ
going_sent Continue = codes "c"
going_sent Step = codes "s"
going_sent (Range from end) = codes "r" ++ (hex_number from ++ (codes "," ++ hex_number end))

abbrev pub named : Option Thread → List ℕ
named None = []
named (Some thread) = codes ":" ++ thread_sent thread

abbrev pub action_sent : Action → List ℕ
action_sent a = going_sent a.going ++ named a.thread

abbrev pub IsGoing : Going → Type 0
IsGoing Continue = ⊤
IsGoing Step = ⊤
IsGoing (Range from end) = (from < 2 ^ 64) × (end < 2 ^ 64)

abbrev pub IsNamed : Option Thread → Type 0
IsNamed None = ⊤
IsNamed (Some thread) = IsThread thread

-- what is sent is read as what it was
abbrev pub ActionsAreRead : Type 0
ActionsAreRead = (a : Action) → IsGoing a.going → IsNamed a.thread → action_of (action_sent a) ≡ Some a
