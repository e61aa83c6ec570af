-- What a play's text says.
use Rattle.std.specs.Prelude.{List, [], codes, drop, map, ℕ, ◌+◌, ◌++◌, ◌∷◌, ◌≡◌, ◌⊎◌}
use Rattle.events.specs.Clocks.{every, random}
use Rattle.events.specs.Fields.{IsCount, IsHexOf}
use Rattle.events.specs.Lines.{lines_of}
use Rattle.events.specs.Words.{HasFirst, HasNone, HasWord, HasWords, IsQuoted}
use Rattle.events.specs.declared.words.Words.{Words}
use Rattle.events.specs.declared.clock.Clock.{Clock}
use Rattle.events.specs.declared.grammar.Act.{Act}
use Rattle.events.specs.declared.grammar.Deed.{Deed}
use Rattle.events.specs.declared.grammar.Deed.TheVariants.{End, Give, Repeat, Set, Until}
use Rattle.events.specs.declared.grammar.Goal.{Goal}
use Rattle.events.specs.declared.grammar.Goal.TheVariants.{Halt, Idle, Prompt, Quiet, Shown}
use Rattle.events.specs.declared.script.lines.Command.{Command}
use Rattle.events.specs.declared.script.lines.Command.TheVariants as command

-- the word names what is waited for
abbrev pub IsGoal : List ℕ → Goal → Type 0
IsGoal word (Shown bytes) = IsQuoted word bytes.items
IsGoal word Idle = word ≡ codes "idle"
IsGoal word Prompt = word ≡ codes "prompt"
IsGoal word Quiet = word ≡ codes "quiet"
IsGoal word Halt = word ≡ codes "halt"

-- what the words of a line say, of which the first names it
abbrev pub SaysCommand : List (List ℕ) → Command → Type 0
SaysCommand words (command.Step n) = (digits : List ℕ) × (words ≡ codes "step" ∷ digits ∷ []) × IsCount digits n
SaysCommand words (command.Tick n) = (digits : List ℕ) × (words ≡ codes "tick" ∷ digits ∷ []) × IsCount digits n
SaysCommand words (command.Keys keys) =
    (digits : List ℕ) × (words ≡ codes "keys" ∷ digits ∷ []) × IsHexOf digits keys.items
SaysCommand words (command.Type text) = ⊥

abbrev pub SaysClock : List (List ℕ) → Clock → Type 0
SaysClock words clock =
    ((digits : List ℕ) × (n : ℕ) × (words ≡ codes "every" ∷ digits ∷ codes "tick" ∷ []) × IsCount digits n
    × (clock ≡ every n))
    ⊎ ((first : List ℕ) × (second : List ℕ) × (seed : ℕ) × (n : ℕ)
    × (words ≡ codes "random" ∷ first ∷ second ∷ codes "tick" ∷ []) × IsCount first seed × IsCount second n
    × (clock ≡ random seed n))

-- where a repeat ends isn't its line's affair
abbrev pub SaysDeed : List (List ℕ) → Deed → Type 0
SaysDeed words (Give given) = SaysCommand words given
SaysDeed words (Until goal most) =
    (word : List ℕ) × (digits : List ℕ) × (words ≡ codes "until" ∷ word ∷ digits ∷ []) × IsGoal word goal
    × IsCount digits most
SaysDeed words (Set clock) = SaysClock words clock
SaysDeed words (Repeat times end) =
    (digits : List ℕ) × (words ≡ codes "repeat" ∷ digits ∷ codes "{" ∷ []) × IsCount digits times
SaysDeed words End = words ≡ codes "}" ∷ []

-- the keys of a line of text: what follows its first word and a blank
abbrev pub IsTyped : List ℕ → Deed → Type 0
IsTyped line (Give (command.Type text)) =
    (rest : List ℕ) × HasWord line (codes "type") rest × (text.now ≡ drop 1 rest)
IsTyped line _ = ⊥

abbrev pub IsDeed : List ℕ → Deed → Type 0
IsDeed line deed = IsTyped line deed ⊎ ((words : List (List ℕ)) × HasWords line words × SaysDeed words deed)

-- the acts are those that the lines say, the first of which has this number
abbrev pub AreActs : ℕ → List (List ℕ) → List Act → Type 0
AreActs number [] acts = acts ≡ []
AreActs number (line ∷ lines) acts = (HasNone line × AreActs (number + 1) lines acts)
    ⊎ ((act : Act) × (rest : List Act) × (acts ≡ act ∷ rest) × (act.line ≡ number) × IsDeed line act.deed
    × AreActs (number + 1) lines rest)

-- an act of which isn't said where its repeat ends
abbrev pub unended : Deed → Deed
unended (Repeat times end) = Repeat times 0
unended deed = deed

abbrev pub bare : Act → Act
bare act = record { line = act.line; deed = unended act.deed }

-- the play is what the text says, except where its repeats end
abbrev pub IsPlayOf : List ℕ → List Act → Type 0
IsPlayOf text acts = AreActs 1 (lines_of text) (map bare acts)

-- ---- as it is read

-- words were read that say this
abbrev pub Reads : Words → Words → (List (List ℕ) → Type 0) → Type 0
Reads old new Says = (words : List (List ℕ)) × HasFirst old.rest.now words new.rest.now × Says words

-- the line of this number was read
abbrev pub Adds : ℕ → List ℕ → List Act → List Act → Type 0
Adds number line old new = (HasNone line × (map bare new ≡ map bare old))
    ⊎ ((act : Act) × (map bare new ≡ map bare old ++ act ∷ []) × (act.line ≡ number) × IsDeed line act.deed)
