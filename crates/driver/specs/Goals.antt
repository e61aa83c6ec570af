-- What is waited for: in a state, and once the console has printed these bytes, where they are known.
use Rattle.std.specs.Prelude.{Bool, IfSome, List, MatchBool, None, Option, Some, drop, false, length, true, ℕ, ⊤}
use Rattle.std.specs.Prelude.{◌-◌, ◌≡◌, ◌⊎◌}
use Rattle.kernel.specs.Idle.{is_idle}
use Rattle.events.specs.Clocks.{is_off}
use Rattle.events.specs.declared.clock.Clock.{Clock}
use Rattle.events.specs.declared.grammar.Goal.{Goal}
use Rattle.events.specs.declared.grammar.Goal.TheVariants.{Halt, Idle, Prompt, Quiet, Shown}
use Rattle.unixmodel.specs.State.{State}
use Rattle.waits.specs.Prompts.{IsAtPrompt, is_quiet}

-- the last n bytes, or all where there are fewer
abbrev pub last_bytes : ℕ → List ℕ → List ℕ
last_bytes n bytes = drop (length bytes - n) bytes

abbrev pub EndsWith : List ℕ → List ℕ → Type 0
EndsWith text bytes = text ≡ last_bytes (length text) bytes

-- what is waited for has come
abbrev pub IsReached : Goal → State → Option (List ℕ) → Type 0
IsReached (Shown text) s shown = IfSome shown (EndsWith text.items)
IsReached Idle s shown = is_idle s ≡ true
IsReached Prompt s shown = IsAtPrompt s
IsReached Quiet s shown = is_quiet s ≡ true
IsReached Halt s shown = ¬ (s.halted ≡ None)

abbrev pub IsUnreached : Goal → State → Option (List ℕ) → Type 0
IsUnreached (Shown text) s shown = IfSome shown (λ bytes. ¬ EndsWith text.items bytes)
IsUnreached Idle s shown = is_idle s ≡ false
IsUnreached Prompt s shown = ¬ IsAtPrompt s
IsUnreached Quiet s shown = is_quiet s ≡ false
IsUnreached Halt s shown = s.halted ≡ None

-- whether it has come; nothing is said where nothing is waited for
abbrev pub IsFound : Option Goal → Bool → State → Option (List ℕ) → Type 0
IsFound None found s shown = ⊤
IsFound (Some goal) found s shown = MatchBool found (IsReached goal s shown) (IsUnreached goal s shown)

-- a wait is over: it has come, or nothing can come, since nobody is ready and no clock runs
abbrev pub IsOver : Option Goal → Clock → State → Option (List ℕ) → Type 0
IsOver None c s shown = ⊥
IsOver (Some goal) c s shown = IsReached goal s shown ⊎ ((is_off c ≡ true) × (is_idle s ≡ true))

abbrev pub GoesOn : Option Goal → Clock → State → Option (List ℕ) → Type 0
GoesOn None c s shown = ⊤
GoesOn (Some goal) c s shown =
    IsUnreached goal s shown × (is_off c ≡ true → is_idle s ≡ false) × (s.halted ≡ None)
