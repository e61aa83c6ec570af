-- The arguments of a call as text.
use Rattle.std.specs.Prelude.{[], if◌then◌else◌, nat_lt, string_bytes, ℕ, ◌≡◌}
use Rattle.tracetext.specs.declared.asked.CallText.{CallText}
use Rattle.tracetext.specs.declared.asked.Shown.{Shown}
use Rattle.tracetext.specs.declared.asked.Shown.TheVariants.{Cut, Nothing}

-- there are none
pub record IsEmpty (text : CallText) : Type 0 where
  pub front : string_bytes text.front ≡ []
  pub bytes : text.«data».items ≡ []
  pub shown : text.shown ≡ Nothing
  pub back : string_bytes text.back ≡ []

pub record IsSameText (text other : CallText) : Type 0 where
  pub front : string_bytes text.front ≡ string_bytes other.front
  pub bytes : text.«data».items ≡ other.«data».items
  pub shown : text.shown ≡ other.shown
  pub back : string_bytes text.back ≡ string_bytes other.back

-- how much of a buffer is shown once `more` bytes were to come where there was room for `room`
abbrev pub shown_after : ℕ → ℕ → Shown → Shown
shown_after room more before = if nat_lt room more then Cut else before
