-- Equal calls in a row.
use Rattle.std.specs.Prelude.{min, string_bytes, ℤ, ◌+◌, ◌-◌, ◌^◌, ◌≡◌}
use Rattle.tracetext.specs.declared.asked.Asked.{Asked}
use Rattle.tracetext.specs.declared.asked.CallText.{CallText}
use Rattle.tracetext.specs.declared.rows.Row.{Row}
use Rattle.tracetext.specs.Texts.{IsSameText}

-- it holds this call, which came once
pub record Holds (row : Row) (asked : Asked) (text : CallText) (answer : ℤ) : Type 0 where
  pub times : row.times ≡ 1
  pub pid : row.pid ≡ asked.pid
  pub number : row.number ≡ asked.number
  pub at : row.at ≡ asked.at
  pub answered : row.answer ≡ answer
  pub text_held : IsSameText row.text text

-- it counts one call more, and its own text aside nothing else changes
pub record Counts (old new : Row) : Type 0 where
  pub times : new.times ≡ min (old.times + 1) (2 ^ 64 - 1)
  pub pid : new.pid ≡ old.pid
  pub number : new.number ≡ old.number
  pub at : new.at ≡ old.at
  pub answered : new.answer ≡ old.answer

-- what a call and the row have in common if it goes on with it, their buffers aside
pub record IsAlike (row : Row) (asked : Asked) (text : CallText) (answer : ℤ) : Type 0 where
  pub pid : row.pid ≡ asked.pid
  pub number : row.number ≡ asked.number
  pub answered : row.answer ≡ answer
  pub front : string_bytes row.text.front ≡ string_bytes text.front
  pub back : string_bytes row.text.back ≡ string_bytes text.back
