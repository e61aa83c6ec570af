-- What an event of Chrome's trace format has.
use Rattle.std.specs.Prelude.{List, Option, ℕ, ℤ, ◌≡◌}
use Rattle.tracetext.specs.declared.spans.Details.{Details}
use Rattle.tracetext.specs.declared.spans.Details.TheVariants as details
use Rattle.tracetext.specs.declared.spans.Span.{Span}
use Rattle.tracetext.specs.declared.spans.Title.{Title}
use Rattle.tracetext.specs.declared.spans.Title.TheVariants as title

-- when it was, how long it lasted, in which lane of which process, and the number of its arrow
pub record Stands (span : Span) (at lasts : Option ℕ) (pid : ℕ) (lane id : Option ℕ) : Type 0 where
  pub at_is : span.at ≡ at
  pub lasts_is : span.lasts ≡ lasts
  pub pid_is : span.pid ≡ pid
  pub lane_is : span.lane ≡ lane
  pub id_is : span.id ≡ id

-- the title is this text
abbrev pub IsPlain : Title → List ℕ → Type 0
IsPlain (title.Plain name) text = name.now ≡ text
IsPlain _ text = ⊥

-- the name of a process
abbrev pub IsNamed : Details → List ℕ → Type 0
IsNamed (details.Name name) text = name.now ≡ text
IsNamed _ text = ⊥

-- a call, with its arguments and its answer
abbrev pub IsCall : Details → ℕ → List ℕ → Option ℤ → Type 0
IsCall (details.Call name text answer) number told answered = (name.0 ≡ number) × (text.now ≡ told)
    × (answer ≡ answered)
IsCall _ number told answered = ⊥
