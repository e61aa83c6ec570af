-- A machine that has gone on.
use Rattle.std.proofs.Common.{List, None, Option, ap, ℕ, ◌∙◌}
use Rattle.machine.specs.Gives.{IsDone}
use Rattle.machine.specs.View.{IsUp, View}
use Rattle.unixmodel.specs.Calls.{After}
use Rattle.unixmodel.specs.State.{State}

-- it takes events
pub goes-on : (old new : View) (a : After) (before after : Option (List ℕ)) → IsDone old new a before after None
    → IsUp new
goes-on old new a before after done = record {
  sound = done.sound;
  goes = ap (λ (s : State). s.halted) done.state ∙ done.halts;
}
