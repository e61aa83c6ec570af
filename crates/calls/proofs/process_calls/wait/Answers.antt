use Rattle.calls.proofs.Common.{here-of, sym, ◌∙◌}
use Rattle.calls.proofs.Waits.{wait-begins, wait-childless, wait-unwritable}
use Rattle.calls.proofs.process_calls.wait.Goals.{then-not-has_child-via-else-not-has_child+then-not-can_answer}
use Rattle.calls.proofs.process_calls.wait.Goals.{then-not-has_child-via-then-not-has_child}
use Rattle.calls.proofs.process_calls.wait.Goals as goal

pub returns-then-not-has_child : goal.returns-then-not-has_child
returns-then-not-has_child g c = elim c.then-not-has_child.branch [
  | then-not-has_child-via-then-not-has_child w ↦ wait-childless (here-of c.requires) c.pid-parent.result
      c.pid-parent.ensures (sym c.has_child.ensures ∙ w.if-not-has_child.true)
  | then-not-has_child-via-else-not-has_child+then-not-can_answer w ↦ wait-unwritable (here-of c.requires)
      c.pid-parent.result c.pid-parent.ensures
      (rw w.argument.ensures at (sym w.can_answer.ensures ∙ w.if-not-can_answer.true))
]

pub returns : goal.returns
returns g c =
    wait-begins (here-of c.requires) c.pid-parent.result c.pid-parent.ensures (sym c.if-not-has_child.ensures)
    (rw c.argument.ensures at (sym c.if-not-can_answer.ensures)) (rw c.pending-pending.ensures at c.wait_on.ensures)
