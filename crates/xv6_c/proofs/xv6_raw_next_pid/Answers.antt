use Rattle.std.proofs.Common.{ap, is_some, subst, ◌∙◌}
use Rattle.machine.specs.View.{View}
use Rattle.proc.specs.Next.{IsNextOf}
use Rattle.session.specs.declared.session.Session.{Session}
use Rattle.unixmodel.specs.Shown.{shown_process}
use Rattle.xv6_c.proofs.xv6_raw_next_pid.Goals as goal

pub returns-clause-next : goal.returns-clause-next
returns-clause-next c = (
  c.next_pid.result,
  c.of_pid.ensures,
  subst (λ (m : View). IsNextOf (λ pid. is_some (shown_process m.state pid)) c.args.after c.next_pid.result)
      (c.machine.ensures ∙ ap (λ (s : Session). s.machine) c.get_mut.ensures.value) c.next_pid.ensures,
)
