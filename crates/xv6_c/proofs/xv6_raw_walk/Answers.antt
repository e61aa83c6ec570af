use Rattle.std.proofs.Common.{subst}
use Rattle.session.specs.declared.session.Session.{Session}
use Rattle.unixmodel.specs.Shown.{shown_process}
use Rattle.xv6_c.specs.Walked.{ShowsWalk}
use Rattle.xv6_c.proofs.xv6_raw_walk.Goals as goal

pub returns-clause-put : goal.returns-clause-put
returns-clause-put c = (
  c.walk.result,
  subst (λ (s : Session). ShowsWalk (shown_process s.machine.state c.args.pid) c.args.address c.walk.result)
      c.get_mut.ensures.value c.walk.ensures,
  c.put.ensures,
)
