use Rattle.std.proofs.Common.{subst}
use Rattle.session.specs.Held.{ShowsPipe}
use Rattle.session.specs.declared.session.Session.{Session}
use Rattle.unixmodel.specs.Files.{slot}
use Rattle.xv6_c.proofs.xv6_raw_pipe.Goals as goal

pub returns-clause-put : goal.returns-clause-put
returns-clause-put c = (
  c.pipe.result,
  subst (λ (s : Session). ShowsPipe (slot s.machine.state.pipes c.args.number) c.args.out.now c.pipe.new.out
      c.pipe.result)
      c.get_mut.ensures.value c.pipe.ensures,
  c.put.ensures,
)
