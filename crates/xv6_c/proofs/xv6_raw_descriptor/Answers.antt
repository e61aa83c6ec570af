use Rattle.std.proofs.Common.{subst}
use Rattle.session.specs.Held.{ShowsDescriptor}
use Rattle.session.specs.declared.session.Session.{Session}
use Rattle.xv6_c.proofs.xv6_raw_descriptor.Goals as goal

pub returns-clause-put : goal.returns-clause-put
returns-clause-put c = (
  c.descriptor.result,
  subst (λ (s : Session). ShowsDescriptor s.machine c.args.pid c.args.descriptor c.descriptor.result)
      c.get_mut.ensures.value c.descriptor.ensures,
  c.put.ensures,
)
