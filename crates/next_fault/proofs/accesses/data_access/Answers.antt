use Rattle.std.proofs.Common.{◌∙◌}
use Rattle.next_fault.proofs.Cycles.{access-seen}
use Rattle.unixmodel.specs.Shown.{shown_process}
use Rattle.next_fault.proofs.accesses.data_access.Goals as goal

pub returns : goal.returns
returns g c =
    c.access_at.ensures
    ∙ access-seen (shown_process c.args.machine.now.state c.args.pid) c.in_ok-seen.seen c.in_ok-seen.ensures
