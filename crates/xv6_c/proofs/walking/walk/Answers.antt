use Rattle.std.proofs.Common.{None, Some, subst}
use Rattle.machine.specs.View.{View}
use Rattle.unixmodel.specs.Shown.{shown_process}
use Rattle.xv6_c.proofs.ShownWalks.{no-walk, some-walk}
use Rattle.xv6_c.specs.Walked.{ShowsWalk}
use Rattle.xv6_c.proofs.walking.walk.Goals as goal

pub returns-in_default : goal.returns-in_default
returns-in_default c =
    subst (λ (m : View). ShowsWalk (shown_process m.state c.args.pid) c.args.address None) c.machine.ensures
    (no-walk _ c.args.address c.in_default.ensures.some)

pub returns : goal.returns
returns c =
    subst (λ (m : View). ShowsWalk (shown_process m.state c.args.pid) c.args.address (Some c.entries.result))
    c.machine.ensures
    (some-walk _ c.args.address c.in-Some.ram.now c.in-Some.root.0 c.entries.result c.in-Some.ensures.some
    c.in-Some.ensures.shows c.entries.ensures)
