use Rattle.std.proofs.Common.{List, ap, arith, sym, ℕ, ◌++◌, ◌+◌, ◌-◌, ◌∙◌, ◌≡◌}
use Rattle.gdbstate.specs.Looks.{bytes_shown}
use Rattle.gdbstate.proofs.Bytes.{reaches, stops-here, whole}
use Rattle.gdbstate.proofs.looks.bytes_at.Goals as goal

pub returns-in-None : goal.returns-in-None
returns-in-None c =
    stops-here c.args.machine.now.state c.args.pid c.args.address c.loop-index.index c.args.count
    c.loop-index.bytes.items c.loop-index.invariant c.in-None.ensures

pub loop-index-preserved : goal.loop-index-preserved
loop-index-preserved c =
    reaches c.args.machine.now.state c.args.pid c.args.address c.loop-index.index c.args.count c.in-Some.byte
    c.loop-index.bytes.items c.loop-index-test.true c.loop-index.invariant c.in-Some.ensures
    ∙ ap (λ (bytes : List ℕ). bytes ++ bytes_shown c.args.machine.now.state c.args.pid
    (c.args.address + (c.loop-index.index + 1)) (c.args.count - (c.loop-index.index + 1)))
    (sym c.in_ok-extend_from_slice-in-Some.ensures.items)

pub returns : goal.returns
returns c =
    let all = c.loop-index-test.false in
    whole c.args.machine.now.state c.args.pid c.args.address c.loop-index.index c.args.count
    c.loop-index.bytes.items c.loop-index.invariant (grind (arith, all))
