use Rattle.calls.proofs.Common.{has-current, Rises, sym}
use Rattle.calls.proofs.Pieces.{silent}
use Rattle.calls.proofs.many_steps.advance.Goals as goal

pub instruct_many-requires-clause-running : goal.instruct_many-requires-clause-running
instruct_many-requires-clause-running g c = has-current (sym c.in-Some.ensures)

pub returns-in-None-clause-does : goal.returns-in-None-clause-does
returns-in-None-clause-does g c =
    let at = g.W.Out.contents c.args.console.now in
    let failures = g.W.Out.failures c.args.console.now in
    silent c.args.kernel.now c.turn_once.new.kernel
    at at (Rises failures failures) (c.turn_once.ensures.does at c.args.most c.requires.some)
