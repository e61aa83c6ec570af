use Rattle.calls.proofs.Common.{argument, current, here-of, Replaces, subst}
use Rattle.calls.proofs.Opens.{exec-done, exec-refused}
use Rattle.calls.proofs.Names.{node-here}
use Rattle.calls.proofs.exec_call.exec_found.Goals as goal

pub replace-requires-clause-node : goal.replace-requires-clause-node
replace-requires-clause-node g c = node-here (here-of c.requires.runs) c.requires.reaches.path c.requires.reaches.found

pub returns-in-Some : goal.returns-in-Some
returns-in-Some g c =
    let e = subst (Replaces c.args.kernel.now c.replace.new.self (current c.args.kernel.now) c.args.number
    (argument c.args.kernel.now 1)) c.in-Some.is (rw c.argument-argv.ensures at c.in_ok-replaced.ensures) in
    exec-done (here-of c.requires.runs) c.requires.reaches e c.is_sound.ensures.sound

pub returns-in-None : goal.returns-in-None
returns-in-None g c =
    let e = subst (Replaces c.args.kernel.now c.replace.new.self (current c.args.kernel.now) c.args.number
    (argument c.args.kernel.now 1)) c.in-None.is (rw c.argument-argv.ensures at c.in_ok-replaced.ensures) in
    exec-refused (here-of c.requires.runs) c.requires.reaches e.0 e.1
