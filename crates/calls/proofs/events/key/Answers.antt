use Rattle.calls.proofs.Takes.{keys-made, next-keys}
use Rattle.calls.proofs.events.key.Goals as goal

pub returns-in-Ok-clause-gives : goal.returns-in-Ok-clause-gives
returns-in-Ok-clause-gives g c =
    keys-made c.args.kernel.now c.type_key.new.self c.args.byte (g.W.Out.contents c.args.console.now)
    (g.W.Out.contents c.type_key.new.out) c.in-Ok.ensures.ok c.in-Ok.ensures.echo

pub returns-in-Err-Writer-clause-gives : goal.returns-in-Err-Writer-clause-gives
returns-in-Err-Writer-clause-gives g c =
    let k = c.args.kernel.now in
    rw (next-keys k c.args.byte) (c.in-Err-Writer.ensures.cause, c.in-Err-Writer.ensures.beginning)
