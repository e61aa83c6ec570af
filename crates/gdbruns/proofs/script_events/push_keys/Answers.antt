use Rattle.std.proofs.Common.{refl}
use Rattle.gdbruns.proofs.Lines.{key-more}
use Rattle.gdbruns.proofs.script_events.push_keys.Goals as goal

pub loop-key-preserved : goal.loop-key-preserved
loop-key-preserved c =
    key-more _ _ _ c.args.keys.now c.loop-key.key-index _ c.loop-key-test.true refl c.loop-key.invariant
    c.in_ok-push.ensures.ok
