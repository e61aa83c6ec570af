use Rattle.cache.proofs.Flushing.{more}
use Rattle.cache.proofs.held.duplicates.Goals as goal

pub block-preserved : goal.block-preserved
block-preserved c = more _ _ _ _ _ _ _ c.len.ensures.valid c.block.invariant c.in-Some.ensures.steps
    c.in_ok-put.ensures.entries
