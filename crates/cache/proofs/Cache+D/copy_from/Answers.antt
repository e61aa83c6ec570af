use Rattle.std.proofs.Common.{ap, ◌∙◌}
use Rattle.cache.proofs.Overlays.{AreKept-nil, overlay-nil}
use Rattle.cache.proofs.Flushing.{inside-kept}
use Rattle.cache.proofs.Common.{overlay}
use Rattle.cache.proofs.Cache+D.copy_from.Goals as goal

pub set_held-requires : goal.set_held-requires
set_held-requires g c = rw c.if-not-copy_from.ensures.copied (inside-kept _ _ _ c.source.invariant)

pub invariant_of-self-2 : goal.invariant_of-self-2
invariant_of-self-2 g c = rw c.clear.ensures (AreKept-nil _ _)

pub returns-clause-copied : goal.returns-clause-copied
returns-clause-copied g c =
    let copied = c.if-not-copy_from.ensures.copied in
    rw (← c.source.view_is, c.clear.ensures) (record {
      blocks = overlay-nil _ ∙ c.set_held.ensures.content
          ∙ ap (λ d. overlay c.source.inside.held.entries (g.D.BlockDev.content d)) copied;
      same_device = c.set_held.ensures.identity ∙ ap g.D.BlockDev.identity copied;
      failures = c.set_held.ensures.failures ∙ ap g.D.BlockDev.failures copied;
    })
