use Rattle.std.proofs.Common.{refl, rules, ◌∙◌}
use Rattle.cache.proofs.Flushing.{set-all, set-more, set-none, set-within}
use Rattle.cache.proofs.held.set_held.Goals as goal

pub set-requires : goal.set-requires
set-requires g c = set-within _ _ _ c.requires c.block.invariant.0 c.in-Some.ensures.steps

pub block-init : goal.block-init
block-init g c = (set-none _ _ _ (search rules), refl, refl)

pub block-preserved : goal.block-preserved
block-preserved g c = (
  set-more _ _ _ c.requires c.block.invariant.0 c.in-Some.ensures.steps c.set.ensures.content,
  c.set.ensures.identity ∙ c.block.invariant.1,
  c.set.ensures.failures ∙ c.block.invariant.2,
)

pub returns-clause-content : goal.returns-clause-content
returns-clause-content g c = set-all _ c.block.invariant.0 c.in-None.ensures.steps.0
