use Rattle.tree.proofs.Common.{ap, length, ◌∙◌}
use Rattle.tree.proofs.Storing.{copied-inside}
use Rattle.tree.proofs.tree.Tree.copy_from.Goals as goal

pub invariant_of-self-2 : goal.invariant_of-self-2
invariant_of-self-2 g c =
    copied-inside c.source.inside _ c.if-not-copy_from.ensures.copied
    (ap length (c.copy_from_slice.ensures.items ∙ c.as_slice.ensures.value)) c.source.invariant
