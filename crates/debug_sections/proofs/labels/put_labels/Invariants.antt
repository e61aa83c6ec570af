use Rattle.std.proofs.Common.{◌≡◌, drop}
use Rattle.debug_sections.specs.Labels.{labels_from, with_labels}
use Rattle.debug_sections.proofs.labels.put_labels.Given as goal

-- the labels that are left, after those so far
abbrev pub invariant-loop-label : goal.invariant-loop-label
invariant-loop-label l =
    labels_from l.out.items l.name (drop l.label-index l.labels) ≡ with_labels l.fn.out.items l.labels
