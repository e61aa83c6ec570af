use Rattle.std.proofs.Common.{◌≡◌, drop}
use Rattle.debug_sections.specs.Labels.{names_from, with_names}
use Rattle.debug_sections.proofs.labels.put_names.Given as goal

-- the names that are left, after those so far
abbrev pub invariant-loop-label : goal.invariant-loop-label
invariant-loop-label l = names_from l.out.items (drop l.label-index l.labels) ≡ with_names l.fn.out.items l.labels
