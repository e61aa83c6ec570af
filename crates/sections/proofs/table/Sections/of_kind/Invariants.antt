use Rattle.std.proofs.Common.{◌≡◌, drop}
use Rattle.sections.specs.Headers.{section_of_kind}
use Rattle.sections.proofs.table.Sections.of_kind.Given as goal

-- none of those so far has the type
abbrev pub invariant-loop-section : goal.invariant-loop-section
invariant-loop-section l =
    section_of_kind l.kind l.self.list.items ≡ section_of_kind l.kind (drop l.section-index l.self.list.items)
