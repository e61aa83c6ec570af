use Rattle.std.proofs.Common.{◌≡◌, drop}
use Rattle.sections.specs.Headers.{section_named}
use Rattle.sections.proofs.table.Sections.named.Given as goal

-- none of those so far has the name
abbrev pub invariant-loop-section : goal.invariant-loop-section
invariant-loop-section l =
    section_named l.self.names.now l.name l.self.list.items
    ≡ section_named l.self.names.now l.name (drop l.section-index l.self.list.items)
