use Rattle.std.proofs.Common.{◌≡◌, ◌++◌, ◌-◌, map}
use Rattle.sections.specs.Headers.{pieces, section_in}
use Rattle.sections.proofs.table.listed.Given as goal

-- the sections so far, and those of the headers that are left
abbrev pub invariant-loop : goal.invariant-loop
invariant-loop l =
    l.list.items ++ map section_in (pieces 64 (l.count - l.counter) l.rest) ≡ map section_in (pieces 64 l.count l.table)
