use Rattle.std.proofs.Common.{drop, map, ◌≡◌}
use Rattle.imagebytes.specs.Entries.{told_entries}
use Rattle.imagebytes.proofs.Reading.{joined}
use Rattle.imagemake.specs.Making.{entry_of}
use Rattle.imagebytes.proofs.entries.manifest_of.Given as goal

-- the entries so far, and those that the rest of the bytes has
abbrev pub invariant-loop-one : goal.invariant-loop-one
invariant-loop-one l =
    told_entries l.told l.bytes ≡ joined (map entry_of l.entries.items) (told_entries (drop l.one-index l.told) l.rest)
