use Rattle.std.proofs.Common.{◌≡◌, drop}
use Rattle.lines.specs.Found.{after_slash}
use Rattle.lines.proofs.table.without_directory.Given as goal

-- what comes after the last '/', of those so far and those that are left
abbrev pub invariant-loop-index : goal.invariant-loop-index
invariant-loop-index l = after_slash l.rest (drop l.index l.name) ≡ after_slash l.name l.name
