use Rattle.std.proofs.Common.{◌≡◌, false}
use Rattle.name_rules.specs.Rules.{KeepsTree}
use Rattle.disk_tests.proofs.named.first_wrong.Given as goal

-- no access has failed, and the files keep the rules of names
abbrev pub invariant-loop-row : goal.invariant-loop-row
invariant-loop-row g l = (l.files.failed ≡ false) × KeepsTree l.files.files
