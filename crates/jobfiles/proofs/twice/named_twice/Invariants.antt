use Rattle.std.proofs.Common.{ℕ, ◌<◌}
use Rattle.commandline.specs.Names.{Name}
use Rattle.jobfiles.specs.Apart.{IsApartAt}
use Rattle.jobfiles.proofs.twice.named_twice.Given as goal

-- the outputs so far are apart from all later names
abbrev pub invariant-loop-index : goal.invariant-loop-index
invariant-loop-index g l = (i : ℕ) (default : Name) → i < l.index → IsApartAt l.outputs l.others i default
