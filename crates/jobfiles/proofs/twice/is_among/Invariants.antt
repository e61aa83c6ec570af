use Rattle.std.specs.List.{AllWithin}
use Rattle.jobfiles.specs.Apart.{IsOther}
use Rattle.jobfiles.proofs.twice.is_among.Given as goal

-- none of those so far is this name
abbrev pub invariant-loop-other : goal.invariant-loop-other
invariant-loop-other g l = AllWithin (IsOther l.name) l.others 0 l.other-index
