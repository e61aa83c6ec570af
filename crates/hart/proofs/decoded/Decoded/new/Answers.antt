use Rattle.hart.proofs.Pages.{all_none}
use Rattle.hart.proofs.decoded.Decoded.new.Goals as goal

pub invariant_of-push : goal.invariant_of-push
invariant_of-push c = record { decoded = all_none }
