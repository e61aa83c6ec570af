use Rattle.hart.proofs.Pages.{none-known}
use Rattle.hart.proofs.decoded.Decoded.recall.Goals as goal

pub returns-then-not-self : goal.returns-then-not-self
returns-then-not-self c = λ ram knows. rw c.new-self.ensures (none-known _ _ ram)
