use Rattle.hart.proofs.Pages.{none-checked}
use Rattle.hart.proofs.page.Page.forget.Goals as goal

pub returns : goal.returns
returns c = λ ram f. none-checked c.args.self.now.words ram f
