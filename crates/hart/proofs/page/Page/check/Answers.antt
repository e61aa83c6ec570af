use Rattle.hart.proofs.Pages.{part-checked}
use Rattle.hart.proofs.page.Page.check.Goals as goal

pub returns-clause-checked : goal.returns-clause-checked
returns-clause-checked c = rw c.refresh.ensures.parts
    (part-checked c.args.self.now.words c.refresh.new.self.words c.args.ram.now c.args.f.0 c.args.self.now.parts
    c.args.part c.refresh.ensures.now c.refresh.ensures.others c.requires.checked)
