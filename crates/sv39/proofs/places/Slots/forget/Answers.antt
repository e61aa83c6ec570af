use Rattle.sv39.proofs.Placed.{forgotten}
use Rattle.sv39.proofs.places.Slots.forget.Goals as goal

pub returns : goal.returns
returns g c = λ root page frame. rw (← c.self.view_is) (forgotten g.row.N c.args.at (record {
  pages = c.self.inside.pages;
  roots = c.self.inside.roots;
  frames = c.self.inside.frames;
}) root page frame)
