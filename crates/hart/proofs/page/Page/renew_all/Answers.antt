use Rattle.hart.proofs.Common.{arith, inl, inr, refl, ◌∙◌}
use Rattle.hart.proofs.Pages.{renewed-now, renewed-others}
use Rattle.hart.proofs.page.Page.renew_all.Goals as goal

pub loop-k-init : goal.loop-k-init
loop-k-init c = record {
  now = λ j since less. absurd (omega (arith, since, less));
  others = λ j side. refl;
  parts = refl;
}

pub loop-k-preserved : goal.loop-k-preserved
loop-k-preserved c = record {
  now = renewed-now c.loop-k.self.words c.renew.new.self.words c.loop-k.k c.renew.ensures.others c.args.ram.now
      c.args.f.0 c.loop-k.invariant.now
      (c.renew.ensures.is ∙ c.load_u32.ensures);
  others = renewed-others c.loop-k.self.words c.renew.new.self.words c.loop-k.k c.renew.ensures.others
      c.args.self.now.words c.loop-k.auto.k c.loop-k.invariant.others;
  parts = c.renew.ensures.parts ∙ c.loop-k.invariant.parts;
}

pub returns-clause-now : goal.returns-clause-now
returns-clause-now c = λ j since less. c.loop-k.invariant.now j since (omega (arith, less, c.loop-k-test.false))

pub returns-clause-others : goal.returns-clause-others
returns-clause-others c = λ j side. c.loop-k.invariant.others j (elim side [
  | inl less ↦ inl less
  | inr more ↦ inr (omega (arith, more, c.loop-k.auto.k-end))
])
