use Rattle.std.proofs.Common.{arith, inl, inr, subst, sym, ◌≡◌}
use Rattle.std.proofs.lemmas.Bool.Decides.{leb_tells}
use Rattle.jobfiles.specs.Apart.{IsApartAt}
use Rattle.jobfiles.proofs.twice.named_twice.Goals as goal

pub loop-index-preserved : goal.loop-index-preserved
loop-index-preserved g c = λ i default less.
    let outputs = c.names_of.result.outputs in
    let others = c.names_of.result.others in
    elim (leb_tells c.loop-index.index i) [
      | inl here ↦ let at : i ≡ c.loop-index.index = omega (arith, less, here.1) in
          subst (λ n. IsApartAt outputs others n default) (sym at) (c.in_default.ensures default)
      | inr before ↦ c.loop-index.invariant i default before.1
    ]
