use Rattle.hart.proofs.Common.{get_or-set_other, rules}
use Rattle.hart.proofs.Pages.{one_decoded}
use Rattle.hart.proofs.page.Page.decode.Goals as goal

pub invariant_of-self : goal.invariant_of-self
invariant_of-self c = record {
  decoded = one_decoded c.args.self.now.words c.args.self.now.ops c.args.k c.args.word _ c.args.self.now.decoded
      (search rules) (search rules) c.requires c.flatten.ensures;
}

pub returns-clause-others : goal.returns-clause-others
returns-clause-others c = λ j other. get_or-set_other c.args.self.now.words c.args.k j c.args.word 0 other
