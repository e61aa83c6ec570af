use Rattle.std.proofs.Common.{◌≡◌, IfSome, Option, sym, subst, ◌∙◌}
use Rattle.unixmodel.specs.Spell.{Fits, spell}
use Rattle.unixmodel.specs.Words.{instruction_of}
use Rattle.unixmodel.specs.declared.instr.Instr.{Instr}
use Rattle.isa.proofs.Words.{agrees}
use Rattle.isa.proofs.decoder.decode.Goals as goal

pub returns-clause-is : goal.returns-clause-is
returns-clause-is c = agrees c.args.word c.spelled_by.result c.spelled_by.ensures.found c.spelled_by.ensures.only

pub returns-clause-law : goal.returns-clause-law
returns-clause-law c = λ instr fits.
    let is : c.spelled_by.result ≡ instruction_of c.args.word =
    agrees c.args.word c.spelled_by.result c.spelled_by.ensures.found c.spelled_by.ensures.only in (
      (λ e. (subst (λ (r : Option Instr). IfSome r (λ j. Fits j × (spell j ≡ c.args.word))) (is ∙ e)
          c.spelled_by.ensures.found).1),
      (λ e. sym is ∙ c.spelled_by.ensures.only instr fits e),
    )
