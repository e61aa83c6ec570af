use Rattle.std.proofs.Common.{rules, sym, ◌∙◌}
use Rattle.std.proofs.lemmas.Bool.{OnTrue_from}
use denote.Enum.Bare.{same_true}
use Rattle.unixmodel.specs.contracts.call.Call.{the_type}
use Rattle.likeness.proofs.processes.is_same_call.Goals as goal

pub returns : goal.returns
returns c = OnTrue_from c.eq.result _ (λ agreed. same_true the_type (search rules) _ _ (sym c.eq.ensures ∙ agreed))
