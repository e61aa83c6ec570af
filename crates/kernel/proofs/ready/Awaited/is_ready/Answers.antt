use Rattle.kernel.proofs.Common.{awaited, None, rules, sym, ◌∙◌}
use Rattle.kernel.proofs.Readies.{ready-seen}
use Rattle.kernel.proofs.ready.Awaited.is_ready.Goals as goal

pub returns-in-Some-Some : goal.returns-in-Some-Some
returns-in-Some-Some g c =
    let at = c.in-Some-Some.ensures.lookup in
    c.is_process_ready.ensures
    ∙ sym (ready-seen (awaited c.args.self.now) _ _ _ (sym (at.3.1 None) ∙ c.in-Some-Some.field-0-is))

pub returns-in_default : goal.returns-in_default
returns-in_default g c = sym (ready-seen (awaited c.args.self.now) _ _ None (search rules))

pub returns-in_default-2 : goal.returns-in_default-2
returns-in_default-2 g c = sym (ready-seen (awaited c.args.self.now) _ _ None (search rules))
