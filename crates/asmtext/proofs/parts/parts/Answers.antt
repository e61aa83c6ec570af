use Rattle.std.proofs.Common.{arith, rules, sym, ◌∙◌}
use Rattle.asmtext.proofs.PartLemmas.{no_parts, some_parts}
use Rattle.asmtext.proofs.parts.parts.Goals as goal

pub returns-then-blanks_before-symbols : goal.returns-then-blanks_before-symbols
returns-then-blanks_before-symbols c =
    rw (
      c.new.ensures.items,
      no_parts c.args.symbols.now (sym c.blanks_before.ensures.is ∙ c.if-blanks_before-symbols.true),
    ) (search rules)

pub returns : goal.returns
returns c =
    let cut = some_parts c.args.symbols.now c.deref.result.now (λ e. absurd (omega (arith, e))) (search rules) in
    rw cut at c.all_trimmed.ensures
