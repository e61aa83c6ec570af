use Rattle.std.proofs.Common.{Bor, List, Some, ap, arith, option_map, rules, sym, ℕ, ◌∙◌}
use Rattle.std.proofs.lemmas.Grind.{common_steps}
use Rattle.explanations.proofs.Parts.{ends, found, goes-on}
use Rattle.explanations.proofs.words.line_of.Goals as goal

pub loop-line-preserved : goal.loop-line-preserved
loop-line-preserved c =
    let more = sym c.after_line.ensures ∙ ap (λ o. option_map (λ (b : Bor (List ℕ)). b.now) o) c.in_ok-rest.was in
    (search rules, goes-on _ _ _ _ c.loop-line.invariant.1 _ c.loop-line-test.true more)

pub returns-in_err-rest : goal.returns-in_err-rest
returns-in_err-rest c =
    let no_more = sym c.after_line.ensures ∙ ap (λ o. option_map (λ (b : Bor (List ℕ)). b.now) o) c.in_err-rest.was in
    let is = ends _ _ _ _ c.loop-line.invariant.1 c.loop-line-test.true no_more in
    first_of (search rules, cc, grind (arith, common_steps))

pub returns : goal.returns
returns c = ap (λ line. Some line) c.first_line.ensures ∙ found _ _ _ _ c.loop-line.invariant.1 (omega arith)
