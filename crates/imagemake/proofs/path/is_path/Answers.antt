use Rattle.imagemake.proofs.Common.{None, ap, drop, sym, false, true, ◌∙◌, take_rest, is_name}
use Rattle.imagemake.proofs.Pathing.{all_next, first-in, good_last, within_next}
use Rattle.imagemake.proofs.path.is_path.Goals as goal

pub returns-then-not-is_good_name : goal.returns-then-not-is_good_name
returns-then-not-is_good_name c =
    sym (all_next _ _ c.in-Some.end c.in-Some.ensures false (sym c.if-not-is_good_name.ensures)) ∙ c.name.invariant.rest

pub name-preserved : goal.name-preserved
name-preserved c = record {
  within = within_next _ _ c.in-Some.end c.in-Some.ensures;
  rest = sym (all_next _ _ c.in-Some.end c.in-Some.ensures true (sym c.if-not-is_good_name.ensures))
      ∙ c.name.invariant.rest;
}

pub returns : goal.returns
returns c =
    c.is_good_name-2.ensures ∙ ap is_name (take_rest c.args.path.now c.name.at)
    ∙ sym (good_last (drop c.name.at c.args.path.now) (first-in c.args.path.now c.name.at None c.in_default.ensures))
    ∙ c.name.invariant.rest
