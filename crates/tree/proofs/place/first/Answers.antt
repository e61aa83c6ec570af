use Rattle.tree.proofs.Common.{below_more, ◌≡◌, ◌≤◌, false, ap, sym, ◌∙◌, arith, is_sought, place_in, place_of_bytes}
use Rattle.tree.proofs.Common.{number_at}
use Rattle.tree.proofs.place.first.Goals as goal

pub loop-k-preserved : goal.loop-k-preserved
loop-k-preserved c =
    below_more (λ j. 0 ≤ j → is_sought c.args.sought.now (place_in c.args.places.now j) ≡ false) c.loop-k.k
    c.loop-k.invariant
    (λ _. ap (λ b. is_sought c.args.sought.now (place_of_bytes b)) (sym c.place_at-place.ensures.place)
    ∙ sym c.is_sought.ensures ∙ c.if-is_sought.false)

pub returns-then-is_sought : goal.returns-then-is_sought
returns-then-is_sought c =
    let place = c.place_at-place.ensures.place in
    record {
      behind = omega arith;
      within = omega arith;
      before = c.loop-k.invariant;
      here = ap (λ b. is_sought c.args.sought.now (place_of_bytes b)) (sym place) ∙ sym c.is_sought.ensures
          ∙ c.if-is_sought.true;
      number = c.from.ensures ∙ c.number_in.ensures ∙ ap (number_at 2 0) place;
    }
