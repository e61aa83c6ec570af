use Rattle.imagecheck.proofs.Common.{◌≢◌, ◌<◌, ℕ, arith, get_or, subst, sym, AllPairs, Decides-like}
use Rattle.imagecheck.proofs.Entering.{all-trimmed, names-from_numbers, numbers-from_names}
use Rattle.imagecheck.proofs.Judging.{refused}
use Rattle.imagecheck.proofs.directories.has_names.Goals as goal

pub returns-then-not-are_good : goal.returns-then-not-are_good
returns-then-not-are_good c = refused c.if-not-are_good.true c.are_good.ensures (λ h. h.good)

pub returns : goal.returns
returns c =
    let bytes = c.args.bytes.now in
    let fits : (i : ℕ) → get_or bytes i 0 < 256 = λ i. omega (arith, c.type_inv.bytes i) in
    Decides-like _ (λ pairs. record {
      good = c.are_good.ensures.0 c.if-not-are_good.false;
      once = names-from_numbers _ (subst (AllPairs (λ a b. a ≢ b)) c.requires.names pairs);
    }) (λ h. subst (AllPairs (λ a b. a ≢ b)) (sym c.requires.names)
    (numbers-from_names _ (all-trimmed bytes fits) h.once))
    c.are_distinct.ensures
