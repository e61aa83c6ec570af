use Rattle.imagecheck.proofs.Common.{◌<◌, cond, length, get_or, ◌∙◌, arith, refl, ◌==◌, sum_by_more, Naming}
use Rattle.std.proofs.Common.{length-set}
use Rattle.imagecheck.proofs.Collecting.{counted_more}
use Rattle.imagecheck.proofs.tables.count_names.Goals as goal

pub loop-naming-preserved : goal.loop-naming-preserved
loop-naming-preserved c =
    let namings = c.args.namings.now in
    let counts = c.loop-naming.counts in
    let i = c.loop-naming.naming-index in
    let none : Naming = record { directory = 0; number = 0 } in
    let m : Naming = get_or namings i none in
    let inv = c.loop-naming.invariant in
    let high : m.number < length counts = omega (arith, c.requires.within i none c.loop-naming-test.true, inv.long) in
    let long = length-set counts _ _ in
    record {
      long = long ∙ inv.long;
      counted = λ k l. rw (
        counted_more counts m.number k high,
        inv.counted k (omega arith),
        sum_by_more (λ (y : Naming). cond (y.number == k) 1 0) namings i none c.loop-naming-test.true,
      ) refl;
    }
