use Rattle.imagecheck.proofs.Common.{◌<◌, ◌≤◌, length, get_or, ◌∙◌, arith, All-take, Naming}
use Rattle.std.proofs.Common.{length-set}
use Rattle.imagecheck.proofs.Collecting.{firsts_kept, firsts_more}
use Rattle.imagecheck.proofs.tables.find_firsts.Goals as goal
use Rattle.imagecheck.proofs.tables.find_firsts.Goals.{else-parents-number-eq0, then-parents-number-eq0}

pub loop-naming-preserved : goal.loop-naming-preserved
loop-naming-preserved c =
    let namings = c.args.namings.now in
    let parents = c.loop-naming.parents in
    let i = c.loop-naming.naming-index in
    let none : Naming = record { directory = 0; number = 0 } in
    let m : Naming = get_or namings i none in
    let inv = c.loop-naming.invariant in
    let within = c.loop-naming-test.true in
    let high : m.number < length parents = omega (arith, c.requires.within i none within, inv.long) in
    let some = All-take (λ (y : Naming). 1 ≤ y.directory) i namings c.requires.some in
    elim c.if-parents-number-eq0.branch [
      | then-parents-number-eq0 w ↦ rw w.parents-is
          (record {
            long = length-set parents m.number m.directory ∙ inv.long;
            found = firsts_more namings i none within parents inv.found high some w.if-parents-number-eq0.true;
          })
      | else-parents-number-eq0 w ↦ rw w.parents-is
          (record {
            long = inv.long;
            found = firsts_kept namings i none within parents inv.found high some w.if-parents-number-eq0.false;
          })
    ]
