use Rattle.std.proofs.Common.{None, Option, arith, refl, sym, ◌≡◌}
use Rattle.std.proofs.lemmas.Grind.{replicate_next}
use Rattle.unixmodel.specs.Files.{free_slots}
use Rattle.proc.proofs.Common.{Process}
use Rattle.proc.proofs.table.free_places.Goals as goal

pub loop-preserved : goal.loop-preserved
loop-preserved c = rw (c.in_ok-push.ensures.items, c.loop.invariant)
    (sym (replicate_next {X = Option Process} c.loop.counter None))

pub returns : goal.returns
unfolding free_slots
returns c = let whole : c.loop.counter ≡ 64 = omega arith in rw (c.loop.invariant, whole) refl
