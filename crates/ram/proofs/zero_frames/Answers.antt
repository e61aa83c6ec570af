use Rattle.std.proofs.Common.{◌≡◌, ℕ, replicate, sym, arith, refl}
use Rattle.std.proofs.lemmas.Grind.{replicate_next}
use Rattle.ram.proofs.zero_frames.Goals as goal

pub loop-preserved : goal.loop-preserved
loop-preserved c = rw (c.in_ok-push.ensures.items, c.loop.invariant, c.zeros.ensures)
    (sym (replicate_next c.loop.counter (replicate {A = ℕ} 4096 0)))

pub returns : goal.returns
returns c =
    let whole : c.loop.counter ≡ c.args.n = omega arith in
    rw (c.loop.invariant, whole) refl
