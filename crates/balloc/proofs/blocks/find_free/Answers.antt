use Rattle.balloc.proofs.Common.{◌-◌, ◌*◌, ◌/◌, ◌%◌, sym, ◌∙◌, arith, refl, goes-after, goes-stays, read-done}
use Rattle.balloc.proofs.Common.{step-failed}
use Rattle.balloc.proofs.Clearing.{clear_found, first_here, set_here}
use Rattle.balloc.proofs.blocks.find_free.Goals as goal

pub scan-init : goal.scan-init
scan-init g c = record {
  disk = refl;
  goes = goes-stays;
  from = omega arith;
  set_so_far = λ k low high. absurd (omega (arith, low, high));
}

pub returns-in_err-block : goal.returns-in_err-block
returns-in_err-block g c = step-failed c.scan.invariant.goes c.read.ensures c.in_err-block.was c.from_residual.ensures.1

pub overflow_add-result : goal.overflow_add-result
overflow_add-result g c =
    let at = clear_found c.in_ok-block.block (c.scan.b % 8192) (c.min-end.result - c.scan.b / 8192 * 8192)
    (omega (arith, c.min-end.ensures, c.scan-test.true)) c.in-Some.i (sym c.in-Some.ensures) in
    let inside = at.1 in
    record { fits = omega (arith, c.min-end.ensures, c.requires.parts.size_high) }

pub returns-in-Some : goal.returns-in-Some
returns-in-Some g c =
    read-done (goes-after c.scan.invariant.goes c.read.ensures.goes)
    (c.in_ok-block.ensures.done.same ∙ c.scan.invariant.disk)
    (first_here c.args.geometry c.scan.b c.bitmap_start-start.ensures c.in_ok-block.ensures.done.told
    c.scan.invariant.disk
    c.args.from c.scan.invariant.set_so_far (c.min-end.result - c.scan.b / 8192 * 8192)
    (omega (arith, c.min-end.ensures, c.scan-test.true)) (omega (arith, c.min-end.ensures)) c.requires.from
    c.scan.invariant.from
    (omega (arith, c.min-end.ensures, c.scan-test.true)) c.in-Some.i (sym c.in-Some.ensures))

pub scan-preserved : goal.scan-preserved
scan-preserved g c = record {
  disk = c.in_ok-block.ensures.done.same ∙ c.scan.invariant.disk;
  goes = goes-after c.scan.invariant.goes c.read.ensures.goes;
  from = omega (arith, c.scan.invariant.from, c.scan-test.true, c.min-end.ensures);
  set_so_far = λ k low high.
      set_here c.args.geometry c.scan.b c.bitmap_start-start.ensures c.in_ok-block.ensures.done.told
      c.scan.invariant.disk
      c.args.from c.scan.invariant.set_so_far (c.min-end.result - c.scan.b / 8192 * 8192)
      (omega (arith, c.min-end.ensures, c.scan-test.true)) (omega (arith, c.min-end.ensures))
      (sym c.first_clear.ensures ∙ c.in_default.is) k low
      (omega (arith, high, c.min-end.ensures, c.scan-test.true));
}

pub returns : goal.returns
returns g c = read-done c.scan.invariant.goes c.scan.invariant.disk
    (λ b low high. c.scan.invariant.set_so_far b low (omega (arith, high, c.scan-test.false)))
