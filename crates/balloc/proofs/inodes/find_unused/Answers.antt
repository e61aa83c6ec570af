use Rattle.balloc.proofs.Common.{◌≢◌, ℕ, ◌-◌, ◌*◌, ◌/◌, ◌%◌, ◌<◌, ◌≤◌, ◌∙◌, arith, refl, goes-after, goes-stays}
use Rattle.balloc.proofs.Common.{read-done, step-failed}
use Rattle.balloc.proofs.Clearing.{kind_in, lowest_here, used_up_to}
use Rattle.balloc.proofs.inodes.find_unused.Goals as goal

pub scan-init : goal.scan-init
scan-init g c = record {
  disk = refl;
  goes = goes-stays;
  from = omega arith;
  used_so_far = λ m low high. absurd (omega (arith, low, high));
}

pub returns-in_err-block : goal.returns-in_err-block
returns-in_err-block g c = step-failed c.scan.invariant.goes c.read.ensures c.in_err-block.was c.from_residual.ensures.1

pub returns-in-Some : goal.returns-in-Some
returns-in-Some g c =
    read-done (goes-after c.scan.invariant.goes c.read.ensures.goes)
    (c.in_ok-block.ensures.done.same ∙ c.scan.invariant.disk)
    (lowest_here c.scan.n (rw c.at.ensures.block at c.in_ok-block.ensures.done.told) c.scan.invariant.disk
    c.args.geometry c.in-Some.i
    (omega (arith, c.in-Some.ensures.some.1, c.min-end.ensures)) c.in-Some.ensures.some.0 c.scan.invariant.from
    (omega (arith, c.in-Some.ensures.some.1, c.min-end.ensures))
    c.in-Some.ensures.some.2 c.scan.invariant.used_so_far c.in-Some.ensures.lowest)

pub scan-preserved : goal.scan-preserved
scan-preserved g c =
    let none : (k : ℕ) → c.scan.n % 16 ≤ k → k < c.min-end.result - c.scan.n / 16 * 16
    → kind_in c.in_ok-block.block k ≢ 0 = rw c.in_default.is at c.first_unused.ensures.none in
    record {
      disk = c.in_ok-block.ensures.done.same ∙ c.scan.invariant.disk;
      goes = goes-after c.scan.invariant.goes c.read.ensures.goes;
      from = omega (arith, c.scan.invariant.from, c.scan-test.true, c.min-end.ensures);
      used_so_far = λ m low high. used_up_to c.scan.n (rw c.at.ensures.block at c.in_ok-block.ensures.done.told)
          c.scan.invariant.disk (c.min-end.result - c.scan.n / 16 * 16)
          (omega (arith, c.min-end.ensures)) c.scan.invariant.used_so_far none m low
          (omega (arith, high, c.min-end.ensures, c.scan-test.true));
    }

pub returns : goal.returns
returns g c = read-done c.scan.invariant.goes c.scan.invariant.disk
    (λ n low high. c.scan.invariant.used_so_far n low (omega (arith, high, c.scan-test.false)))
