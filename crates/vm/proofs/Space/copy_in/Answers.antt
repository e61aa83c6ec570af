use Rattle.vm.proofs.Common.{◌≡◌, ◌+◌, ◌-◌, ◌≤◌, ◌++◌, length, take, Some, None, sym, ap, ◌∙◌, arith, if◌then◌else◌}
use Rattle.vm.proofs.Common.{leb-true, take_all, Load, reach, pages_of, IsSized}
use Rattle.std.proofs.lemmas.Slice.{take-put_mid}
use Rattle.vm.proofs.PageLemmas.{length-pages, pages-sized}
use Rattle.vm.proofs.ReachLemmas.{reach-page, reach-next}
use Rattle.vm.proofs.Space.copy_in.Goals as goal
use Rattle.vm.proofs.Space.copy_in.Goals.{In-loop-done}

-- the pages are whole, and all bytes that are asked for are reached
sized : (c : In-loop-done) → IsSized (pages_of c.args.ram.now c.args.self.now)
sized c = pages-sized _ _ _ _ c.frames_are_whole.ensures.memory c.requires

long : (c : In-loop-done)
    → length c.args.buffer.now ≤ length (reach Load (pages_of c.args.ram.now c.args.self.now) c.args.address)
long c = leb-true _ _ (sym c.if-not-can_read.ensures.reach)

pub overflow_add-address : goal.overflow_add-address
overflow_add-address c =
    let next = reach-page Load _ c.args.address c.loop-done.done (sized c) (omega (arith, long c)) in
    omega (arith, next.0, length-pages, c.requires.small)

pub loop-done-smaller : goal.loop-done-smaller
loop-done-smaller c =
    let at = (goal.at.loop-done-smaller c).In-loop-done in
    omega (
      arith,
      (reach-page Load _ c.args.address c.loop-done.done (sized at) (omega (arith, long at))).1,
      ap length c.readable-piece.ensures,
    )

pub loop-done-preserved : goal.loop-done-preserved
loop-done-preserved c =
    let at = (goal.at.loop-done-preserved c).In-loop-done in
    let mem = pages_of c.args.ram.now c.args.self.now in
    let d = c.loop-done.done in
    let n = c.min-len.result in
    record {
      within = omega arith;
      same = take-put_mid d (d + n - d) c.loop-done.buffer c.copy_from_slice.new.self (d + n)
          (omega (arith, c.copy_from_slice.ensures.len)) (omega arith)
          ∙ ap (λ l. l ++ c.copy_from_slice.new.self) c.loop-done.invariant.same
          ∙ ap (λ l. take d (reach Load mem c.args.address) ++ l)
          (c.copy_from_slice.ensures.after ∙ ap (take n) c.readable-piece.ensures)
          ∙ reach-next Load mem c.args.address d n (sized at) (omega (arith, long at))
          (omega (arith, ap length c.readable-piece.ensures));
    }

pub returns-clause-read : goal.returns-clause-read
returns-clause-read c =
    let mem = pages_of c.args.ram.now c.args.self.now in
    let n = length c.args.buffer.now in
    let i = c.loop-done.invariant in
    let all : c.loop-done.done ≡ n = omega arith in
    let same : c.loop-done.buffer ≡ take n (reach Load mem c.args.address) =
    sym (take_all n c.loop-done.buffer (omega arith)) ∙ ap (λ k. take k c.loop-done.buffer) (sym all) ∙ i.same
    ∙ ap (λ k. take k (reach Load mem c.args.address)) all in
    ap (λ b. if b then Some (take n (reach Load mem c.args.address)) else None) (sym c.if-not-can_read.ensures.reach)
    ∙ ap Some (sym same)
