use Rattle.vm.proofs.Common.{◌≡◌, ◌+◌, ◌-◌, ◌%◌, [], length, take, drop, min, sym, ap, ◌∙◌, refl, arith, Trades-none}
use Rattle.vm.proofs.Common.{holds, length-drop, drop_all, drop-drop, take_all, write_bytes, pages_of}
use Rattle.vm.proofs.Remap.{reframes-twice}
use Rattle.vm.proofs.StoreLemmas.{write-none}
use Rattle.vm.proofs.Space.fill.Goals as goal

pub loop-done-init : goal.loop-done-init
loop-done-init c =
    let start : c.args.address + 0 ≡ c.args.address = omega arith in
    record {
      within = omega arith;
      rest = ap (λ at. write_bytes (pages_of c.args.memory.now.ram c.args.self.now) at c.args.bytes.now) start;
      frames = record {
        space = c.requires.space;
        registers = refl;
        trades = Trades-none c.args.memory.now.ram c.args.memory.now.frames
            (holds c.args.memory.now.ram c.args.self.now);
      };
      opens = λ first h. h;
    }

pub overflow_add-address : goal.overflow_add-address
overflow_add-address c =
    omega (arith, c.requires.inside c.loop-done.done c.loop-done-test.true, c.requires.space.dense.small)

pub write_page-done-requires-clause-space : goal.write_page-done-requires-clause-space
write_page-done-requires-clause-space c = c.loop-done.invariant.frames.space

pub write_page-done-requires-clause-page : goal.write_page-done-requires-clause-page
write_page-done-requires-clause-page c = c.requires.inside c.loop-done.done c.loop-done-test.true

pub loop-done-preserved : goal.loop-done-preserved
loop-done-preserved c =
    let i = c.loop-done.invariant in
    let d = c.loop-done.done in
    let n = c.write_page-done.result in
    let bs = c.args.bytes.now in
    let e = c.write_page-done.ensures in
    let left : take (length bs - d) (drop d bs) ≡ drop d bs =
    take_all (length bs - d) (drop d bs) (omega (arith, length-drop d bs)) in
    let count : n ≡ min (4096 - (c.args.address + d) % 4096) (length (drop d bs)) = rw left at e.count in
    let place : c.args.address + (d + n) ≡ c.args.address + d + n = omega arith in
    record {
      within = omega (arith, count, length-drop d bs);
      rest = ap (λ at. write_bytes (pages_of c.write_page-done.new.memory.ram c.args.self.now) at (drop (d + n) bs))
          place
          ∙ ap (write_bytes (pages_of c.write_page-done.new.memory.ram c.args.self.now) (c.args.address + d + n))
          (sym (drop-drop n d bs))
          ∙ (rw left at e.rest) ∙ i.rest;
      frames = reframes-twice i.frames e.frames;
      opens = λ first h. e.opens first (i.opens first h);
    }

pub returns : goal.returns
returns c =
    let i = c.loop-done.invariant in
    let none : drop c.loop-done.done c.args.bytes.now ≡ [] = drop_all c.loop-done.done c.args.bytes.now (omega arith) in
    let write = write_bytes (pages_of c.loop-done.memory.ram c.args.self.now) (c.args.address + c.loop-done.done) in
    record {
      written = sym (write-none (pages_of c.loop-done.memory.ram c.args.self.now) (c.args.address + c.loop-done.done))
          ∙ ap write (sym none) ∙ i.rest;
      frames = i.frames;
      opens = i.opens;
    }
