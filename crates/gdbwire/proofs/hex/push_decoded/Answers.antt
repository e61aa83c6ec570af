use Rattle.std.proofs.Common.{ap, arith, drop, option_map, sym, ◌++◌, ◌+◌, ◌∙◌}
use Rattle.gdbwire.specs.Hex.{bytes_of}
use Rattle.gdbwire.proofs.Numbers.{bytes-end, bytes-more, bytes-none, bytes-odd}
use Rattle.gdbwire.proofs.hex.push_decoded.Goals as goal

pub returns-then-at-digits : goal.returns-then-at-digits
returns-then-at-digits c = c.loop-at.invariant.rest
    ∙ ap (option_map (λ bytes. c.loop-at.out.items ++ bytes))
    (bytes-odd c.args.digits.now c.loop-at.at c.if-at-digits.true)

pub returns-in_default : goal.returns-in_default
returns-in_default c =
    let less = c.loop-at-test.true in
    let other = c.if-at-digits.false in
    c.loop-at.invariant.rest
    ∙ ap (option_map (λ bytes. c.loop-at.out.items ++ bytes))
    (bytes-none c.args.digits.now c.loop-at.at (omega (arith, less, other)) (sym c.in_default.ensures))

pub loop-at-preserved : goal.loop-at-preserved
loop-at-preserved c =
    let less = c.loop-at-test.true in
    let other = c.if-at-digits.false in
    record {
      within = omega (arith, less, other);
      rest =
          c.loop-at.invariant.rest
          ∙ bytes-more c.loop-at.out.items c.args.digits.now c.loop-at.at c.in-Some.byte
          (omega (arith, less, other)) (sym c.in-Some.ensures)
          ∙ ap (λ items. option_map (λ bytes. items ++ bytes) (bytes_of (drop (c.loop-at.at + 2) c.args.digits.now)))
          (sym c.in_ok-extend_from_slice.ensures.items);
    }

pub returns : goal.returns
returns c = c.loop-at.invariant.rest ∙ bytes-end c.loop-at.out.items c.args.digits.now c.loop-at.at c.loop-at-test.false
