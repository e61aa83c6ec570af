use Rattle.std.proofs.Common.{◌+◌, arith, eq-eqb, refl}
use Rattle.std.proofs.lemmas.Bool.{ne_eqb}
use Rattle.std.proofs.lemmas.List.{take_rest}
use Rattle.gdbwire.proofs.Cuts.{found, missing, onward}
use Rattle.gdbwire.proofs.packets.cut.Goals as goal

pub loop-index-preserved : goal.loop-index-preserved
loop-index-preserved c = let next =
    onward c.args.at c.args.text.now c.loop-index.index c.loop-index-test.true (ne_eqb _ _ c.if-byte-at.false)
    in let before = c.loop-index.invariant in omega (arith, before, next)

pub returns-then-byte-at : goal.returns-then-byte-at
returns-then-byte-at c =
    rw (
      take_rest c.args.text.now (c.loop-index.index + 1),
      found c.args.at c.args.text.now c.loop-index.index c.loop-index-test.true (eq-eqb _ _ c.if-byte-at.true)
          c.loop-index.invariant,
    ) refl

pub returns : goal.returns
returns c = rw (missing c.args.at c.args.text.now c.loop-index.index c.loop-index-test.false c.loop-index.invariant)
    refl
