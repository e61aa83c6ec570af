use Rattle.std.proofs.Common.{◌≤◌, ◌∙◌, arith, length, length-set, refl}
use Rattle.pipe.proofs.Steps.{append-more}
use Rattle.pipe.proofs.append.Goals as goal

pub loop-i-preserved : goal.loop-i-preserved
loop-i-preserved c =
    let full : 512 ≤ length c.loop-i.places = omega (arith, c.loop-i.invariant.size) in
    record {
      bytes = append-more _ _ _ _ _ full c.requires.from c.requires.room c.loop-i-test.true refl
          c.loop-i.invariant.bytes;
      size = length-set c.loop-i.places _ _ ∙ c.loop-i.invariant.size;
    }
