use Rattle.pipe.proofs.Common.{arith, length-take, common_steps, length-ring, refl}
use Rattle.pipe.proofs.Steps.{write-bytes}
use Rattle.pipe.proofs.Pipe.write_some.Goals as goal

pub returns : goal.returns
returns c =
    rw (← c.self.view_is) (record {
      refused = (λ e. cc, λ e. cc);
      unchanged = tt;
      bytes = write-bytes _ _ _ _ _ c.self.invariant.1 c.min-count.ensures (grind (arith, common_steps))
          c.append_in.ensures.bytes;
      count = rw (length-take, length-ring) (omega (arith, c.min-count.ensures));
      stays = record { frame = refl; read_open = refl; write_open = refl };
      memory = c.append_in.ensures.memory;
    })
