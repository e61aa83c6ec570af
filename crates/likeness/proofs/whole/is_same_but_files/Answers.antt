use Rattle.std.proofs.lemmas.Bool.{OnTrue_at, OnTrue_from}
use Rattle.kernel.specs.Kernel.{state_of}
use Rattle.likeness.proofs.Same.{last-same, next-same}
use Rattle.likeness.specs.Likeness.{AreSameButFiles}
use Rattle.likeness.proofs.whole.is_same_but_files.Goals as goal

pub returns : goal.returns
returns g c = OnTrue_from c.have_pairs.result
    (AreSameButFiles (state_of c.args.one.now) (state_of c.args.other.now)) (λ agreed. record {
      pairs = OnTrue_at agreed c.have_pairs.ensures;
      console = rw (c.console.ensures, c.console-2.ensures) at c.if-not-has_same_typed.ensures;
      next_pid = next-same c.args.one.now c.args.other.now _ _ c.table.ensures c.table-2.ensures
          c.if-not-has_same_counts.ensures.next;
      last = last-same c.args.one.now c.args.other.now _ _ c.table.ensures c.table-2.ensures
          c.if-not-has_same_counts.ensures.last;
      frame_limit = c.if-not-is_as_large.ensures.frames;
      block_limit = c.if-not-is_as_large.ensures.blocks;
      halted = rw (c.halted.ensures, c.halted-2.ensures) at c.if-not-is_same_status.ensures;
    })
