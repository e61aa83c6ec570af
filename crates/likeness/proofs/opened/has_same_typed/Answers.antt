use Rattle.std.proofs.Common.{arith}
use Rattle.likeness.proofs.Same.{typed-same}
use Rattle.likeness.proofs.opened.has_same_typed.Goals as goal

pub returns : goal.returns
returns c =
    typed-same c.args.one.now c.args.other.now
    (omega (
      arith,
      c.committed_len-committed.ensures,
      c.committed_len.ensures,
      c.if-committed_len-committed.false,
    ))
    (omega (arith, c.edited_len-edited.ensures, c.edited_len.ensures, c.if-edited_len-edited.false))
    (λ k low. c.loop-at.invariant k
    (omega (arith, low, c.committed_len-committed.ensures, c.edited_len-edited.ensures, c.loop-at-test.false)))
