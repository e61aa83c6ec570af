use Rattle.asm.proofs.EmitLemmas.{with_zeros}
use Rattle.asm.proofs.emit.put.Goals as goal

pub returns-in-Zeros : goal.returns-in-Zeros
returns-in-Zeros c = rw c.in-Zeros.is
    (with_zeros _ _ c.args.out.now.items c.in-Zeros.count _ c.args.out.now.ok.0
    (rw c.len.ensures at c.resize.ensures.items))
