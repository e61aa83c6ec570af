use Rattle.cache.proofs.Common.{ap, arith, true, put_mid-splice, Slot}
use Rattle.cache.proofs.held.change.Goals as goal

pub returns : goal.returns
returns c = ap (λ bytes. let s : Slot = record { bytes = bytes; changed = true } in s)
    (put_mid-splice c.args.at _ c.args.slot.now.bytes _ c.args.bytes.now c.copy_from_slice.ensures.after (omega arith))
