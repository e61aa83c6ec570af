use Rattle.std.proofs.Common.{◌-◌, arith, w32}
use Rattle.std.proofs.lemmas.Nat.{pow_below}
use Rattle.std.proofs.lemmas.Int.{fits_signed_from_abs}
use Rattle.isa.proofs.disassembler.signed.Goals as goal

pub pow-requires : goal.pow-requires
pow-requires c = fits_signed_from_abs w32 _ (pow_below (c.args.bits - 1) 31 (omega arith))

pub pow-requires-2 : goal.pow-requires-2
pow-requires-2 c = fits_signed_from_abs w32 _ (pow_below c.args.bits 31 (omega arith))
