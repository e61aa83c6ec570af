-- One bit of a byte.
use Rattle.std.proofs.lemmas.Nat.Bits.{bit_at_set_same, bit_at_set_other, bit_at_clear_same, bit_at_clear_other}

pub ruleset one_bit = (bit_at_set_same, bit_at_set_other, bit_at_clear_same, bit_at_clear_other)
