-- Products fit into 128 bits.
use Rattle.hart.proofs.Common.{arith, cast_signed, FitsSigned, pos, unsigned_abs, w128, w64, ℕ, ◌*ℤ◌, ◌-◌, ◌<◌, ◌^◌}
use Rattle.hart.proofs.Common.{◌≤◌}
use Rattle.std.proofs.lemmas.Int.{fits_signed_mul, ints}

signed_abs : {a : ℕ} → a < 2 ^ 64 → unsigned_abs (cast_signed w64 a) ≤ 2 ^ 63
signed_abs l = grind (arith, ints)

-- a signed number by an unsigned one
pub mixed_fits : (a b : ℕ) → a < 2 ^ 64 → b < 2 ^ 64 → FitsSigned w128 (cast_signed w64 a *ℤ pos b)
mixed_fits a b l m = fits_signed_mul w128 (cast_signed w64 a) (pos b) (2 ^ 63) (2 ^ 64 - 1) (signed_abs l)
    (omega (arith, m)) (omega arith)
