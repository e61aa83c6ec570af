-- How a clock goes on.
use Rattle.std.proofs.Common.{arith, false, refl, suc, zero, ℕ, ◌-◌, ◌<◌, ◌≡◌, ◌≤◌, ap}
use Rattle.std.specs.Prelude.{nat_le}
use Rattle.std.proofs.lemmas.Bool.Decides.{nat_tests}
use Rattle.events.specs.declared.clock.Clock.{Clock}
use Rattle.events.specs.declared.clock.Clock.TheVariants.{Every, Off, Random}
use Rattle.events.specs.Clocks.{passed_by, quiet, strikes}

pub more-left : (left : ℕ) → 0 < left - 1 → nat_le left 1 ≡ false
more-left left some = grind (arith, nat_tests)

-- one that strikes again and again, as long as it doesn't
pub passed-every : (n steps left : ℕ) → n ≤ left - 1 → passed_by n (Every steps left) ≡ Every steps (left - n)
unfolding passed_by
passed-every zero steps left within = ap (Every steps) (omega arith)
passed-every (suc n) steps left within =
    let more = more-left left (omega (arith, within)) in
    let e : left - 1 - n ≡ left - suc n = omega arith in
    rw (more, ← e) (passed-every n steps (left - 1) (omega (arith, within)))

pub passed-off : (n : ℕ) → passed_by n Off ≡ Off
unfolding passed_by
passed-off zero = refl
passed-off (suc n) = passed-off n

-- up to there it doesn't strike
pub quiet-then : (k : ℕ) (c : Clock) → k < quiet c → strikes (passed_by k c) ≡ false
quiet-then k Off less = rw (passed-off k) refl
quiet-then k (Every steps left) less = rw (passed-every k steps left (omega (arith, less))) (more-left (left - k)
    (omega (arith, less)))
quiet-then k (Random state steps) less = absurd (omega (arith, less))

-- a clock of another kind than one that strikes again and again counts nothing there
pub passed-other : (n : ℕ) (c : Clock) → n ≤ quiet c → ((steps left : ℕ) → ¬ (c ≡ Every steps left)) → c ≡ passed_by n c
unfolding passed_by
passed-other n Off within not = rw (passed-off n) refl
passed-other n (Every steps left) within not = absurd (not steps left refl)
passed-other zero (Random state steps) within not = refl
passed-other (suc n) (Random state steps) within not = absurd (omega (arith, within))
