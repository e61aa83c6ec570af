-- Steps with the ticks of a clock.
use Rattle.std.proofs.Common.{[], ap, append-nil, append_assoc, arith, false, refl, replicate, suc, sym}
use Rattle.std.proofs.Common.{zero, ℕ, ◌+◌, ◌++◌, ◌-◌, ◌<◌, ◌∙◌, ◌∷◌, ◌≡◌, ◌≤◌}
use Rattle.std.proofs.lemmas.Bool.Decides.{nat_tests}
use Rattle.std.specs.Prelude.{nat_le}
use Rattle.events.specs.Paced.{paced, ticks_of}
use Rattle.events.specs.Clocks.{is_off, passed, passed_by, quiet, strikes}
use Rattle.events.specs.declared.clock.Clock.{Clock}
use Rattle.events.specs.declared.clock.Clock.TheVariants.{Every, Off, Random}
use Rattle.unixmodel.specs.declared.event.Event.TheVariants.{Step}

-- steps, and others after them
pub paced-more : (n m : ℕ) (c : Clock) → paced (n + m) c ≡ paced n c ++ paced m (passed_by n c)
unfolding paced passed_by
paced-more zero m c = let none : zero + m ≡ m = omega arith in ap (λ k. paced k c) none
paced-more (suc n) m c =
    let on : suc n + m ≡ suc (n + m) = omega arith in
    ap (λ k. paced k c) on
    ∙ ap (λ es. Step ∷ ticks_of (strikes c) ++ es) (paced-more n m (passed c))
    ∙ ap (λ es. Step ∷ es) (sym (append_assoc (ticks_of (strikes c)) (paced n (passed c)) _))

pub passed-more : (n m : ℕ) (c : Clock) → passed_by (n + m) c ≡ passed_by m (passed_by n c)
unfolding passed_by
passed-more zero m c = let none : zero + m ≡ m = omega arith in ap (λ k. passed_by k c) none
passed-more (suc n) m c =
    let on : suc n + m ≡ suc (n + m) = omega arith in ap (λ k. passed_by k c) on ∙ passed-more n m (passed c)

-- one
pub paced-one : (c : Clock) → paced 1 c ≡ Step ∷ ticks_of (strikes c)
unfolding paced
paced-one c = ap (λ es. Step ∷ es) (append-nil (ticks_of (strikes c)))

pub passed-one : (c : Clock) → passed_by 1 c ≡ passed c
unfolding passed_by
passed-one c = refl

-- none
pub paced-none : (c : Clock) → paced 0 c ≡ []
unfolding paced
paced-none c = refl

pub passed-none : (c : Clock) → passed_by 0 c ≡ c
unfolding passed_by
passed-none c = refl

-- ---- where the clock doesn't strike

pub paced-off : (n : ℕ) → paced n Off ≡ replicate n Step
unfolding paced
paced-off zero = refl
paced-off (suc n) = ap (λ es. Step ∷ es) (paced-off n)

more-left : (left : ℕ) → 0 < left - 1 → nat_le left 1 ≡ false
more-left left some = grind (arith, nat_tests)

paced-every : (n steps left : ℕ) → n ≤ left - 1 → paced n (Every steps left) ≡ replicate n Step
unfolding paced
paced-every zero steps left within = refl
paced-every (suc n) steps left within =
    let more = more-left left (omega (arith, within)) in
    rw more (ap (λ es. Step ∷ es) (paced-every n steps (left - 1) (omega (arith, within))))

pub paced-quiet : (n : ℕ) (c : Clock) → n ≤ quiet c → paced n c ≡ replicate n Step
paced-quiet n Off within = paced-off n
paced-quiet n (Every steps left) within = paced-every n steps left within
paced-quiet n (Random state steps) within =
    let none : n ≡ 0 = omega (arith, within) in rw none (paced-none (Random state steps))

-- ---- a clock that runs goes on, and none begins by itself

still-off : (c : Clock) → is_off (passed c) ≡ is_off c
still-off Off = refl
still-off (Every steps left) = refl
still-off (Random state steps) = refl

pub off-passed : (n : ℕ) (c : Clock) → is_off (passed_by n c) ≡ is_off c
unfolding passed_by
off-passed zero c = refl
off-passed (suc n) c = off-passed n (passed c) ∙ still-off c

pub off-stays : (n : ℕ) → passed_by n Off ≡ Off
unfolding passed_by
off-stays zero = refl
off-stays (suc n) = off-stays n
