-- The slot of the running process.
use Rattle.kernel.proofs.Common.{ap, is_some, None, Option, refl, Some, sym, true, unwrap_or, ℕ, ◌∙◌, ◌≡◌}

pub current-is : {active : Option ℕ} {i : ℕ} → active ≡ Some i → unwrap_or active 64 ≡ i
current-is is = ap (λ (o : Option ℕ). unwrap_or o 64) is

pub has-current : {active : Option ℕ} {i : ℕ} → active ≡ Some i → active ≡ Some (unwrap_or active 64)
has-current is = is ∙ sym (ap Some (current-is is))

-- a process runs
pub has-some : {active : Option ℕ} → is_some active ≡ true → active ≡ Some (unwrap_or active 64)
has-some {active = None} is = absurd (cc)
has-some {active = Some i} is = refl
