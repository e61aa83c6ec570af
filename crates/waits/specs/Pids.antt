-- What there is of processes, in the order of their pids.
use Rattle.std.specs.Prelude.{List, None, Option, Some, [], suc, zero, ℕ, ◌++◌, ◌∷◌}

abbrev pub listed : {A : Type 0} → Option A → List A
listed None = []
listed (Some one) = one ∷ []

-- what a function gives for the pids from 1 to n
unfoldable pub by_pid : {A : Type 0} → (ℕ → Option A) → ℕ → List A
by_pid f zero = []
by_pid f (suc n) = by_pid f n ++ listed (f (suc n))
