use Rattle.std.proofs.Common.{Bool, List, [], arith, false, refl, rules, subst, suc, sym, true, zero, ℕ, ◌==◌, ◌∙◌}
use Rattle.std.proofs.Common.{◌∷◌, ◌≡◌}
use Rattle.std.specs.Prelude.{IfOk, slice_set}
use Rattle.std.proofs.lemmas.Bool.{true≢false}
use Rattle.std.proofs.lemmas.Bool.Decides.{nat_tests}
use Rattle.proc.proofs.Waiting.{all-in}
use Rattle.proc.specs.Mask.{all_in, is_in}
use Rattle.proc.specs.Places.{Places}
use Rattle.unixmodel.specs.Files.{free_slots}
use Rattle.kernel_tests.proofs.processes.looks_at_who_is_awake.Goals as goal

is-woken : (awake : List Bool) → is_in (slice_set awake 1 true) 1 ≡ true
is-woken [] = refl
is-woken (a ∷ []) = refl
is-woken (a ∷ b ∷ rest) = refl

-- who isn't awake isn't the one that was woken
asleep-other : (awake : List Bool) (i : ℕ) → is_in (slice_set awake 1 true) i ≡ false → false ≡ (i == 1)
asleep-other awake zero out = refl
asleep-other awake (suc zero) out = absurd (true≢false (sym (is-woken awake) ∙ out))
asleep-other awake (suc (suc i)) out = grind (arith, nat_tests)

-- a table whose slots are free, of which each is awake
abbrev IsFresh : Places → Type 0
IsFresh t = t ≡ record { places = free_slots 64; last = 63; next_pid = 1; awake = all_in 64 }

-- each slot is awake at first
pub pick-requires-clause-awake : goal.pick-requires-clause-awake
pick-requires-clause-awake g c i out =
    let fresh = subst (λ r. IfOk r IsFresh) c.expect-table.ensures c.starting_at.ensures in
    let all : c.expect-table.result.awake ≡ all_in 64 = rw fresh refl in
    absurd (true≢false (sym (rw all (all-in 64 i)) ∙ out))

pub pick-requires-2-clause-awake : goal.pick-requires-2-clause-awake
pick-requires-2-clause-awake g c i out =
    let other = asleep-other c.pick.new.self.awake i (rw c.wake.ensures at out) in
    record {
      shown = record { ref_ptr = (0, 0); now = c.wake.new.self.places };
      shows = refl;
      says = (search (rules, other));
    }
