use Rattle.std.proofs.Common.{refl, subst, sym, ◌∙◌, ◌≡◌}
use Rattle.std.specs.Prelude.{IfOk}
use Rattle.std.proofs.lemmas.Bool.{true≢false}
use Rattle.proc.proofs.Waiting.{all-in}
use Rattle.proc.specs.Mask.{all_in}
use Rattle.proc.specs.Places.{Places}
use Rattle.unixmodel.specs.Files.{free_slots}
use Rattle.kernel_tests.proofs.processes.picks_in_turn.Goals as goal

-- a table whose slots are free, of which each is awake
abbrev IsFresh : Places → Type 0
IsFresh t = t ≡ record { places = free_slots 64; last = 63; next_pid = 1; awake = all_in 64 }

-- each slot is awake at first
pub pick-requires-clause-awake : goal.pick-requires-clause-awake
pick-requires-clause-awake g c i out =
    let fresh = subst (λ r. IfOk r IsFresh) c.expect-table.ensures c.starting_at.ensures in
    let all : c.put-3.new.self.awake ≡ all_in 64 =
    rw (c.put-3.ensures, c.put-2.ensures, c.put.ensures, fresh) refl in
    absurd (true≢false (sym (rw all (all-in 64 i)) ∙ out))
