-- Where gdb wants processes to stop.
use Rattle.std.specs.Bool.{beq}
use Rattle.std.specs.Prelude.{Bool, List, not, ℕ, ◌&&◌, ◌==◌}
use Rattle.std.specs.List.{filter, list_any}
use Rattle.gdbmotions.specs.declared.points.Conditional.{Conditional}
use Rattle.gdbmotions.specs.declared.points.Watch.{Watch}
use Rattle.gdbstate.specs.declared.accesses.AccessWatch.{AccessWatch}
use Rattle.gdbstate.specs.declared.reasons.Break.{Break}

abbrev pub is_same_break : Break → Break → Bool
is_same_break a b = (a.pid == b.pid) && (a.address == b.address)

abbrev pub is_same_watch : Watch → Watch → Bool
is_same_watch a b = (a.pid == b.pid) && (a.address == b.address) && (a.count == b.count)

abbrev pub is_same_access : AccessWatch → AccessWatch → Bool
is_same_access a b =
    (a.pid == b.pid) && (a.address == b.address) && (a.count == b.count) && beq a.stores b.stores

-- the breaks except those of a process at an address
abbrev pub without_break : Break → List Conditional → List Conditional
without_break place breaks = filter (λ (one : Conditional). not (is_same_break one.place place)) breaks

abbrev pub without_watch : Watch → List Watch → List Watch
without_watch watch watches = filter (λ (one : Watch). not (is_same_watch one watch)) watches

abbrev pub without_access : AccessWatch → List AccessWatch → List AccessWatch
without_access watch watches = filter (λ (one : AccessWatch). not (is_same_access one watch)) watches

abbrev pub without : ℕ → List ℕ → List ℕ
without pid pids = filter (λ (one : ℕ). not (one == pid)) pids

-- gdb holds the processes that it has not let go
abbrev pub holds : List ℕ → ℕ → Bool
holds released pid = not (list_any (λ (one : ℕ). one == pid) released)
