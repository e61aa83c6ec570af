-- Which programs processes run.
use Rattle.std.specs.Prelude.{Bool, List, cond, nat_le, ℕ, ◌&&◌, ◌==◌, ◌∷◌, []}
use Rattle.gdbmotions.specs.declared.paths.Named.{Named}

-- an entry is of a process, and not after a time
abbrev pub is_known : Named → ℕ → ℕ → Bool
is_known entry pid time = (entry.pid == pid) && nat_le entry.time time

-- the path in the last entry of a process that is not after a time, or the given one where there is none
abbrev pub path_known : List Named → ℕ → ℕ → List ℕ → List ℕ
path_known [] pid time path = path
path_known (entry ∷ more) pid time path =
    path_known more pid time (cond (is_known entry pid time) entry.path.items path)
