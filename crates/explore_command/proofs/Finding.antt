-- What an exploration found, from what its search found.
use Rattle.std.proofs.Common.{Err, List, Ok, Result, ℕ}
use Rattle.std.specs.Prelude.{IfOk}
use Rattle.commandline.specs.declared.jobs.Explore.{Explore}
use Rattle.explore_command.specs.declared.exploring.Report.{Report}
use Rattle.explore_command.specs.Explored.{IsBegun, IsExplored, IsSearched, bounds_of}
use Rattle.unixmodel.specs.State.{State}

pub explored-from : {E : Type 0} → (image keys : List ℕ) (words : Explore) (s : State) (Whole : Type 0)
    (result : Result Report E) → (Whole → IsBegun image words.frames s)
    → IfOk result (λ report. IsSearched keys (bounds_of words.reach) s report.searched)
    → IfOk result (λ report. Whole → IsExplored image keys words report.searched)
explored-from image keys words s Whole (Ok report) begun found =
    λ whole. record { start = s; begun = begun whole; searched = found }
explored-from image keys words s Whole (Err failure) begun found = tt
