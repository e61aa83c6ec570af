-- What a debugger leaves of a run.
use Rattle.std.specs.Prelude.{List, Some, ℕ, ◌≡◌}
use Rattle.gdbserver.specs.Debugging.{IsBeginningOf}
use Rattle.machine.specs.Booted.{IsAccepted, start_from}
use Rattle.timeline.specs.Line.{Line}
use Rattle.unixmodel.specs.Files.{Files}
use Rattle.unixmodel.specs.declared.event.Event.{Event}

-- it began with the state that boots from an image, its events are these, and after them at most what was typed
pub record IsDebugged (image : List ℕ) (frames : ℕ) (events : List Event) (line : Line) : Type 0 where
  pub files : Files
  pub accepted : IsAccepted image files
  pub starts : start_from image files frames ≡ Some line.start
  pub begins : IsBeginningOf events line.events
