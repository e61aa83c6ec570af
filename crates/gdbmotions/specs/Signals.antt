-- What a fault is shown as.
use Rattle.gdbreplies.specs.declared.stops.Signal.{Signal}
use Rattle.gdbreplies.specs.declared.stops.Signal.TheVariants.{Bus, Illegal, Segmentation, Trap}
use Rattle.unixmodel.specs.declared.trap.Cause.{Cause}
use Rattle.unixmodel.specs.declared.trap.Cause.TheVariants.{Breakpoint, IllegalInstruction, InstructionMisaligned}
use Rattle.unixmodel.specs.declared.trap.Cause.TheVariants.{LoadMisaligned, StoreMisaligned}

abbrev pub signal_of : Cause → Signal
signal_of IllegalInstruction = Illegal
signal_of Breakpoint = Trap
signal_of InstructionMisaligned = Bus
signal_of LoadMisaligned = Bus
signal_of StoreMisaligned = Bus
signal_of _ = Segmentation
