use Rattle.std.proofs.Common.{◌≡◌, drop}
use Rattle.commandline.specs.Asking.{asks}
use Rattle.commandline.proofs.command_line.asks.Given as goal

abbrev pub invariant-loop-word : goal.invariant-loop-word
invariant-loop-word l = asks l.words ≡ asks (drop l.word-index l.words)
