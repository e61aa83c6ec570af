use Rattle.std.proofs.Common.{map, take}
use Rattle.events.specs.Records.{Records}
use Rattle.events.proofs.transcript.TranscriptRecord.keys.Given as goal
use Rattle.unixmodel.specs.declared.event.Event.TheVariants.{Key}

abbrev pub invariant-loop-key : goal.invariant-loop-key
invariant-loop-key l = Records l.fn.self l.self (map Key (take l.key-index l.keys))
