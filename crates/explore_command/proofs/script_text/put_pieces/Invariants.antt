use Rattle.std.proofs.Common.{take}
use Rattle.events.specs.Records.{Records}
use Rattle.orders.specs.Paths.{pieces_events}
use Rattle.explore_command.proofs.script_text.put_pieces.Given as goal

-- the pieces so far are recorded
abbrev pub invariant-loop-piece : goal.invariant-loop-piece
invariant-loop-piece l = Records l.fn.transcript l.transcript (pieces_events (take l.piece-index l.pieces))
