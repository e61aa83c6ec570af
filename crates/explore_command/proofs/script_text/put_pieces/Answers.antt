use Rattle.events.proofs.Recording.{records-none}
use Rattle.explore_command.proofs.Recording.{piece-recorded}
use Rattle.explore_command.proofs.script_text.put_pieces.Goals as goal

pub loop-piece-init : goal.loop-piece-init
loop-piece-init c = records-none c.args.transcript.now

pub loop-piece-preserved : goal.loop-piece-preserved
loop-piece-preserved c =
    piece-recorded c.args.pieces.now c.loop-piece.piece-index _ _ _ _ c.loop-piece-test.true c.loop-piece.invariant
    c.put_piece.ensures
