use Rattle.explore_command.proofs.Recording.{path-recorded, text-recorded}
use Rattle.explore_command.proofs.script_text.script_text.Goals as goal

pub returns : goal.returns
returns c =
    text-recorded c.text.result (λ text. text.bytes.items) _ _
    (path-recorded c.args.path.now c.as_slice.result.now _ _ _ c.new-transcript.ensures c.as_slice.ensures.value
    c.put_pieces.ensures c.put_steps.ensures)
    c.text.ensures.events c.text.ensures.known
