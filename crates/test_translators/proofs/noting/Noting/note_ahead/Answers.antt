use Rattle.test_translators.proofs.Noted.{kept-then}
use Rattle.test_translators.proofs.noting.Noting.note_ahead.Goals as goal

pub loop-page-preserved : goal.loop-page-preserved
loop-page-preserved c =
    kept-then _ _ _ _ _ (kept-then _ _ _ _ _ (kept-then _ _ _ _ _ c.loop-page.invariant c.note.ensures)
    c.note-in-loop-page.ensures) c.note-in-loop-page-2.ensures
