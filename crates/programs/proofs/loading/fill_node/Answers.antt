use Rattle.programs.proofs.Common.{◌∙◌, size-fits, size-whole, read-none}
use Rattle.programs.proofs.Places.{filled-all, filled-inside, filled-kept, filled-more, filled-within, has-held}
use Rattle.programs.proofs.Reading.{err-done, err-left, kept-is-file, kept-leaves, lost}
use Rattle.programs.proofs.loading.fill_node.Goals as goal

pub loop-done-init : goal.loop-done-init
loop-done-init g c = read-none c.requires.ready.space

pub fill_piece-requires : goal.fill_piece-requires
fill_piece-requires g c =
    let kept = filled-kept c.loop-done.invariant c.requires.ready.up in
    let fits = size-fits _ _ _ _ c.loop-done-test.true c.min-size.ensures in
    record {
      ready = record {
        up = kept.up;
        file = kept-is-file kept c.requires.ready.file;
        space = has-held _ _ _ c.loop-done.invariant.bytes c.requires.ready.space;
      };
      within = filled-within c.loop-done.invariant c.requires.fits.within c.loop-done-test.true _ fits;
      inside = filled-inside c.loop-done.invariant c.requires.ready.space _ c.requires.fits.inside fits;
    }

pub loop-done-preserved : goal.loop-done-preserved
loop-done-preserved g c =
    filled-more c.loop-done.invariant c.requires.ready.space
    (size-whole _ _ _ c.min-size.array_long c.min-size.ensures) c.loop-done-test.true
    (size-fits _ _ _ _ c.loop-done-test.true c.min-size.ensures)
    c.pages_are_whole.ensures.sized c.requires.fits.within c.in_ok-fill_piece.ensures.serves
    c.in_ok-fill_piece.ensures.filled

pub returns-in_err-fill_piece : goal.returns-in_err-fill_piece
returns-in_err-fill_piece g c = record {
  serves = lost c.from_residual.result _ c.from_residual.ensures.1 _
      (filled-kept c.loop-done.invariant c.requires.ready.up) c.in_err-fill_piece.ensures.serves;
  filled = err-done c.from_residual.result _ c.from_residual.ensures.1 _;
  failed = err-left c.from_residual.result _ c.from_residual.ensures.1 _
      (_, c.in_err-fill_piece.ensures.failed ∙ c.loop-done.invariant.bytes);
}

pub returns-clause-serves : goal.returns-clause-serves
returns-clause-serves g c = kept-leaves (filled-kept c.loop-done.invariant c.requires.ready.up)

pub returns-clause-filled : goal.returns-clause-filled
returns-clause-filled g c = filled-all c.loop-done.invariant c.loop-done-test.false
