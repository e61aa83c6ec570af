use Rattle.imagecheck.proofs.Common.{◌≡◌, ◌+◌, ◌-◌, sym, ◌∙◌, arith, contents_in, drop, length, length-drop}
use Rattle.imagecheck.proofs.Common.{length-take-le, take, slice_range, Decides-like, HasBlocks-of}
use Rattle.std.proofs.Common.{take_all}
use Rattle.imagecheck.proofs.Parents.{directory-least, FitsFront-same, contents-front}
use Rattle.imagecheck.proofs.fronts.has_front.Goals as goal

pub returns : goal.returns
returns c =
    let image = c.args.image.now in
    let d = c.requires.directory in
    let blocks = HasBlocks-of image c.requires.blocks in
    let at = c.front_place-at.result in
    let front = slice_range image at (at + 32) in
    let contents = contents_in image c.args.n in
    let least = directory-least image _ d.low d.high d.kind blocks in
    let inside = c.front_place-at.ensures.inside in
    let long : length front ≡ 32 = length-take-le (at + 32 - at) (drop at image) (omega (arith, length-drop at image))
    ∙ omega arith in
    let same : take 32 front ≡ take 32 contents =
    rw (contents-front image blocks c.args.n d, ← c.front_place-at.ensures.place)
    (take_all 32 front (omega arith)) in
    Decides-like _ (FitsFront-same _ _ front _ (omega arith) least same)
    (FitsFront-same _ _ _ front least (omega arith) (sym same)) c.fits_front.ensures
