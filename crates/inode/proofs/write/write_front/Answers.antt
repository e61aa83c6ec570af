use Rattle.inode.proofs.Common.{arith, refl, subst, goes-after, goes-stays, step-done, step-failed, HasInode-of}
use Rattle.inode.proofs.Common.{PutsPiece}
use Rattle.inode.proofs.Pieces.{Wrote-begin, Wrote-piece, front-ends, piece_less, piece_room, piece_short, piece_some}
use Rattle.inode.proofs.Pieces.{piece_within, place_within}
use Rattle.inode.proofs.Filling.{Puts-held}
use Rattle.inode.proofs.write.write_front.Goals as goal

pub piece-init : goal.piece-init
piece-init g c =
    let held = HasInode-of c.requires.held in
    record {
      wrote = Wrote-begin {at = c.args.at} c.args.bytes.now c.requires.within refl held.sound held.used;
      held = c.requires.held;
      fits = c.requires.fits;
      goes = goes-stays;
      within = omega arith;
    }

pub overflow_add-place : goal.overflow_add-place
overflow_add-place g c = omega (arith, c.requires.short, c.piece-test.true)

pub put_piece-requires : goal.put_piece-requires
put_piece-requires g c = record {
  held = c.piece.invariant.held;
  fits = c.piece.invariant.fits;
  within = place_within c.piece.done c.args.bytes.now c.requires.within c.piece.invariant.wrote
      c.piece.invariant.within;
  some = piece_some c.args.at c.args.bytes.now c.piece-test.true c.min-len.ensures;
  room = piece_room c.args.at c.args.bytes.now c.piece-test.true c.min-len.ensures;
  short = piece_short c.args.at c.args.bytes.now c.piece-test.true c.min-len.ensures c.requires.short;
}

pub returns-in_err-put_piece : goal.returns-in_err-put_piece
returns-in_err-put_piece g c =
    step-failed c.piece.invariant.goes c.put_piece.ensures c.in_err-put_piece.was c.from_residual.ensures.1

pub returns-then-not-branch : goal.returns-then-not-branch
returns-then-not-branch g c =
    let lacks = subst (PutsPiece _ _ _ _ _ _ _) c.if-not-branch.true c.in_ok-put_piece.ensures.done in
    step-done (goes-after c.piece.invariant.goes c.put_piece.ensures.goes)
    (front-ends c.piece.done c.args.bytes.now c.requires.within c.piece.invariant.wrote c.piece.invariant.within
    lacks.1 (λ _. lacks.0))

pub piece-preserved : goal.piece-preserved
piece-preserved g c =
    let puts = subst (PutsPiece _ _ _ _ _ _ _) c.if-not-branch.false c.in_ok-put_piece.ensures.done in
    record {
      wrote = Wrote-piece c.piece.done c.args.bytes.now c.requires.within c.piece.invariant.wrote c.min-len.result
          (piece_within c.args.at c.args.bytes.now c.piece-test.true c.min-len.ensures) puts.wrote;
      held = Puts-held c.piece.inode c.piece.invariant.held puts;
      fits = puts.fits;
      goes = goes-after c.piece.invariant.goes c.put_piece.ensures.goes;
      within = piece_within c.args.at c.args.bytes.now c.piece-test.true c.min-len.ensures;
    }

pub piece-smaller : goal.piece-smaller
piece-smaller g c = piece_less c.args.at c.args.bytes.now c.piece-test.true c.min-len.ensures

pub returns : goal.returns
returns g c = step-done c.piece.invariant.goes
    (front-ends c.piece.done c.args.bytes.now c.requires.within c.piece.invariant.wrote c.piece.invariant.within refl
    (λ less. absurd (omega (arith, less, c.piece-test.false))))
