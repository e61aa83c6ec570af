use Rattle.std.proofs.Common.{refl}
use Rattle.explore.proofs.Comparing.{apart-since, piece-last, piece-more, piece-since}
use Rattle.explore.proofs.saved.has_same_bytes.Goals as goal

pub loop-k-init : goal.loop-k-init
loop-k-init g c = record { stays = refl; other_stays = refl; below = refl }

pub loop-k-preserved : goal.loop-k-preserved
loop-k-preserved g c =
    let since = piece-since c.args.one.now c.loop-k.one c.same_piece.new.one c.args.other.now c.loop-k.other
    c.same_piece.new.other c.loop-k.invariant.stays c.loop-k.invariant.other_stays c.args.number c.loop-k.k
    c.in-Some.count c.in_ok-same.same c.in-Some.is c.in_ok-same.ensures in
    record {
      stays = since.stays;
      other_stays = since.other_stays;
      below = piece-more _ _ c.loop-k.k c.in-Some.count c.loop-k.invariant.below since.says;
    }

pub returns-in_default : goal.returns-in_default
returns-in_default g c = apart-since c.args.one.now c.loop-k.one c.same_piece.new.one c.args.other.now c.loop-k.other
    c.same_piece.new.other c.loop-k.invariant.stays c.loop-k.invariant.other_stays _ _ c.in_ok-same.ensures

pub returns-then-count-lt-PIECE : goal.returns-then-count-lt-PIECE
returns-then-count-lt-PIECE g c =
    let since = piece-since c.args.one.now c.loop-k.one c.same_piece.new.one c.args.other.now c.loop-k.other
    c.same_piece.new.other c.loop-k.invariant.stays c.loop-k.invariant.other_stays c.args.number c.loop-k.k
    c.in-Some.count c.in_ok-same.same c.in-Some.is c.in_ok-same.ensures in
    record {
      stays = since.stays;
      other_stays = since.other_stays;
      says = λ yes. piece-last _ _ c.loop-k.k c.in-Some.count c.loop-k.invariant.below since.says
          c.if-count-lt-PIECE.true;
    }
