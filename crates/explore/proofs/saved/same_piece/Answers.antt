use Rattle.std.proofs.Common.{refl}
use Rattle.explore.proofs.Comparing.{same-piece}
use Rattle.explore.proofs.saved.same_piece.Goals as goal

pub returns : goal.returns
returns g c = record {
  stays = c.in_ok-count.ensures.gives.0.state;
  other_stays = c.in_ok-their_count.ensures.gives.0.state;
  says = same-piece c.args.one.now.state c.args.other.now.state c.args.number c.args.k _ _ _ c.in_ok-count.count
      c.in_ok-their_count.their_count refl c.in_ok-count.ensures.gives.1 c.in_ok-their_count.ensures.gives.1
      c.if-count-their_count.false (c.if-not-has_same.ensures refl);
}
