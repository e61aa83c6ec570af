use Rattle.std.proofs.Common.{true, ◌≡◌}
use Rattle.explore.proofs.Comparing.{apart-since, both-since, files-more}
use Rattle.orders.specs.Ends.{saved_as}
use Rattle.unixmodel.specs.Files.{slot}
use Rattle.explore.proofs.saved.saves_same.Goals as goal

pub loop-number-preserved : goal.loop-number-preserved
loop-number-preserved g c =
    let since = both-since c.args.one.now c.loop-number.one c.has_same_file.new.one c.args.other.now
    c.loop-number.other c.has_same_file.new.other c.loop-number.invariant.stays c.loop-number.invariant.other_stays
    (λ s t. c.in_ok-same.same ≡ true
    → saved_as (slot s.files c.loop-number.number) ≡ saved_as (slot t.files c.loop-number.number))
    c.in_ok-same.ensures in
    record {
      stays = since.stays;
      other_stays = since.other_stays;
      same = files-more c.args.one.now c.args.other.now c.loop-number.number c.loop-number.invariant.same
          (since.says c.if-not-same.false);
    }

pub returns-then-not-same : goal.returns-then-not-same
returns-then-not-same g c = apart-since c.args.one.now c.loop-number.one c.has_same_file.new.one c.args.other.now
    c.loop-number.other c.has_same_file.new.other c.loop-number.invariant.stays c.loop-number.invariant.other_stays
    _ _ c.in_ok-same.ensures
