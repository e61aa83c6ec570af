use Rattle.std.proofs.Common.{◌≡◌, ◌-◌, arith, refl}
use Rattle.frames.specs.Free.{further_at}
use Rattle.frames.proofs.FreeLemmas.{count-read, further-is, free_count-list}
use Rattle.frames.proofs.TradeLemmas.{holders-list}
use Rattle.frames.proofs.Frames.give.Goals as goal
use Rattle.frames.proofs.Frames.give.Goals.{After-index}

further : (c : After-index) → further_at c.args.self.now c.args.frame.0 ≡ c.index.result.now - 1
further c = omega (
  arith,
  further-is c.args.self.now c.args.frame.0,
  count-read c.requires.valid c.args.frame.0 c.index.result.now c.requires.inside c.index.ensures,
)

pub unshare-requires-clause-shared : goal.unshare-requires-clause-shared
unshare-requires-clause-shared c =
    omega (arith, further (goal.at.unshare-requires-clause-shared c).After-index, c.if-index-gt1.true)

pub push-requires-clause-last : goal.push-requires-clause-last
push-requires-clause-last c =
    omega (arith, further (goal.at.push-requires-clause-last c).After-index, c.if-index-gt1.false)

pub returns-then-index-gt1 : goal.returns-then-index-gt1
returns-then-index-gt1 c =
    let done = c.unshare.ensures in
    record {
      holders = done.holders;
      more = done.more;
      last = λ z. absurd (omega
          (arith, z, further (goal.at.returns-then-index-gt1 c).After-index, c.if-index-gt1.true));
      stays = λ some. (done.list, refl);
      valid = done.valid;
      others = record { count = refl; others = λ g out. refl };
    }

pub returns-else-index-gt1 : goal.returns-else-index-gt1
returns-else-index-gt1 c =
    let done = c.push.ensures in
    record {
      holders = holders-list c.requires.valid done.valid c.args.frame.0 done.others.count done.free done.extra;
      more = free_count-list c.args.ram.now c.push.new.ram c.args.self.now c.push.new.self c.args.frame.0
          c.requires.valid.room done.free done.extra;
      last = λ _. (done.free, done.extra);
      stays = λ some. absurd (omega
          (arith, some, further (goal.at.returns-else-index-gt1 c).After-index, c.if-index-gt1.false));
      valid = done.valid;
      others = done.others;
    }
