use Rattle.std.proofs.Common.{◌≡◌, ◌<◌, ◌-◌, length, arith, refl}
use Rattle.frames.specs.Free.{free_of, counted}
use Rattle.frames.proofs.FreeLemmas.{count-read, further-held, further-is, shared-some, free_count-more}
use Rattle.frames.proofs.FreeLemmas.{IsFreeList-count}
use Rattle.frames.proofs.TradeLemmas.{holders-fewer}
use Rattle.frames.proofs.Frames.unshare.Goals as goal
use Rattle.frames.proofs.Frames.unshare.Goals.{After-index_mut}

pub index_mut-requires : goal.index_mut-requires
index_mut-requires c = omega
    (arith, c.requires.valid.size, (further-held c.requires.valid c.args.frame.0 c.requires.shared).1)

-- the count that was read, which is two or more, and the sum
read : (c : After-index_mut)
    → (c.args.frame.0 < length c.args.ram.now) × (c.index_mut.result.now ≡ counted c.args.self.now c.args.frame.0)
    × (1 < c.index_mut.result.now) × (0 < c.args.self.now.shared)
read c =
    let inside = (further-held c.requires.valid c.args.frame.0 c.requires.shared).1 in
    let same = count-read c.requires.valid c.args.frame.0 c.index_mut.result.now inside c.index_mut.ensures.value in (
      inside,
      same,
      omega (arith, same, further-is c.args.self.now c.args.frame.0, c.requires.shared),
      shared-some c.requires.valid c.args.frame.0 c.requires.shared,
    )

pub overflow_sub-index_mut : goal.overflow_sub-index_mut
overflow_sub-index_mut c = omega (arith, (read (goal.at.overflow_sub-index_mut c).After-index_mut).2)

pub overflow_sub-self : goal.overflow_sub-self
overflow_sub-self c = omega (arith, (read (goal.at.overflow_sub-self c).After-index_mut).3)

pub returns-clause-list : goal.returns-clause-list
unfolding free_of
returns-clause-list c = refl

pub returns-clause-valid : goal.returns-clause-valid
returns-clause-valid c =
    let was = read (goal.at.returns-clause-valid c).After-index_mut in
    IsFreeList-count c.args.ram.now c.args.self.now _ c.args.frame.0 (c.index_mut.result.now - 1) c.requires.valid
    was.0 (omega (arith, was.1, was.2)) (omega (arith, was.2)) (returns-clause-list c) refl
    (omega (arith, was.1, was.2, was.3)) (omega (arith, c.requires.valid.room))

pub returns-clause-more : goal.returns-clause-more
returns-clause-more c = free_count-more c.args.ram.now c.args.self.now _ (returns-clause-list c) c.requires.valid.room
    (omega (arith, (read (goal.at.returns-clause-more c).After-index_mut).3))

pub returns-clause-holders : goal.returns-clause-holders
returns-clause-holders c =
    let was = read (goal.at.returns-clause-holders c).After-index_mut in
    holders-fewer c.requires.valid (returns-clause-valid c) c.args.frame.0 (c.index_mut.result.now - 1)
    (returns-clause-list c) was.0 refl (omega (arith, was.1, was.2)) (omega (arith, was.2))
