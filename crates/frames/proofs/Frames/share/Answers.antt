use Rattle.std.proofs.Common.{◌≡◌, ◌<◌, ◌+◌, length, arith, refl, sym, ◌∙◌}
use Rattle.frames.specs.Free.{free_of, counted}
use Rattle.frames.proofs.FreeLemmas.{count-le, count-read, length-free_of, further-le, none-free, free_count-fewer}
use Rattle.frames.proofs.FreeLemmas.{IsFreeList-count}
use Rattle.frames.proofs.HolderLemmas.{held-inside, holders-counted}
use Rattle.frames.proofs.TradeLemmas.{holders-more}
use Rattle.frames.proofs.Frames.share.Goals as goal
use Rattle.frames.proofs.Frames.share.Goals.{After-index_mut}

pub index_mut-requires : goal.index_mut-requires
index_mut-requires c = omega (
  arith,
  c.requires.valid.size,
  (held-inside c.args.ram.now c.args.self.now c.args.frame.0 c.requires.valid c.requires.held).0,
)

-- the count that was read
read : (c : After-index_mut)
    → (c.args.frame.0 < length c.args.ram.now) × (c.index_mut.result.now ≡ counted c.args.self.now c.args.frame.0)
read c =
    let inside = (held-inside c.args.ram.now c.args.self.now c.args.frame.0 c.requires.valid c.requires.held).0 in
    (inside, count-read c.requires.valid c.args.frame.0 c.index_mut.result.now inside c.index_mut.ensures.value)

pub overflow_add-index_mut : goal.overflow_add-index_mut
overflow_add-index_mut c =
    let m = c.args.ram.now in
    let s = c.args.self.now in
    let is = c.requires.valid in
    let was = read (goal.at.overflow_add-index_mut c).After-index_mut in
    omega (
      arith,
      was.1,
      further-le is c.args.frame.0 was.0,
      is.room,
      length-free_of m s,
      count-le is,
      c.frames_are_whole.ensures.small,
    )

pub overflow_add-self : goal.overflow_add-self
overflow_add-self c =
    let m = c.args.ram.now in
    let s = c.args.self.now in
    let is = c.requires.valid in
    omega (arith, is.room, length-free_of m s, count-le is, c.frames_are_whole.ensures.small)

pub returns-clause-list : goal.returns-clause-list
unfolding free_of
returns-clause-list c = refl

pub returns-clause-fewer : goal.returns-clause-fewer
returns-clause-fewer c =
    free_count-fewer c.args.ram.now c.args.self.now _ (returns-clause-list c)
    (none-free c.requires.valid (λ e. c.if-free-eq0.false (sym (c.free.ensures c.args.ram.now) ∙ e))) refl

pub returns-clause-valid : goal.returns-clause-valid
returns-clause-valid c =
    let m = c.args.ram.now in
    let s = c.args.self.now in
    let f = c.args.frame.0 in
    let is = c.requires.valid in
    let was = read (goal.at.returns-clause-valid c).After-index_mut in
    let room = none-free is (λ e. c.if-free-eq0.false (sym (c.free.ensures m) ∙ e)) in
    IsFreeList-count m s _ f (c.index_mut.result.now + 1) is was.0
    (omega (arith, holders-counted is f was.0, c.requires.held)) (omega arith) (returns-clause-list c) refl
    (omega (arith, was.1)) (omega (arith, room))

pub returns-clause-done : goal.returns-clause-done
returns-clause-done c =
    let m = c.args.ram.now in
    let s = c.args.self.now in
    let f = c.args.frame.0 in
    let is = c.requires.valid in
    let was = read (goal.at.returns-clause-done c).After-index_mut in
    holders-more is (returns-clause-valid c) f (c.index_mut.result.now + 1) (returns-clause-list c) was.0
    (omega (arith, holders-counted is f was.0, c.requires.held)) refl (omega (arith, was.1))
