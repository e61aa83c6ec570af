use Rattle.imagecheck.proofs.Common.{[], ◌+◌, ◌<◌, ◌≤◌, ◌∷◌, ◌++◌, take, drop, subst, ap, ◌∙◌, arith, count_in}
use Rattle.imagecheck.proofs.Common.{direct-high, direct-low, format_of, named_by, single, taken_blocks, HasSuper-of}
use Rattle.imagecheck.proofs.Common.{HasMarks, IsOnce}
use Rattle.std.proofs.Common.{take_all}
use Rattle.layout.proofs.Places.{taken-there}
use Rattle.imagecheck.proofs.Slotting.{IsNamed, IsNamed-at, found-at, named-long}
use Rattle.imagecheck.proofs.marks.mark_all.Goals as goal
use Rattle.imagecheck.proofs.marks.mark_all.Goals.{At-loop-k, After-slot_at, After-number}
use Rattle.imagerules.proofs.Marking.{list_more, list_split, mark_more, mark_shared}

-- how many data blocks its size asks for
small : (c : At-loop-k) → count_in c.args.image.now c.args.n ≤ single (format_of c.args.image.now)
small c = rw c.block_count-count.ensures.count at c.block_count-count.ensures.most

-- the slot that the walk is at is one that is asked for
within : (c : After-slot_at)
    → c.loop-k.k < taken_blocks (format_of c.args.image.now) (count_in c.args.image.now c.args.n)
within c = rw (c.index_blocks.ensures.told, c.format_of-format.ensures, c.block_count-count.ensures.count)
    at c.loop-k-test.true

-- the number that the walk has read
named : (c : After-number) → IsNamed c.args.image.now c.args.n c.loop-k.k c.number.result
named c =
    rw (c.number.ensures, c.slot_at.ensures, c.format_of-format.ensures, c.block_count-count.ensures.count)
    (IsNamed-at c.args.image.now c.args.n (small ((goal.at.After-number c).At-loop-k))
    (HasSuper-of c.args.image.now c.requires.rules) c.requires.addresses c.loop-k.k
    (within ((goal.at.After-number c).After-slot_at)))

pub slot_at-requires-clause-within : goal.slot_at-requires-clause-within
slot_at-requires-clause-within c =
    let image = c.args.image.now in
    let low = rw (c.index_blocks.ensures.told, c.format_of-format.ensures) at c.loop-k-test.true in
    rw c.format_of-format.ensures
    (omega (
      arith,
      taken-there (format_of image) (direct-low image) (direct-high image) c.block_count-count.result
          c.block_count-count.ensures.most,
    ))

pub number-requires-clause-found : goal.number-requires-clause-found
number-requires-clause-found c =
    let at = goal.at.number-requires-clause-found c in
    rw (c.slot_at.ensures, c.format_of-format.ensures, c.block_count-count.ensures.count)
    (found-at c.args.image.now c.args.n (small at.At-loop-k) (HasSuper-of c.args.image.now c.requires.rules)
    c.requires.addresses c.loop-k.k (within at.After-slot_at))

pub mark-requires : goal.mark-requires
mark-requires c = omega (arith, (named c).inside, c.requires.long, c.loop-k.auto.marks)

pub returns-then-not-mark : goal.returns-then-not-mark
returns-then-not-mark c = λ before h once.
    let xs = named_by c.args.image.now c.args.n in
    let k = c.loop-k.k in
    let is = named ((goal.at.returns-then-not-mark c).After-number) in
    mark_shared (before ++ take k xs) c.number.result c.loop-k.marks c.mark.new.marks c.mark.result
    (omega (arith, is.inside, c.requires.long, c.loop-k.auto.marks)) c.mark.ensures.free
    (c.loop-k.invariant before h) c.if-not-mark.true
    (drop (k + 1) xs) (rw is.is (subst IsOnce (list_split before xs k is.within) once))

pub loop-k-preserved : goal.loop-k-preserved
loop-k-preserved c = λ before h.
    let xs = named_by c.args.image.now c.args.n in
    let k = c.loop-k.k in
    let is = named ((goal.at.loop-k-preserved c).After-number) in
    subst (λ ys. HasMarks ys c.mark.new.marks)
    (ap (λ b. (before ++ take k xs) ++ (b ∷ [])) is.is ∙ list_more before xs k is.within)
    (mark_more (before ++ take k xs) c.number.result c.loop-k.marks c.mark.new.marks c.mark.result
    (omega (arith, is.inside, c.requires.long, c.loop-k.auto.marks)) c.mark.ensures.free
    (c.loop-k.invariant before h) c.mark.ensures.marks c.if-not-mark.false)

pub returns : goal.returns
returns c = λ before h.
    let past = rw (c.index_blocks.ensures.told, c.format_of-format.ensures, c.block_count-count.ensures.count)
    at c.loop-k-test.false in
    subst (λ ys. HasMarks (before ++ ys) c.loop-k.marks)
    (take_all c.loop-k.k (named_by c.args.image.now c.args.n)
    (omega (arith, named-long c.args.image.now c.args.n (small (goal.at.returns c).At-loop-k))))
    (c.loop-k.invariant before h)
