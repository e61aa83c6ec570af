use Rattle.vm.proofs.Common.{◌≡◌, false, true, ap, arith, refl, ◌∙◌, Perm, shared_marks, marks_at, is_open, right_marks}
use Rattle.vm.proofs.Common.{user_leaf, IsPart, IsSpace}
use Rattle.vm.proofs.Added.{IsBefore, next-fits, ok-unless_err}
use Rattle.vm.proofs.Forked.{IsClosed, closed-free, more-some, part-before, part-closed, part-holder, part-more}
use Rattle.vm.proofs.PageLemmas.{leaf-closed}
use Rattle.vm.proofs.Remap.{IsMadeLeaf, made-leaf, page-inside-is}
use Rattle.vm.proofs.BesideLemmas.{OwnsFrames-paged}
use Rattle.vm.proofs.Space.share_page.Goals as goal
use Rattle.vm.proofs.Space.share_page.Goals.{After-closed_leaf-closed, After-set_page, After-share}

made : (c : After-closed_leaf-closed)
    → IsMadeLeaf c.args.memory.now.ram c.args.self.now.root.0 c.args.page c.unwrap.result.0.0
    c.closed_leaf-closed.result.0 shared_marks false
made c = made-leaf _ _ _ _ c.unwrap.result.1.0 _ shared_marks false (rw c.unwrap.ensures at c.find.ensures)
    (c.closed_leaf-closed.ensures ∙ ap (λ (a : Perm). user_leaf (shared_marks a) false) c.marks_of.ensures)

shut : (c : After-closed_leaf-closed) → is_open c.closed_leaf-closed.result.0 ≡ false
shut c = ap is_open (made c).made
    ∙ leaf-closed (right_marks (marks_at c.args.memory.now.ram c.args.self.now.root.0 c.args.page))

closed : (c : After-set_page)
    → IsClosed c.args.memory.now.ram c.set_page.new.memory.ram c.args.self.now c.args.page c.unwrap.result.0.0
    c.closed_leaf-closed.result.0 c.args.memory.now.frames c.set_page.new.memory.frames
closed c =
    let leaf = (goal.at.After-set_page c).After-closed_leaf-closed in
    let e = c.set_page.ensures.sets in
    record {
      stands = e.stands;
      page = e.page;
      pages = e.pages;
      held = e.held;
      frames = e.frames;
      frame = e.has.frame;
      marks = e.has.marks;
      right = (made leaf).right;
      closed = shut leaf;
    }

part : (c : After-set_page) → IsPart c.set_page.new.memory.ram c.args.self.now c.args.child.now c.args.page
    c.set_page.new.memory.frames
part c = (part-closed c.requires.part c.requires.page (closed c)).0

pub set_page-requires : goal.set_page-requires
set_page-requires c =
    let leaf = (goal.at.set_page-requires c).After-closed_leaf-closed in
    let m = made leaf in
    record {
      space = c.requires.part.parent;
      may = record { page = c.requires.page; frame = m.frame; marks = m.marks; user = m.leaf };
      sole = λ wide. absurd (let e = shut leaf in cc);
    }

-- the frame gets a holder then
both : (c : After-share) → c.share.result ≡ true
    → IsSpace c.set_page.new.memory.ram c.args.self.now c.share.new.self
    × IsBefore c.set_page.new.memory.ram c.args.child.now.root.0 c.args.child.now.trap.0 c.args.page c.unwrap.result.0.0
    c.closed_leaf-closed.result.0 c.share.new.self
both c done =
    let set = (goal.at.After-share c).After-set_page in
    let e = closed set in
    part-before (part set) c.requires.page e.frame e.marks e.closed c.share.ensures.valid
    (rw done at c.share.ensures.done) c.share.ensures.list

pub share-requires-clause-held : goal.share-requires-clause-held
share-requires-clause-held c =
    part-holder (part ((goal.at.share-requires-clause-held c).After-set_page)) c.requires.page
    c.set_page.ensures.sets.has.frame

pub unreachable-requires : goal.unreachable-requires
unreachable-requires c =
    let set = (goal.at.unreachable-requires c).After-set_page in
    let free = closed-free (closed set) c.requires.part.parent in
    omega (
      arith,
      c.if-not-share.ensures.refused.0,
      more-some (part set) c.requires.page (omega (arith, c.requires.room, free)),
    )

pub map-requires : goal.map-requires
map-requires c =
    let at = goal.at.map-requires c in
    let before = (both at.After-share c.if-not-share.false).1 in
    let inside = page-inside-is c.set_page.ensures.sets.stands.space _ _ c.requires.page
    c.set_page.ensures.sets.has.frame in
    record {
      paged = OwnsFrames-paged before.space;
      page = omega (arith, before.small);
      frame = inside;
      marks = (made at.After-closed_leaf-closed).marks;
    }

pub unwrap-requires-2 : goal.unwrap-requires-2
unwrap-requires-2 c =
    let at = goal.at.unwrap-requires-2 c in
    let before = (both at.After-share c.if-not-share.false).1 in
    let free = closed-free (closed at.After-set_page) c.requires.part.parent in
    ok-unless_err _ (λ e err. omega (
      arith,
      (rw err at c.map.ensures.refused).0 refl,
      next-fits before.space before.small (omega (arith, c.requires.room, free, c.if-not-share.ensures.fewer)),
    ))

pub returns : goal.returns
returns c =
    let at = goal.at.returns c in
    let leaf = at.After-closed_leaf-closed in
    let m = rw c.unwrap-2.ensures at c.map.ensures.mapped in
    let before = (both at.After-share c.if-not-share.false).1 in
    part-more c.requires.part c.requires.page (closed at.After-set_page) (made leaf).frame c.share.ensures.valid
    c.if-not-share.ensures.done c.share.ensures.list
    (record {
      leaf = (made leaf).leaf;
      inserts = m.maps;
      adds = m.adds;
      tidy = m.tidy before.space.dense.tidy;
      paged = m.changes.paged;
      keeps = m.changes.keeps;
      extra = m.changes.extra;
    })
