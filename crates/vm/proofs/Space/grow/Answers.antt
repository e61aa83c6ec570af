use Rattle.vm.proofs.Common.{◌≡◌, ℕ, take, ◌+◌, ◌-◌, ◌++◌, replicate, refl, ap, ◌∙◌, true, arith}
use Rattle.vm.proofs.Common.{frames_for, held, held-count, page_with, pages_below, read_below, Perm}
use Rattle.vm.proofs.Common.{entry_marks, marks_from, pages_in, right_marks, user_leaf}
use Rattle.vm.proofs.HeldLemmas.{length-held}
use Rattle.vm.proofs.PageLemmas.{leaf-user, leaf-valid, made-open, page-zero, take-mapping}
use Rattle.vm.proofs.Space.grow.Goals as goal
use Rattle.vm.proofs.Space.grow.Goals.{After-add_pages, After-leaf-leaf}

pub add_pages-requires-clause-held : goal.add_pages-requires-clause-held
add_pages-requires-clause-held c = rw c.pages_in-from.ensures c.requires

pub add_pages-requires-clause-small : goal.add_pages-requires-clause-small
add_pages-requires-clause-small c = omega (
  arith,
  ap frames_for c.pages_in-from.ensures,
  c.frames_for.ensures,
  c.frames_for-2.ensures,
  c.if-frames_for-from.false,
  c.free.ensures c.args.memory.now.ram,
  held-count c.requires.free
      (held c.args.memory.now.ram c.args.self.now.root.0 c.args.self.now.trap.0 (pages_in c.args.self.now.size))
      c.requires.held,
  length-held c.args.memory.now.ram c.args.self.now.root.0 c.args.self.now.trap.0 (pages_in c.args.self.now.size),
)

pub add_pages-requires-clause-room : goal.add_pages-requires-clause-room
add_pages-requires-clause-room c = omega (
  arith,
  c.frames_for.ensures,
  c.frames_for-2.ensures,
  c.if-frames_for-from.false,
  c.free.ensures c.args.memory.now.ram,
)

-- the leaf of a new page is open
open_leaf : (c : After-leaf-leaf) → c.leaf-leaf.result.0 ≡ user_leaf (marks_from c.args.perm) true
open_leaf c = c.leaf-leaf.ensures ∙ ap (λ (a : Perm). user_leaf a true) c.new.ensures

pub add_pages-requires-clause-leaf : goal.add_pages-requires-clause-leaf
add_pages-requires-clause-leaf c =
    let made = open_leaf (goal.at.add_pages-requires-clause-leaf c).After-leaf-leaf in
    record {
      marks = rw made (leaf-valid (marks_from c.args.perm) true);
      user = rw made (leaf-user (marks_from c.args.perm) true);
      wide = made-open _ (marks_from c.args.perm) made;
    }

-- the old pages are mapped as they were
front : (c : After-add_pages) (read : ℕ → Perm)
    → take (pages_in c.args.self.now.size)
    (read_below read c.add_pages.new.memory.ram c.args.self.now.root.0 (pages_in (c.args.self.now.size + c.args.bytes)))
    ≡ read_below read c.args.memory.now.ram c.args.self.now.root.0 (pages_in c.args.self.now.size)
front c read = take-mapping read c.add_pages.new.memory.ram c.args.self.now.root.0 _ _ (omega arith)
    ∙ (rw c.pages_in-from.ensures at c.add_pages.ensures).mapping read (pages_in c.args.self.now.size) (omega arith)

pub returns-clause-grows : goal.returns-clause-grows
returns-clause-grows c =
    let at = goal.at.returns-clause-grows c in
    let adds = rw (c.pages_in-from.ensures, c.pages_in-to.ensures) at c.add_pages.ensures in
    let old = pages_in c.args.self.now.size in
    let count = pages_in (c.args.self.now.size + c.args.bytes) - old in
    let blank = ap (page_with (replicate 4096 0)) (open_leaf at.After-leaf-leaf) ∙ page-zero (marks_from c.args.perm) in
    record {
      resizes = record {
        space = adds.held;
        root = refl;
        registers = adds.registers;
        opens = adds.opens;
        trades = adds.trades;
      };
      size = refl;
      pages = adds.pages
          ∙ ap (λ x. pages_below c.args.memory.now.ram c.args.self.now.root.0 old ++ replicate count x) blank;
      mapping = front at.After-add_pages right_marks;
      entries = front at.After-add_pages entry_marks;
    }
