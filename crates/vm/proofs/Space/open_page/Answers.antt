use Rattle.vm.specs.Owned.{MayHave}
use Rattle.vm.proofs.Common.{◌<◌, arith, ap, sym, true, ◌∙◌, further_at, Perm, user_leaf, pages_in}
use Rattle.vm.proofs.Remap.{IsMadeLeaf, made-leaf, page-inside-is, page-shared, page-single}
use Rattle.vm.proofs.PageLemmas.{open-one}
use Rattle.vm.proofs.Space.open_page.Goals as goal
use Rattle.vm.proofs.Space.open_page.Goals.{After-leaf-open}

made : (c : After-leaf-open)
    → IsMadeLeaf c.args.memory.now.ram c.args.self.now.root.0 c.args.page c.unwrap.result.0.0 c.leaf-open.result.0
    (λ rights. rights) true
made c = made-leaf _ _ _ _ c.unwrap.result.1.0 _ (λ (a : Perm). a) true (rw c.unwrap.ensures at c.find.ensures)
    (c.leaf-open.ensures ∙ ap (λ (a : Perm). user_leaf a true) c.marks_of.ensures)

pub holders-requires-clause-inside : goal.holders-requires-clause-inside
holders-requires-clause-inside c =
    page-inside-is c.requires.space _ _ c.requires.page
    (made (goal.at.holders-requires-clause-inside c).After-leaf-open).frame

may : (c : After-leaf-open) → c.args.page < pages_in c.args.self.now.size
    → MayHave c.args.memory.now c.args.self.now c.args.page c.unwrap.result.0.0 c.leaf-open.result.0
may c page = let m = made c in record { page = page; frame = m.frame; marks = m.marks; user = m.leaf }

pub split_page-requires : goal.split_page-requires
split_page-requires c =
    let at = (goal.at.split_page-requires c).After-leaf-open in
    record {
      space = c.requires.space;
      may = may at c.requires.page;
      shared = omega (arith, c.holders.ensures, c.if-holders-gt1.true);
      right = (made at).right;
    }

pub set_page-requires : goal.set_page-requires
set_page-requires c =
    let at = (goal.at.set_page-requires c).After-leaf-open in
    record {
      space = c.requires.space;
      may = may at c.requires.page;
      sole = λ wide. page-single c.requires.space _ _ c.requires.page (made at).frame
          (omega (arith, c.holders.ensures, c.if-holders-gt1.false));
    }

pub returns-then-holders-gt1 : goal.returns-then-holders-gt1
returns-then-holders-gt1 c =
    let m = made (goal.at.returns-then-holders-gt1 c).After-leaf-open in
    let e = c.split_page.ensures in
    record {
      opens = record {
        same = e.same;
        sole = e.sole;
        frame = e.has.frame;
        marks = e.has.marks ∙ m.made;
        opens = λ first h. open-one c.args.memory.now.ram c.split_page.new.memory.ram c.args.self.now.root.0
            (pages_in c.args.self.now.size) c.args.page first _ (e.has.marks ∙ m.made) e.has.others h;
      };
      kept = λ alone. absurd (page-shared c.args.memory.now.ram c.args.memory.now.frames c.unwrap.result.0.0
          c.requires.space.free (omega (arith, c.holders.ensures, c.if-holders-gt1.true))
          (ap (further_at c.args.memory.now.frames) (sym m.frame) ∙ alone));
    }

pub returns-else-holders-gt1 : goal.returns-else-holders-gt1
returns-else-holders-gt1 c =
    let m = made (goal.at.returns-else-holders-gt1 c).After-leaf-open in
    let e = c.set_page.ensures.sets in
    record {
      opens = record {
        same = c.set_page.ensures.same m.right;
        sole = rw e.holders (page-single c.requires.space _ _ c.requires.page m.frame
            (omega (arith, c.holders.ensures, c.if-holders-gt1.false)));
        frame = e.has.frame;
        marks = e.has.marks ∙ m.made;
        opens = λ first h. open-one c.args.memory.now.ram c.set_page.new.memory.ram c.args.self.now.root.0
            (pages_in c.args.self.now.size) c.args.page first _ (e.has.marks ∙ m.made) e.has.others h;
      };
      kept = λ alone. sym m.frame;
    }
