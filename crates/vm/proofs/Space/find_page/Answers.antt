use Rattle.vm.proofs.Common.{Some, sym, ap, ◌∙◌, arith, lookup-sound, right_marks, pages_in}
use Rattle.vm.proofs.DenseLemmas.{frame_at-is, marks_at-is}
use Rattle.vm.proofs.PageLemmas.{get-mapping, mapping-past, mapped-parts}
use Rattle.vm.proofs.Space.find_page.Goals as goal

pub returns-then-page-pages_in-clause-found : goal.returns-then-page-pages_in-clause-found
returns-then-page-pages_in-clause-found c =
    sym (mapping-past right_marks c.args.ram.now c.args.self.now.root.0 (pages_in c.args.self.now.size) c.args.page
    (omega (arith, c.pages_in.ensures, c.if-page-pages_in.true)))

pub returns-clause-found : goal.returns-clause-found
returns-clause-found c =
    let m = c.args.ram.now in
    let r = c.args.self.now.root.0 in
    let found = sym c.in_ok-frame.ensures in
    ap Some (mapped-parts (sym (frame_at-is m r c.args.page found))
    (c.marks_of.ensures ∙ ap right_marks (sym (marks_at-is m r c.args.page found))))
    ∙ sym (get-mapping right_marks m r (pages_in c.args.self.now.size) c.args.page
    (omega (arith, c.pages_in.ensures, c.if-page-pages_in.false)))

pub returns-clause-inside : goal.returns-clause-inside
returns-clause-inside c = (lookup-sound c.requires.tree c.args.page (sym c.in_ok-frame.ensures)).0
