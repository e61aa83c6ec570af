use Rattle.vm.proofs.Common.{arith, ap, sym, ◌∙◌, is_open}
use Rattle.vm.proofs.DenseLemmas.{frame_at-is, marks_at-is}
use Rattle.vm.proofs.Space.open_frame.Goals as goal

pub returns-then-contains-clause-page : goal.returns-then-contains-clause-page
returns-then-contains-clause-page c = omega (arith, c.pages_in.ensures, c.if-page-pages_in.false)

pub returns-then-contains-clause-frame : goal.returns-then-contains-clause-frame
returns-then-contains-clause-frame c =
    frame_at-is c.args.ram.now c.args.self.now.root.0 c.args.page (sym c.in-Some.ensures)

pub returns-then-contains-clause-open : goal.returns-then-contains-clause-open
returns-then-contains-clause-open c =
    ap is_open (marks_at-is c.args.ram.now c.args.self.now.root.0 c.args.page (sym c.in-Some.ensures))
    ∙ sym (c.contains.ensures tt) ∙ c.if-contains.true
