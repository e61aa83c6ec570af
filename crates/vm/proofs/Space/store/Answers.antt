use Rattle.vm.proofs.Common.{◌≡◌, ◌<◌, ◌/◌, ◌%◌, ap, arith, length, subst, sym, ◌∙◌, put, page_frame, pages_in}
use Rattle.vm.proofs.StoreLemmas.{page-inside, put-alone, put-stands, put-stored}
use Rattle.vm.proofs.Space.store.Goals as goal
use Rattle.vm.proofs.Space.store.Goals.{After-write_part}

pub write_part-requires-clause-frame : goal.write_part-requires-clause-frame
write_part-requires-clause-frame c =
    let s = c.args.self.now in
    let m = c.args.ram.now in
    subst (λ f. f < length m) c.in_ok-frame.ensures.frame
    (page-inside m s.root.0 s.trap.0 (pages_in s.size) (c.args.address / 4096) c.requires.mapped
    c.in_ok-frame.ensures.page)

put-there : (c : After-write_part)
    → c.write_part.new.ram ≡ put c.args.ram.now (page_frame c.args.ram.now c.args.self.now (c.args.address / 4096))
    (c.args.address % 4096) c.args.bytes.now
put-there c = c.write_part.ensures
    ∙ ap (λ f. put c.args.ram.now f (c.args.address % 4096) c.args.bytes.now) (sym c.in_ok-frame.ensures.frame)

pub returns-clause-written : goal.returns-clause-written
returns-clause-written c =
    put-stored _ _ c.args.self.now c.args.address _ c.requires.mapped c.requires.once c.in_ok-frame.ensures.page
    (put-there (goal.at.returns-clause-written c).After-write_part) (omega arith) (omega arith)

pub returns-clause-stands : goal.returns-clause-stands
returns-clause-stands c =
    put-stands _ _ c.args.self.now c.args.address _ c.requires.mapped c.requires.once c.in_ok-frame.ensures.page
    (put-there (goal.at.returns-clause-stands c).After-write_part) c.in_ok-frame.ensures.open

pub returns-clause-alone : goal.returns-clause-alone
returns-clause-alone c =
    let s = c.args.self.now in
    let m = c.args.ram.now in
    put-alone m _ _ _ (subst (λ f. f < length m) c.in_ok-frame.ensures.frame
    (page-inside m s.root.0 s.trap.0 (pages_in s.size) (c.args.address / 4096) c.requires.mapped
    c.in_ok-frame.ensures.page)) c.write_part.ensures
