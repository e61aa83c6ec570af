use Rattle.pagetable.proofs.Common.{among_first_not, ap, arith, free_of, Links, sym, ◌∙◌, ◌∷◌}
use Rattle.pagetable.proofs.WriteLemmas.{free-first, free-link}
use Rattle.pagetable.proofs.TreeLemmas.{Links-put}
use Rattle.pagetable.proofs.link.Goals as goal

pub zero-requires : goal.zero-requires
zero-requires c = (free-first c.requires.valid c.unwrap-fresh.result.0 (free_of c.args.memory.now.ram c.take.new.self)
    (rw c.unwrap-fresh.ensures at c.take.ensures.some)).0

pub returns : goal.returns
returns c =
    let m = c.args.memory.now.ram in
    let some = rw c.unwrap-fresh.ensures at c.take.ensures.some in
    let t = c.args.table.0 in
    let u = c.unwrap-fresh.result.0 in
    let rest = free_of m c.take.new.self in
    let inside = (free-first c.requires.valid u rest some).0 in
    let links : Links m c.store_u64.new.self t c.args.index u =
    rw (c.store_u64.ensures, c.zero.ensures, c.from.ensures, c.from-2.ensures)
    (Links-put m t c.args.index u c.frames_are_whole.ensures.memory c.requires.table inside
    (among_first_not t u rest (rw some at c.requires.apart)).0 c.requires.index (omega (arith, inside))) in
    let free = free-link c.requires.valid c.take.ensures.valid links some c.requires.apart in
    record { taken = some ∙ ap (λ l. u ∷ l) (sym free.0); valid = free.1; links = links; extra = c.take.ensures.extra }
