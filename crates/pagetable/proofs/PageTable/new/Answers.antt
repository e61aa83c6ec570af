use Rattle.pagetable.proofs.ShapeLemmas.{IsPaged-new, IsTidy-empty}
use Rattle.pagetable.proofs.WriteLemmas.{free-first}
use Rattle.pagetable.proofs.PageTable.new.Goals as goal

pub zero-requires : goal.zero-requires
zero-requires c = (free-first c.requires c.in-Some.root.0 _ c.in-Some.ensures.some).0

pub returns-in-Some : goal.returns-in-Some
returns-in-Some c =
    let some = c.in-Some.ensures in
    let made = IsPaged-new c.args.memory.now.ram c.in-Some.root.0 c.args.memory.now.frames c.take.new.self c.requires
    some.some some.valid c.zero.new.self c.zero.ensures some.extra in
    record {
      some = record {
        paged = made.0;
        empty = made.1;
        tidy = IsTidy-empty made.1;
        taken = made.2;
        bytes = c.zero.ensures;
      };
      none = tt;
      extra = some.extra;
    }
