use Rattle.vm.proofs.Common.{suc, arith, add-one, OwnsFrames}
use Rattle.vm.proofs.Removed.{IsUnmapped, dropped, give-held, give-inside, unmapped-was}
use Rattle.vm.proofs.Tables.{for-same}
use Rattle.vm.proofs.Space.drop_page.Goals as goal
use Rattle.vm.proofs.Space.drop_page.Goals.{After-unmap_page-frame}

one_more : (c : After-unmap_page-frame)
    → OwnsFrames c.args.memory.now.ram c.args.self.now.root.0 c.args.self.now.trap.0 (suc c.args.n)
    c.args.memory.now.frames
one_more c = rw (← add-one c.args.n) c.requires.held

unmapped : (c : After-unmap_page-frame)
    → IsUnmapped c.args.memory.now.ram c.unmap_page-frame.new.memory.ram c.args.self.now.root.0 c.args.n
    c.unmap_page-frame.result.0 c.args.memory.now.frames c.unmap_page-frame.new.memory.frames
unmapped c =
    let e = c.unmap_page-frame.ensures.unmaps in
    let was = unmapped-was _ c.args.self.now.root.0 c.args.n ((one_more c).dense.pages c.args.n (omega arith)) e.was in
    record {
      was = was;
      removes = e.removes;
      drops = e.drops;
      tidy = e.tidy;
      paged = e.changes.paged;
      keeps = e.changes.keeps;
      extra = e.changes.extra;
    }

pub give-requires : goal.give-requires
give-requires c =
    let at = (goal.at.give-requires c).After-unmap_page-frame in
    let u = unmapped at in
    record { valid = u.paged.free; inside = give-inside (one_more at) u; held = give-held (one_more at) u }

pub returns : goal.returns
returns c =
    let at = (goal.at.returns c).After-unmap_page-frame in
    let e = c.give.ensures in
    let d = dropped (one_more at) (unmapped at) c.give.new.ram c.give.new.self
    (record { valid = e.valid; holders = e.holders; others = e.others; stays = λ more. (e.stays more).1 }) in
    record {
      low = for-same _ _ _ _ c.args.low d.nodes c.unmap_page-frame.ensures.low;
      drops = record {
        held = d.space;
        pages = d.pages;
        mapping = d.mapping;
        registers = d.trap;
        trades = d.trades;
      };
    }
