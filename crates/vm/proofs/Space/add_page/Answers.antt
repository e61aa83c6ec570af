use Rattle.vm.proofs.Common.{arith, ap, ◌+◌, ◌-◌, ◌∙◌, ◌≡◌, replicate, get_or-set_same, frame_of, free-first}
use Rattle.vm.proofs.DenseLemmas.{marks_at-is}
use Rattle.vm.proofs.BesideLemmas.{IsTaken, IsTaken-set}
use Rattle.vm.proofs.Added.{IsBefore, taken-before, taken-fits, taken-grown, taken-nodes}
use Rattle.vm.proofs.PageLemmas.{open-more}
use Rattle.vm.proofs.Tables.{for-same}
use Rattle.vm.proofs.Space.add_page.Goals as goal
use Rattle.vm.proofs.Space.add_page.Goals.{After-zero}

taken : (c : After-zero) → IsTaken c.args.memory.now.ram c.zero.new.self c.args.memory.now.frames c.take.new.self
    c.unwrap-frame.result.0
taken c = IsTaken-set _ _ _ _ _ (replicate 4096 0) (rw c.unwrap-frame.ensures at c.take.ensures.some)
    c.take.ensures.valid c.zero.ensures c.take.ensures.extra

before : (c : After-zero)
    → IsBefore c.zero.new.self c.args.self.now.root.0 c.args.self.now.trap.0 c.args.n c.unwrap-frame.result.0
    c.args.marks.0 c.take.new.self
before c = taken-before c.requires.held (taken c) _ c.requires.small

pub zero-requires : goal.zero-requires
zero-requires c = (free-first c.requires.held.free c.unwrap-frame.result.0 _
    (rw c.unwrap-frame.ensures at c.take.ensures.some)).0

pub map_page-requires-clause-held : goal.map_page-requires-clause-held
map_page-requires-clause-held c = (before (goal.at.map_page-requires-clause-held c).After-zero).space

pub map_page-requires-clause-room : goal.map_page-requires-clause-room
map_page-requires-clause-room c =
    taken-fits c.requires.held (taken (goal.at.map_page-requires-clause-room c).After-zero) c.requires.small
    c.requires.room

pub map_page-requires-clause-frame : goal.map_page-requires-clause-frame
map_page-requires-clause-frame c =
    omega (
      arith,
      (taken (goal.at.map_page-requires-clause-frame c).After-zero).count,
      (free-first c.requires.held.free c.unwrap-frame.result.0 _ (rw c.unwrap-frame.ensures at c.take.ensures.some)).0,
    )

pub map_page-requires-clause-low : goal.map_page-requires-clause-low
map_page-requires-clause-low c = for-same _ _ _ c.args.n c.args.low
    (taken-nodes c.requires.held (taken (goal.at.map_page-requires-clause-low c).After-zero)) c.requires.low

pub returns : goal.returns
returns c =
    let z = (goal.at.returns c).After-zero in
    let mapped = c.map_page.ensures.mapped in
    let inside = (free-first c.requires.held.free c.unwrap-frame.result.0 _
    (rw c.unwrap-frame.ensures at c.take.ensures.some)).0 in
    let g = taken-grown c.requires.held (taken z) c.map_page.new.memory.ram c.requires.small
    (ap (λ m. frame_of m c.unwrap-frame.result.0) c.zero.ensures
    ∙ get_or-set_same c.args.memory.now.ram c.unwrap-frame.result.0 (replicate 4096 0) _ inside)
    (record {
      leaf = c.requires.leaf.user;
      inserts = mapped.maps;
      adds = mapped.adds;
      tidy = mapped.tidy (before z).space.dense.tidy;
      paged = mapped.changes.paged;
      keeps = mapped.changes.keeps;
      extra = mapped.changes.extra;
    }) in
    let one : c.args.n + 1 - c.args.n ≡ 1 = omega arith in
    record {
      low = c.map_page.ensures.low;
      adds = record {
        held = g.space;
        pages = rw one g.pages;
        mapping = g.mapping;
        opens = λ first h. open-more c.args.memory.now.ram c.map_page.new.memory.ram c.args.self.now.root.0 c.args.n
            first c.args.marks.0 (λ read. g.mapping read c.args.n (omega arith))
            (marks_at-is c.map_page.new.memory.ram _ _ mapped.maps.changed) c.requires.leaf.wide h;
        registers = g.trap;
        trades = g.trades;
        room = g.room;
      };
    }
