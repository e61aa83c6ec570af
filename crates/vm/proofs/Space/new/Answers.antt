use Rattle.vm.proofs.Common.{arith, ap, refl, ◌∙◌, replicate, get_or-set_same, frame_of, free-first, IsTidy-empty}
use Rattle.vm.proofs.BesideLemmas.{IsTaken-set}
use Rattle.vm.proofs.Empty.{IsMade, IsStart, start-count, start-empty, start-made, start-missing, start-paged}
use Rattle.vm.proofs.Added.{ok-unless_err}
use Rattle.vm.proofs.Space.new.Goals as goal
use Rattle.vm.proofs.Space.new.Goals.{After-unwrap, After-zero}

start : (c : After-zero)
    → IsStart c.args.memory.now.ram c.new.new.memory.ram c.zero.new.self c.args.memory.now.frames
    c.new.new.memory.frames c.take.new.self c.unwrap-table.result.root.0 c.unwrap-trap.result.0
start c =
    let e = rw c.unwrap-table.ensures at c.new.ensures.some in
    let t = rw c.unwrap-trap.ensures at c.take.ensures in
    record {
      free = c.requires;
      extra = c.new.ensures.extra;
      first = e.taken;
      start = e.bytes;
      paged = e.paged;
      empty = e.empty;
      taken = IsTaken-set _ _ _ _ _ (replicate 4096 0) t.some t.valid c.zero.ensures t.extra;
    }

made : (c : After-unwrap)
    → IsMade c.args.memory.now.ram c.zero.new.self c.map.new.memory.ram c.unwrap-table.result.root.0
    c.unwrap-trap.result.0 c.args.memory.now.frames c.map.new.memory.frames
made c =
    let is = start (goal.at.After-unwrap c).After-zero in
    let e = rw c.unwrap.ensures at c.map.ensures.mapped in
    let tidy = e.tidy (IsTidy-empty (start-empty is)) in
    start-made is (record {
      leaf = refl;
      inserts = e.maps;
      adds = e.adds;
      tidy = tidy;
      paged = e.changes.paged;
      keeps = e.changes.keeps;
      extra = e.changes.extra;
    })

pub zero-requires : goal.zero-requires
zero-requires c = (free-first (rw c.unwrap-table.ensures at c.new.ensures.some).paged.free c.unwrap-trap.result.0 _
    (rw c.unwrap-trap.ensures at c.take.ensures.some)).0

pub map-requires-clause-paged : goal.map-requires-clause-paged
map-requires-clause-paged c = start-paged (start (goal.at.map-requires-clause-paged c).After-zero)

pub map-requires-clause-frame : goal.map-requires-clause-frame
map-requires-clause-frame c =
    omega (
      arith,
      (start (goal.at.map-requires-clause-frame c).After-zero).taken.count,
      (free-first (rw c.unwrap-table.ensures at c.new.ensures.some).paged.free c.unwrap-trap.result.0 _
          (rw c.unwrap-trap.ensures at c.take.ensures.some)).0,
    )

pub unwrap-requires : goal.unwrap-requires
unwrap-requires c =
    let s = start (goal.at.unwrap-requires c).After-zero in
    ok-unless_err _ (λ e err. omega (
      arith,
      (rw err at c.map.ensures.refused).0 refl,
      start-missing s,
      start-count s,
      c.free.ensures c.args.memory.now.ram,
    ))

pub returns-clause-made : goal.returns-clause-made
returns-clause-made c =
    let all = made (goal.at.returns-clause-made c).After-unwrap in
    let inside = (free-first (rw c.unwrap-table.ensures at c.new.ensures.some).paged.free c.unwrap-trap.result.0 _
    (rw c.unwrap-trap.ensures at c.take.ensures.some)).0 in
    record {
      space = all.space;
      size = refl;
      registers = all.registers ∙ ap (λ m. frame_of m c.unwrap-trap.result.0) c.zero.ensures
          ∙ get_or-set_same c.new.new.memory.ram c.unwrap-trap.result.0 (replicate 4096 0) _ inside;
      trades = all.trades;
    }
