use Rattle.calls.proofs.Common.{ap, current, current-is, has_seat, here-of, Kernel, Open, sym, ◌∙◌}
use Rattle.calls.proofs.Names.{after-look, looked, read-runs}
use Rattle.calls.proofs.Openable.{cut-runs}
use Rattle.calls.proofs.Opens.{may-open-cut, node-then, open-closed, open-found, open-full, open-node}
use Rattle.calls.proofs.Acts.{err-lost}
use Rattle.calls.proofs.open_calls.open_found.Goals as goal

pub stat-requires-clause-node : goal.stat-requires-clause-node
stat-requires-clause-node g c = open-node (here-of c.requires.runs) c.requires.asks

pub returns-then-not-may_open : goal.returns-then-not-may_open
returns-then-not-may_open g c =
    open-closed (here-of c.requires.runs) c.requires.asks c.in_ok-told.told c.in_ok-told.ensures
    (sym c.if-not-may_open.ensures)

pub returns-then-not-has_seat : goal.returns-then-not-has_seat
returns-then-not-has_seat g c =
    open-full (here-of c.requires.runs) c.requires.asks c.in_ok-told.told c.in_ok-told.ensures
    (rw (looked c.in_ok-told.ensures.0) at (sym c.if-not-has_seat.ensures))

pub cut-requires-clause-node : goal.cut-requires-clause-node
cut-requires-clause-node g c =
    node-then (here-of c.requires.runs) c.requires.asks c.in_ok-told.told c.in_ok-told.ensures

pub open_on-descriptor-requires : goal.open_on-descriptor-requires
open_on-descriptor-requires g c =
    let runs = cut-runs c.in_ok-cut.ensures (read-runs c.in_ok-told.ensures.0 c.requires.runs) in
    let seat = rw (looked c.in_ok-told.ensures.0) at (sym c.if-not-has_seat.ensures) in
    rw (current-is runs.active) (record {
      runs = runs;
      seat = ap (λ (y : Kernel). has_seat y (current c.args.kernel.now)) c.in_ok-cut.ensures.same ∙ seat;
      may = may-open-cut (here-of c.requires.runs) c.requires.asks c.in_ok-told.told c.in_ok-told.ensures
          (sym c.if-not-may_open.ensures) c.in_ok-cut.ensures;
    })

pub returns : goal.returns
returns g c =
    let runs = cut-runs c.in_ok-cut.ensures (read-runs c.in_ok-told.ensures.0 c.requires.runs) in
    open-found (here-of c.requires.runs) c.requires.asks c.in_ok-told.told c.in_ok-told.ensures
    (sym c.if-not-may_open.ensures) c.in_ok-cut.ensures (rw (current-is runs.active) at c.open_on-descriptor.ensures)

pub cut-requires-clause-up : goal.cut-requires-clause-up
cut-requires-clause-up g c = (read-runs c.in_ok-told.ensures.0 c.requires.runs).up

pub returns-in_err-cut : goal.returns-in_err-cut
returns-in_err-cut g c =
    after-look c.in_ok-told.ensures.0 _ c.requires.runs.up Open _
    (err-lost c.stat.new.self c.cut.new.kernel _ Open c.from_residual-in_err-cut.result
    c.from_residual-in_err-cut.ensures.0 c.in_err-cut.ensures)
