use Rattle.std.proofs.Common.{[], ap, Ok, refl}
use Rattle.explore.proofs.Walking.{kept-there, went}
use Rattle.machine.specs.View.{View}
use Rattle.orders.specs.Paths.{events_of}
use Rattle.explore.proofs.along.AlongWalker.go.Goals as goal

pub go_on-requires-clause-last : goal.go_on-requires-clause-last
go_on-requires-clause-last g c = rw c.take-last.ensures.value c.args.self.now.is_there

pub invariant_of-self-2 : goal.invariant_of-self-2
invariant_of-self-2 g c = record {
  is_there = rw c.go_on.ensures.first
      (kept-there c.args.path.now c.args.self.now.first.now c.go_on.new.self.machine
      c.go_on.new.self.printed.inner.items c.in_ok-status.status c.in_ok-self.field-0 c.in_ok-status.ensures.goes
      c.in_ok-self.ensures);
  is_tidy = rw c.go_on.ensures.first c.args.self.now.is_tidy;
}

pub returns : goal.returns
returns g c =
    let first = c.args.self.now.first.now in
    record {
      reached = went (events_of c.args.path.now) first first c.go_on.new.self.machine []
          c.go_on.new.self.printed.inner.items refl refl (Ok c.in_ok-status.status) c.in_ok-status.ensures.goes;
      status = c.in_ok-status.ensures.goes.ends;
      start = ap (λ (m : View). m.state) c.go_on.ensures.first;
    }
