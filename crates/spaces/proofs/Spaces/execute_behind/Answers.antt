use Rattle.spaces.proofs.Common.{◌≡◌, ◌-◌, ◌+◌, ◌∙◌, ◌<◌, ◌≤◌, ℕ, List, Err, EndsAt, arith, inl, inr, refl, subst, sym}
use Rattle.spaces.proofs.Common.{IfSome, view_at, cycle}
use Rattle.spaces.proofs.SpacesLemmas.{AdvancesTo, advances-on, begins, goes-on, still-past, stops-at}
use Rattle.spaces.proofs.Spaces.execute_behind.Given as given
use Rattle.spaces.proofs.Spaces.execute_behind.Goals as goal
use Rattle.spaces.proofs.Spaces.execute_behind.Goals.{After-is_at, After-run-done}

-- after the first instruction
one : (g : given.Over) (c : After-is_at g) → (c.execute_one.new.self.active ≡ c.args.self.now.active)
    × AdvancesTo (g.S.Stops.addresses c.args.stops.now) (c.args.count - c.loop-left.left + 1) c.args.self.now.active
    c.args.self.now c.execute_one.new.self
one g c =
    let before = c.loop-left.invariant in
    goes-on _ (c.args.count - c.loop-left.left) c.args.self.now c.loop-left.self c.execute_one.new.self
    c.args.self.now.active c.execute_one.result c.requires before.active before.advances before.past
    c.in_default.is c.execute_one.ensures.done

-- after a run
ran : (g : given.Over) (c : After-run-done g) → (c.run-done.new.self.active ≡ c.args.self.now.active)
    × AdvancesTo (g.S.Stops.addresses c.args.stops.now) (c.args.count - (c.loop-left.left - 1 - c.run-done.result.0))
    c.args.self.now.active c.args.self.now c.run-done.new.self
ran g c =
    let now = one g (goal.at.After-run-done g c).After-is_at in
    let sum : c.args.count - c.loop-left.left + 1 + c.run-done.result.0
    ≡ c.args.count - (c.loop-left.left - 1 - c.run-done.result.0) =
    omega (arith, c.loop-left.invariant.bounded, c.loop-left-test.true, c.run-done.ensures.within) in (
      c.run-done.ensures.active ∙ now.0,
      advances-on _ (c.args.count - c.loop-left.left + 1) c.run-done.result.0
          (c.args.count - (c.loop-left.left - 1 - c.run-done.result.0)) c.args.self.now.active c.args.self.now
          c.execute_one.new.self c.run-done.new.self
          sum now.0 (λ more. sym c.if-is_at.ensures) now.1 c.run-done.ensures.done,
    )

pub loop-left-init : goal.loop-left-init
loop-left-init g c = record {
  bounded = omega arith;
  active = refl;
  past = λ more. absurd (omega (arith, more));
  advances = (let none : c.args.count - c.args.count ≡ 0 = omega arith
      in rw none (begins _ c.args.self.now c.args.self.now.active));
}

pub loop-left-preserved : goal.loop-left-preserved
loop-left-preserved g c =
    let now = ran g (goal.at.loop-left-preserved g c).After-run-done in
    record {
      bounded = omega (arith, c.loop-left.invariant.bounded);
      active = now.0;
      past = λ more. still-past _ (sym c.if-is_at.ensures) (rw c.in-Some-stopped.is at c.run-done.ensures.behind);
      advances = now.1;
    }

-- the first instruction traps
pub returns-in-Some-clause-done : goal.returns-in-Some-clause-done
returns-in-Some-clause-done g c =
    (stops-at _ (c.args.count - c.loop-left.left) c.args.self.now.active c.args.self.now c.loop-left.self
    c.execute_one.new.self c.in-Some.trap c.requires c.loop-left.invariant.active c.loop-left.invariant.advances
    c.in-Some.ensures.trap).0

pub returns-in-Some-clause-trap : goal.returns-in-Some-clause-trap
returns-in-Some-clause-trap g c = (
  omega (arith, c.loop-left-test.true, c.loop-left.invariant.bounded),
  (stops-at _ (c.args.count - c.loop-left.left) c.args.self.now.active c.args.self.now c.loop-left.self
      c.execute_one.new.self c.in-Some.trap c.requires c.loop-left.invariant.active c.loop-left.invariant.advances
      c.in-Some.ensures.trap).1,
)

-- the first instruction leads to a stop
pub returns-then-is_at-clause-done : goal.returns-then-is_at-clause-done
returns-then-is_at-clause-done g c =
    let sum : c.args.count - c.loop-left.left + 1 ≡ c.args.count - (c.loop-left.left - 1) =
    omega (arith, c.loop-left.invariant.bounded, c.loop-left-test.true) in
    subst (λ n. AdvancesTo (g.S.Stops.addresses c.args.stops.now) n c.args.self.now.active c.args.self.now
    c.execute_one.new.self) sum (one g (goal.at.returns-then-is_at-clause-done g c).After-is_at).1

pub returns-then-is_at-clause-ends : goal.returns-then-is_at-clause-ends
returns-then-is_at-clause-ends g c =
    inr (omega (arith, c.loop-left.invariant.bounded, c.loop-left-test.true), sym c.if-is_at.ensures)

-- all are done, or it is at a stop
pub returns-in_default-stopped-clause-done : goal.returns-in_default-stopped-clause-done
returns-in_default-stopped-clause-done g c =
    (ran g (goal.at.returns-in_default-stopped-clause-done g c).After-run-done).1

ends : (stops : List ℕ) (count left done pc : ℕ) → left ≤ count → 0 < left → done ≤ left - 1
    → EndsAt stops (left - 1) done pc → EndsAt stops count (count - (left - 1 - done)) pc
ends stops count left done pc bounded some within (inl all) = inl (omega (arith, bounded, some, all))
ends stops count left done pc bounded some within (inr at) = inr (omega (arith, bounded, some, within), at.1)

pub returns-in_default-stopped-clause-ends : goal.returns-in_default-stopped-clause-ends
returns-in_default-stopped-clause-ends g c =
    ends _ c.args.count c.loop-left.left c.run-done.result.0 c.run-done.new.self.pc c.loop-left.invariant.bounded
    c.loop-left-test.true c.run-done.ensures.within (rw c.in_default-stopped.is at c.run-done.ensures.ends)

-- the next instruction traps
pub returns-then-not-is_store_fault-clause-done : goal.returns-then-not-is_store_fault-clause-done
returns-then-not-is_store_fault-clause-done g c =
    (ran g (goal.at.returns-then-not-is_store_fault-clause-done g c).After-run-done).1

pub returns-then-not-is_store_fault-clause-trap : goal.returns-then-not-is_store_fault-clause-trap
returns-then-not-is_store_fault-clause-trap g c =
    let some = rw c.in-Some-stopped.is at c.run-done.ensures.some in
    let traps = (rw c.in-Some-stopped.is at c.run-done.ensures.trap) c.if-not-is_store_fault.ensures in
    let active = (one g (goal.at.returns-then-not-is_store_fault-clause-trap g c).After-is_at).0 in (
      omega (arith, some, c.loop-left.invariant.bounded),
      subst (λ o. IfSome o (λ at. cycle c.run-done.new.self.registers c.run-done.new.self.pc
          (view_at c.run-done.new.self at).memory ≡ Err c.in-Some-stopped.trap)) active traps,
    )

pub returns-clause-done : goal.returns-clause-done
returns-clause-done g c =
    let all : c.args.count - c.loop-left.left ≡ c.args.count = omega (arith, c.loop-left-test.false) in
    subst (λ n. AdvancesTo (g.S.Stops.addresses c.args.stops.now) n c.args.self.now.active c.args.self.now
    c.loop-left.self) all c.loop-left.invariant.advances
