use Rattle.console.proofs.Common.{arith, sym, length-ring, first-ring, none-ring}
use Rattle.console.proofs.input.Console.first.Goals as goal

pub returns-then-self-eq0-clause-first : goal.returns-then-self-eq0-clause-first
returns-then-self-eq0-clause-first c =
    rw (← c.self.view_is) (sym (none-ring _ _ _ _ c.if-self-eq0.true))

pub returns-then-self-eq0-clause-within : goal.returns-then-self-eq0-clause-within
returns-then-self-eq0-clause-within c = rw (← c.self.view_is, length-ring) (omega arith)

pub returns-clause-first : goal.returns-clause-first
returns-clause-first c =
    let s = c.self.inside in
    rw (← c.self.view_is) (sym (first-ring _ _ _ _ (omega (arith, c.if-self-eq0.false)) c.self.invariant.0))

pub returns-clause-within : goal.returns-clause-within
returns-clause-within c = rw (← c.self.view_is, length-ring) (omega arith)
