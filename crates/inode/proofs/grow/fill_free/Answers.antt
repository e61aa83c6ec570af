use Rattle.inode.proofs.Common.{arith, subst, goes-stays, step-done, step-failed, MayFill}
use Rattle.inode.proofs.grow.fill_free.Goals as goal

pub fill-requires : goal.fill-requires
fill-requires g c = record { parts = c.requires.parts; room = c.requires.room }

pub returns-in_err-b : goal.returns-in_err-b
returns-in_err-b g c = step-failed goes-stays c.fill.ensures c.in_err-b.was c.from_residual.ensures.1

pub unreachable-requires : goal.unreachable-requires
unreachable-requires g c =
    let none = subst (MayFill _ _ _ _) c.in_default.is c.in_ok-b.ensures.done in
    let zero = none.0 in
    omega (arith, c.requires.some)

pub returns : goal.returns
returns g c = step-done c.fill.ensures.goes (subst (MayFill _ _ _ _) c.in-Some.is c.in_ok-b.ensures.done)
