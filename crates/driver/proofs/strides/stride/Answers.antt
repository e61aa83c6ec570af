use Rattle.std.proofs.Common.{arith}
use Rattle.driver.proofs.Striding.{idle-still, one-still, passes-gives, passes-none, passes-still}
use Rattle.unixmodel.specs.Failures.{Rises}
use Rattle.driver.proofs.strides.stride.Goals as goal

pub returns-then-is_idle-clause-still : goal.returns-then-is_idle-clause-still
returns-then-is_idle-clause-still g c = idle-still _ _ c.requires.up.goes (rw c.is_idle.ensures at c.if-is_idle.true)

pub returns-then-passed-gt0-clause-gives : goal.returns-then-passed-gt0-clause-gives
returns-then-passed-gt0-clause-gives g c = passes-gives c.requires.up c.instruct-passed.ensures.passes _ (Rises 0 0) tt

pub returns-then-passed-gt0-clause-still : goal.returns-then-passed-gt0-clause-still
returns-then-passed-gt0-clause-still g c = passes-still c.requires.up c.instruct-passed.ensures.passes

pub returns-clause-gives : goal.returns-clause-gives
returns-clause-gives g c =
    passes-none c.requires.up c.instruct-passed.ensures.passes _ _ _ _ c.give.result
    (omega (arith, c.if-passed-gt0.false)) c.give.ensures.gives

pub returns-clause-still : goal.returns-clause-still
returns-clause-still g c = one-still _
