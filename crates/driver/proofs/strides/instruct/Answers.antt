use Rattle.driver.proofs.Striding.{passes-nothing, passes-of}
use Rattle.driver.proofs.strides.instruct.Goals as goal

pub returns-then-not-is_loop-clause-passes : goal.returns-then-not-is_loop-clause-passes
returns-then-not-is_loop-clause-passes g c = passes-nothing c.args.machine.now

pub returns-then-passed-gt0-clause-passes : goal.returns-then-passed-gt0-clause-passes
returns-then-passed-gt0-clause-passes g c =
    passes-of c.requires c.compute-passed.ensures.computes c.compute-passed.ensures.same

pub returns-else-passed-gt0-clause-passes : goal.returns-else-passed-gt0-clause-passes
returns-else-passed-gt0-clause-passes g c =
    passes-of c.requires c.compute-passed.ensures.computes c.compute-passed.ensures.same

pub returns-then-passed-gt0-clause-within : goal.returns-then-passed-gt0-clause-within
returns-then-passed-gt0-clause-within g c = (c.compute-passed.ensures.computes c.requires).within

pub returns-else-passed-gt0-clause-within : goal.returns-else-passed-gt0-clause-within
returns-else-passed-gt0-clause-within g c = (c.compute-passed.ensures.computes c.requires).within
