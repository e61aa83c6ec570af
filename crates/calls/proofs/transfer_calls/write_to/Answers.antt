use Rattle.calls.proofs.Common.{refl, ◌∙◌}
use Rattle.calls.proofs.Sends.{puts-all, puts-beginning, puts-none}
use Rattle.calls.proofs.transfer_calls.write_to.Goals as goal

pub write_pipe-requires : goal.write_pipe-requires
write_pipe-requires g c = (_, rw c.in-Pipe.is at c.requires.goes)

pub returns-in-Pipe-clause-tries : goal.returns-in-Pipe-clause-tries
returns-in-Pipe-clause-tries g c = puts-none _ c.write_pipe.ensures

pub returns-in-Ok-clause-tries : goal.returns-in-Ok-clause-tries
returns-in-Ok-clause-tries g c =
    puts-all (rw c.in-Console.is at c.requires.goes) (c.from-count.ensures ∙ c.low.ensures) _ _ c.in-Ok.ensures.ok

pub returns-in-Err-Writer-clause-tries : goal.returns-in-Err-Writer-clause-tries
returns-in-Err-Writer-clause-tries g c = (
  c.in-Err-Writer.ensures.cause,
  puts-beginning (rw c.in-Console.is at c.requires.goes) (c.from-count.ensures ∙ c.low.ensures) _ _
      c.in-Err-Writer.ensures.err,
  refl,
)
