use Rattle.calls.proofs.Common.{here-of, sym}
use Rattle.calls.proofs.Acts.{sleeps-on, sleeps-over}
use Rattle.calls.proofs.process_calls.sleep_on.Goals as goal

pub returns-then-has_slept : goal.returns-then-has_slept
returns-then-has_slept g c =
    sleeps-over (here-of c.requires.runs) c.args.pending c.requires.number
    (rw c.ticks.ensures at (sym c.if-has_slept.ensures))

pub returns-else-has_slept : goal.returns-else-has_slept
returns-else-has_slept g c =
    sleeps-on (here-of c.requires.runs) c.args.pending c.requires.number
    (rw c.ticks.ensures at (sym c.if-has_slept.ensures))
