use Rattle.safe_files.proofs.StepLemmas.{known-then, same-keeps}
use Rattle.safe_files.proofs.put.replace.Goals as goal

pub returns-in-Err-clause-err : goal.returns-in-Err-clause-err
returns-in-Err-clause-err g c =
    known-then (same-keeps c.args.path.now c.in-Err.fault) _ _ _ c.loop-number.invariant c.in-Err.ensures.err
