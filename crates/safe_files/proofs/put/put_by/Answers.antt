use Rattle.std.proofs.Common.{rules}
use Rattle.safe_files.proofs.StepLemmas.{known-given-up}
use Rattle.safe_files.proofs.put.put_by.Goals as goal

pub returns-in-Err-clause-err : goal.returns-in-Err-clause-err
returns-in-Err-clause-err g c =
    known-given-up c.args.begun.now _ _ (search rules) _ _ _ _ c.in-Ok.ensures.ok c.in-Err.ensures.err c.give_up.ensures
