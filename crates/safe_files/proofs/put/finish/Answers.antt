use Rattle.std.proofs.lemmas.Result.{on_err_weaker, on_ok_weaker}
use Rattle.safe_files.proofs.StepLemmas.{ends, known-synced, known-then, on-err, spoils, written}
use Rattle.safe_files.proofs.put.finish.Goals as goal

pub returns-in_err-sync_all-clause-err : goal.returns-in_err-sync_all-clause-err
returns-in_err-sync_all-clause-err g c =
    on-err c.from_residual-in_err-sync_all.result
    (known-then (spoils c.args.bytes.now) _ _ _ c.in_ok-write.ensures.ok c.in_err-sync_all.ensures.err)

pub rename-requires-clause-synced : goal.rename-requires-clause-synced
rename-requires-clause-synced g c = known-synced _ _ c.in_ok-sync_all.ensures.ok

pub returns-clause-ok : goal.returns-clause-ok
returns-clause-ok g c =
    let stands = known-then (written c.args.bytes.now) _ _ _ c.in_ok-write.ensures.ok c.in_ok-sync_all.ensures.ok in
    on_ok_weaker c.rename.result (known-then (ends c.args.begun.now c.args.path.now c.args.bytes.now) _ _ _ stands)
    c.rename.ensures.ok

pub returns-clause-err : goal.returns-clause-err
returns-clause-err g c =
    let stands = known-then (written c.args.bytes.now) _ _ _ c.in_ok-write.ensures.ok c.in_ok-sync_all.ensures.ok in
    on_err_weaker c.rename.result (known-then (spoils c.args.bytes.now) _ _ _ stands) c.rename.ensures.err
