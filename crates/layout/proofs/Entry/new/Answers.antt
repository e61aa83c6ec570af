use Rattle.layout.proofs.Common.{◌++◌, ◌∙◌, ap, drop, length, drop-replicate}
use Rattle.unixmodel.specs.Memory.{zeros}
use Rattle.layout.proofs.Entry.new.Goals as goal

pub returns-clause-name : goal.returns-clause-name
unfolding zeros
returns-clause-name c =
    ap (λ front. front ++ drop (length c.args.name.now) (zeros 14)) c.copy_from_slice.ensures.after
    ∙ ap (λ rest. c.args.name.now ++ rest) (drop-replicate (length c.args.name.now) 14 0)
