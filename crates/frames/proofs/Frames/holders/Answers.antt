use Rattle.std.proofs.Common.{sym, ◌∙◌}
use Rattle.frames.proofs.FreeLemmas.{count-read}
use Rattle.frames.proofs.HolderLemmas.{holders-counted}
use Rattle.frames.proofs.Frames.holders.Goals as goal

pub returns : goal.returns
returns c = c.from.ensures
    ∙ count-read c.requires.valid c.args.frame.0 c.index.result.now c.requires.inside c.index.ensures
    ∙ sym (holders-counted c.requires.valid c.args.frame.0 c.requires.inside)
