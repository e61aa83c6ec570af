use Rattle.asm.proofs.Common.{◌∙◌, None, Some, map, placed_seen}
use Rattle.asm.proofs.LabelLemmas.{defined, shown}
use Rattle.asm.proofs.labels.definition.Goals as goal

pub returns-in_err-index : goal.returns-in_err-index
returns-in_err-index c =
    let is = defined c.args.labels.now (map placed_seen c.args.placed.now) c.requires c.args.name.now None
    c.in_err-index.ensures.value in
    rw c.from_residual.ensures is

pub returns : goal.returns
returns c =
    let is = defined c.args.labels.now (map placed_seen c.args.placed.now) c.requires c.args.name.now
    (Some c.in_ok-index.index.now) c.in_ok-index.ensures.value in
    let told = c.get-2.ensures.lookup in
    shown placed_seen c.args.placed.now c.in_ok-index.index.now c.get-2.result told.3 told.1 ∙ is
