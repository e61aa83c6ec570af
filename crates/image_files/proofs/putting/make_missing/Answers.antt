use Rattle.std.proofs.Common.{◌∙◌, sym}
use Rattle.image_files.proofs.Replacing.{plain, rests-changed}
use Rattle.tree.proofs.Keeping.{created-changed}
use Rattle.tree.specs.declared.making.Leaf.TheVariants as leaf
use Rattle.image_files.proofs.putting.make_missing.Goals as goal

pub returns-clause-rests : goal.returns-clause-rests
returns-clause-rests g c =
    let rest = c.in_ok-file_at.ensures.rests in
    rests-changed rest (created-changed rest.rules 1 c.args.path.now
    (plain c.args.path.now (sym c.is_plain.ensures ∙ c.if-not-is_plain.false)) leaf.File _
    c.in_ok-_number.ensures.done)
    c.in_ok-_number.ensures.failed
