use Rattle.std.proofs.Common.{length, subst, ◌≡◌}
use Rattle.std.specs.Prelude.{IfErr, IfOk, OnOk}
use Rattle.imagebytes.proofs.Disks.{image-is}
use Rattle.imagecheck.specs.Faults.{Denies, Tells}
use Rattle.imagerules.specs.Places.{files_in}
use Rattle.unixmodel.specs.Formats.{format}
use Rattle.unixmodel.specs.Image.{Denotes, named_blocks, numbers_in_use}
use Rattle.imagebytes.proofs.checking.check.Goals as goal

pub returns-in-Ok-clause-denotes : goal.returns-in-Ok-clause-denotes
returns-in-Ok-clause-denotes c =
    let same = image-is c.args.image.now c.in-Ok.disk.bytes c.in-Ok.ensures.disk c.in-Ok.ensures.whole in
    subst (λ b. OnOk c.check.result (Denotes b (files_in b))) same c.check.ensures.denotes

pub returns-in-Ok-clause-inodes : goal.returns-in-Ok-clause-inodes
returns-in-Ok-clause-inodes c =
    let same = image-is c.args.image.now c.in-Ok.disk.bytes c.in-Ok.ensures.disk c.in-Ok.ensures.whole in
    subst (λ b. IfOk c.check.result (λ summary. summary.inodes ≡ length (numbers_in_use b))) same
    c.check.ensures.inodes

pub returns-in-Ok-clause-blocks : goal.returns-in-Ok-clause-blocks
returns-in-Ok-clause-blocks c =
    let same = image-is c.args.image.now c.in-Ok.disk.bytes c.in-Ok.ensures.disk c.in-Ok.ensures.whole in
    subst (λ b. IfOk c.check.result (λ summary. summary.blocks ≡ length (named_blocks b))) same c.check.ensures.blocks

pub returns-in-Ok-clause-fault : goal.returns-in-Ok-clause-fault
returns-in-Ok-clause-fault c =
    let same = image-is c.args.image.now c.in-Ok.disk.bytes c.in-Ok.ensures.disk c.in-Ok.ensures.whole in
    subst (λ b. IfErr c.check.result (Tells format b)) same c.check.ensures.fault

pub returns-in-Ok-clause-refused : goal.returns-in-Ok-clause-refused
returns-in-Ok-clause-refused c =
    let same = image-is c.args.image.now c.in-Ok.disk.bytes c.in-Ok.ensures.disk c.in-Ok.ensures.whole in
    subst (λ b. IfErr c.check.result (Denies (Denotes b))) same c.check.ensures.refused
