use Rattle.std.proofs.Common.{◌≡◌, ◌∙◌, ap, rules, subst, sym}
use Rattle.image_files.proofs.Entries.{reached, rests-kept}
use Rattle.image_files.proofs.Replacing.{file-of}
use Rattle.tree.specs.Tree.{FileTree}
use Rattle.tree.specs.Written.{IsFile}
use Rattle.unixmodel.specs.Files.{Files}
use Rattle.image_files.proofs.found.file_at.Goals as goal

pub stat-requires-clause-node : goal.stat-requires-clause-node
stat-requires-clause-node g c =
    let told = c.in_ok-number.ensures.told in
    reached c.requires told.0 c.args.path.now c.in_ok-number.field-0 c.in-Some.number told.1 c.in-Some.is

pub returns-clause-found : goal.returns-clause-found
returns-clause-found g c = sym c.in-Some.is ∙ c.in_ok-number.ensures.told.1

pub returns-clause-file : goal.returns-clause-file
returns-clause-file g c =
    let told = c.in_ok-number.ensures.told in
    let at = reached c.requires told.0 c.args.path.now c.in_ok-number.field-0 c.in-Some.number told.1 c.in-Some.is in
    let seen = c.in_ok-node.ensures.told.1 at.0 at.1 in
    let kind : c.in_ok-node.node.kind ≡ 2 = search rules in
    subst (λ (files : Files). IsFile files c.in-Some.number) (ap (λ (t : FileTree). t.files) told.0)
    (file-of c.in-Some.number at.0 at.1 (sym seen.0 ∙ kind))

pub returns-clause-same : goal.returns-clause-same
returns-clause-same g c = ap (λ (t : FileTree). t.files) c.in_ok-node.ensures.told.0
    ∙ ap (λ (t : FileTree). t.files) c.in_ok-number.ensures.told.0

pub returns-clause-rests : goal.returns-clause-rests
returns-clause-rests g c = rests-kept c.in_ok-node.ensures.told.0 (rests-kept c.in_ok-number.ensures.told.0 c.requires)

pub returns-in_default-clause-found : goal.returns-in_default-clause-found
returns-in_default-clause-found g c = sym c.in_default.is ∙ c.in_ok-number.ensures.told.1

pub returns-in_default-clause-same : goal.returns-in_default-clause-same
returns-in_default-clause-same g c = ap (λ (t : FileTree). t.files) c.in_ok-number.ensures.told.0

pub returns-in_default-clause-rests : goal.returns-in_default-clause-rests
returns-in_default-clause-rests g c = rests-kept c.in_ok-number.ensures.told.0 c.requires
