use Rattle.std.proofs.Common.{◌≡◌, ◌∙◌, ap, rules, sym}
use Rattle.image_files.proofs.Entries.{folder-kept, folder-of, reached, rests-kept}
use Rattle.tree.specs.Tree.{FileTree}
use Rattle.image_files.proofs.directory.directory_at.Goals as goal

pub stat-requires-clause-node : goal.stat-requires-clause-node
stat-requires-clause-node g c =
    let told = c.in_ok-number.ensures.told in
    reached c.requires told.0 c.args.path.now c.in_ok-number.field-0 c.in-Some.number told.1 c.in-Some.is

pub returns-clause-rests : goal.returns-clause-rests
returns-clause-rests g c = rests-kept c.in_ok-node.ensures.told.0 (rests-kept c.in_ok-number.ensures.told.0 c.requires)

pub returns-clause-folder : goal.returns-clause-folder
returns-clause-folder g c =
    let told = c.in_ok-number.ensures.told in
    let at = reached c.requires told.0 c.args.path.now c.in_ok-number.field-0 c.in-Some.number told.1 c.in-Some.is in
    let seen = c.in_ok-node.ensures.told.1 at.0 at.1 in
    let kind : c.in_ok-node.node.kind ≡ 1 = search rules in
    folder-kept c.in_ok-node.ensures.told.0 c.in-Some.number
    (folder-of (rests-kept told.0 c.requires) c.in-Some.number at.0 at.1 (sym seen.0 ∙ kind))

pub returns-clause-found : goal.returns-clause-found
returns-clause-found g c = sym c.in_ok-number.ensures.told.1 ∙ c.in-Some.is

pub returns-clause-same : goal.returns-clause-same
returns-clause-same g c = ap (λ (t : FileTree). t.files) c.in_ok-node.ensures.told.0
    ∙ ap (λ (t : FileTree). t.files) c.in_ok-number.ensures.told.0
