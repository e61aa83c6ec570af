use Rattle.image_files.proofs.Entries.{is-directory}
use Rattle.image_files.proofs.walk.write_tree.Goals as goal

pub returns : goal.returns
returns g c =
    let at = c.in_ok-directory in
    is-directory c.args.path.now at.directory c.in_ok-tree.ensures.mounted at.ensures.found at.ensures.same
    at.ensures.folder
