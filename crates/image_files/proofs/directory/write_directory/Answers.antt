use Rattle.image_files.proofs.Entries.{if-ok, is-directory, rests}
use Rattle.image_files.proofs.directory.write_directory.Goals as goal

pub directory_at-requires : goal.directory_at-requires
directory_at-requires g c = rests c.in_ok-tree.ensures.mounted

pub returns : goal.returns
returns g c =
    let at = c.in_ok-directory in
    if-ok (is-directory c.args.path.now at.directory c.in_ok-tree.ensures.mounted at.ensures.found at.ensures.same
    at.ensures.folder) c.write_entries.result
