use Rattle.std.proofs.Common.{◌∙◌}
use Rattle.image_files.proofs.Entries.{rests}
use Rattle.image_files.proofs.putting.write_file.Goals as goal

pub put-requires : goal.put-requires
put-requires g c = rests c.in_ok-tree.ensures.mounted

pub returns-clause-put : goal.returns-clause-put
returns-clause-put g c = record {
  files = c.in_ok-tree.tree.files;
  denotes = c.in_ok-tree.ensures.mounted.denotes;
  new = c.put.new.tree.files;
  puts = c.in_ok-put.ensures.put;
  leaves = rw c.in_ok-written.was at c.unmount-left.ensures.denotes;
}

pub returns-clause-device : goal.returns-clause-device
returns-clause-device g c =
    c.unmount-left.ensures.identity ∙ c.put.ensures.device ∙ c.in_ok-tree.ensures.mounted.same_device
