use Rattle.std.proofs.Common.{◌∙◌, subst, sym}
use Rattle.image_files.proofs.Entries.{rests}
use Rattle.image_files.proofs.Replacing.{told-more}
use Rattle.image_files.specs.Opened.{HasBytes}
use Rattle.tree.specs.Written.{IsFile}
use Rattle.unixmodel.specs.Files.{Files}
use Rattle.image_files.proofs.getting.read_file.Goals as goal

pub file_at-requires : goal.file_at-requires
file_at-requires g c = rests c.in_ok-tree.ensures.mounted

pub bytes_of-requires-clause-up : goal.bytes_of-requires-clause-up
bytes_of-requires-clause-up g c = c.in_ok-number.ensures.rests.up

pub bytes_of-requires-clause-file : goal.bytes_of-requires-clause-file
bytes_of-requires-clause-file g c =
    subst (λ (files : Files). IsFile files c.in-Some.number) (sym c.in_ok-number.ensures.same)
    (rw c.in-Some.is at c.in_ok-number.ensures.file)

pub returns : goal.returns
returns g c =
    told-more (λ bytes has. record {
      files = c.in_ok-tree.tree.files;
      denotes = c.in_ok-tree.ensures.mounted.denotes;
      number = c.in-Some.number;
      found = sym c.in_ok-number.ensures.found ∙ c.in-Some.is;
      has = subst (λ (files : Files). HasBytes files c.in-Some.number bytes.items) c.in_ok-number.ensures.same has;
    }) c.bytes_of.result c.bytes_of.ensures
