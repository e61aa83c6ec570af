use Rattle.imagecheck.proofs.Common.{ap, arith, sym, ◌∙◌, inodes-most, entries_in, name_numbers}
use Rattle.imagecheck.proofs.Parents.{least-in}
use Rattle.imagecheck.proofs.directories.test_directory.Goals as goal

pub test_names-requires-clause-bytes : goal.test_names-requires-clause-bytes
test_names-requires-clause-bytes g c = c.deref.ensures.value ∙ c.in_ok-read_directory.ensures.bytes

pub test_names-requires-clause-names : goal.test_names-requires-clause-names
test_names-requires-clause-names g c =
    c.deref_mut.ensures.value ∙ c.in_ok-read_directory.ensures.names
    ∙ ap (λ bs. name_numbers (entries_in bs)) (sym (c.deref.ensures.value ∙ c.in_ok-read_directory.ensures.bytes))

pub overflow_cast-n : goal.overflow_cast-n
overflow_cast-n g c = omega (arith, inodes-most c.requires.geometry, c.requires.high)

pub add_entries-requires : goal.add_entries-requires
add_entries-requires g c =
    least-in c.requires.geometry c.requires.blocks _ c.requires.low c.requires.high c.requires.directory
    c.deref-2.result.now (c.deref-2.ensures.value ∙ c.in_ok-read_directory.ensures.bytes)
