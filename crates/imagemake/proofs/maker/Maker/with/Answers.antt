use Rattle.imagemake.proofs.Common.{err_from_is_err_and}
use Rattle.imagemake.proofs.Makers.{adds-next, refused-next}
use Rattle.imagemake.proofs.maker.Maker.with.Goals as goal

pub add_entry-requires : goal.add_entry-requires
add_entry-requires c = record { made = c.requires.has.made_so_far; room = c.requires.has.room }

pub returns-in_err-add_entry-clause-refused : goal.returns-in_err-add_entry-clause-refused
returns-in_err-add_entry-clause-refused c =
    let told = err_from_is_err_and c.from_residual.result c.from_residual.ensures.1 in
    rw (told.1, told.2)
    (λ size inodes entries more has. refused-next has _ c.in_err-add_entry.field-0.0 more
    c.in_err-add_entry.ensures.refused)

pub returns-clause-added : goal.returns-clause-added
returns-clause-added c =
    λ size inodes entries has. adds-next has _ c.in_ok-add_entry.ensures.added c.in_ok-add_entry.ensures.room
