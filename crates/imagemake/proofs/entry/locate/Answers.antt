use Rattle.imagemake.proofs.Common.{ap, is_some, refl, sym, ◌∙◌}
use Rattle.imagemake.proofs.MadePaths.{entry-at, entry-name, entry-reaches, path-is, reaches, spot-at}
use Rattle.imagemake.proofs.entry.locate.Goals as goal

pub returns-then-not-is_path-clause-refused : goal.returns-then-not-is_path-clause-refused
returns-then-not-is_path-clause-refused c =
    λ blocks inodes files n thing listed. entry-name blocks inodes files n
    (record { path = c.args.path.now; thing = thing }) (sym c.if-not-is_path.ensures)

pub locate-requires-clause-slash : goal.locate-requires-clause-slash
locate-requires-clause-slash c = (path-is _ (sym c.if-not-is_path.ensures)).slash

pub returns-in_default-clause-refused : goal.returns-in_default-clause-refused
returns-in_default-clause-refused c = let none =
    c.in_default.ensures.none in entry-reaches (reaches (sym c.if-not-is_path.ensures) none.1)

pub returns-then-not-is_directory-clause-refused : goal.returns-then-not-is_directory-clause-refused
returns-then-not-is_directory-clause-refused c = λ blocks inodes files n thing listed.
    entry-reaches (reaches (sym c.if-not-is_path.ensures) c.in-Some.ensures.found) blocks inodes files n thing listed
    ∙ rw (listed.folders c.in-Some.spot.directory, sym c.if-not-is_directory.ensures) refl

pub returns-then-is_some-clause-refused : goal.returns-then-is_some-clause-refused
returns-then-is_some-clause-refused c = λ blocks inodes files n thing listed.
    entry-at (reaches (sym c.if-not-is_path.ensures) c.in-Some.ensures.found) (sym c.if-not-is_directory.ensures)
    blocks inodes files n thing listed
    ∙ rw (ap is_some (sym c.find.ensures) ∙ sym c.if-is_some.ensures) refl

pub returns-clause-spot : goal.returns-clause-spot
returns-clause-spot c = spot-at (reaches (sym c.if-not-is_path.ensures) c.in-Some.ensures.found)
    (sym c.if-not-is_directory.ensures) (ap is_some (sym c.find.ensures) ∙ sym c.if-is_some.ensures)
