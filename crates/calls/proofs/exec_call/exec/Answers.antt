use Rattle.calls.proofs.Common.{Exec, exec_row, here-of, refl, sym, ◌∙◌}
use Rattle.calls.proofs.Names.{after-look, looked, lost-path, pathless, reaches, read-runs}
use Rattle.calls.proofs.exec_call.exec.Goals as goal

pub returns-in_default : goal.returns-in_default
unfolding exec_row
returns-in_default g c = pathless (here-of c.requires) _ Exec refl c.in_default.ensures.path

pub returns-in_default-2 : goal.returns-in_default-2
unfolding exec_row
returns-in_default-2 g c =
    lost-path (here-of c.requires) _ Exec refl c.in-Some.ensures.path
    (c.in_ok-number.ensures.0, sym c.in_default-2.is ∙ c.in_ok-number.ensures.1)

pub exec_found-requires : goal.exec_found-requires
exec_found-requires g c =
    let reads = c.in_ok-number.ensures in
    rw (looked reads.0) (record
    { runs = read-runs reads.0 c.requires; reaches = reaches c.in-Some.ensures.path reads c.in-Some-2.is })

pub returns : goal.returns
returns g c = after-look c.in_ok-number.ensures.0 _ c.requires.up Exec _ c.exec_found.ensures
