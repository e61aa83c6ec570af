use Rattle.calls.proofs.Common.{Chdir, here-of}
use Rattle.calls.proofs.Opens.{chdir-goes, chdir-other, chdir-there}
use Rattle.calls.proofs.Names.{after-look, looked, read-runs}
use Rattle.calls.proofs.open_calls.chdir_found.Goals as goal

pub stat-requires : goal.stat-requires
stat-requires g c = record { up = c.requires.runs.up; node = chdir-there (here-of c.requires.runs) c.requires.reaches }

pub returns-then-branch-ne-DIRECTORY : goal.returns-then-branch-ne-DIRECTORY
returns-then-branch-ne-DIRECTORY g c =
    chdir-other (here-of c.requires.runs) c.requires.reaches _ c.in_ok-stat.ensures c.if-branch-ne-DIRECTORY.true

pub work_in-requires : goal.work_in-requires
work_in-requires g c =
    let reads = c.in_ok-stat.ensures in
    let goes = chdir-goes (here-of c.requires.runs) c.requires.reaches _ reads c.if-branch-ne-DIRECTORY.false in
    rw (looked reads.0) (record
    { runs = read-runs reads.0 c.requires.runs; reaches = goes.0; directory = goes.1 })

pub returns : goal.returns
returns g c = after-look c.in_ok-stat.ensures.0 _ c.requires.runs.up Chdir _ c.work_in.ensures
