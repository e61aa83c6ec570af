use Rattle.programs.proofs.Headings.{file-long, file-stands, other-refused, program-served}
use Rattle.programs.proofs.headers.read_program.Goals as goal

pub returns-then-stat-ne-FILE : goal.returns-then-stat-ne-FILE
returns-then-stat-ne-FILE g c = other-refused c.args.number c.requires.node c.in_ok-stat.ensures c.if-stat-ne-FILE.true

pub read_headers-requires-clause-file : goal.read_headers-requires-clause-file
read_headers-requires-clause-file g c =
    file-stands c.args.number c.requires.node c.in_ok-stat.ensures c.if-stat-ne-FILE.false

pub read_headers-requires-clause-long : goal.read_headers-requires-clause-long
read_headers-requires-clause-long g c =
    file-long c.args.number c.requires.node c.in_ok-stat.ensures c.if-stat-ne-FILE.false

pub returns : goal.returns
returns g c = program-served c.args.number c.requires.node c.in_ok-stat.ensures c.if-stat-ne-FILE.false _
    c.read_headers.ensures
