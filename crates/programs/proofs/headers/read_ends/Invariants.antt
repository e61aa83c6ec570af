use Rattle.programs.proofs.Headings.{HasLoaded}
use Rattle.programs.specs.Headed.{file_at}
use Rattle.programs.proofs.headers.read_ends.Given as goal

-- the program headers so far are read
abbrev pub invariant-loop-i : goal.invariant-loop-i
invariant-loop-i g l = HasLoaded l.fn.tree l.tree (file_at l.fn.tree.files l.number) l.header.count
    l.header.program_headers l.i l.end
