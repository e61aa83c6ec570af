use Rattle.programs.proofs.Loads.{IsLoading}
use Rattle.programs.proofs.loading.load_segments.Given as goal

-- the program headers so far are loaded
abbrev pub invariant-loop-i : goal.invariant-loop-i
invariant-loop-i g l = IsLoading l.fn.tree l.tree l.fn.spaces l.spaces l.at l.number l.header.count
    l.header.program_headers l.i l.end
