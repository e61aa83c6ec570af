use Rattle.programs.proofs.Stacks.{IsPushing}
use Rattle.spaces.specs.Spaces.{view_at}
use Rattle.programs.proofs.arguments.read_arguments.Given as goal

-- the strings so far are pushed
abbrev pub invariant-loop-i : goal.invariant-loop-i
invariant-loop-i g l = IsPushing (view_at l.spaces l.at).memory l.argv l.pages l.i l.top l.page l.pointers
