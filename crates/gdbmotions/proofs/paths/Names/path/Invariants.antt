use Rattle.std.proofs.Common.{◌≡◌, drop}
use Rattle.gdbmotions.specs.Paths.{path_known}
use Rattle.gdbmotions.proofs.paths.Names.path.Given as goal

-- the path is the one that those so far give
abbrev pub invariant-loop-entry : goal.invariant-loop-entry
invariant-loop-entry l =
    path_known l.self.entries.items l.pid l.time l.initial.path
    ≡ path_known (drop l.entry-index l.self.entries.items) l.pid l.time l.path
