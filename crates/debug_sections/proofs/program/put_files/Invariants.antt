use Rattle.std.proofs.Common.{◌≡◌, ◌++◌, ◌∷◌, [], drop}
use Rattle.debug_sections.specs.Program.{files_from, with_files}
use Rattle.debug_sections.proofs.program.put_files.Given as goal

-- the files that are left, after those so far
abbrev pub invariant-loop-name : goal.invariant-loop-name
invariant-loop-name l =
    files_from l.out.items (drop l.name-index l.files) ++ (0 ∷ []) ≡ with_files l.fn.out.items l.files
