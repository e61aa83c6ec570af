-- What goes into a digest of the inode of a node, and of a process.
use Rattle.std.specs.Prelude.{List, None, Option, Some, [], if◌then◌else◌, replicate, ℕ, ◌==◌, ◌∷◌}
use Rattle.digests.specs.Digest.{mode_by}
use Rattle.inode.specs.declared.InodeStat.{InodeStat}
use Rattle.proc.specs.declared.process.Process.{Process}

-- the major number of a device
abbrev pub major_told : InodeStat → ℕ
major_told s = if s.kind == 3 then s.major else 0

-- what goes in before a node's bytes
abbrev pub node_numbers : InodeStat → List ℕ
node_numbers s = s.kind ∷ s.links ∷ s.size ∷ major_told s ∷ []

-- a process, by a clock that is set back
abbrev pub process_by : Option ℕ → Process → Process
process_by clock p = record p { mode = mode_by clock p.mode }

-- the same without the numbers of open files
abbrev pub bare_by : Option ℕ → Process → Process
bare_by None p = p
bare_by (Some ticks) p = record (process_by (Some ticks) p) { descriptors = replicate 16 None }
