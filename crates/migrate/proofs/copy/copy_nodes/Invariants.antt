use Rattle.imagerules.specs.Places.{files_in}
use Rattle.migrate.proofs.Copied.{HasCopied}
use Rattle.migrate.proofs.copy.copy_nodes.Given as goal

abbrev pub invariant-loop-n : goal.invariant-loop-n
invariant-loop-n g l = HasCopied l.geometry l.volume l.n (files_in l.old)
