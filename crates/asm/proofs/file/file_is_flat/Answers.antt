use Rattle.asm.proofs.FileLemmas.{plan-file}
use Rattle.asm.proofs.file.file_is_flat.Goals as goal

pub returns : goal.returns
returns c = plan-file
