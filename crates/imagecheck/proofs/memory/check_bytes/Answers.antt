use Rattle.imagecheck.proofs.Sounding.{Tells-not, judged-from, err-told}
use Rattle.imagecheck.proofs.memory.check_bytes.Goals as goal

pub returns-in_err-geometry-clause-refused : goal.returns-in_err-geometry-clause-refused
returns-in_err-geometry-clause-refused g c =
    rw (err-told c.from_residual.ensures.1) (Tells-not _ _ _ c.in_err-geometry.ensures.judged)

pub returns : goal.returns
returns g c =
    let judged = judged-from _ _ c.in_ok-geometry.ensures.judged.magic _ c.summary_of.ensures in
    record {
      denotes = judged.denotes;
      inodes = judged.inodes;
      blocks = judged.blocks;
      fault = judged.fault;
      refused = judged.refused;
      device = judged.device;
    }
