use Rattle.std.proofs.Common.{arith}
use Rattle.vm.proofs.StoreLemmas.{part-put}
use Rattle.vm.proofs.access.write_part.Goals as goal

pub returns : goal.returns
returns c = part-put c.args.ram.now c.args.frame.0 c.args.at c.args.bytes.now _ _ _ (omega arith) c.requires.place
    (c.frames_are_whole.ensures.memory.sized c.args.frame.0 c.requires.frame) c.frame_mut-page.ensures.value
    c.copy_from_slice.ensures.after
