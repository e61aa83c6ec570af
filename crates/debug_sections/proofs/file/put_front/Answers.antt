use Rattle.std.proofs.Common.{arith, length-take-le, sym}
use Rattle.debug_sections.proofs.file.put_front.Goals as goal

pub slice_bounds-front-end : goal.slice_bounds-front-end
slice_bounds-front-end c = sym (length-take-le 40 c.args.file.now (omega (arith, c.requires)))
