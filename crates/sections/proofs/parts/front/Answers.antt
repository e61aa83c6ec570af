use Rattle.std.proofs.Common.{arith, sym}
use Rattle.std.proofs.lemmas.List.{length-take-le, take_all}
use Rattle.sections.proofs.parts.front.Goals as goal

pub returns-then-bytes-le-MOST_NAME : goal.returns-then-bytes-le-MOST_NAME
returns-then-bytes-le-MOST_NAME c = sym (take_all 255 c.args.bytes.now (omega arith))

pub slice_bounds-result-end : goal.slice_bounds-result-end
slice_bounds-result-end c = sym (length-take-le 255 c.args.bytes.now (omega arith))
