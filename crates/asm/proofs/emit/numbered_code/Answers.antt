use Rattle.asm.proofs.Common.{◌∙◌, field, lies_in, number_of}
use Rattle.asmtext.specs.Operations.{above_of, below_of, bits_of, partial_instr}
use Rattle.asm.proofs.EmitLemmas.{code_in_range}
use Rattle.asm.proofs.emit.numbered_code.Goals as goal

pub returns-in-Some : goal.returns-in-Some
returns-in-Some c =
    let n = number_of c.args.number.now in
    let p = c.args.partial in
    c.code.ensures ∙ code_in_range c.args.address c.in-Some.instr (partial_instr p)
    (lies_in (below_of p) (above_of p) n) (field (bits_of p) n) c.in-Some.ensures
