use Rattle.std.proofs.Common.{◌∙◌}
use Rattle.asm.proofs.FileLemmas.{le-8, put-program_header}
use Rattle.asm.proofs.file.put_program_header.Goals as goal

pub returns : goal.returns
returns c =
    put-program_header c.args.size _ c.args.file.now.items _ _ _ _ c.to_le_bytes-size.result
    (c.to_le_bytes-size.ensures ∙ le-8 c.args.size)
    c.in_ok-extend_from_slice.ensures.items c.in_ok-extend_from_slice-2.ensures.items
    c.in_ok-extend_from_slice-3.ensures.items
    (rw c.to_le_bytes.ensures at c.extend_from_slice-4.ensures.items)
