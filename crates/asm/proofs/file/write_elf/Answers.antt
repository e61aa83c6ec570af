use Rattle.asm.proofs.FileLemmas.{written}
use Rattle.asm.proofs.file.write_elf.Goals as goal

pub returns : goal.returns
returns c =
    written c.args.bytes.now _ _ _ _ _ _ c.new-file.ensures.items c.in_ok-put_header.ensures
    c.in_ok-put_program_header.ensures c.put_program_header.new.file.ok.0
    c.in_ok-resize.ensures.items c.in_ok-extend_from_slice.ensures.items
