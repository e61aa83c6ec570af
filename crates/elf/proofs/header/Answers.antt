use Rattle.std.proofs.Common.{ap, sym, ◌*◌, ◌≤◌, ◌∙◌, arith, length}
use Rattle.elf.specs.Headers.{is_within}
use Rattle.elf.proofs.Plans.{number-first, number-from, header-read}
use Rattle.elf.proofs.header.Goals as goal

pub returns : goal.returns
returns c =
    let bytes = c.args.bytes.now in
    let whole : length bytes ≤ 64 = omega arith in
    header-read bytes c.args.len _ _ _ (sym (c.read_u32.ensures ∙ number-first 4 bytes) ∙ c.if-read_u32-ne-MAGIC.false)
    (c.read_u64.ensures ∙ number-from 8 24 64 bytes whole) (c.read_u64-2.ensures ∙ number-from 8 32 64 bytes whole)
    (c.read_u16.ensures ∙ number-from 2 56 64 bytes whole)
    (omega (arith, c.if-len.false))
    (ap (λ count. is_within c.read_u64-2.result (56 * count) c.args.len) (sym c.from.ensures)
    ∙ sym c.is_within.ensures ∙ c.if-not-is_within.false)
