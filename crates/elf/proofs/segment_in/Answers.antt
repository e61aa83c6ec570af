use Rattle.std.proofs.Common.{◌≤◌, ◌∙◌, arith, length}
use Rattle.elf.proofs.Plans.{number-from, segment-read}
use Rattle.elf.proofs.segment_in.Goals as goal

pub returns : goal.returns
returns c =
    let bytes = c.args.bytes.now in
    let whole : length bytes ≤ 56 = omega arith in
    segment-read bytes _ _ _ _ _
    (c.read_u32-flags.ensures ∙ number-from 4 4 56 bytes whole) (c.read_u64.ensures ∙ number-from 8 8 56 bytes whole)
    (c.read_u64-2.ensures ∙ number-from 8 16 56 bytes whole)
    (c.read_u64-3.ensures ∙ number-from 8 32 56 bytes whole) (c.read_u64-4.ensures ∙ number-from 8 40 56 bytes whole)
