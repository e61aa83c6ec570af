use Rattle.std.proofs.Common.{arith, ◌∙◌, ◌≤◌, length}
use Rattle.sections.proofs.Reading.{field, section-read}
use Rattle.sections.proofs.section.section_in.Goals as goal

pub returns : goal.returns
returns c =
    let bytes = c.args.header.now in
    let whole : length bytes ≤ 64 = omega arith in
    section-read bytes _ _ _ _ _ _ c.read_u32.ensures
    (c.read_u32-2.ensures ∙ field 4 4 64 bytes whole) (c.read_u64.ensures ∙ field 8 8 64 bytes whole)
    (c.read_u64-2.ensures ∙ field 8 24 64 bytes whole) (c.read_u64-3.ensures ∙ field 8 32 64 bytes whole)
    (c.read_u32-3.ensures ∙ field 4 40 64 bytes whole)
