use Rattle.std.proofs.Common.{sym, ◌∙◌}
use Rattle.elf.proofs.Plans.{number-first, segment-loaded, segment-other}
use Rattle.elf.proofs.segment.Goals as goal

pub returns-then-read_u32-ne-LOAD : goal.returns-then-read_u32-ne-LOAD
returns-then-read_u32-ne-LOAD c =
    segment-other c.args.bytes.now c.args.end c.args.len _ (c.read_u32.ensures ∙ number-first 4 c.args.bytes.now)
    c.if-read_u32-ne-LOAD.true

pub returns-in-Some : goal.returns-in-Some
returns-in-Some c =
    segment-loaded c.args.bytes.now c.args.end c.args.len _ (c.read_u32.ensures ∙ number-first 4 c.args.bytes.now) _
    c.segment_in-segment.result c.if-read_u32-ne-LOAD.false c.segment_in-segment.ensures
    (sym c.in-Some.is ∙ c.fault.ensures)

pub returns-in-None : goal.returns-in-None
returns-in-None c =
    segment-loaded c.args.bytes.now c.args.end c.args.len _ (c.read_u32.ensures ∙ number-first 4 c.args.bytes.now) _
    c.segment_in-segment.result c.if-read_u32-ne-LOAD.false c.segment_in-segment.ensures
    (sym c.in-None.is ∙ c.fault.ensures)
