use Rattle.calls.proofs.Common.{arith, serves-disk, ◌∙◌}
use Rattle.calls.proofs.Stores.{is-file, writes-done, writes-may, writes-near, writes-refused}
use Rattle.calls.proofs.transfer_calls.write_file.Goals as goal

pub write_node-requires-clause-file : goal.write_node-requires-clause-file
write_node-requires-clause-file g c = is-file c.requires.uses c.requires.on

pub returns-in-Ok-None : goal.returns-in-Ok-None
returns-in-Ok-None g c =
    writes-refused c.requires.uses c.requires.on (c.from-count.ensures ∙ c.low.ensures) c.in-Ok-None.ensures.told
    c.in-Ok-None.field-0-is (serves-disk c.in-Ok-None.ensures)

pub overflow_add-offset : goal.overflow_add-offset
overflow_add-offset g c =
    let near = writes-near c.requires.uses c.requires.on (c.from-count.ensures ∙ c.low.ensures)
    c.in-Ok-Some.ensures.told c.in-Ok-Some.field-0-is in
    let low = c.low-in-Ok-Some.ensures in
    omega (arith, near, low)

pub set_offset-requires : goal.set_offset-requires
set_offset-requires g c =
    writes-may c.requires.uses c.requires.on (c.from-count.ensures ∙ c.low.ensures) c.in-Ok-Some.ensures.told
    c.in-Ok-Some.field-0-is c.low-in-Ok-Some.ensures

pub returns-in-Ok-Some : goal.returns-in-Ok-Some
returns-in-Ok-Some g c =
    writes-done c.requires.uses c.requires.on (c.from-count.ensures ∙ c.low.ensures) c.in-Ok-Some.ensures.told
    c.in-Ok-Some.field-0-is c.low-in-Ok-Some.ensures c.set_offset.ensures c.is_sound.ensures.sound
    (serves-disk c.in-Ok-Some.ensures) c.write_answer.ensures
