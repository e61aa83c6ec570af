use Rattle.calls.proofs.Common.{arith, serves-disk, ◌∙◌}
use Rattle.calls.proofs.Stores.{content, reads-done, reads-may, reads-near}
use Rattle.calls.proofs.transfer_calls.read_file.Goals as goal

pub read_node-requires-clause-node : goal.read_node-requires-clause-node
read_node-requires-clause-node g c = let b = content c.requires.uses c.requires.on in (b.node, b.here)

pub overflow_add-offset : goal.overflow_add-offset
overflow_add-offset g c =
    let near = reads-near c.requires.uses c.requires.on c.files_are_whole.ensures
    (c.from-count.ensures ∙ c.low.ensures) c.in-Ok.ensures.told in
    let low = c.low-in-Ok.ensures in
    omega (arith, near, low)

pub set_offset-requires : goal.set_offset-requires
set_offset-requires g c =
    reads-may c.requires.uses c.requires.on c.files_are_whole.ensures (c.from-count.ensures ∙ c.low.ensures)
    c.in-Ok.ensures.told c.low-in-Ok.ensures

pub returns-in-Ok : goal.returns-in-Ok
returns-in-Ok g c =
    reads-done c.requires.uses c.requires.on c.files_are_whole.ensures (c.from-count.ensures ∙ c.low.ensures)
    c.in-Ok.ensures.told c.low-in-Ok.ensures c.set_offset.ensures c.is_sound.ensures.sound
    (serves-disk c.in-Ok.ensures)
