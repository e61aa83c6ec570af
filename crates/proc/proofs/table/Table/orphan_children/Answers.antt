use Rattle.proc.proofs.Common.{ap, map, option_map, ◌∙◌, orphaned}
use Rattle.std.proofs.lemmas.List.{length-map}
use Rattle.proc.proofs.Waiting.{refilled, sound-orphaned}
use Rattle.proc.proofs.table.Table.orphan_children.Goals as goal

pub invariant_of-self : goal.invariant_of-self
invariant_of-self c =
    let f = option_map (orphaned c.args.pid) in
    let slots = c.self.inside.places in
    sound-orphaned c.self.invariant _
    (refilled slots (length-map slots.items f) (c.orphan_all.ensures ∙ ap (map f) c.as_mut_slice.ensures.value))
