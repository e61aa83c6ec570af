use Rattle.kernel.proofs.Common.{awaited, seen, ap, is_some, sym, ◌∙◌, Call, can_go_on, no_pages, with_space}
use Rattle.kernel.proofs.Readies.{children-seen}
use Rattle.kernel.proofs.ready.Awaited.can_go_on.Goals as goal

pub returns-in-Wait : goal.returns-in-Wait
returns-in-Wait g c =
    let p = c.args.process.now in
    let w = c.args.pending.now in
    let s = awaited c.args.self.now in
    c.is_some.ensures
    ∙ ap is_some c.zombie_child.ensures.place
    ∙ sym (children-seen s c.args.places.now p w)
    ∙ sym (ap (λ (call : Call). can_go_on (seen s c.args.places.now) (with_space no_pages p) w call) c.in-Wait.is)
