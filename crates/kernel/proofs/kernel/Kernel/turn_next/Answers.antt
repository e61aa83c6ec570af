use Rattle.kernel.proofs.Common.{Kernel, ap, arith, state_of, sym, ◌∙◌}
use Rattle.kernel.proofs.Pending.{last-then, none-more, turn-found, turn-none}
use Rattle.kernel.specs.Kernel.{ticked}
use Rattle.kernel.proofs.kernel.Kernel.turn_next.Goals as goal

pub loop-round-init : goal.loop-round-init
loop-round-init g c j low high = absurd (omega arith)

pub loop-round-preserved : goal.loop-round-preserved
loop-round-preserved g c =
    let last = c.last-last.ensures ∙ ap (λ (k : Kernel). k.table.last) c.self.view_is ∙ last-then c.args.self.now in
    none-more (state_of (ticked c.args.self.now)) _ _ last c.loop-round.invariant
    (sym c.if-is_ready_next.false ∙ c.is_ready_next.ensures)

pub returns-then-is_ready_next : goal.returns-then-is_ready_next
returns-then-is_ready_next g c =
    let last = c.last-last.ensures ∙ ap (λ (k : Kernel). k.table.last) c.self.view_is ∙ last-then c.args.self.now in
    turn-found (state_of (ticked c.args.self.now)) _ _ last c.loop-round.invariant (omega arith) (omega arith)
    (sym c.if-is_ready_next.true ∙ c.is_ready_next.ensures)

pub returns : goal.returns
returns g c =
    let last = c.last-last.ensures ∙ ap (λ (k : Kernel). k.table.last) c.self.view_is ∙ last-then c.args.self.now in
    turn-none (state_of (ticked c.args.self.now)) _ _ last c.loop-round.invariant (omega arith)
