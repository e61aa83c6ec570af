use Rattle.kernel.proofs.Common.{ap, arith, sym, ◌∙◌, ◌≡◌, option_copied, waits_on, Places, woken, slot, holds}
use Rattle.kernel.proofs.Watching.{Roused, roused-begins, roused-low, roused-rest, roused-to}
use Rattle.kernel.proofs.Asleep.{roused-more, roused-same}
use Rattle.kernel.proofs.channels.wakeup.Goals.{else-waits, in-None, in-Some-process, then-waits}
use Rattle.kernel.proofs.channels.wakeup.Goals as goal

pub places-init : goal.places-init
places-init c = (omega arith, roused-begins c.args.channel c.args.table.now)

pub places-preserved : goal.places-preserved
places-preserved c =
    let channel = c.args.channel in
    let t = c.args.table.now in
    let at = c.in-Some.at in
    let l = c.places in
    let told = c.in-Some.ensures in
    let now : Roused channel t at c.next_waiting.new.self = told.same
    ∙ roused-to _ t _ _ at _ c.kind_of-kind.ensures l.invariant.1 told.all told.finds in
    let here = c.process.ensures.process ∙ ap (λ (x : Places). slot x.places at) now in
    let is : c.match-process.waits ≡ holds (waits_on channel) (slot t.places at) = elim c.match-process.branch [
      | in-Some-process w ↦ w.waits-is ∙ w.waits_on-waits.ensures
          ∙ ap (holds (waits_on channel)) (sym (ap option_copied w.in-Some-process.is) ∙ here)
      | in-None w ↦ w.waits-is ∙ ap (holds (waits_on channel)) (sym (ap option_copied w.in-None.is) ∙ here)
    ] in
    let inside = told.finds.in_places in
    let low = roused-low channel t _ at _ l.invariant.1 told.all inside.1 in (
      omega arith,
      elim c.if-waits.branch [
        | then-waits w ↦ w.table-is ∙ w.wake.ensures ∙ ap (λ (x : Places). woken x at) now
            ∙ ap (λ awake. record t { awake = awake })
            (roused-more (waits_on channel) _ t.awake at low (sym is ∙ w.if-waits.true))
        | else-waits w ↦ w.table-is ∙ now
            ∙ ap (λ awake. record t { awake = awake })
            (roused-same (waits_on channel) _ t.awake at low (sym is ∙ w.if-waits.false))
      ],
    )

pub returns : goal.returns
returns c = c.in_default.ensures.same
    ∙ roused-rest _ c.args.table.now _ _ _ c.kind_of-kind.ensures c.places.invariant.0 c.places.invariant.1
    c.in_default.ensures.all c.in_default.ensures.finds
