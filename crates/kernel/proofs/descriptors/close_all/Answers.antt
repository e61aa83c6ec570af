use Rattle.kernel.proofs.Common.{ap, append-nil, arith, sym, ◌∙◌, ◌++◌, last_node, listed}
use Rattle.kernel.proofs.Leaving.{closes-none, closes-some, closing-all}
use Rattle.kernel.proofs.descriptors.close_all.Goals as goal
use Rattle.kernel.proofs.descriptors.close_all.Goals.{in-Some+in-Some-close, in-Some+in_default-close, in_default}

pub loop-descriptor-preserved : goal.loop-descriptor-preserved
loop-descriptor-preserved g c =
    let l = c.loop-descriptor in
    elim c.match-descriptor.branch [
      | in-Some+in-Some-close w ↦ rw
          (w.files-is, w.spaces-is, w.gone-is, w.close.ensures.files, w.close.ensures.pipes, w.from.ensures)
          (closes-some l.invariant (omega arith) _ w.in-Some.is _
          (w.push.ensures.items ∙ ap (λ o. l.gone.items ++ listed o)
          (sym w.in-Some-close.is ∙ w.close.ensures.node ∙ ap (last_node l.files) w.from.ensures)))
      | in-Some+in_default-close w ↦ rw
          (w.files-is, w.spaces-is, w.gone-is, w.close.ensures.files, w.close.ensures.pipes, w.from.ensures)
          (closes-some l.invariant (omega arith) _ w.in-Some.is _
          (sym (append-nil l.gone.items)
          ∙ ap (λ o. l.gone.items ++ listed o)
          (sym w.in_default-close.is ∙ w.close.ensures.node ∙ ap (last_node l.files) w.from.ensures)))
      | in_default w ↦ rw (w.files-is, w.spaces-is, w.gone-is) (closes-none l.invariant (omega arith) w.in_default.is)
    ]

pub returns-clause-pipes : goal.returns-clause-pipes
returns-clause-pipes g c = closing-all c.loop-descriptor.invariant
