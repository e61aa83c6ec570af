use Rattle.imagerules.proofs.Common.{◌≡◌, take, sym, ap, ◌∙◌, arith, without_zeros}
use Rattle.imagerules.proofs.Spelling.{trimmed_all, trimmed_more}
use Rattle.imagerules.proofs.places.before_zeros.Goals as goal
use Rattle.imagerules.proofs.places.before_zeros.Goals.{else-loop-end-test, then-loop-end-test+else-bytes-end-eq0}

pub loop-end-preserved : goal.loop-end-preserved
loop-end-preserved c =
    let i = c.loop-end.invariant in
    record {
      same = trimmed_more c.args.bytes.now c.loop-end.end (omega arith) i.within c.if-bytes-end-eq0.true ∙ i.same;
      within = omega (arith, i.within);
    }

pub returns : goal.returns
returns c =
    let bytes = c.args.bytes.now in
    let i = c.loop-end.invariant in
    elim c.loop-end-test.branch [
      | then-loop-end-test+else-bytes-end-eq0 w ↦ trimmed_all bytes c.loop-end.end (omega arith) i.within
          w.if-bytes-end-eq0.false ∙ i.same
      | else-loop-end-test w ↦
          let z : c.loop-end.end ≡ 0 = omega arith in
          ap (λ m. take m bytes) z ∙ sym (ap (λ m. without_zeros (take m bytes)) z) ∙ i.same
    ]
