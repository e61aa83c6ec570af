use Rattle.console.proofs.Common.{◌≡◌, arith, false, inl, inr, length, refl, rules, length-ring}
use Rattle.std.proofs.lemmas.List.{length-drop, take_more_set}
use Rattle.console.proofs.Lines.{first-some, read-begin, read-end, read-kept, read-last, read-more, read-none}
use Rattle.console.proofs.Lines.{read-over}
use Rattle.console.proofs.input.Console.take.Goals as goal

pub loop-count-init : goal.loop-count-init
loop-count-init c = record {
  same = read-begin _ _ _;
  edited = refl;
  left = rw (← c.self.view_is, length-ring) (omega (arith, c.self.invariant.1));
  within = omega arith;
}

pub returns-in_default-clause-took : goal.returns-in_default-clause-took
returns-in_default-clause-took c =
    read-none _ _ _ _ _ _ c.loop-count.invariant.same c.loop-count-test.true c.in_default.ensures.first

pub returns-then-has_some-clause-took : goal.returns-then-has_some-clause-took
returns-then-has_some-clause-took c =
    read-kept _ _ _ _ _ _ c.loop-count.invariant.same c.loop-count-test.true _ c.in-Some.ensures.first
    c.if-byte-eq-END.true c.if-has_some.true

pub returns-then-byte-eq-END-2-clause-took : goal.returns-then-byte-eq-END-2-clause-took
returns-then-byte-eq-END-2-clause-took c =
    let some : c.loop-count.has_some ≡ false =
    elim c.else-byte-eq-END.either [ inl e ↦ e.1 | inr e ↦ absurd (e c.if-byte-eq-END-2.true) ] in
    rw c.drop_first.ensures (read-end _ _ _ _ _ _ c.loop-count.invariant.same c.loop-count-test.true _
    c.in-Some.ensures.first c.if-byte-eq-END-2.true some)

pub returns-then-byte-eq10-clause-took : goal.returns-then-byte-eq10-clause-took
returns-then-byte-eq10-clause-took c =
    let full : length c.loop-count.buffer ≡ 128 = search rules in
    rw (
      c.drop_first.ensures,
      take_more_set c.loop-count.buffer c.loop-count.count c.in-Some.byte
          (omega (arith, first-some _ c.in-Some.ensures.first)),
    )
    (read-last _ _ _ _ _ _ c.loop-count.invariant.same c.loop-count-test.true _ c.in-Some.ensures.first
    c.if-byte-eq10.true)

pub loop-count-preserved : goal.loop-count-preserved
loop-count-preserved c =
    let full : length c.loop-count.buffer ≡ 128 = search rules in
    let some = first-some _ c.in-Some.ensures.first in
    record {
      same = rw (
        c.drop_first.ensures,
        take_more_set c.loop-count.buffer c.loop-count.count c.in-Some.byte (omega (arith, some)),
      )
          (read-more _ _ _ _ _ _ c.loop-count.invariant.same c.loop-count-test.true _ c.in-Some.ensures.first
          c.if-byte-eq-END-2.false c.if-byte-eq10.false);
      edited = rw c.drop_first.ensures c.loop-count.invariant.edited;
      left = rw (c.drop_first.ensures, length-drop) (omega (arith, some));
      within = omega arith;
    }

pub returns-clause-took : goal.returns-clause-took
returns-clause-took c = read-over _ _ _ _ _ _ c.loop-count.invariant.same c.loop-count-test.false
