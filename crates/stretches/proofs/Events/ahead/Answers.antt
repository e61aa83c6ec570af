use Rattle.std.proofs.Common.{arith, get_or, length, subst, take, ◌+◌, ◌-◌, ◌<◌, ◌∙◌, ◌≡◌, ap}
use Rattle.stretches.proofs.Counting.{is-ahead, left-within}
use Rattle.stretches.specs.declared.Stretch.{Stretch}
use Rattle.stretches.specs.Stretches.{IsAhead, spelled}
use Rattle.stretches.proofs.Events.ahead.Goals as goal

pub overflow_cast-result : goal.overflow_cast-result
overflow_cast-result c =
    let i = c.find.result in
    let s = c.index-stretch.result.now in
    let same = c.deref.ensures.value in
    let read : s ≡ get_or c.deref.result.now i s = rw same c.index-stretch.ensures in
    let ends : s.end ≡ length (spelled (take (i + 1) c.deref.result.now)) =
    rw same (ap (λ (x : Stretch). x.end) c.index-stretch.ensures
    ∙ c.self.invariant.each i (subst (λ xs. i < length xs) same c.find.ensures.within) s) in
    let few = left-within c.deref.result.now i s c.find.ensures.within read c.args.at c.find.ensures ends in
    omega (arith, few)

pub returns-clause-some : goal.returns-clause-some
returns-clause-some c =
    let i = c.find.result in
    let s = c.index-stretch.result.now in
    let same = c.deref.ensures.value in
    let read : s ≡ get_or c.deref.result.now i s = rw same c.index-stretch.ensures in
    let ends : s.end ≡ length (spelled (take (i + 1) c.deref.result.now)) =
    rw same (ap (λ (x : Stretch). x.end) c.index-stretch.ensures
    ∙ c.self.invariant.each i (subst (λ xs. i < length xs) same c.find.ensures.within) s) in
    subst (λ events. IsAhead events c.args.at (s.event, s.end - c.args.at)) (ap spelled same ∙ c.self.view_is)
    (is-ahead c.deref.result.now i s c.find.ensures.within read c.args.at c.find.ensures ends)
