use Rattle.std.proofs.Common.{arith, length, rules, ◌+◌, ◌-◌, ◌≡◌}
use Rattle.pipe.proofs.Steps.{ring-parts}
use Rattle.pipe.proofs.Pipe.bytes.Goals as goal

pub returns : goal.returns
returns c =
    let s = c.self.inside in
    let places = c.frame-places.result.now in
    let full : length places ≡ 4096 = search rules in
    let front = c.min-front.result in
    let count : s.from + front - s.from ≡ front = omega arith in
    rw (← c.self.view_is, ← c.frame-places.ensures, count)
    (ring-parts _ (omega (arith, full)) c.self.invariant.0 c.self.invariant.1 c.min-front.ensures)
