use Rattle.hart.proofs.Common.{false, le, None, refl, rules, Some, Store, store_size, store_to}
use Rattle.hart.proofs.Common.{true, ◌%◌, ◌+◌, ◌==◌, ◌≡◌, ◌≤◌}
use Rattle.hart.proofs.Acts.{acts-even, acts-odd}
use Rattle.hart.proofs.Bytes.{store-only}
use Rattle.hart.proofs.state.Hart.give.Goals as goal

pub returns-then-not-is_aligned : goal.returns-then-not-is_aligned
returns-then-not-is_aligned g c = λ pc.
    let aligned : (c.args.address % store_size c.args.op == 0) ≡ false = search rules in
    rw c.stop.ensures (acts-odd
    (store_to c.args.self.now.registers pc c.args.address (le (store_size c.args.op) c.args.value)) Store aligned)

pub returns-in-None : goal.returns-in-None
returns-in-None g c = λ pc.
    let aligned : (c.args.address % store_size c.args.op == 0) ≡ true = search rules in
    rw c.stop-in-None.ensures
    (acts-even (store_to c.args.self.now.registers pc c.args.address (le (store_size c.args.op) c.args.value))
    Store _ None aligned c.in-None.ensures.answer c.locate.ensures.kept refl (λ f k other. refl)
    (λ answers _. (refl, refl, refl)))

pub returns-in-Some : goal.returns-in-Some
returns-in-Some g c = λ pc.
    let aligned : (c.args.address % store_size c.args.op == 0) ≡ true = search rules in
    let fits : c.args.address % 4096 + store_size c.args.op ≤ 4096 = search rules in
    let doubleword : c.args.address % 8 + store_size c.args.op ≤ 8 = search rules in
    acts-even (store_to c.args.self.now.registers pc c.args.address (le (store_size c.args.op) c.args.value)) Store _
    (Some c.in-Some.f.0) aligned c.in-Some.ensures.answer c.locate.ensures.kept (search rules)
    (store-only c.args.ram.now c.in-Some.f (store_size c.args.op) c.args.value c.args.address
    c.frames_are_whole.ensures.memory
    c.in-Some.ensures.inside fits doubleword c.of.ensures (rw c.place.ensures at c.store_value.ensures))
    (λ answers same. (refl, refl, refl, refl, rw (same, ← c.place.ensures) c.store_value.ensures))
