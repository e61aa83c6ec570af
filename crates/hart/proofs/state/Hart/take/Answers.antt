use Rattle.hart.proofs.Common.{false, given, Load, load_from, load_size, None, refl, rules, Some, true, ◌%◌, ◌==◌, ◌≡◌}
use Rattle.hart.proofs.Acts.{acts-even, acts-odd, turned-leaves}
use Rattle.hart.proofs.state.Hart.take.Goals as goal

pub returns-then-not-is_aligned : goal.returns-then-not-is_aligned
returns-then-not-is_aligned g c = λ pc.
    let aligned : (c.args.address % load_size c.args.op == 0) ≡ false = search rules in
    rw c.stop.ensures (acts-odd (load_from c.args.self.now.registers pc c.args.op c.args.rd c.args.address) Load
    aligned)

pub returns-in-None : goal.returns-in-None
returns-in-None g c = λ pc.
    let aligned : (c.args.address % load_size c.args.op == 0) ≡ true = search rules in
    rw c.stop-in-None.ensures
    (acts-even (load_from c.args.self.now.registers pc c.args.op c.args.rd c.args.address) Load _ None aligned
    c.in-None.ensures.answer c.locate.ensures.kept refl (λ f k other. refl) (λ answers _. (refl, refl, refl)))

pub returns-in-Some : goal.returns-in-Some
returns-in-Some g c = λ pc.
    let aligned : (c.args.address % load_size c.args.op == 0) ≡ true = search rules in
    acts-even (load_from c.args.self.now.registers pc c.args.op c.args.rd c.args.address) Load _ (Some c.in-Some.f.0)
    aligned c.in-Some.ensures.answer c.locate.ensures.kept refl (λ f k other. refl)
    (λ answers _. turned-leaves
    (load_from c.args.self.now.registers pc c.args.op c.args.rd c.args.address
    (Some (given c.args.ram.now c.in-Some.f.0))) answers c.put.result pc c.args.self.now c.put.new.self
    c.args.ram.now
    (rw (← c.place.ensures, ← c.load_value.ensures) (c.put.ensures pc)))
