use Rattle.std.proofs.Common.{ap, arith, option_map, refl, suc, sym, ◌-◌, ◌≡◌}
use Rattle.std.proofs.lemmas.Bool.Decides.{nat_tests}
use Rattle.driver.proofs.Playing.{line-asks, over-asks, plays-counted, plays-none}
use Rattle.driver.proofs.play.LinesSource.next.Goals as goal

pub returns-then-is_spent-clause-asks : goal.returns-then-is_spent-clause-asks
returns-then-is_spent-clause-asks g c s same =
    let x = c.args.self.now in
    let none : x.left ≡ 0 = grind (arith, nat_tests, c.if-is_spent.true) in
    over-asks (λ l. l.unreached) x.left x.acts.now x.place (λ last r events h. h)
    (ap (option_map (λ a. a.now)) c.in_default.is) (plays-counted x.acts.now x.place s none refl)

pub returns-in_default-next_act-clause-asks : goal.returns-in_default-next_act-clause-asks
returns-in_default-next_act-clause-asks g c s same =
    let x = c.args.self.now in
    over-asks (λ l. l.unreached) x.left x.acts.now x.place (λ last r events h. h)
    (ap (option_map (λ a. a.now)) c.in_default.is)
    (plays-none x.left x.acts.now x.place s (sym c.in_default-next_act.ensures.act) refl)

pub returns-clause-asks : goal.returns-clause-asks
returns-clause-asks g c s same =
    let x = c.args.self.now in
    let more : x.left ≡ suc (x.left - 1) = grind (arith, nat_tests, c.if-is_spent.false) in
    rw c.wanted_by.ensures
    (line-asks (λ l. l.unreached) x.left x.acts.now x.place (λ last r events h. h) c.in-Some-next_act.act.now
    (ap (option_map (λ a. a.now)) c.in_default.is) (sym c.in-Some-next_act.ensures.act) more refl
    c.in-Some-next_act.ensures.goes (λ w t last r events h. h))
