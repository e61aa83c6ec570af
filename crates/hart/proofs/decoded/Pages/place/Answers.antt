use Rattle.hart.proofs.Common.{arith, length, rules, ◌%◌, ◌<◌}
use Rattle.hart.proofs.Pages.{last-set, placed-known}
use Rattle.hart.proofs.decoded.Pages.place.Goals as goal

pub returns-clause-known : goal.returns-clause-known
returns-clause-known c = λ ram before.
    let f = c.args.frame in
    let sets = c.args.self.now.sets in
    let within : f % 32 < length sets = search rules in
    let read = last-set sets (f % 32) c.choose.new.self c.index-self-set-3.result within in
    rw c.note.ensures (placed-known c.args.live.now.frames sets c.args.self.now.all.items ram f _ _ _ (search rules)
    (search rules) (λ d. omega (arith, last-set sets (f % 32) c.choose.new.self d within, read))
    (c.forget.ensures ram f) before)
