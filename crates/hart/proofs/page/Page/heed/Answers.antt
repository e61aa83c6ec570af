use Rattle.hart.proofs.Common.{refl, rules, Some, store_of, ◌≡◌}
use Rattle.hart.proofs.Pages.{noted, stays-alone, store-keeps}
use Rattle.std.proofs.Math.ListN.{replicate}
use Rattle.hart.proofs.page.Page.heed.Goals as goal

pub returns-then-g-f-clause-checked : goal.returns-then-g-f-clause-checked
returns-then-g-f-clause-checked c = λ before keeps checked.
    let stored : store_of c.args.next.now ≡ Some (c.in-Some.g, c.in-Some.k) = cc (c.stored.ensures.is, c.in-Some.is) in
    let same : c.in-Some.g.0 ≡ c.args.f.0 = search rules in
    c.renew_stored.ensures.checked before
    (store-keeps c.args.next.now before c.args.ram.now stored same (keeps c.args.f.0 c.requires.live)) checked

pub returns-else-g-f-clause-live : goal.returns-else-g-f-clause-live
returns-else-g-f-clause-live c = rw c.keep_only.ensures (noted (replicate 32 4294967295) c.args.f.0 refl)

pub returns-else-g-f-clause-others : goal.returns-else-g-f-clause-others
returns-else-g-f-clause-others c = rw c.keep_only.ensures (λ before keeps.
    stays-alone c.args.f.0 c.args.live.now.frames before c.args.ram.now)
