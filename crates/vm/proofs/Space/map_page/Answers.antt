use Rattle.vm.proofs.Common.{arith, refl}
use Rattle.vm.proofs.Added.{ok-unless_err}
use Rattle.vm.proofs.BesideLemmas.{OwnsFrames-paged}
use Rattle.vm.proofs.Tables.{for-after}
use Rattle.vm.proofs.Space.map_page.Goals as goal

pub map-requires-clause-paged : goal.map-requires-clause-paged
map-requires-clause-paged c = OwnsFrames-paged c.requires.held

pub unwrap-requires : goal.unwrap-requires
unwrap-requires c = ok-unless_err _ (λ e err. omega (arith, (rw err at c.map.ensures.refused).0 refl, c.requires.room))

pub map_in-requires-clause-paged : goal.map_in-requires-clause-paged
map_in-requires-clause-paged c = OwnsFrames-paged c.requires.held

pub returns-in-Some-clause-low : goal.returns-in-Some-clause-low
returns-in-Some-clause-low c = λ inner.
    for-after _ _ _ c.args.n c.args.low c.map_in.ensures.rewrites.tables inner c.requires.low
