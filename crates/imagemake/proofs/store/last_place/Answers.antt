use Rattle.imagemake.proofs.Common.{arith, now-begin, lost-served, Directory}
use Rattle.imagemake.proofs.Filling.{looks-done, room-end-at, room-full-at}
use Rattle.imagemake.proofs.store.last_place.Goals as goal

pub stat-requires : goal.stat-requires
stat-requires g c = let h = c.requires.able in record { up = c.requires.up; node = (Directory h.links _, h.here) }

pub returns-in_err-node : goal.returns-in_err-node
returns-in_err-node g c = lost-served now-begin c.stat.ensures c.in_err-node.was c.from_residual.ensures.1

pub returns-then-place : goal.returns-then-place
returns-then-place g c =
    looks-done c.stat.ensures c.in_ok-node.was
    (λ h. room-full-at h (let told = c.in_ok-node.ensures.told.1 _ h.here in let size = told.2
    in let full = c.if-place.true in omega arith))

pub returns : goal.returns
returns g c = looks-done c.stat.ensures c.in_ok-node.was (λ h.
    let told = c.in_ok-node.ensures.told.1 _ h.here in
    let size = told.2 in
    room-end-at h (omega arith) (let less = c.if-place.false in omega arith))
