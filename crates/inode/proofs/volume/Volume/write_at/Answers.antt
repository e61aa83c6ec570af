use Rattle.inode.proofs.Common.{arith, refl, subst, WritesFrom}
use Rattle.inode.proofs.Calls.{follows-stays, serves-done, serves-lost, serves-not, still-up, writes-all, writes-part}
use Rattle.inode.proofs.volume.Volume.write_at.Goals as goal

pub returns-in_err-try_writing : goal.returns-in_err-try_writing
returns-in_err-try_writing g c =
    serves-lost _ follows-stays c.try_writing.ensures c.in_err-try_writing.was refl c.from_residual.ensures.1

pub returns-in-PastEnd : goal.returns-in-PastEnd
returns-in-PastEnd g c =
    let past = subst (WritesFrom _ _ _ _ _) c.in-PastEnd.is c.in_ok-try_writing.ensures.done in
    serves-not c.try_writing.ensures.follows (still-up c.try_writing.ensures c.in_ok-try_writing.was) refl past

pub returns-in-TooLong : goal.returns-in-TooLong
returns-in-TooLong g c =
    let long = subst (WritesFrom _ _ _ _ _) c.in-TooLong.is c.in_ok-try_writing.ensures.done in
    serves-not c.try_writing.ensures.follows (still-up c.try_writing.ensures c.in_ok-try_writing.was) refl long

pub returns-then-written-bytes : goal.returns-then-written-bytes
returns-then-written-bytes g c =
    let wrote = subst (WritesFrom _ _ _ _ _) c.in-Written.is c.in_ok-try_writing.ensures.done in
    serves-not c.try_writing.ensures.follows (still-up c.try_writing.ensures c.in_ok-try_writing.was) refl
    (writes-part c.in-Written.written wrote.2 wrote.0 wrote.1 c.if-written-bytes.true)

pub returns : goal.returns
returns g c =
    let wrote = subst (WritesFrom _ _ _ _ _) c.in-Written.is c.in_ok-try_writing.ensures.done in
    serves-done c.try_writing.ensures.follows (still-up c.try_writing.ensures c.in_ok-try_writing.was)
    (writes-all c.in-Written.written wrote.2 wrote.0 wrote.1 (omega (arith, c.if-written-bytes.false)))
