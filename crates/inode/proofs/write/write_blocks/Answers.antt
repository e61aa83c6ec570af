use Rattle.inode.proofs.Common.{arith, sym, goes-after, goes-stays, step-done, step-failed}
use Rattle.inode.proofs.Growing.{own_fits, own_length}
use Rattle.inode.proofs.Reading.{HasInode-read, IsInHand-read}
use Rattle.inode.proofs.write.write_blocks.Goals as goal

pub read_inode-requires : goal.read_inode-requires
read_inode-requires g c = record { parts = c.requires.sound.parts; high = c.requires.inode.high }

pub returns-in_err-inode : goal.returns-in_err-inode
returns-in_err-inode g c = step-failed goes-stays c.read_inode.ensures c.in_err-inode.was c.from_residual.ensures.1

pub returns-then-at-inode : goal.returns-then-at-inode
returns-then-at-inode g c =
    let long = own_length (HasInode-read c.requires.sound c.requires.inode c.in_ok-inode.ensures.done.told.is) in
    step-done c.read_inode.ensures.goes (c.in_ok-inode.ensures.done.same, omega (arith, c.if-at-inode.true, long))

pub overflow_sub-at : goal.overflow_sub-at
overflow_sub-at g c =
    let fits = own_fits (HasInode-read c.requires.sound c.requires.inode c.in_ok-inode.ensures.done.told.is) in
    omega (arith, c.if-at-inode.false, fits)

pub returns-then-bytes-at : goal.returns-then-bytes-at
returns-then-bytes-at g c =
    let long = own_length (HasInode-read c.requires.sound c.requires.inode c.in_ok-inode.ensures.done.told.is) in
    step-done c.read_inode.ensures.goes
    (c.in_ok-inode.ensures.done.same, omega (arith, c.if-at-inode.false, long), omega (arith, c.if-bytes-at.true))

pub write_front-requires : goal.write_front-requires
write_front-requires g c =
    let held = HasInode-read c.requires.sound c.requires.inode c.in_ok-inode.ensures.done.told.is in
    let long = own_length held in
    let fits = own_fits held in
    record {
      held = IsInHand-read c.in_ok-inode.ensures.done.same held;
      fits = c.in_ok-inode.ensures.done.told.fits;
      within = rw c.in_ok-inode.ensures.done.same (omega (arith, c.if-at-inode.false, long));
      short = omega (arith, c.if-at-inode.false, fits, c.if-bytes-at.false);
    }

pub returns-in_err-written : goal.returns-in_err-written
returns-in_err-written g c =
    step-failed c.read_inode.ensures.goes c.write_front.ensures c.in_err-written.was
    c.from_residual-in_err-written.ensures.1

pub returns : goal.returns
returns g c =
    let held = HasInode-read c.requires.sound c.requires.inode c.in_ok-inode.ensures.done.told.is in
    let long = own_length held in
    let fits = own_fits held in
    step-done (goes-after c.read_inode.ensures.goes c.write_front.ensures.goes) (
      omega (arith, c.if-at-inode.false, long),
      omega (arith, c.if-at-inode.false, fits, c.if-bytes-at.false),
      rw (sym c.in_ok-inode.ensures.done.same) c.in_ok-written.ensures.done,
    )
