use Rattle.inode.proofs.Common.{arith, subst, HasParts-kept, goes-after, goes-stays, step-done, step-failed}
use Rattle.inode.proofs.Common.{HasInode-of, PutsBehind}
use Rattle.inode.proofs.Filling.{BeginsBlock-end, Puts-grown, at_end, within_size}
use Rattle.inode.proofs.write.put_piece.Goals as goal

-- ---- in a block that the file has

pub write_inside-requires : goal.write_inside-requires
write_inside-requires g c = record {
  held = c.requires.held;
  fits = c.requires.fits;
  lies = record {
    there = omega (arith, c.if-index-held.true, c.div_ceil-held.ensures);
    within = within_size (HasInode-of c.requires.held) c.requires.within;
    room = c.requires.room;
  };
}

pub returns-in_err-write_inside : goal.returns-in_err-write_inside
returns-in_err-write_inside g c =
    step-failed goes-stays c.write_inside.ensures c.in_err-write_inside.was c.from_residual.ensures.1

pub returns-then-index-held : goal.returns-then-index-held
returns-then-index-held g c = step-done c.write_inside.ensures.goes c.in_ok-write_inside.ensures.done

-- ---- in one more block

pub grow-requires : goal.grow-requires
grow-requires g c = record {
  held = c.requires.held;
  fits = c.requires.fits;
  begins = BeginsBlock-end (HasInode-of c.requires.held) c.requires.within
      (omega (arith, c.if-index-held.false, c.div_ceil-held.ensures)) c.args.bytes.now c.requires.some c.requires.room
      c.requires.short;
}

pub returns-in_err-next : goal.returns-in_err-next
returns-in_err-next g c = step-failed goes-stays c.grow.ensures c.in_err-next.was c.from_residual-in_err-next.ensures.1

pub returns-in_default : goal.returns-in_default
returns-in_default g c =
    let end = at_end (HasInode-of c.requires.held) c.requires.within
    (omega (arith, c.if-index-held.false, c.div_ceil-held.ensures)) in
    let lacks = subst (PutsBehind _ _ _ _ c.args.inode.now _) c.in_default.is c.in_ok-next.ensures.done in
    step-done c.grow.ensures.goes (rw end lacks.0, lacks.1)

pub write_inode-requires : goal.write_inode-requires
write_inode-requires g c =
    let puts = subst (PutsBehind _ _ _ _ c.args.inode.now _) c.in-Some.is c.in_ok-next.ensures.done in
    let held = HasInode-of c.requires.held in
    record {
      parts = HasParts-kept held.sound.parts puts.grows.count puts.grows.sizes;
      high = held.used.high;
      fits = puts.fits;
    }

pub returns-in_err-write_inode : goal.returns-in_err-write_inode
returns-in_err-write_inode g c =
    step-failed c.grow.ensures.goes c.write_inode.ensures c.in_err-write_inode.was
    c.from_residual-in_err-write_inode.ensures.1

pub returns : goal.returns
returns g c =
    let puts = subst (PutsBehind _ _ _ _ c.args.inode.now _) c.in-Some.is c.in_ok-next.ensures.done in
    step-done (goes-after c.grow.ensures.goes c.write_inode.ensures.goes)
    (Puts-grown (HasInode-of c.requires.held) c.requires.within
    (omega (arith, c.if-index-held.false, c.div_ceil-held.ensures)) c.args.bytes.now puts
    c.in_ok-write_inode.ensures.done)
