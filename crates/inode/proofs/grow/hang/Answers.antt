use Rattle.inode.proofs.Common.{◌∙◌, ap, arith, refl, set, subst, sym, false≢true, goes-after, goes-stays, step-done}
use Rattle.inode.proofs.Common.{step-failed, Asks, slot_in, DiskInode}
use Rattle.inode.proofs.grow.hang.Goals as goal

pub returns-then-is_in_record : goal.returns-then-is_in_record
returns-then-is_in_record g c = step-done goes-stays (record {
  in_own = λ _. (
    refl,
    c.with_address.ensures
        ∙ ap (λ k. let next : DiskInode = record c.args.inode.now
        { size = c.args.size; addresses = set c.args.inode.now.addresses k c.args.b } in next)
        c.address_of.ensures.place,
  );
  in_block = λ apart. absurd (false≢true (sym apart ∙ sym c.is_in_record.ensures ∙ c.if-is_in_record.true));
})

pub returns-in_err-block : goal.returns-in_err-block
returns-in_err-block g c = step-failed goes-stays c.block_number.ensures c.in_err-block.was c.from_residual.ensures.1

pub write-requires-clause-block : goal.write-requires-clause-block
write-requires-clause-block g c =
    let asked = subst (Asks c.args.inode.now.size) (sym c.holder_of.ensures)
    (c.requires.holder (sym c.is_in_record.ensures ∙ c.if-is_in_record.false)) in
    omega (
      arith,
      c.requires.index c.holder_of.result asked,
      c.in_ok-block.ensures.done.told,
      c.block_number.ensures.goes.count,
    )

pub returns-in_err-write : goal.returns-in_err-write
returns-in_err-write g c =
    step-failed c.block_number.ensures.goes c.write.ensures c.in_err-write.was c.from_residual-in_err-write.ensures.1

pub returns : goal.returns
returns g c =
    let block = c.in_ok-block.ensures.done.told
    ∙ ap (slot_in c.args.disk.now.blocks c.args.inode.now) c.holder_of.ensures in
    step-done (goes-after c.block_number.ensures.goes c.write.ensures.goes) (record {
      in_own = λ own. absurd (false≢true (sym (sym c.is_in_record.ensures ∙ c.if-is_in_record.false) ∙ own));
      in_block = λ _. (
        rw (c.in_ok-block.ensures.done.same, block, c.place_of.ensures.place, c.number_bytes.ensures)
            at c.in_ok-write.ensures.done,
        c.with_size.ensures,
      );
    })
