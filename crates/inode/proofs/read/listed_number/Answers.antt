use Rattle.inode.proofs.Common.{◌∙◌, ap, subst, sym, block_at, goes-stays, step-failed, step-last, number_at, Asks}
use Rattle.inode.proofs.Common.{holder_of, in_record, slot_in, asks_holder, holder-holder}
use Rattle.inode.proofs.Reading.{found_in, holder_lies}
use Rattle.inode.proofs.read.listed_number.Goals as goal

pub returns-in_err-block : goal.returns-in_err-block
returns-in_err-block g c = step-failed goes-stays c.index_number.ensures c.in_err-block.was c.from_residual.ensures.1

pub index_number-requires-clause-asked : goal.index_number-requires-clause-asked
index_number-requires-clause-asked g c =
    subst (Asks c.args.inode.now.size) (sym c.holder_of.ensures) (asks_holder c.requires.asked c.requires.apart)

pub index_number-requires-clause-top : goal.index_number-requires-clause-top
index_number-requires-clause-top g c = λ _. ap (λ h. in_record (holder_of h)) c.holder_of.ensures
    ∙ holder-holder c.args.slot

pub number_in-requires-clause-block : goal.number_in-requires-clause-block
number_in-requires-clause-block g c =
    let apart = c.requires.apart in
    let low = holder_lies c.args.disk.now.blocks c.args.inode.now c.args.slot apart c.requires.asked c.requires.index
    (c.in_ok-block.ensures.done.told ∙ ap (slot_in c.args.disk.now.blocks c.args.inode.now) c.holder_of.ensures) in
    rw c.in_ok-block.ensures.done.same low

pub returns : goal.returns
returns g c =
    let apart = c.requires.apart in
    let same = c.in_ok-block.ensures.done.same in
    step-last c.index_number.ensures.goes (λ b read. record {
      told = read.told ∙ ap (λ bs. number_at (block_at bs c.in_ok-block.block) c.place_of.result) same
          ∙ found_in c.args.disk.now.blocks c.args.inode.now c.args.slot apart
          (c.in_ok-block.ensures.done.told ∙ ap (slot_in c.args.disk.now.blocks c.args.inode.now) c.holder_of.ensures)
          c.place_of.ensures.place;
      same = read.same ∙ same;
    }) c.number_in.ensures
