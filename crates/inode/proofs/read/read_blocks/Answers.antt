use Rattle.inode.proofs.Common.{◌≡◌, ◌+◌, ◌/◌, ◌∙◌, ap, arith, length, refl, block_at, goes-after, goes-stays}
use Rattle.inode.proofs.Common.{goes-twice, read-done, step-failed}
use Rattle.inode.proofs.Reading.{HasInode-read, chunk_below, chunk_within, count_of, index_in_disk, read-chunk}
use Rattle.inode.proofs.Reading.{slot_asked, slot_block, slot_in_disk}
use Rattle.inode.proofs.read.read_blocks.Goals as goal

pub read_inode-requires : goal.read_inode-requires
read_inode-requires g c = record { parts = c.requires.sound.parts; high = c.requires.inode.high }

pub returns-in_err-inode : goal.returns-in_err-inode
returns-in_err-inode g c = step-failed goes-stays c.read_inode.ensures c.in_err-inode.was c.from_residual.ensures.1

pub chunk-init : goal.chunk-init
chunk-init g c = record {
  disk = c.in_ok-inode.ensures.done.same;
  goes = c.read_inode.ensures.goes;
  within = omega arith;
  has_read = refl;
}

-- ---- a block

pub block_number-requires : goal.block_number-requires
block_number-requires g c =
    let held = HasInode-read c.requires.sound c.requires.inode c.in_ok-inode.ensures.done.told.is in
    let below = chunk_below held c.args.at (length c.args.out.now) c.min-count.ensures c.saturating_sub.ensures
    c.chunk-test.true c.min-len.ensures in
    record {
      asked = slot_asked held c.chunk.invariant.disk ((c.args.at + c.chunk.done) / 1024) below;
      sizes = rw c.chunk.invariant.disk c.requires.sound.parts.sizes;
      index = index_in_disk held c.chunk.invariant.disk;
    }

pub returns-in_err-source : goal.returns-in_err-source
returns-in_err-source g c =
    step-failed c.chunk.invariant.goes c.block_number.ensures c.in_err-source.was
    c.from_residual-in_err-source.ensures.1

pub read_part-requires : goal.read_part-requires
read_part-requires g c =
    let held = HasInode-read c.requires.sound c.requires.inode c.in_ok-inode.ensures.done.told.is in
    let below = chunk_below held c.args.at (length c.args.out.now) c.min-count.ensures c.saturating_sub.ensures
    c.chunk-test.true c.min-len.ensures in
    omega (
      arith,
      slot_in_disk held c.chunk.invariant.disk ((c.args.at + c.chunk.done) / 1024) below,
      c.in_ok-source.ensures.done.told,
      c.block_number.ensures.goes.count,
    )

pub returns-in_err-read_part : goal.returns-in_err-read_part
returns-in_err-read_part g c =
    step-failed (goes-after c.chunk.invariant.goes c.block_number.ensures.goes) c.read_part.ensures
    c.in_err-read_part.was c.from_residual-in_err-read_part.ensures.1

pub chunk-preserved : goal.chunk-preserved
chunk-preserved g c =
    let held = HasInode-read c.requires.sound c.requires.inode c.in_ok-inode.ensures.done.told.is in
    let below = chunk_below held c.args.at (length c.args.out.now) c.min-count.ensures c.saturating_sub.ensures
    c.chunk-test.true c.min-len.ensures in
    let block = slot_block held c.chunk.invariant.disk ((c.args.at + c.chunk.done) / 1024) below
    c.in_ok-source.ensures.done.told
    (ap (λ b. block_at b c.in_ok-source.source) c.in_ok-source.ensures.done.same) in
    record {
      disk = c.in_ok-read_part.ensures.done.same ∙ c.in_ok-source.ensures.done.same ∙ c.chunk.invariant.disk;
      goes = goes-twice c.chunk.invariant.goes c.block_number.ensures.goes c.read_part.ensures.goes;
      within = chunk_within held c.args.at (length c.args.out.now) c.min-count.ensures c.saturating_sub.ensures
          c.chunk-test.true c.min-len.ensures;
      has_read = read-chunk held c.args.at (length c.args.out.now) c.min-count.ensures c.saturating_sub.ensures
          c.chunk-test.true c.min-len.ensures
          c.args.out.now c.chunk.out _ c.read_part.new.out refl c.chunk.invariant.has_read block
          c.in_ok-read_part.ensures.done.told;
    }

-- ---- the end

pub returns : goal.returns
returns g c =
    let held = HasInode-read c.requires.sound c.requires.inode c.in_ok-inode.ensures.done.told.is in
    let all : c.chunk.done ≡ c.min-count.result = omega (arith, c.chunk-test.false, c.chunk.invariant.within) in
    read-done c.chunk.invariant.goes c.chunk.invariant.disk (record {
      count = count_of held c.args.at (length c.args.out.now) c.min-count.ensures c.saturating_sub.ensures;
      read = rw (← all) c.chunk.invariant.has_read;
    })
