use Rattle.std.proofs.Common.{arith, rules}
use Rattle.file_transfers.proofs.Pieces.{next-low, read-end, read-more, read-none, read-short, read-writes, reads-all}
use Rattle.file_transfers.proofs.Pieces.{size-fits, size-whole, space-read}
use Rattle.file_transfers.proofs.reading.read_blocks.Goals as goal

pub loop-done-init : goal.loop-done-init
loop-done-init g c = read-none c.requires.space

pub overflow_add-from : goal.overflow_add-from
overflow_add-from g c =
    omega (
      arith,
      next-low _ c.args.address c.pages_are_whole.ensures.sized c.pages_are_whole.ensures.few
          c.requires.writable c.loop-done-test.true,
      c.ranges.offset.fits,
    )

pub overflow_add-address : goal.overflow_add-address
overflow_add-address g c =
    omega (
      arith,
      next-low _ c.args.address c.pages_are_whole.ensures.sized c.pages_are_whole.ensures.few
          c.requires.writable c.loop-done-test.true,
    )

pub read_piece-requires : goal.read_piece-requires
read_piece-requires g c = record {
  up = search rules;
  node = search rules;
  space = space-read c.loop-done.invariant c.requires.space;
  writable = read-writes c.loop-done.invariant c.requires.space c.pages_are_whole.ensures.sized c.requires.writable _
      (size-fits _ _ _ _ c.loop-done-test.true c.min-size.ensures);
}

pub returns-in_err-got : goal.returns-in_err-got
returns-in_err-got g c = record { serves = search rules; written = search rules; failed = search rules }

pub returns-then-got-size : goal.returns-then-got-size
returns-then-got-size g c =
    let fits = size-fits _ _ _ _ c.loop-done-test.true c.min-size.ensures in
    let piece = c.in_ok-got.ensures in
    let long = size-whole _ _ _ c.min-size.array_long c.min-size.ensures in
    reads-all (read-more c.loop-done.invariant fits piece.serves.told c.requires.space
    c.pages_are_whole.ensures.sized piece.serves.cause.later piece.written) c.requires.up
    (read-short c.loop-done.invariant fits piece.serves.told (omega (arith, c.if-got-size.true, long)))

pub returns : goal.returns
returns g c =
    reads-all c.loop-done.invariant c.requires.up (read-end c.loop-done.invariant c.loop-done-test.false)

pub loop-done-preserved : goal.loop-done-preserved
loop-done-preserved g c =
    let fits = size-fits _ _ _ _ c.loop-done-test.true c.min-size.ensures in
    let piece = c.in_ok-got.ensures in
    read-more c.loop-done.invariant fits piece.serves.told c.requires.space c.pages_are_whole.ensures.sized
    piece.serves.cause.later piece.written
