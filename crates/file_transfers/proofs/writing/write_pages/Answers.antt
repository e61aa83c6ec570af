use Rattle.file_transfers.proofs.Common.{arith, inl, inr, File, bytes_given}
use Rattle.file_transfers.proofs.Fits.{Tells, count-low, file-now, given-length, given-low, is-piece, never-refused}
use Rattle.file_transfers.proofs.Fits.{serves-told, went-low, write-all, write-begun, write-more, write-part}
use Rattle.file_transfers.proofs.Fits.{write-refused, write-serves}
use Rattle.file_transfers.proofs.writing.write_pages.Goals.{then-offset-size-via-then-offset-size}
use Rattle.file_transfers.proofs.writing.write_pages.Goals.{then-offset-size-via-else-offset-size+then-from-count}
use Rattle.file_transfers.proofs.writing.write_pages.Goals as goal

pub overflow_add-from : goal.overflow_add-from
overflow_add-from g c =
    omega (
      arith,
      count-low _ c.args.address c.args.count c.requires.readable c.pages_are_whole.ensures.sized
          c.pages_are_whole.ensures.few,
      c.from.ensures,
      c.ranges.offset.fits,
    )

pub returns-then-offset-size : goal.returns-then-offset-size
returns-then-offset-size g c =
    let given = bytes_given c.args.spaces.now c.args.at c.args.address c.args.count in
    let told = c.in_ok-size.ensures.told in
    let size = (told.1 (File c.requires.file.links c.requires.file.bytes) c.requires.file.here).2 in
    let whole = given-length _ c.args.address c.args.count c.requires.readable in
    serves-told {Told = Tells c.args.tree.now c.stat.new.self c.args.number c.args.offset given} _
    (write-refused c.args.tree.now given c.requires.file told.0 (elim c.then-offset-size.branch [
      | then-offset-size-via-then-offset-size w ↦ let past = w.if-offset-size.true in inl (omega (arith, past, size))
      | then-offset-size-via-else-offset-size+then-from-count w ↦ let long = w.if-from-count.true in let from =
          w.from.ensures in inr (omega (arith, long, from, whole))
    ]))
    c.in_ok-size.ensures.up c.stat.ensures.same_device c.stat.ensures.cause.later

pub loop-done-init : goal.loop-done-init
loop-done-init g c =
    let given = bytes_given c.args.spaces.now c.args.at c.args.address c.args.count in
    let told = c.in_ok-size.ensures.told in
    let size = (told.1 (File c.requires.file.links c.requires.file.bytes) c.requires.file.here).2 in
    let whole = given-length _ c.args.address c.args.count c.requires.readable in
    write-begun {new = given} c.requires.file (omega (arith, c.if-offset-size.false, size))
    (omega (arith, c.if-from-count.false, c.from.ensures, whole)) told.0 c.stat.ensures.cause.later

pub overflow_add-address : goal.overflow_add-address
overflow_add-address g c =
    omega (
      arith,
      given-low _ c.args.address c.args.count c.requires.readable c.loop-done.done c.loop-done-test.true
          c.pages_are_whole.ensures.sized c.pages_are_whole.ensures.few,
    )

pub write-requires-clause-file : goal.write-requires-clause-file
write-requires-clause-file g c = file-now c.loop-done.invariant

pub unwrap-went-requires : goal.unwrap-went-requires
unwrap-went-requires g c =
    let piece = is-piece _ c.args.address c.args.count c.requires.readable c.loop-done.done c.loop-done-test.true
    c.pages_are_whole.ensures.sized c.piece-piece.result.now c.piece-piece.ensures in
    never-refused c.loop-done.invariant piece c.in_ok-write.ensures.told

pub overflow_add-done : goal.overflow_add-done
overflow_add-done g c =
    let piece = is-piece _ c.args.address c.args.count c.requires.readable c.loop-done.done c.loop-done-test.true
    c.pages_are_whole.ensures.sized c.piece-piece.result.now c.piece-piece.ensures in
    let low = went-low c.loop-done.invariant piece c.in_ok-write.ensures.told c.unwrap-went.result c.unwrap-went.ensures
    in
    let whole = given-length _ c.args.address c.args.count c.requires.readable in
    let within = piece.within in
    omega (arith, low, within, whole, c.ranges.count.fits)

pub returns-then-went-piece : goal.returns-then-went-piece
returns-then-went-piece g c =
    let given = bytes_given c.args.spaces.now c.args.at c.args.address c.args.count in
    let piece = is-piece _ c.args.address c.args.count c.requires.readable c.loop-done.done c.loop-done-test.true
    c.pages_are_whole.ensures.sized c.piece-piece.result.now c.piece-piece.ensures in
    let more = write-more {new = given} c.loop-done.invariant piece c.in_ok-write.ensures.told c.unwrap-went.result
    c.unwrap-went.ensures c.write.ensures.cause.later in
    let part = write-part {new = given} c.loop-done.invariant piece c.in_ok-write.ensures.told c.unwrap-went.result
    c.unwrap-went.ensures c.if-went-piece.true in
    write-serves {new = given} more {Told = Tells c.args.tree.now c.write.new.self c.args.number c.args.offset given}
    c.requires.up part

pub loop-done-smaller : goal.loop-done-smaller
loop-done-smaller g c =
    let piece = is-piece _ c.args.address c.args.count c.requires.readable c.loop-done.done c.loop-done-test.true
    c.pages_are_whole.ensures.sized c.piece-piece.result.now c.piece-piece.ensures in
    let some = piece.some in
    omega (arith, some, c.loop-done-test.true, c.if-went-piece.false)

pub loop-done-preserved : goal.loop-done-preserved
loop-done-preserved g c =
    let piece = is-piece _ c.args.address c.args.count c.requires.readable c.loop-done.done c.loop-done-test.true
    c.pages_are_whole.ensures.sized c.piece-piece.result.now c.piece-piece.ensures in
    write-more c.loop-done.invariant piece c.in_ok-write.ensures.told c.unwrap-went.result c.unwrap-went.ensures
    c.write.ensures.cause.later

pub returns : goal.returns
returns g c =
    let given = bytes_given c.args.spaces.now c.args.at c.args.address c.args.count in
    let whole = given-length _ c.args.address c.args.count c.requires.readable in
    write-serves {new = given} c.loop-done.invariant
    {Told = Tells c.args.tree.now c.loop-done.tree c.args.number c.args.offset given} c.requires.up
    (write-all {new = given} c.loop-done.invariant (omega (arith, whole, c.loop-done-test.false)))
