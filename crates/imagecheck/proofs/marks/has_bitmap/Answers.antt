use Rattle.imagecheck.proofs.Common.{◌≡◌, below_more, sym, ◌∙◌, arith, nat_lt, ◌||◌, lt-ltb, bit_of, data_start}
use Rattle.imagecheck.proofs.Common.{inodes_in, is_named, size_in, bit-inside, bitmap-low, inodes-most, size-most}
use Rattle.imagecheck.proofs.Judging.{never, told}
use Rattle.imagecheck.proofs.marks.has_bitmap.Goals as goal
use Rattle.imagecheck.proofs.marks.has_bitmap.Goals.{else-block-first, then-block-first}
use Rattle.imagerules.proofs.Marking.{bit_is, marked_no, marked_yes, other_tests, same_tests}

pub bitmap_start-start-requires : goal.bitmap_start-start-requires
bitmap_start-start-requires c = inodes-most c.requires.geometry

pub data_start-first-requires : goal.data_start-first-requires
data_start-first-requires c = record { inodes = inodes-most c.requires.geometry; size = size-most c.requires.geometry }

pub bit-requires : goal.bit-requires
bit-requires c = record {
  block = omega (arith, size-most c.requires.geometry, c.loop-block-test.true);
  start = bitmap-low c.requires.geometry c.bitmap_start-start.result c.bitmap_start-start.ensures;
  inside =
      bit-inside c.requires.geometry c.bitmap_start-start.result c.bitmap_start-start.ensures c.loop-block.block
      c.loop-block-test.true;
}

pub returns-then-bit-marks : goal.returns-then-bit-marks
returns-then-bit-marks c = never (λ h.
    let image = c.args.image.now in
    let b = c.loop-block.block in
    let r = c.requires in
    let value : c.if-block-first.value
    ≡ (nat_lt b (data_start (size_in image) (inodes_in image)) || is_named image b) =
    elim c.if-block-first.branch [
      | then-block-first w ↦ w.value-is ∙ lt-ltb b c.data_start-first.result w.if-block-first.true
          ∙ sym (marked_yes r.geometry c.args.marks.now r.marks r.long b c.data_start-first.result
          c.loop-block-test.true c.data_start-first.ensures w.if-block-first.true)
      | else-block-first w ↦ w.value-is
          ∙ sym (marked_no r.geometry c.args.marks.now r.marks r.long b c.data_start-first.result
          c.loop-block-test.true c.data_start-first.ensures w.if-block-first.false)
    ] in
    let bit : c.bit.result ≡ bit_of image b = c.bit.ensures
    ∙ bit_is r.geometry c.args.marks.now r.marks r.long b c.bitmap_start-start.result c.loop-block-test.true
    c.bitmap_start-start.ensures in
    other_tests c.bit.result c.if-block-first.value c.if-bit-marks.true
    (bit ∙ h b (omega (arith, r.geometry.size, c.loop-block-test.true)) ∙ sym value))

pub loop-block-preserved : goal.loop-block-preserved
loop-block-preserved c =
    let image = c.args.image.now in
    let b = c.loop-block.block in
    let r = c.requires in
    let value : c.if-block-first.value
    ≡ (nat_lt b (data_start (size_in image) (inodes_in image)) || is_named image b) =
    elim c.if-block-first.branch [
      | then-block-first w ↦ w.value-is ∙ lt-ltb b c.data_start-first.result w.if-block-first.true
          ∙ sym (marked_yes r.geometry c.args.marks.now r.marks r.long b c.data_start-first.result
          c.loop-block-test.true c.data_start-first.ensures w.if-block-first.true)
      | else-block-first w ↦ w.value-is
          ∙ sym (marked_no r.geometry c.args.marks.now r.marks r.long b c.data_start-first.result
          c.loop-block-test.true c.data_start-first.ensures w.if-block-first.false)
    ] in
    let bit : c.bit.result ≡ bit_of image b = c.bit.ensures
    ∙ bit_is r.geometry c.args.marks.now r.marks r.long b c.bitmap_start-start.result c.loop-block-test.true
    c.bitmap_start-start.ensures in
    below_more (λ m. bit_of image m ≡ (nat_lt m (data_start (size_in image) (inodes_in image)) || is_named image m)) b
    c.loop-block.invariant
    (sym bit ∙ same_tests _ c.if-block-first.value c.if-bit-marks.false ∙ value)

pub returns : goal.returns
returns c = told (λ b l. c.loop-block.invariant b (omega (arith, c.requires.geometry.size, c.loop-block-test.false)))
