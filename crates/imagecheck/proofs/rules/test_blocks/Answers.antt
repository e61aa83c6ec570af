use Rattle.imagecheck.proofs.Common.{◌∙◌, HasMarks-none}
use Rattle.imagecheck.proofs.Sounding.{err-told}
use Rattle.imagecheck.proofs.rules.test_blocks.Goals as goal

pub returns-in_err-test_inodes : goal.returns-in_err-test_inodes
returns-in_err-test_inodes g c = rw (err-told c.from_residual.ensures.1) c.in_err-test_inodes.ensures.judged

pub returns-in_err-marks : goal.returns-in_err-marks
returns-in_err-marks g c = rw (err-told c.from_residual-in_err-marks.ensures.1) tt

pub test_marks-requires-clause-fresh : goal.test_marks-requires-clause-fresh
test_marks-requires-clause-fresh g c =
    rw (c.deref_mut.ensures.value, c.in_ok-marks.ensures.items_if_clones_equal (λ y e. cc)) (HasMarks-none _)

pub test_marks-requires-clause-inodes : goal.test_marks-requires-clause-inodes
test_marks-requires-clause-inodes g c = c.in_ok-test_inodes.ensures.judged.0

pub test_marks-requires-clause-addresses : goal.test_marks-requires-clause-addresses
test_marks-requires-clause-addresses g c = c.in_ok-test_inodes.ensures.judged.1

pub test_marks-requires-clause-long : goal.test_marks-requires-clause-long
test_marks-requires-clause-long g c = c.deref_mut.ensures.len ∙ c.in_ok-marks.ensures.len
