use Rattle.imagecheck.proofs.Common.{get_or, slice_set, sym, subst, arith, files_in, inodes-most}
use Rattle.imagecheck.proofs.Judging.{by_same}
use Rattle.imagecheck.proofs.Parents.{is_directory-at}
use Rattle.imagecheck.proofs.Reaching.{Climbs-reached, HasWalked-more, IsWalk, IsWalk-more, IsWalk-start, round_not}
use Rattle.imagecheck.proofs.Reaching.{unmarked_less}
use Rattle.imagecheck.proofs.reach.climb.Goals as goal

pub loop-marks-init : goal.loop-marks-init
loop-marks-init c = record {
  walk = IsWalk-start (files_in c.args.image.now) c.args.start c.args.marks.now c.requires.walked;
  directory = c.requires.directory;
}

pub overflow_cast-marks : goal.overflow_cast-marks
overflow_cast-marks c =
    let h = c.requires.directory.high in
    let m = inodes-most c.requires.sound.geometry in
    let g = c.requires.sound.geometry.inodes in
    omega arith

pub loop-marks-smaller : goal.loop-marks-smaller
loop-marks-smaller c =
    let h = c.loop-marks.invariant.directory.high in
    unmarked_less c.loop-marks.marks c.loop-marks.n c.args.start
    (omega (arith, c.loop-marks.auto.marks, c.requires.long, c.requires.sound.geometry.inodes)) c.loop-marks-test.true
    (λ z. let a = c.requires.above in absurd (omega arith))

pub loop-marks-preserved : goal.loop-marks-preserved
loop-marks-preserved c =
    let files = files_in c.args.image.now in
    let h = c.loop-marks.invariant.directory.high in
    record {
      walk = subst (λ n. IsWalk files c.args.start n (slice_set c.loop-marks.marks c.loop-marks.n c.args.start))
          (sym c.parent-n.ensures.parent)
          (IsWalk-more files c.args.start c.loop-marks.n c.loop-marks.marks c.loop-marks.invariant.walk c.requires.above
          (omega (arith, c.loop-marks.auto.marks, c.requires.long, c.requires.sound.geometry.inodes))
          c.loop-marks-test.true);
      directory = c.parent-n.ensures.directory;
    }

pub returns : goal.returns
returns c =
    let image = c.args.image.now in
    let files = files_in image in
    let n = c.loop-marks.n in
    let marks = c.loop-marks.marks in
    let walk = c.loop-marks.invariant.walk in
    by_same (get_or marks n 0) c.args.start
    (λ other. (
      walk.first (walk.before n c.loop-marks-test.false other),
      HasWalked-more files c.args.start n marks walk c.requires.above c.loop-marks-test.false other,
    ))
    (λ same reached.
    round_not files c.args.start n marks walk c.requires.above same
    (Climbs-reached files c.requires.sound.entries reached n
    (is_directory-at image n c.loop-marks.invariant.directory)))
