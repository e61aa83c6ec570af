use Rattle.imagecheck.proofs.Common.{ℕ, ◌<◌, ◌+◌, cond, length, get_or, sym, ◌∙◌, arith, refl, ◌&&◌, ◌==◌, and_right}
use Rattle.imagecheck.proofs.Common.{is_directory_at, files_in, Naming, inodes-least, sum_by_more}
use Rattle.std.proofs.Common.{length-set, take_all}
use Rattle.imagecheck.proofs.Collecting.{counted_more, counts_both}
use Rattle.imagecheck.proofs.Entering.{some_high, some_low}
use Rattle.imagecheck.proofs.tables.count_subdirectories.Goals as goal
use Rattle.imagecheck.proofs.tables.count_subdirectories.Goals.{else-is_directory, then-is_directory}

abbrev none : Naming
none = record { directory = 0; number = 0 }

pub is_directory-requires-clause-low : goal.is_directory-requires-clause-low
is_directory-requires-clause-low c =
    let least = inodes-least c.requires.geometry in
    some_low _ (get_or _ c.loop-naming.naming-index none).number (omega (arith, c.requires.geometry.inodes))
    (c.requires.namings c.loop-naming.naming-index none c.loop-naming-test.true).number

pub is_directory-requires-clause-high : goal.is_directory-requires-clause-high
is_directory-requires-clause-high c =
    let high = some_high _ (get_or _ c.loop-naming.naming-index none).number
    (c.requires.namings c.loop-naming.naming-index none c.loop-naming-test.true).number in
    omega (arith, c.requires.geometry.inodes)

pub bounds-counts-naming : goal.bounds-counts-naming
bounds-counts-naming c =
    omega (
      arith,
      (c.requires.namings c.loop-naming.naming-index none c.loop-naming-test.true).high,
      c.requires.geometry.inodes,
      c.requires.long,
      c.loop-naming.invariant.long,
    )

pub bounds-counts-naming-then-is_directory : goal.bounds-counts-naming-then-is_directory
bounds-counts-naming-then-is_directory c =
    omega (
      arith,
      (c.requires.namings c.loop-naming.naming-index none c.loop-naming-test.true).high,
      c.requires.geometry.inodes,
      c.requires.long,
      c.loop-naming.invariant.long,
    )

pub loop-naming-preserved : goal.loop-naming-preserved
loop-naming-preserved c =
    let counts = c.loop-naming.counts in
    let i = c.loop-naming.naming-index in
    let m : Naming = get_or c.args.namings.now i none in
    let inv = c.loop-naming.invariant in
    let folder = is_directory_at (files_in c.args.image.now) m.number in
    let high : m.directory < length counts =
    omega (
      arith,
      (c.requires.namings i none c.loop-naming-test.true).high,
      c.requires.geometry.inodes,
      c.requires.long,
      inv.long,
    ) in
    let long = length-set counts m.directory (get_or counts m.directory 0 + 1) in
    let more = λ (d : ℕ). sum_by_more
    (λ (y : Naming). cond ((y.directory == d) && is_directory_at (files_in c.args.image.now) y.number) 1 0)
    c.args.namings.now i none c.loop-naming-test.true in
    elim c.if-is_directory.branch [
      | then-is_directory w ↦ rw w.counts-is (record {
        long = long ∙ inv.long;
        counted = λ d l. rw (
          counted_more counts m.directory d high,
          inv.counted d (omega arith),
          more d,
          counts_both (m.directory == d) folder (sym c.is_directory.ensures ∙ w.if-is_directory.true),
        ) refl;
      })
      | else-is_directory w ↦ rw w.counts-is (record {
        long = inv.long;
        counted = λ d l. rw (
          more d,
          and_right (m.directory == d) folder (sym c.is_directory.ensures ∙ w.if-is_directory.false),
        )
            (inv.counted d l ∙ omega arith);
      })
    ]

pub returns-clause-counted : goal.returns-clause-counted
returns-clause-counted c =
    rw (← take_all c.loop-naming.naming-index c.args.namings.now c.loop-naming-test.false)
    c.loop-naming.invariant.counted
