use Rattle.std.proofs.lemmas.Bool.{iff_false}
use Rattle.imagecheck.proofs.Common.{◌≡◌, sym, ap, ◌∙◌, arith, contents_in, inodes_in, kind_in, HasNames, HasPlace-at}
use Rattle.imagecheck.proofs.Common.{inodes-least, up_to_more}
use Rattle.std.proofs.Common.{append-nil}
use Rattle.imagecheck.proofs.Collecting.{entries-other, namings_to, namings_to-all, namings_to-first, namings_to-more}
use Rattle.imagecheck.proofs.Parents.{slot-directory}
use Rattle.imagecheck.proofs.directories.test_directories.Goals as goal
use Rattle.imagecheck.proofs.directories.test_directories.Goals.{else-is_directory}
use Rattle.imagecheck.proofs.directories.test_directories.Goals.{then-is_directory+in_ok-test_directory}

pub is_directory-requires : goal.is_directory-requires
is_directory-requires g c = HasPlace-at c.requires.geometry c.loop-n.n c.loop-n-test.true

pub loop-n-init : goal.loop-n-init
loop-n-init g c =
    let least = inodes-least c.requires.geometry in
    record {
      named = λ m low high. absurd (omega arith);
      collected = c.requires.fresh
          ∙ sym (namings_to-first c.args.image.now (omega (arith, c.requires.geometry.inodes)));
    }

pub loop-n-preserved : goal.loop-n-preserved
loop-n-preserved g c =
    let image = c.args.image.now in
    let n = c.loop-n.n in
    let inv = c.loop-n.invariant in
    let named = λ (here : kind_in image n ≡ 1 → HasNames image (contents_in image n)). up_to_more
    (λ m. kind_in image m ≡ 1 → HasNames image (contents_in image m)) n inv.named here in
    elim c.if-is_directory.branch [
      | then-is_directory+in_ok-test_directory w ↦
          let directory = slot-directory image n (omega arith)
          (omega (arith, c.requires.geometry.inodes, c.loop-n-test.true))
          (c.is_directory.ensures.0 w.if-is_directory.true) in
          record {
            named = named (λ e. w.in_ok-test_directory.ensures.judged);
            collected = rw (w.namings-is, namings_to-more image n, directory, ← inv.collected)
                w.in_ok-test_directory.ensures.namings;
          }
      | else-is_directory w ↦
          let other = iff_false c.is_directory.ensures w.if-is_directory.false in
          record {
            named = named (λ e. absurd (other e));
            collected = rw (
              w.namings-is,
              namings_to-more image n,
              entries-other image c.requires.blocks n other,
              append-nil,
            ) inv.collected;
          }
    ]

pub returns-clause-judged : goal.returns-clause-judged
returns-clause-judged g c =
    λ n low high directory. c.loop-n.invariant.named n low
    (omega (arith, c.requires.geometry.inodes, c.loop-n-test.false)) directory

pub returns-clause-namings : goal.returns-clause-namings
returns-clause-namings g c =
    let end : c.loop-n.n ≡ inodes_in c.args.image.now =
    omega (
      arith,
      c.requires.geometry.inodes,
      c.loop-n.auto.n-end (omega (arith, inodes-least c.requires.geometry)),
      c.loop-n-test.false,
    ) in
    c.loop-n.invariant.collected ∙ ap (namings_to c.args.image.now) end ∙ namings_to-all c.args.image.now
