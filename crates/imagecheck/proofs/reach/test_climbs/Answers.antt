use Rattle.std.proofs.lemmas.Bool.{iff_false}
use Rattle.imagecheck.proofs.Common.{◌≡◌, ◌∙◌, arith, MatchBool-at_false, MatchBool-at_true, kind_in, files_in, Climbs}
use Rattle.imagecheck.proofs.Common.{HasClimbed, IsDirectoryIn, HasPlace-at, up_to_more, HasBlocks-of}
use Rattle.imagecheck.proofs.Parents.{IsDirectoryIn-from}
use Rattle.imagecheck.proofs.Reaching.{IsReached-from}
use Rattle.imagecheck.proofs.reach.test_climbs.Goals as goal
use Rattle.imagecheck.proofs.reach.test_climbs.Goals.{else-is_directory-via-else-is_directory}
use Rattle.imagecheck.proofs.reach.test_climbs.Goals.{else-is_directory-via-then-is_directory+else-not-climb}

pub returns-then-not-climb-clause-judged : goal.returns-then-not-climb-clause-judged
returns-then-not-climb-clause-judged c = (
  HasBlocks-of c.args.image.now c.requires.sound.blocks,
  c.requires.sound.entries,
  c.requires.sound.links,
  MatchBool-at_false _ _ c.if-not-climb.true c.climb.ensures,
)

pub is_directory-requires : goal.is_directory-requires
is_directory-requires c = HasPlace-at c.requires.sound.geometry c.loop-n.n c.loop-n-test.true

pub loop-n-preserved : goal.loop-n-preserved
loop-n-preserved c =
    let image = c.args.image.now in
    let n = c.loop-n.n in
    let inv = c.loop-n.invariant in
    let climbed = λ (here : kind_in image n ≡ 1 → Climbs (files_in image) n). up_to_more
    (λ m. kind_in image m ≡ 1 → Climbs (files_in image) m) n inv.climb here in
    elim c.else-is_directory.branch [
      | else-is_directory-via-then-is_directory+else-not-climb w ↦
          let met = MatchBool-at_true (HasClimbed (files_in image) n w.climb.new.marks) _ w.if-not-climb.false
          w.climb.ensures in
          rw w.marks-is (record { long = w.climb.auto.marks ∙ inv.long; walked = met.1; climb = climbed (λ _. met.0) })
      | else-is_directory-via-else-is_directory w ↦ rw w.marks-is (record {
        long = inv.long;
        walked = record {
          root = inv.walked.root;
          before = λ m. omega (arith, inv.walked.before m);
          climbs = inv.walked.climbs;
        };
        climb = climbed (λ e. absurd (iff_false c.is_directory.ensures w.if-is_directory.false e));
      })
    ]

pub returns-clause-judged : goal.returns-clause-judged
returns-clause-judged c =
    IsReached-from (files_in c.args.image.now) c.requires.sound.entries c.requires.sound.links (λ n directory.
    let d : IsDirectoryIn c.args.image.now n = IsDirectoryIn-from c.args.image.now n directory in
    c.loop-n.invariant.climb n d.low (omega (arith, c.requires.sound.geometry.inodes, c.loop-n-test.false)) d.kind)
