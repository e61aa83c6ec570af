use Rattle.std.proofs.lemmas.Bool.{iff_false}
use Rattle.imagecheck.proofs.Common.{◌≡◌, ◌-◌, length, ap, refl, ◌∙◌, arith, filter, range_with_len, inodes_in}
use Rattle.imagecheck.proofs.Common.{is_in_use, unused_more, used_more, inodes-least, HasPlace-at}
use Rattle.imagecheck.proofs.summary.inodes_in_use.Goals as goal
use Rattle.imagecheck.proofs.summary.inodes_in_use.Goals.{else-not-is_free, then-not-is_free}

pub is_free-requires : goal.is_free-requires
is_free-requires c = HasPlace-at c.requires c.loop-n.n c.loop-n-test.true

pub loop-n-preserved : goal.loop-n-preserved
loop-n-preserved c =
    let more = used_more c.args.image.now c.loop-n.n (omega arith) in
    let same = unused_more c.args.image.now c.loop-n.n (omega arith) in
    let i = c.loop-n.invariant in
    elim c.if-not-is_free.branch [
      | then-not-is_free w ↦ rw w.total-is
          (record {
            total = rw (i.total, more (iff_false c.is_free.ensures w.if-not-is_free.true)) refl;
            most = omega (arith, i.most);
          })
      | else-not-is_free w ↦ rw w.total-is
          (record {
            total = rw (i.total, same (c.is_free.ensures.0 w.if-not-is_free.false)) refl;
            most = omega (arith, i.most);
          })
    ]

pub returns : goal.returns
returns c =
    let end : c.loop-n.n ≡ inodes_in c.args.image.now =
    omega (
      arith,
      c.requires.inodes,
      c.loop-n.auto.n-end (omega (arith, inodes-least c.requires)),
      c.loop-n-test.false,
    ) in
    c.loop-n.invariant.total ∙ ap (λ m. length (filter (is_in_use c.args.image.now) (range_with_len 1 (m - 1)))) end
