use Rattle.migrate.proofs.Common.{◌≢◌, ◌+◌, arith, subst, sym, ◌∙◌, kind_in, files_in, node_in, HasPlace-at}
use Rattle.migrate.proofs.Common.{inodes-least, told_err}
use Rattle.std.proofs.lemmas.Bool.{iff_false}
use Rattle.layout.proofs.KindLemmas.{read-free}
use Rattle.migrate.proofs.Copied.{HasCopied, blocks-sound, copied-all, copied-free, copied-more, copied-none}
use Rattle.migrate.proofs.Copied.{count-files, lacks-more, node-stands}
use Rattle.migrate.proofs.copy.copy_nodes.Goals as goal
use Rattle.migrate.proofs.copy.copy_nodes.Goals.{else-not-is_free, then-not-is_free+in_ok-copy_node}

pub loop-n-init : goal.loop-n-init
loop-n-init g c = copied-none _ c.requires.source _ c.requires.geometry c.requires.empty

pub kind-requires : goal.kind-requires
kind-requires g c = HasPlace-at c.requires.geometry c.loop-n.n c.loop-n-test.true

pub copy_node-requires : goal.copy_node-requires
copy_node-requires g c =
    let copied = c.loop-n.invariant in
    record {
      geometry = c.requires.geometry;
      blocks = blocks-sound _ c.requires.source;
      low = omega arith;
      high = c.loop-n-test.true;
      used = λ z. iff_false c.is_free.ensures c.if-not-is_free.true (c.kind.ensures ∙ (read-free _ _ _).1 z);
      able = (copied.now, copied.copies, copied.part.after c.loop-n.n (omega arith));
    }

pub returns-in_err-copy_node : goal.returns-in_err-copy_node
returns-in_err-copy_node g c =
    let old = c.args.old.now in
    let n = c.loop-n.n in
    let copied = c.loop-n.invariant in
    let high = c.loop-n-test.true in
    let used : kind_in old n ≢ 0 =
    λ z. iff_false c.is_free.ensures c.if-not-is_free.true (c.kind.ensures ∙ (read-free _ _ _).1 z) in
    rw (told_err c.from_residual.result c.from_residual.ensures.1)
    (lacks-more old c.requires.source _ c.requires.geometry n c.loop-n.auto.n high used copied _
    (c.in_err-copy_node.ensures copied.now (node_in old n) copied.copies (copied.part.after n (omega arith))
    (node-stands old c.requires.source _ c.requires.geometry n c.loop-n.auto.n high used)))

pub loop-n-preserved : goal.loop-n-preserved
loop-n-preserved g c =
    let old = c.args.old.now in
    let source = c.requires.source in
    let geometry = c.args.geometry in
    let has = c.requires.geometry in
    let n = c.loop-n.n in
    let copied = c.loop-n.invariant in
    let low = c.loop-n.auto.n in
    let high = c.loop-n-test.true in
    elim c.if-not-is_free.branch [
      | then-not-is_free+in_ok-copy_node w ↦
          let used : kind_in old n ≢ 0 =
          λ z. iff_false c.is_free.ensures w.if-not-is_free.true (c.kind.ensures ∙ (read-free _ _ _).1 z) in
          subst (λ s. HasCopied geometry s (n + 1) (files_in old)) (sym w.volume-is)
          (copied-more old source geometry has n low high used copied
          (w.in_ok-copy_node.ensures copied.now (node_in old n) copied.copies (copied.part.after n (omega arith))
          (node-stands old source geometry has n low high used)))
      | else-not-is_free w ↦ subst (λ s. HasCopied geometry s (n + 1) (files_in old)) (sym w.volume-is)
          (copied-free old source geometry has n high
          ((read-free _ _ _).0 (sym c.kind.ensures ∙ c.is_free.ensures.0 w.if-not-is_free.false)) copied)
    ]

pub returns : goal.returns
returns g c =
    let end = c.loop-n.auto.n-end (omega (arith, inodes-least c.requires.geometry)) in
    copied-all c.loop-n.invariant
    (omega (
      arith,
      count-files c.args.old.now c.requires.source c.args.geometry c.requires.geometry,
      end,
      c.loop-n-test.false,
    ))
