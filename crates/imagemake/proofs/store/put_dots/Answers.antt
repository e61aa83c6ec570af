use Rattle.imagemake.proofs.Common.{◌+◌, ap, arith, sym, ◌∙◌, leb-false, leb-true, Files, put, slot, new_directory}
use Rattle.imagemake.proofs.Common.{now-begin, now-files, now-limit, now-read, now-up, some-now, now-changed, blocks_of}
use Rattle.imagemake.proofs.Putting.{lacks-dots, puts-done, puts-full, puts-lost}
use Rattle.imagemake.proofs.store.put_dots.Goals as goal

pub returns-in_err-has_blocks : goal.returns-in_err-has_blocks
returns-in_err-has_blocks g c =
    puts-lost now-begin c.has_blocks.ensures.serves.cause c.in_err-has_blocks.was c.from_residual.ensures.1

pub returns-then-not-branch : goal.returns-then-not-branch
returns-then-not-branch g c =
    let t = c.args.tree.now in
    puts-full (now-read now-begin c.has_blocks.ensures c.in_ok-has_blocks.was)
    (lacks-dots _ t.files _ _ c.requires.bare
    (leb-false _ _ (sym c.in_ok-has_blocks.ensures.serves.told.1 ∙ c.if-not-branch.true)))

pub put_dots-requires : goal.put_dots-requires
put_dots-requires g c =
    let t = c.args.tree.now in
    let now = now-read now-begin c.has_blocks.ensures c.in_ok-has_blocks.was in
    let enough = leb-true (blocks_of t.files + 1) t.block_limit
    (sym c.in_ok-has_blocks.ensures.serves.told.1 ∙ c.if-not-branch.false) in
    record {
      up = now-up now c.requires.up;
      bare = ap (λ (fs : Files). slot fs c.args.number) (now-files now) ∙ c.requires.bare;
      above = some-now now c.args.directory c.requires.directory;
      block = omega (arith, enough, ap blocks_of (now-files now), now-limit now);
    }

pub returns-in_err-put_dots : goal.returns-in_err-put_dots
returns-in_err-put_dots g c =
    puts-lost (now-read now-begin c.has_blocks.ensures c.in_ok-has_blocks.was) c.put_dots.ensures.serves.cause
    c.in_err-put_dots.was c.from_residual-in_err-put_dots.ensures.1

pub returns : goal.returns
returns g c =
    puts-done (now-changed (now-read now-begin c.has_blocks.ensures c.in_ok-has_blocks.was)
    (λ (fs : Files). put fs c.args.number (new_directory c.args.directory c.args.number)) c.put_dots.ensures
    c.in_ok-put_dots.was)
