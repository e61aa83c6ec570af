use Rattle.imagemake.proofs.Common.{[], inl, inr, subst, sym, ◌∙◌, IsNow, now-begin}
use Rattle.imagemake.proofs.Filling.{fill-less, fill-long, fill-whole}
use Rattle.imagemake.proofs.Putting.{puts-done, puts-full, puts-lost}
use Rattle.imagemake.proofs.store.put_bytes.Goals as goal

pub write-requires : goal.write-requires
write-requires g c = record { up = c.requires.up; file = record { links = 1; bytes = []; here = c.requires.bare } }

pub returns-in_err-count : goal.returns-in_err-count
returns-in_err-count g c = puts-lost now-begin c.write.ensures.cause c.in_err-count.was c.from_residual.ensures.1

pub returns-in_default : goal.returns-in_default
returns-in_default g c =
    let t = c.args.tree.now in
    let told = c.in_ok-count.ensures.told in
    puts-full (record { is = told.0; later = c.write.ensures.cause.later })
    (inl (fill-long _ t.files _ _ c.requires.bare (sym c.in_default.is ∙ told.1)))

pub returns-then-count-bytes : goal.returns-then-count-bytes
returns-then-count-bytes g c =
    let t = c.args.tree.now in
    let told = c.in_ok-count.ensures.told in
    puts-full (record { is = told.0; later = c.write.ensures.cause.later })
    (inr (fill-less _ t.files _ _ c.requires.bare (sym c.in-Some.is ∙ told.1) c.if-count-bytes.true))

pub returns : goal.returns
returns g c =
    let t = c.args.tree.now in
    let told = c.in_ok-count.ensures.told in
    puts-done (subst (IsNow t c.write.new.self)
    (fill-whole t.block_limit t.files c.args.number c.args.bytes.now c.requires.bare (sym c.in-Some.is ∙ told.1)
    c.if-count-bytes.false) (record { is = told.0; later = c.write.ensures.cause.later }))
