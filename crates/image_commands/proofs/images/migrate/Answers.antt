use Rattle.std.proofs.Common.{arith, subst}
use Rattle.unixmodel.specs.Files.{Files}
use Rattle.unixmodel.specs.Image.{Denotes, DenotesSmall}
use Rattle.image_commands.proofs.Handed.{migrates-in, read-of, writes-as}
use Rattle.image_commands.proofs.images.migrate.Goals as goal

pub returns : goal.returns
returns g c =
    let front = c.in_ok-read_front.field-0 in
    let old = c.in_ok-old.old.items in
    let made = c.in-Ok.made.0.items in
    migrates-in c.args.words old made front _ (g.H.Host.files c.args.host.now) (g.H.Host.files c.write.new.host)
    c.in_ok-read_front.ensures.front
    (λ file is. read-of _ front file old is c.in_ok-old.ensures.whole
    (λ part. omega (arith, c.in_ok-old.ensures.cut part, c.in_ok-old.old.ok.0)))
    (subst (λ b. (files : Files) × DenotesSmall b files) c.deref.ensures.value c.in-Ok.ensures.source)
    (subst (λ b. (files : Files) → DenotesSmall b files → Denotes made files) c.deref.ensures.value
    c.in-Ok.ensures.image)
    (writes-as _ _ _ _ _ _ c.deref-2.ensures.value c.in_ok-read_front.ensures.same c.in_ok-write.ensures)
