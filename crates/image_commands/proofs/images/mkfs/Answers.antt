use Rattle.std.proofs.Common.{subst}
use Rattle.std.proofs.lemmas.Result.{on_ok_weaker}
use Rattle.image_commands.specs.Entries.{HasManifest}
use Rattle.image_commands.proofs.Handed.{makes-in, writes-as}
use Rattle.image_commands.proofs.images.mkfs.Goals as goal

pub into_image-requires : goal.into_image-requires
into_image-requires g c =
    let has = c.in_ok-maker.ensures.entries in
    record { size = _; inodes = _; entries = has.entries; has = has.has }

pub returns-in-Ok : goal.returns-in-Ok
returns-in-Ok g c =
    let words = c.args.words in
    let held = g.H.Host.files c.args.host.now in
    let maker = c.in_ok-maker.maker in
    on_ok_weaker c.write.result
    (λ writes. makes-in words c.args.text.now c.in_ok-lines.lines.items maker c.in-Ok.image.items held
    (g.H.Host.files c.write.new.host) c.in_ok-lines.ensures
    (subst (λ l. HasManifest words.size words.inodes held l maker) c.as_slice.ensures.value
    c.in_ok-maker.ensures.entries)
    c.in-Ok.ensures.image
    (writes-as _ _ _ _ _ _ c.as_slice-in-Ok.ensures.value c.in_ok-maker.ensures.same writes))
    c.write.ensures
