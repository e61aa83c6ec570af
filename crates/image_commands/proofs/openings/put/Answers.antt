use Rattle.std.proofs.Common.{subst, ◌∙◌}
use Rattle.std.proofs.lemmas.Result.{on_ok_weaker}
use Rattle.host.specs.Files.{HoldsFront}
use Rattle.image_commands.specs.Handed.{HoldsDisk}
use Rattle.image_commands.proofs.Handed.{put-as, puts-in, writes-as}
use Rattle.image_commands.proofs.openings.put.Goals as goal

pub returns-in-Ok : goal.returns-in-Ok
returns-in-Ok g c =
    let words = c.args.words in
    let front = c.in_ok-bytes.field-0 in
    let disk = c.in_ok-disk.disk.bytes in
    let same = c.in_ok-disk.ensures.same ∙ c.hold.ensures in
    on_ok_weaker c.write.result
    (λ writes. puts-in words disk c.in-Ok.left.bytes front (g.H.Host.files c.args.host.now)
    (g.H.Host.files c.write.new.host)
    c.in_ok-disk.ensures.blocks c.bytes.ensures.whole
    (subst (λ h. HoldsDisk words.image.now disk h) c.hold.ensures c.in_ok-disk.ensures.disk)
    (subst (λ h. HoldsFront words.file.now 67382273 front h) same c.in_ok-bytes.ensures.front)
    (put-as _ _ _ _ _ _ c.as_bytes.ensures.value c.as_slice.ensures.value c.in-Ok.ensures.put)
    (writes-as _ _ _ _ _ _ c.bytes.ensures.bytes (c.in_ok-bytes.ensures.same ∙ same) writes))
    c.write.ensures
