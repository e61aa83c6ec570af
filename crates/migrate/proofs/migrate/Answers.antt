use Rattle.migrate.proofs.Common.{◌≡◌, Err, ap, refl, sym, subst, ◌∙◌, Denotes, inodes_in, size_in, files_in, Lacks}
use Rattle.migrate.proofs.Common.{MigrateFault, Image, told_err}
use Rattle.migrate.specs.declared.fault.MigrateFault.TheVariants.{Blocks}
use Rattle.migrate.proofs.Copied.{blank-copies, denotes-migrated, inodes-migrated, left-stored, possible, size-migrated}
use Rattle.migrate.proofs.Copied.{image_fault-room, not_err, refused-image}
use Rattle.imagecheck.proofs.Sounding.{one-fault}
use Rattle.migrate.proofs.migrate.Goals as goal

pub blank-requires : goal.blank-requires
blank-requires c = possible _ c.in_ok-geometry.ensures.denotes _ c.in_ok-geometry.ensures.geometry

pub is_whole-requires : goal.is_whole-requires
is_whole-requires c = c.in-Ok.ensures.blank.up

pub copy_nodes-requires : goal.copy_nodes-requires
copy_nodes-requires c = record {
  geometry = c.in_ok-geometry.ensures.geometry;
  source = c.in_ok-geometry.ensures.denotes;
  empty = blank-copies _ c.in_ok-geometry.ensures.denotes _ c.in_ok-geometry.ensures.geometry c.in-Ok.ensures.blank
      c.is_whole.ensures;
}

pub into_device-device-requires : goal.into_device-device-requires
into_device-device-requires c = record { up = c.in_ok-copy_nodes.ensures.up }

pub returns-in_err-geometry : goal.returns-in_err-geometry
returns-in_err-geometry c =
    let found = c.in_err-geometry.field-0.0 in
    rw (told_err c.from_residual.result c.from_residual.ensures.1) (record {
      migrated = tt;
      source = tt;
      size = tt;
      inodes = tt;
      image = λ fault is. refused-image _ found fault (one-fault refl is) c.in_err-geometry.ensures.fault
          c.in_err-geometry.ensures.refused (λ device. c.in_err-geometry.ensures.device (ap Err device));
      blocks = λ is. absurd (image_fault-room found (one-fault refl is));
    })

pub returns-in_err-copy_nodes : goal.returns-in_err-copy_nodes
returns-in_err-copy_nodes c =
    let geometry = c.in_ok-geometry.geometry in
    let has = c.in_ok-geometry.ensures.geometry in
    let lacks = λ (fault : MigrateFault) (is : c.in_err-copy_nodes.field-0.0 ≡ fault). subst
    (Lacks geometry (files_in c.args.old.now)) is c.in_err-copy_nodes.ensures in
    rw (told_err c.from_residual-in_err-copy_nodes.result c.from_residual-in_err-copy_nodes.ensures.1) (record {
      migrated = tt;
      source = tt;
      size = tt;
      inodes = tt;
      image = λ fault is. absurd (lacks (Image fault) (one-fault refl is));
      blocks = λ is. (
        files_in c.args.old.now,
        c.in_ok-geometry.ensures.denotes,
        rw (has.size, has.inodes) at (lacks Blocks (one-fault refl is)),
      );
    })

pub returns : goal.returns
returns c =
    let old = c.args.old.now in
    let denotes = c.in_ok-geometry.ensures.denotes in
    let geometry = c.in_ok-geometry.geometry in
    let has = c.in_ok-geometry.ensures.geometry in
    let new = c.in-Ok-bytes_left.new in
    let bytes = c.in-Ok-bytes_left.ensures.bytes in
    let stored = left-stored _ c.in_ok-copy_nodes.ensures _ c.in-Ok-bytes_left.ensures.flushed
    c.into_device-device.ensures.stored in
    record {
      migrated = λ files e. subst (λ b. Denotes b files) (sym bytes)
          (denotes-migrated old denotes geometry has _ stored files e);
      source = (files_in old, denotes);
      size = ap size_in bytes ∙ size-migrated old denotes geometry has _ stored;
      inodes = ap inodes_in bytes ∙ inodes-migrated old denotes geometry has _ stored;
      image = λ fault is. absurd (not_err new (Image fault) is);
      blocks = λ is. absurd (not_err new Blocks is);
    }
