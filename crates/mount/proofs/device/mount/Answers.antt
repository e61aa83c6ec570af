use Rattle.mount.proofs.Common.{Err, ap, le_trans, refl, ◌∙◌, ◌≡◌, ◌≤◌, arith, image_of}
use Rattle.imagerules.specs.Places.{files_in}
use Rattle.imagecheck.proofs.Sounding.{Rises-before, not_device, told-err}
use Rattle.mount.proofs.Holding.{file-system-mounted, made, mounted-over, sound-mounted, two-blocks}
use Rattle.mount.proofs.Sounding.{IsDenoted}
use Rattle.mount.proofs.device.mount.Given as given
use Rattle.mount.proofs.device.mount.Goals as goal
use Rattle.mount.proofs.device.mount.Goals.{In_ok-disk}

denoted : (g : given.Over) (c : In_ok-disk g)
    → IsDenoted c.in_ok-geometry.geometry (g.D.BlockDev.content c.args.device)
    (files_in (image_of (g.D.BlockDev.content c.args.device)))
denoted g c =
    let numbers = rw c.check.ensures.same at c.in_ok-geometry.ensures.numbers in
    record {
      sizes = g.met.D.BlockDev.sizes c.args.device;
      size = numbers.size;
      inodes = numbers.inodes;
      denotes = c.in_ok-_summary.ensures.denotes;
    }

-- the cache has the blocks that the device had
same : (g : given.Over) (c : In_ok-disk g) → c.in_ok-disk.disk.blocks ≡ g.D.BlockDev.content c.args.device
same g c = (made c.in_ok-disk.ensures.made).0 ∙ c.read_geometry.ensures.same ∙ c.check.ensures.same

pub returns-in_err-_summary-clause-unmounted : goal.returns-in_err-_summary-clause-unmounted
returns-in_err-_summary-clause-unmounted g c = rw (told-err c.from_residual.result c.from_residual.ensures.1) (record {
  tells = c.in_err-_summary.ensures.fault;
  none = c.in_err-_summary.ensures.refused;
  failed = λ is. (
    c.check.new.device,
    record {
      reaches = record { same_device = c.check.ensures.identity; later = c.check.ensures.later };
      rises = c.in_err-_summary.ensures.failed (ap Err is);
    },
  );
})

pub read_geometry-requires : goal.read_geometry-requires
read_geometry-requires g c =
    rw c.check.ensures.same (two-blocks (g.D.BlockDev.content c.args.device)
    (files_in (image_of (g.D.BlockDev.content c.args.device))) (g.met.D.BlockDev.sizes c.args.device)
    c.in_ok-_summary.ensures.denotes)

pub returns-in_err-geometry-clause-unmounted : goal.returns-in_err-geometry-clause-unmounted
returns-in_err-geometry-clause-unmounted g c =
    rw (told-err c.from_residual-in_err-geometry.result c.from_residual-in_err-geometry.ensures.1) (record {
      tells = tt;
      none = λ own. absurd own;
      failed = λ _. (
        c.read_geometry.new.device,
        record {
          reaches = record {
            same_device = c.read_geometry.ensures.identity ∙ c.check.ensures.identity;
            later = le_trans c.check.ensures.later c.read_geometry.ensures.cause.later;
          };
          rises = Rises-before (g.D.BlockDev.failures c.args.device) (g.D.BlockDev.failures c.check.new.device)
              (g.D.BlockDev.failures c.read_geometry.new.device) c.check.ensures.later
              (c.in_err-geometry.ensures.cause.failed refl);
        },
      );
    })

pub returns-in_err-disk-clause-unmounted : goal.returns-in_err-disk-clause-unmounted
returns-in_err-disk-clause-unmounted g c =
    rw (told-err c.from_residual-in_err-disk.result c.from_residual-in_err-disk.ensures.1)
    (record { tells = tt; none = λ own. absurd own; failed = λ is. absurd (not_device is) })

pub new-volume-requires : goal.new-volume-requires
new-volume-requires g c =
    let at = (goal.at.new-volume-requires g c).In_ok-disk in
    sound-mounted (denoted g at) c.in_ok-disk.disk (same g at)

pub new-requires-2 : goal.new-requires-2
new-requires-2 g c =
    let at = (goal.at.new-requires-2 g c).In_ok-disk in
    file-system-mounted (denoted g at) c.in_ok-disk.disk (same g at) c.new-volume.ensures

pub returns-in_err-new-clause-unmounted : goal.returns-in_err-new-clause-unmounted
returns-in_err-new-clause-unmounted g c =
    rw (told-err c.from_residual-in_err-new.result c.from_residual-in_err-new.ensures.1)
    (record { tells = tt; none = λ own. absurd own; failed = λ is. absurd (not_device is) })

pub returns-clause-mounted : goal.returns-clause-mounted
returns-clause-mounted g c =
    let device = c.args.device in
    let at = (goal.at.returns-clause-mounted g c).In_ok-disk in
    let of = made c.in_ok-disk.ensures.made in
    let later : g.D.BlockDev.failures device ≤ c.in_ok-disk.disk.failures =
    omega (arith, c.check.ensures.later, c.read_geometry.ensures.cause.later, of.2) in
    let known : g.D.BlockDev.identity c.in_ok-disk.disk.device ≡ g.D.BlockDev.identity device =
    ap g.D.BlockDev.identity of.1 ∙ c.read_geometry.ensures.identity ∙ c.check.ensures.identity in
    mounted-over (denoted g at) c.in_ok-disk.disk (same g at) g.D.BlockDev.identity (g.D.BlockDev.identity device)
    (g.D.BlockDev.failures device) known later c.new-volume.ensures c.in_ok-new.ensures
