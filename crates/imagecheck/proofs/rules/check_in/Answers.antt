use Rattle.imagecheck.proofs.Common.{◌≡◌, Err, length, ap, refl, sym, subst, ◌∙◌, arith, MatchResult, format_named}
use Rattle.imagecheck.proofs.Common.{image_of, Finds, Tells, IsSummary, size-most, image_of-blocks, count-is}
use Rattle.imagecheck.proofs.Sounding.{IsJudged, Rises-before, Tells-not, judged-from, one-fault, outside-told}
use Rattle.imagecheck.proofs.Sounding.{err-told}
use Rattle.imagecheck.proofs.rules.check_in.Goals as goal

pub returns-in-Some : goal.returns-in-Some
returns-in-Some g c =
    let is : c.in-Some.image.now ≡ image_of (g.D.BlockDev.content c.args.device.now) =
    sym (image_of-blocks c.in-Some.image.now c.in-Some.ensures.whole) ∙ ap image_of c.in-Some.ensures.blocks in
    let told = c.check_bytes.ensures in
    let judged = subst (λ x. IsJudged (format_named c.args.format) x c.check_bytes.result) is
    (record {
      denotes = told.denotes;
      inodes = told.inodes;
      blocks = told.blocks;
      fault = told.fault;
      refused = told.refused;
      device = told.device;
    }) in
    record {
      denotes = judged.denotes;
      inodes = judged.inodes;
      blocks = judged.blocks;
      fault = judged.fault;
      refused = judged.refused;
      same = refl;
      identity = refl;
      later = omega arith;
      failed = λ device. absurd (judged.device device);
    }

pub returns-in_err-geometry : goal.returns-in_err-geometry
returns-in_err-geometry g c =
    let is = err-told c.from_residual.ensures.1 in
    let reads = c.in_err-geometry.ensures.reads in
    record {
      denotes = rw is tt;
      inodes = rw is tt;
      blocks = rw is tt;
      fault = rw is c.in_err-geometry.ensures.judged;
      refused = rw is (Tells-not _ _ _ c.in_err-geometry.ensures.judged);
      same = reads.same;
      identity = reads.identity;
      later = reads.later;
      failed = λ e. reads.failed (ap Err (one-fault is e));
    }

pub read_blocks-requires : goal.read_blocks-requires
read_blocks-requires g c = record {
  count = count-is (g.D.BlockDev.content c.args.device.now) (g.met.D.BlockDev.sizes c.args.device.now)
      c.in_ok-geometry.ensures.judged.geometry ∙ ap length (sym c.read_geometry.ensures.reads.same);
  most = size-most c.in_ok-geometry.ensures.judged.geometry;
}

pub returns-in_err-image : goal.returns-in_err-image
returns-in_err-image g c =
    let device = c.args.device.now in
    let image = image_of (g.D.BlockDev.content device) in
    let fault = c.in_err-image.field-0.0 in
    let told : Tells (format_named c.args.format) image fault =
    outside-told (format_named c.args.format) image fault c.in_err-image.ensures.only in
    let is = err-told c.from_residual-in_err-image.ensures.1 in
    record {
      denotes = rw is tt;
      inodes = rw is tt;
      blocks = rw is tt;
      fault = rw is told;
      refused = rw is (Tells-not (format_named c.args.format) image fault told);
      same = ◌∙◌ {a = g.D.BlockDev.content c.read_blocks.new.device} c.read_blocks.ensures.reads.same
          c.read_geometry.ensures.reads.same;
      identity = c.read_blocks.ensures.reads.identity ∙ c.read_geometry.ensures.reads.identity;
      later = omega (arith, c.read_blocks.ensures.reads.later, c.read_geometry.ensures.reads.later);
      failed = λ e. Rises-before (g.D.BlockDev.failures device) (g.D.BlockDev.failures c.read_geometry.new.device)
          (g.D.BlockDev.failures c.read_blocks.new.device) c.read_geometry.ensures.reads.later
          (c.in_err-image.ensures.reads.failed (ap Err (one-fault is e)));
    }

pub summary_of-requires : goal.summary_of-requires
summary_of-requires g c =
    rw (c.deref.ensures.value, c.in_ok-image.ensures.bytes, c.read_geometry.ensures.reads.same)
    c.in_ok-geometry.ensures.judged.geometry

pub returns : goal.returns
returns g c =
    let image = image_of (g.D.BlockDev.content c.args.device.now) in
    let r = c.summary_of.result in
    let found : MatchResult r (IsSummary image) (Finds image) =
    rw (c.deref.ensures.value, c.in_ok-image.ensures.bytes, c.read_geometry.ensures.reads.same)
    at c.summary_of.ensures in
    let judged = judged-from _ image c.in_ok-geometry.ensures.judged.magic r found in
    record {
      denotes = judged.denotes;
      inodes = judged.inodes;
      blocks = judged.blocks;
      fault = judged.fault;
      refused = judged.refused;
      same = ◌∙◌ {a = g.D.BlockDev.content c.read_blocks.new.device} c.read_blocks.ensures.reads.same
          c.read_geometry.ensures.reads.same;
      identity = c.read_blocks.ensures.reads.identity ∙ c.read_geometry.ensures.reads.identity;
      later = omega (arith, c.read_blocks.ensures.reads.later, c.read_geometry.ensures.reads.later);
      failed = λ device. absurd (judged.device device);
    }
