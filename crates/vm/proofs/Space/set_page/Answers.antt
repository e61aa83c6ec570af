use Rattle.std.proofs.Common.{arith}
use Rattle.vm.proofs.DenseLemmas.{frame_at-is, marks_at-is, marks_at-same}
use Rattle.vm.proofs.BesideLemmas.{OwnsFrames-paged}
use Rattle.vm.proofs.Remap.{page-inside-is, rearranged, reframed, remap-frames, remap-kept, remap-marks, remap-other}
use Rattle.vm.proofs.Remap.{remap-page}
use Rattle.vm.proofs.Space.set_page.Goals as goal

pub remap-requires-clause-paged : goal.remap-requires-clause-paged
remap-requires-clause-paged c = OwnsFrames-paged c.requires.space

pub remap-requires-clause-frame : goal.remap-requires-clause-frame
remap-requires-clause-frame c = page-inside-is c.requires.space _ _ c.requires.may.page c.requires.may.frame

pub returns : goal.returns
returns c =
    let is = c.requires.space in
    let may = c.requires.may in
    let maps = c.remap.ensures.maps in
    let r = c.remap.ensures.rewrites in
    let e = remap-marks is may.page may.frame may.user c.requires.sole r.holders maps r.tables
    (c.remap.ensures.tidy is.dense.tidy) r.paged r.keeps r.free in
    record {
      sets = record {
        has = record {
          frame = frame_at-is _ _ _ maps.changed;
          marks = marks_at-is _ _ _ maps.changed;
          others = λ p low ne. marks_at-same _ _ _ p (maps.others p (omega (arith, low, is.dense.small)) ne);
        };
        holders = r.holders;
        stands = reframed _ is may.page e;
        page = remap-page is may.page e;
        pages = remap-other is may.page e;
        frames = remap-frames is may.page e;
        held = remap-kept is may.page e;
      };
      same = λ right. rearranged _ is may.page e right;
    }
