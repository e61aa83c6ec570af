use Rattle.vm.proofs.Common.{arith, free-first, ◌∙◌}
use Rattle.vm.proofs.DenseLemmas.{frame_at-is, marks_at-is, marks_at-same}
use Rattle.vm.proofs.Remap.{IsSplit, page-inside-is, rearranged, remap-split, split-count, split-mapped, split-paged}
use Rattle.vm.proofs.Remap.{split-sole}
use Rattle.vm.proofs.Space.split_page.Goals as goal
use Rattle.vm.proofs.Space.split_page.Goals.{After-copy}

split : (c : After-copy)
    → IsSplit c.args.memory.now.ram c.copy.new.self c.args.memory.now.frames c.split-own.new.self c.args.frame.0
    c.split-own.result.0
split c = record {
  taken = c.split-own.ensures.taken;
  after = c.split-own.ensures.valid;
  holders = c.split-own.ensures.holders;
  is = c.copy.ensures;
}

pub copy-requires : goal.copy-requires
copy-requires c = record {
  from = page-inside-is c.requires.space _ _ c.requires.may.page c.requires.may.frame;
  to = (free-first c.requires.space.free _ _ c.split-own.ensures.taken).0;
}

pub remap-requires : goal.remap-requires
remap-requires c =
    let e = split (goal.at.remap-requires c).After-copy in
    record {
      paged = (split-paged c.requires.space e).0;
      page = omega (arith, c.requires.space.dense.small);
      mapped = split-mapped c.requires.space e _ c.requires.may.page;
      frame = omega (
        arith,
        (free-first c.requires.space.free _ _ c.split-own.ensures.taken).0,
        split-count c.requires.space.free e,
      );
      marks = c.requires.may.marks;
    }

pub returns : goal.returns
returns c =
    let e = split (goal.at.returns c).After-copy in
    let is = c.requires.space in
    let may = c.requires.may in
    let maps = c.remap.ensures.maps in
    let r = c.remap.ensures.rewrites in
    let paged = split-paged is e in
    record {
      same = rearranged _ is may.page (remap-split is e may.page may.frame may.user r.holders maps r.tables
          (c.remap.ensures.tidy paged.1) r.paged r.keeps r.free) c.requires.right;
      sole = rw r.holders (split-sole is.free e);
      has = record {
        frame = frame_at-is _ _ _ maps.changed;
        marks = marks_at-is _ _ _ maps.changed;
        others = λ p low ne. marks_at-same _ _ _ p (maps.others p (omega (arith, low, is.dense.small)) ne
            ∙ paged.2 p);
      };
    }
