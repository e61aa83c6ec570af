use Rattle.programs.proofs.Common.{ap, ◌*◌, ◌+◌}
use Rattle.programs.proofs.Loads.{file-long, has-now, loading-all, loading-more, next-now, none-loading, paged-now}
use Rattle.programs.proofs.Loads.{whole-now, within-now}
use Rattle.programs.proofs.Places.{left-held}
use Rattle.programs.proofs.Reading.{err-left, kept-is-file}
use Rattle.programs.proofs.loading.load_segments.Goals as goal

pub loop-i-init : goal.loop-i-init
loop-i-init g c = none-loading _ _ _ c.requires.ready.up c.requires.ready.space c.requires.all.empty

pub load_next-requires : goal.load_next-requires
load_next-requires g c = record {
  ready = record {
    up = c.loop-i.invariant.loads.kept.up;
    file = kept-is-file c.loop-i.invariant.loads.kept c.requires.ready.file;
    space = has-now c.loop-i.invariant c.requires.ready.space;
  };
  long = file-long c.loop-i.invariant c.requires.ready.space c.requires.long;
  next = record {
    within = within-now c.loop-i.invariant c.requires.ready.space c.loop-i-test.true c.requires.all.within
        c.requires.all.last (ap (λ i. c.args.header.program_headers + 56 * i) c.from.ensures);
    paged = paged-now c.loop-i.invariant c.requires.ready.space;
    whole = whole-now c.loop-i.invariant c.requires.ready.space;
    next = next-now c.loop-i.invariant c.requires.ready.space c.loop-i-test.true c.requires.all.within
        c.requires.all.last (ap (λ i. c.args.header.program_headers + 56 * i) c.from.ensures);
  };
}

pub returns-in_err-end-clause-failed : goal.returns-in_err-end-clause-failed
returns-in_err-end-clause-failed g c =
    err-left c.from_residual.result _ c.from_residual.ensures.1 _
    (left-held _ _ _ c.loop-i.invariant.pages c.in_err-end.ensures.failed)

pub loop-i-preserved : goal.loop-i-preserved
loop-i-preserved g c =
    loading-more c.loop-i.invariant c.requires.ready.space c.loop-i-test.true c.requires.all.within
    c.requires.all.last (ap (λ i. c.args.header.program_headers + 56 * i) c.from.ensures) c.in_ok-end.ensures.serves
    c.in_ok-end.ensures.loaded

pub returns-clause-loaded : goal.returns-clause-loaded
returns-clause-loaded g c = λ last is. loading-all c.loop-i.invariant c.requires.ready.space c.loop-i-test.false is
