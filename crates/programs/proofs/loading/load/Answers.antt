use Rattle.programs.proofs.Plans.{header-still, is-program, last-still, stack-fits, stack-put, stat-kept, stat-long}
use Rattle.programs.proofs.Places.{has-held, is-held, left-held}
use Rattle.programs.proofs.Reading.{err-done, err-left, kept-is-file, kept-leaves, kept-more, kept-none, lost}
use Rattle.programs.proofs.Common.{no_pages, File}
use Rattle.programs.proofs.loading.load.Goals as goal

pub load_segments-requires : goal.load_segments-requires
load_segments-requires g c =
    let is = is-program _ _ c.requires.program in
    record {
      ready = record {
        up = c.in_ok-len.ensures.up;
        file = kept-is-file (stat-kept c.requires.file c.in_ok-len.ensures) c.requires.file;
        space = has-held _ _ _ c.clear.ensures c.requires.space;
      };
      long = stat-long c.requires.file c.in_ok-len.ensures;
      all = record {
        within = header-still c.requires.file c.in_ok-len.ensures is;
        empty = is-held _ _ c.clear.ensures c.requires.space;
        last = last-still c.requires.file c.in_ok-len.ensures is c.args.spaces.now c.args.at c.clear.ensures
            c.requires.few c.requires.room;
      };
    }

pub returns-in_err-load_segments : goal.returns-in_err-load_segments
returns-in_err-load_segments g c = record {
  serves = lost c.from_residual-in_err-load_segments.result _ c.from_residual-in_err-load_segments.ensures.1 _
      (stat-kept c.requires.file c.in_ok-len.ensures) c.in_err-load_segments.ensures.serves;
  loaded = err-done c.from_residual-in_err-load_segments.result _ c.from_residual-in_err-load_segments.ensures.1 _;
  failed = err-left c.from_residual-in_err-load_segments.result _ c.from_residual-in_err-load_segments.ensures.1 _
      (left-held _ _ _ c.clear.ensures c.in_err-load_segments.ensures.failed);
}

pub add_stack-requires : goal.add_stack-requires
add_stack-requires g c =
    let fits = stack-fits c.requires.file c.in_ok-len.ensures (is-program _ _ c.requires.program) c.args.spaces.now
    c.args.at c.clear.ensures c.requires.space c.in_ok-load_segments.ensures.loaded c.requires.room in
    record { space = fits.0; paged = fits.1; room = fits.2 }

pub returns : goal.returns
returns g c = record {
  serves = kept-leaves (kept-more (stat-kept c.requires.file c.in_ok-len.ensures)
      c.in_ok-load_segments.ensures.serves.told c.in_ok-load_segments.ensures.serves);
  loaded = stack-put c.requires.file c.in_ok-len.ensures (is-program _ _ c.requires.program) c.args.spaces.now
      c.args.at c.clear.ensures c.requires.space c.in_ok-load_segments.ensures.loaded
      _ c.add_stack.ensures;
  failed = tt;
}

pub stat-requires-clause-node : goal.stat-requires-clause-node
stat-requires-clause-node g c = (File c.requires.file.links c.requires.file.bytes, c.requires.file.here)

pub returns-in_err-len : goal.returns-in_err-len
returns-in_err-len g c = record {
  serves = lost c.from_residual.result _ c.from_residual.ensures.1 _ (kept-none _ c.requires.up) c.in_err-len.ensures;
  loaded = err-done c.from_residual.result _ c.from_residual.ensures.1 _;
  failed = err-left c.from_residual.result _ c.from_residual.ensures.1 _ (no_pages, c.clear.ensures);
}
