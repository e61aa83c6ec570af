use Rattle.programs.proofs.Common.{ap, arith, length, sym, ◌∙◌}
use Rattle.programs.proofs.Reading.{kept-file, kept-is-file, kept-none, lost}
use Rattle.programs.proofs.Headings.{ends-refused, head-kept, head-refused, header-fits, program-told}
use Rattle.programs.proofs.headers.read_headers.Goals as goal

pub returns-in_default : goal.returns-in_default
returns-in_default g c = head-refused c.args.number c.in_ok-header.ensures c.in_default.is

pub returns-in_default-2 : goal.returns-in_default-2
returns-in_default-2 g c =
    ends-refused c.args.number c.in_ok-header.ensures c.in-Some.is c.in_ok-end.ensures c.in_default-2.is

pub returns : goal.returns
returns g c = program-told c.args.number c.in_ok-header.ensures c.in-Some.is c.in_ok-end.ensures _ c.in-Some-2.is
    (omega arith) (omega (arith, c.div_ceil-pages.ensures))

pub returns-in_err-header : goal.returns-in_err-header
returns-in_err-header g c =
    lost c.from_residual.result _ c.from_residual.ensures.1 _ (kept-none _ c.requires.up) c.in_err-header.ensures

pub read_ends-requires : goal.read_ends-requires
read_ends-requires g c =
    let kept = head-kept c.args.number c.in_ok-header.ensures in
    record {
      up = kept.up;
      file = kept-is-file kept c.requires.file;
      long = c.requires.long ∙ ap length (sym (kept-file kept _));
      within = header-fits c.args.number c.in_ok-header.ensures c.in-Some.is c.requires.long;
    }

pub returns-in_err-end : goal.returns-in_err-end
returns-in_err-end g c =
    lost c.from_residual-in_err-end.result _ c.from_residual-in_err-end.ensures.1 _
    (head-kept c.args.number c.in_ok-header.ensures) c.in_err-end.ensures
