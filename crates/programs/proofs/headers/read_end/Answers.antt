use Rattle.programs.proofs.Common.{Ok, ap, sym, ◌∙◌, end_by, file_at}
use Rattle.programs.proofs.Reading.{end-told, kept-none, lost}
use Rattle.programs.proofs.headers.read_end.Goals as goal

pub returns-in_err-read_segment : goal.returns-in_err-read_segment
returns-in_err-read_segment g c =
    lost c.from_residual.result _ c.from_residual.ensures.1 _ (kept-none _ c.requires.up) c.in_err-read_segment.ensures

pub returns-in-Err : goal.returns-in-Err
returns-in-Err g c = end-told (file_at c.args.tree.now.files c.args.number) c.args.at c.args.end
    c.in_ok-read_segment.ensures (sym (ap (end_by c.args.end) c.in-Err.is))

pub returns-in-Ok-None : goal.returns-in-Ok-None
returns-in-Ok-None g c =
    end-told (file_at c.args.tree.now.files c.args.number) c.args.at c.args.end c.in_ok-read_segment.ensures
    (sym (ap (end_by c.args.end) (c.in-Ok-None.is ∙ ap Ok c.in-Ok-None.field-0-is)))

pub returns-in-Ok-Some : goal.returns-in-Ok-Some
returns-in-Ok-Some g c =
    end-told (file_at c.args.tree.now.files c.args.number) c.args.at c.args.end c.in_ok-read_segment.ensures
    (sym (ap (end_by c.args.end) (c.in-Ok-Some.is ∙ ap Ok c.in-Ok-Some.field-0-is)))
