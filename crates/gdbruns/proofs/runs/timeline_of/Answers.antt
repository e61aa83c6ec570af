use Rattle.std.proofs.Common.{◌≡◌, ◌∙◌, [], Some, ap, append-nil, subst, sym}
use Rattle.imagerules.proofs.Spelling.{image_of-blocks}
use Rattle.machine.specs.Booted.{IsAccepted, start_from}
use Rattle.timeline.specs.Line.{Line}
use Rattle.gdbruns.proofs.runs.timeline_of.Goals as goal

pub returns-in-Ok-new : goal.returns-in-Ok-new
returns-in-Ok-new c =
    let booted = c.in-Ok.ensures.booted in
    let whole = image_of-blocks c.args.disk.bytes c.bytes.ensures.whole in
    record {
      files = booted.files;
      accepted = subst (λ image. IsAccepted image booted.files) whole booted.accepted;
      starts = subst (λ image. start_from image booted.files c.args.limits.frames ≡ Some c.in-Ok.machine.state) whole
          booted.starts ∙ ap Some (sym (ap (λ (l : Line). l.start) c.in-Ok-new.ensures));
      begins = ([], ap (λ (l : Line). l.events) c.in-Ok-new.ensures ∙ sym (append-nil c.args.events));
    }
