use Rattle.std.proofs.Common.{Some, subst, ◌∙◌, ◌≡◌}
use Rattle.imagerules.proofs.Spelling.{image_of-blocks}
use Rattle.machine.specs.Booted.{IsAccepted, start_from}
use Rattle.explore_command.proofs.exploring.boot_machine.Goals as goal

pub returns-in-Ok-clause-begun : goal.returns-in-Ok-clause-begun
returns-in-Ok-clause-begun c whole =
    let booted = c.in-Ok.ensures.booted in
    let same = image_of-blocks c.in_ok-disk_of.field-0.bytes c.in_ok-disk_of.ensures.blocks
    ∙ c.in_ok-disk_of.ensures.whole whole in
    record {
      files = booted.files;
      accepted = subst (λ image. IsAccepted image booted.files) same booted.accepted;
      starts = subst (λ image. start_from image booted.files c.args.words.now.frames ≡ Some c.in-Ok.machine.state) same
          booted.starts;
      awake = c.nobody_sleeps_at_a_start.ensures.starts booted.files _ c.args.words.now.frames c.in-Ok.machine.state
          booted.starts;
    }

pub returns-in-Ok-clause-tidy : goal.returns-in-Ok-clause-tidy
returns-in-Ok-clause-tidy c =
    c.tables_stay_tidy.ensures.starts c.in-Ok.ensures.booted.files _ c.args.words.now.frames c.in-Ok.machine.state
    c.in-Ok.ensures.booted.starts
