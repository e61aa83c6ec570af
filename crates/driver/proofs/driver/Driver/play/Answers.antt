use Rattle.std.proofs.Common.{ap, option_map, refl, ◌∙◌}
use Rattle.driver.proofs.Playing.{played-err, played-ok}
use Rattle.driver.proofs.Walking.{lost}
use Rattle.driver.specs.Driven.{no_steps}
use Rattle.driver.proofs.driver.Driver.play.Goals as goal

pub returns-in_err-drive : goal.returns-in_err-drive
returns-in_err-drive g c =
    let first = c.new-lines.ensures in
    rw (lost _ c.from_residual.ensures.1)
    (played-err no_steps c.drive.new.source.unreached (first.acts ∙ c.as_slice.ensures.value) first.left first.place
    (ap (option_map (λ a. a.now)) first.current) c.in_err-drive.ensures refl)

pub returns : goal.returns
returns g c =
    let first = c.new-lines.ensures in
    played-ok no_steps c.drive.new.source.unreached (first.acts ∙ c.as_slice.ensures.value) first.left first.place
    (ap (option_map (λ a. a.now)) first.current) c.in_ok-drive.ensures refl
