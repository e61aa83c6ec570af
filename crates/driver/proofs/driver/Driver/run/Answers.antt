use Rattle.driver.proofs.Scripting.{runs-script}
use Rattle.driver.proofs.driver.Driver.run.Goals as goal

pub returns : goal.returns
returns g c =
    runs-script c.args.script.now c.args.self.now.clock c.requires.off
    (rw (c.new.ensures.commands, c.new.ensures.at) at c.drive.ensures)
