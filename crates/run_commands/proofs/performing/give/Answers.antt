use Rattle.std.proofs.Common.{refl}
use Rattle.run_commands.proofs.Showing.{play-given, script-given}
use Rattle.run_commands.proofs.performing.give.Goals as goal

pub returns-in-Script : goal.returns-in-Script
returns-in-Script g c =
    rw c.in-Script.is
    (script-given (λ q events follows. (refl, follows)) c.run.ensures c.reached.ensures.ended
    c.reached.ensures.reached)

pub returns-in-Play : goal.returns-in-Play
returns-in-Play g c = rw c.in-Play.is (play-given (λ vain q events plays. plays) c.play.ensures)
