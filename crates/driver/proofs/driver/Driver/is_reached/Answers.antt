use Rattle.driver.proofs.Reaching.{match-both, match-shown, match-test}
use Rattle.driver.specs.Driven.{shown_by}
use Rattle.driver.proofs.driver.Driver.is_reached.Goals as goal

pub returns-in-Shown : goal.returns-in-Shown
returns-in-Shown g c =
    rw c.in-Shown.is
    (match-shown (shown_by c.args.self.now.out) c.as_slice.result.now _ c.ends_with.result c.as_slice.ensures.value
    c.ends_with.ensures)

pub returns-in-Idle : goal.returns-in-Idle
returns-in-Idle g c = rw c.in-Idle.is (match-test _ _ c.is_idle.ensures)

pub returns-in-Prompt : goal.returns-in-Prompt
returns-in-Prompt g c =
    rw c.in-Prompt.is
    (match-both _ _ _ c.is_at_prompt.ensures.there c.is_at_prompt.ensures.elsewhere)

pub returns-in-Quiet : goal.returns-in-Quiet
returns-in-Quiet g c = rw c.in-Quiet.is (match-test _ _ c.is_quiet.ensures)

pub returns-in-Halt : goal.returns-in-Halt
returns-in-Halt g c = rw c.in-Halt.is c.requires.goes
