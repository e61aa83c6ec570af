use Rattle.explore_tests.proofs.tests.booted.Goals as goal

pub returns-in-Ok : goal.returns-in-Ok
returns-in-Ok c =
    c.tables_stay_tidy.ensures.starts c.in-Ok.ensures.booted.files _ 64 c.in-Ok.machine.state
    c.in-Ok.ensures.booted.starts
