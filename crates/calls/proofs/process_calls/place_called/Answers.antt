use Rattle.calls.proofs.Common.{ap, place_called, sym, ◌∙◌}
use Rattle.calls.proofs.Processes.{named-is}
use Rattle.calls.proofs.process_calls.place_called.Goals as goal

pub returns-else-pid-eq0 : goal.returns-else-pid-eq0
returns-else-pid-eq0 g c =
    let places = c.args.kernel.now.table.places in
    c.find.ensures.place
    ∙ sym (named-is places c.in_ok-pid.pid c.if-pid-eq0.false)
    ∙ ap (place_called places) (sym c.in_ok-pid.was ∙ c.natural.ensures)
