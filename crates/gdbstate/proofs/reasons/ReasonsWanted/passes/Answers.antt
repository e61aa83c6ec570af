use Rattle.std.proofs.Common.{false, rules, sym, ◌∙◌, ◌≡◌}
use Rattle.gdbstate.proofs.Passing.{passes-here}
use Rattle.gdbstate.proofs.reasons.ReasonsWanted.passes.Goals as goal

pub returns-then-not-has_changed : goal.returns-then-not-has_changed
returns-then-not-has_changed c = λ yes done shown.
    let same : c.has_changed.result ≡ false = search rules in
    passes-here c.args.self.now c.args.machine.now.state (sym c.has_changed.ensures ∙ same)
    (c.passes_who_runs.ensures yes) done shown
