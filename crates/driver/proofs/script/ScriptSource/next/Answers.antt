use Rattle.std.proofs.Common.{[], arith, drop, Ok, subst, sym, ◌+◌}
use Rattle.driver.proofs.Scripting.{asks-command, asks-end, at-within, drop-at, drop-none}
use Rattle.driver.specs.Commands.{WantsScript}
use Rattle.driver.proofs.script.ScriptSource.next.Goals as goal

pub returns-in-None-clause-asks : goal.returns-in-None-clause-asks
returns-in-None-clause-asks g c s same =
    let x = c.args.self.now in
    asks-end
    (λ h.
    subst (λ l. WantsScript l s (Ok tt) []) (sym (drop-none x.commands.now x.at c.in-None.ensures)) h)

pub returns-in-Some-clause-asks : goal.returns-in-Some-clause-asks
returns-in-Some-clause-asks g c s same =
    let x = c.args.self.now in
    rw c.wanted_of.ensures
    (asks-command c.in-Some.command.now (drop (x.at + 1) x.commands.now)
    (λ last r events h.
    subst (λ l. WantsScript l s r events) (sym (drop-at x.commands.now x.at c.in-Some.command.now c.in-Some.ensures)) h)
    (λ w t last r events h. h))

pub returns-in-Some-clause-fewer : goal.returns-in-Some-clause-fewer
returns-in-Some-clause-fewer g c ends =
    let x = c.args.self.now in
    let within = at-within x.commands.now x.at c.in-Some.command.now c.in-Some.ensures in
    omega (arith, within)
