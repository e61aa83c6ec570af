use Rattle.std.proofs.Common.{ap, sym, ◌∙◌}
use Rattle.std.specs.Prelude.{not}
use Rattle.waits.proofs.Prompting.{first-prompts, no-other, no-shell, reads-first, shell-prompts}
use Rattle.waits.proofs.prompt.is_at_prompt.Goals as goal

pub returns-in-None-clause-there : goal.returns-in-None-clause-there
returns-in-None-clause-there g c reads =
    first-prompts (sym c.if-not-is_idle.ensures) c.in-None.ensures (sym c.reads_console.ensures ∙ reads)

pub returns-in-None-clause-elsewhere : goal.returns-in-None-clause-elsewhere
returns-in-None-clause-elsewhere g c elsewhere h =
    let reads = reads-first h c.in-None.ensures in let e = c.reads_console.ensures in absurd (cc)

pub returns-then-reads_console-clause-there : goal.returns-then-reads_console-clause-there
returns-then-reads_console-clause-there g c none =
    shell-prompts (sym c.if-not-is_idle.ensures) c.in-Some.ensures
    c.next_alive-then-reads_console.result c.next_alive-then-reads_console.ensures (c.is_none.ensures ∙ ap not none)
    (sym c.if-reads_console.ensures)

pub returns-then-reads_console-clause-elsewhere : goal.returns-then-reads_console-clause-elsewhere
returns-then-reads_console-clause-elsewhere g c some h =
    no-other h c.in-Some.ensures
    c.next_alive-then-reads_console.result c.next_alive-then-reads_console.ensures (c.is_none.ensures ∙ ap not some)

pub returns-else-reads_console-clause-elsewhere : goal.returns-else-reads_console-clause-elsewhere
returns-else-reads_console-clause-elsewhere g c elsewhere h =
    no-shell h c.in-Some.ensures (sym c.if-reads_console.ensures)
