use Rattle.std.specs.Option.{option_copied}
use Rattle.calls.proofs.Common.{ap, CanWait, current-is, ended, Kernel, negsuc, quiet, runs-now, started, state-but}
use Rattle.calls.proofs.Common.{subst, sym, ℕ, ◌∙◌}
use Rattle.calls.proofs.Acts.{disk-after, on-after, same-served, started-tree}
use Rattle.calls.proofs.Takes.{ends-if, resumes-as, takes-killed, takes-ready, takes-waiting, waiting-can}
use Rattle.calls.proofs.events.take.Goals as goal

pub returns-then-process-clause-gives : goal.returns-then-process-clause-gives
returns-then-process-clause-gives g c =
    let s = c.is_sound.ensures in
    let there = sym c.process.ensures ∙ ap option_copied c.in-Some.is in
    ends-if c.finish.new.self (ended c.args.kernel.now c.args.at (negsuc 0)) _ c.finish.result c.finish.ensures.told
    (takes-killed c.args.kernel.now c.args.at c.in-Some.process.now s.sound c.requires.idle there c.requires.up s.zero
    s.aligned c.requires.alive c.if-process.true)

pub returns-in-Ready-clause-gives : goal.returns-in-Ready-clause-gives
returns-in-Ready-clause-gives g c =
    let there = sym c.process.ensures ∙ ap option_copied c.in-Some.is in
    takes-ready c.args.kernel.now c.args.at c.in-Some.process.now c.is_sound.ensures.sound c.requires.idle there
    c.requires.up c.if-process.false c.in-Ready.is
    ∙ ap quiet (sym (state-but (started c.args.kernel.now c.args.at) c.start.ensures))

pub returns-in-Waiting-clause-gives : goal.returns-in-Waiting-clause-gives
returns-in-Waiting-clause-gives g c =
    let there = sym c.process.ensures ∙ ap option_copied c.in-Some.is in
    let x = resumes-as c.args.at c.in-Waiting.pending c.is_sound.ensures.sound c.requires.idle c.requires.up
    (rw there (c.in-Waiting.is, c.if-process.false)) c.start-in-Waiting.ensures in
    on-after _ _ _ c.go_on.result
    (takes-waiting c.args.kernel.now c.args.at c.in-Some.process.now c.is_sound.ensures.sound c.requires.idle there
    c.requires.up c.if-process.false c.in-Waiting.is ∙ x.row) (rw (current-is x.runs.active) at c.go_on.ensures.gives)

pub returns-in-Waiting-clause-tree : goal.returns-in-Waiting-clause-tree
returns-in-Waiting-clause-tree g c =
    disk-after _ _ _ c.go_on.result
    (same-served (ap (λ (k : Kernel). k.tree) c.start-in-Waiting.ensures ∙ started-tree c.args.kernel.now c.args.at)
    c.requires.up) c.go_on.ensures.tree

pub start-requires-in-Waiting-clause-can : goal.start-requires-in-Waiting-clause-can
start-requires-in-Waiting-clause-can g c =
    let there = sym c.process.ensures ∙ ap option_copied c.in-Some.is in
    waiting-can c.args.at c.in-Waiting.pending c.is_sound.ensures.sound c.requires.idle c.requires.up
    (rw there (c.in-Waiting.is, c.if-process.false))

pub go_on-requires : goal.go_on-requires
go_on-requires g c =
    let there = sym c.process.ensures ∙ ap option_copied c.in-Some.is in
    let x = resumes-as c.args.at c.in-Waiting.pending c.is_sound.ensures.sound c.requires.idle c.requires.up
    (rw there (c.in-Waiting.is, c.if-process.false)) c.start-in-Waiting.ensures in
    record {
      runs = runs-now x.runs;
      can = subst (λ (i : ℕ). CanWait c.start-in-Waiting.new.self i c.in-Waiting.pending)
          (sym (current-is x.runs.active)) x.can;
    }

pub returns-in-Ready-clause-tree : goal.returns-in-Ready-clause-tree
returns-in-Ready-clause-tree g c =
    same-served (ap (λ (k : Kernel). k.tree) c.start.ensures ∙ started-tree c.args.kernel.now c.args.at) c.requires.up
