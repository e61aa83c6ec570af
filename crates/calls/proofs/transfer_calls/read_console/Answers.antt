use Rattle.calls.proofs.Common.{ap, arith, current, Kernel, ◌∙◌}
use Rattle.calls.proofs.Receives.{reads-fit, reads-on, reads-over, reads-write, took-of}
use Rattle.calls.proofs.transfer_calls.read_console.Goals as goal

pub overflow_add-address : goal.overflow_add-address
overflow_add-address g c = let fits =
    reads-fit c.requires.1 c.pages_are_whole.ensures.sized c.pages_are_whole.ensures.few in omega (arith, fits)

pub write-requires : goal.write-requires
write-requires g c =
    let t = c.take_line-taken.ensures in
    rw (ap current t.rest) (record {
      running = ap (λ (y : Kernel). y.spaces.active) t.rest ∙ c.requires.1.runs.active;
      can = reads-write c.requires.1
          (took-of c.pages_are_whole.ensures.sized t.within c.take_line-taken.array_long
          (c.from.ensures ∙ c.low.ensures) t.took t.rest);
    })

pub returns-then-taken : goal.returns-then-taken
returns-then-taken g c = let t =
    c.take_line-taken.ensures
    in reads-over c.requires.1
    (took-of c.pages_are_whole.ensures.sized t.within c.take_line-taken.array_long (c.from.ensures ∙ c.low.ensures)
    t.took t.rest) (rw (ap current t.rest) at c.write.ensures) c.is_sound.ensures.sound c.if-taken.true

pub returns : goal.returns
returns g c = let t = c.take_line-taken.ensures
    in reads-on c.requires.1
    (took-of c.pages_are_whole.ensures.sized t.within c.take_line-taken.array_long (c.from.ensures ∙ c.low.ensures)
    t.took t.rest) (rw (ap current t.rest) at c.write.ensures) c.is_sound.ensures.sound c.if-taken.false
