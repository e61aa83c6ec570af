use Rattle.std.proofs.Common.{sym, ◌∙◌}
use Rattle.digests.proofs.Steps.{no-place, place-done, space-there}
use Rattle.digests.proofs.processes.mix_place.Goals as goal

pub returns-in-None : goal.returns-in-None
returns-in-None g c = c.mix.ensures
    ∙ no-place c.args.clock c.args.kernel.now c.args.at c.args.digest (sym c.in-None.is ∙ c.whole.ensures.process)

pub size-requires : goal.size-requires
size-requires g c = rw c.spaces-spaces.ensures
    (space-there c.args.kernel.now c.is_sound.ensures.sound c.args.at c.in-Some.process
    (sym c.in-Some.is ∙ c.whole.ensures.process))

pub returns-in-Some : goal.returns-in-Some
returns-in-Some g c =
    place-done c.args.clock c.args.kernel.now c.args.at c.args.digest c.size.result c.mix_process.result
    c.mix_memory.result c.in-Some.process
    (sym c.in-Some.is ∙ c.whole.ensures.process) (rw c.spaces-spaces.ensures at c.size.ensures)
    (rw c.bare_by-process.ensures at c.mix_process.ensures)
    (rw c.spaces-spaces.ensures at c.mix_memory.ensures)
