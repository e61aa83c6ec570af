use Rattle.std.proofs.Common.{◌≡◌, ◌∙◌, ap, arith, ◌+◌, set, []}
use Rattle.ram.specs.Memory.{frame_of}
use Rattle.ram.proofs.MemoryLemmas.{set-parts_back, set-parts_front}
use Rattle.ram.proofs.copy_frame.Goals as goal

pub returns-then-from-to-clause-value : goal.returns-then-from-to-clause-value
returns-then-from-to-clause-value c =
    let m = c.args.frames.now in
    let parts = c.split_at_mut-low.ensures in
    let low = c.split_at_mut-low.result.0.now in
    let high = c.split_at_mut-low.result.1.now in
    set-parts_back m low high c.args.to c.copy.new.to parts.value parts.front_len
    ∙ ap (set m c.args.to) (c.copy.ensures ∙ parts.by_index.0 c.args.from [] c.if-from-to.true)

pub returns-else-from-to-clause-value : goal.returns-else-from-to-clause-value
returns-else-from-to-clause-value c =
    let m = c.args.frames.now in
    let parts = c.split_at_mut-low-else-from-to.ensures in
    let low = c.split_at_mut-low-else-from-to.result.0.now in
    let high = c.split_at_mut-low-else-from-to.result.1.now in
    let here : c.args.from + 0 ≡ c.args.from = omega arith in
    set-parts_front m low high c.args.to c.copy-else-from-to.new.to parts.value
    (omega (arith, parts.front_len, c.requires.apart))
    ∙ ap (set m c.args.to) (c.copy-else-from-to.ensures ∙ parts.by_index.1 0 [] ∙ ap (frame_of m) here)
