use Rattle.std.proofs.Common.{◌≡◌, ◌∙◌, arith, ◌<◌, ◌+◌, [], refl}
use Rattle.ram.proofs.MemoryLemmas.{set-parts_back, set-parts_front}
use Rattle.ram.proofs.copy_between.Goals as goal

pub returns-then-from-to-clause-value : goal.returns-then-from-to-clause-value
returns-then-from-to-clause-value c =
    let m = c.args.frames.now in
    let parts = c.split_at_mut-low.ensures in
    let low = c.split_at_mut-low.result.0.now in
    let high = c.split_at_mut-low.result.1.now in
    let here : c.args.to + 0 ≡ c.args.to = omega arith in
    set-parts_back m low high c.args.to c.copy_bytes.new.to parts.value parts.front_len
    ∙ rw (c.copy_bytes.ensures.value, parts.by_index.1 0 [], here, parts.by_index.0 c.args.from [] c.if-from-to.true)
    refl

pub returns-else-from-to-clause-value : goal.returns-else-from-to-clause-value
returns-else-from-to-clause-value c =
    let m = c.args.frames.now in
    let parts = c.split_at_mut-low-else-from-to.ensures in
    let low = c.split_at_mut-low-else-from-to.result.0.now in
    let high = c.split_at_mut-low-else-from-to.result.1.now in
    let below : c.args.to < c.args.from = omega (arith, c.requires.apart) in
    let here : c.args.from + 0 ≡ c.args.from = omega arith in
    set-parts_front m low high c.args.to c.copy_bytes-else-from-to.new.to parts.value (omega (arith, parts.front_len))
    ∙ rw (c.copy_bytes-else-from-to.ensures.value, parts.by_index.0 c.args.to [] below, parts.by_index.1 0 [], here)
    refl
