use Rattle.calls.proofs.Common.{ap, Dup, dup_row, here-of, low, refl, sym, ◌∙◌}
use Rattle.calls.proofs.Acts.{unnamed}
use Rattle.calls.proofs.Pipes.{dup-full, dups}
use Rattle.calls.proofs.descriptor_calls.dup.Goals as goal

pub returns-in_default : goal.returns-in_default
unfolding dup_row
returns-in_default g c =
    unnamed (here-of c.requires) _ Dup refl (c.low.ensures ∙ ap low c.argument.ensures) c.in_default.ensures.named

pub returns-in_default-free_descriptor : goal.returns-in_default-free_descriptor
returns-in_default-free_descriptor g c = dup-full (here-of c.requires) (sym c.in_default-free_descriptor.ensures.place)

pub returns : goal.returns
returns g c = dups (here-of c.requires) (c.low.ensures ∙ ap low c.argument.ensures) c.in-Some.ensures.named
    (sym c.in-Some-free_descriptor.ensures.place) c.dup.ensures c.is_sound.ensures.sound
