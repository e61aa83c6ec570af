use Rattle.calls.proofs.Common.{ap, Close, close_row, here-of, low, refl, serves-disk, ◌∙◌}
use Rattle.calls.proofs.Acts.{unnamed}
use Rattle.calls.proofs.Pipes.{closes}
use Rattle.calls.proofs.descriptor_calls.close.Goals as goal

pub returns-in_default : goal.returns-in_default
unfolding close_row
returns-in_default g c =
    unnamed (here-of c.requires) _ Close refl (c.low-descriptor.ensures ∙ ap low c.argument.ensures)
    c.in_default.ensures.named

pub returns : goal.returns
returns g c =
    closes (here-of c.requires) (c.low-descriptor.ensures ∙ ap low c.argument.ensures) c.in-Some.ensures.named
    c.is_sound.ensures.sound (c.in_ok-close.ensures.told, serves-disk c.in_ok-close.ensures)
