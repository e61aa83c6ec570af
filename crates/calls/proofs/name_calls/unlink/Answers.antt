use Rattle.calls.proofs.Common.{here-of, refl, Unlink, unlink_row}
use Rattle.calls.proofs.Names.{pathless}
use Rattle.calls.proofs.Unlinks.{unlink-acts}
use Rattle.calls.proofs.name_calls.unlink.Goals as goal

pub returns-in_default : goal.returns-in_default
unfolding unlink_row
returns-in_default g c = pathless (here-of c.requires) _ Unlink refl c.in_default.ensures.path

pub returns : goal.returns
returns g c = unlink-acts (here-of c.requires) c.in-Some.ensures.path c.unlink-made.ensures.rest c.named.ensures.sound
    c.unlink-made.ensures.made _ c.named.ensures.comes
