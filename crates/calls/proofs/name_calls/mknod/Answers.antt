use Rattle.calls.proofs.Common.{here-of, Mknod, mknod_row, refl}
use Rattle.calls.proofs.Names.{mknod-acts, pathless}
use Rattle.calls.proofs.name_calls.mknod.Goals as goal

pub returns-in_default : goal.returns-in_default
unfolding mknod_row
returns-in_default g c = pathless (here-of c.requires) _ Mknod refl c.in_default.ensures.path

pub returns : goal.returns
returns g c = mknod-acts (here-of c.requires) c.in-Some.ensures.path c.create-made.ensures.rest c.named.ensures.sound
    c.argument.ensures c.argument-2.ensures c.create-made.ensures.made _ c.named.ensures.comes
