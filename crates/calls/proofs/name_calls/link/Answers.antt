use Rattle.calls.proofs.Common.{here-of, Link, link_row, refl}
use Rattle.calls.proofs.Names.{link-acts, link-newless, pathless}
use Rattle.calls.proofs.name_calls.link.Goals as goal

pub returns-in_default : goal.returns-in_default
unfolding link_row
returns-in_default g c = pathless (here-of c.requires) _ Link refl c.in_default.ensures.path

pub returns-in_default-copy_path : goal.returns-in_default-copy_path
returns-in_default-copy_path g c =
    link-newless (here-of c.requires) c.in-Some.ensures.path c.in_default-copy_path.ensures.path

pub returns : goal.returns
returns g c = link-acts (here-of c.requires) c.in-Some.ensures.path c.link-made.ensures.rest c.named.ensures.sound
    c.in-Some-copy_path.ensures.path c.link-made.ensures.made _ c.named.ensures.comes
