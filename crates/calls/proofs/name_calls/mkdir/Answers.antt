use Rattle.calls.proofs.Common.{here-of, Mkdir, mkdir_row, refl}
use Rattle.calls.proofs.Names.{mkdir-acts, pathless}
use Rattle.calls.proofs.name_calls.mkdir.Goals as goal

pub returns-in_default : goal.returns-in_default
unfolding mkdir_row
returns-in_default g c = pathless (here-of c.requires) _ Mkdir refl c.in_default.ensures.path

pub returns : goal.returns
returns g c = mkdir-acts (here-of c.requires) c.in-Some.ensures.path c.create_directory-made.ensures.rest
    c.named.ensures.sound c.create_directory-made.ensures.made _ c.named.ensures.comes
