use Rattle.std.proofs.Common.{refl}
use Rattle.commandline.proofs.command_line.explore.Goals as goal

pub returns : goal.returns
returns c = (
  _,
  refl,
  record {
    frames = c.in-Some.ensures;
    reach = c.in-Some-reach.ensures;
    scripts = c.option_found-scripts.ensures;
    want = c.option_found-want.ensures;
    status = c.in-Ok.ensures;
    image = c.in-Some-word_found.ensures;
    script = c.option_found-script.ensures;
  },
)
