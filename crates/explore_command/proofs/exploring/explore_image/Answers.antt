use Rattle.explore_command.proofs.Finding.{explored-from}
use Rattle.explore_command.proofs.exploring.explore_image.Goals as goal
use Rattle.host.specs.Fronts.{IsWhole}

pub returns : goal.returns
returns g c = explored-from c.args.image.bytes.items c.args.texts.now.keys.items c.args.words.now
    c.in_ok-first.first.state (IsWhole c.args.image) c.look_around.result
    c.in_ok-first.ensures.begun c.look_around.ensures
