-- What a machine becomes a copy of.
use Rattle.std.specs.Prelude.{List, false, length, ℕ, ◌≡◌}
use Rattle.machine.specs.View.{View}

-- it has as many frames and its device is like the other's, with as many numbers of nodes, and neither has failed
pub record IsAsLarge (source m : View) : Type 0 where
  pub up : m.failed ≡ false
  pub source_up : source.failed ≡ false
  pub frames : m.state.frame_limit ≡ source.state.frame_limit
  pub same_device : m.identity ≡ source.identity
  pub numbers : length m.state.files ≡ length source.state.files
