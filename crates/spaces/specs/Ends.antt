-- The ends of a pipe.
use Rattle.std.specs.Prelude.{true, ◌≡◌}
use Rattle.pipe.specs.Pipe.{Pipe}

-- who may read and write a pipe is the caller's affair: here both ends are open
pub record IsOpen (p : Pipe) : Type 0 where
  pub read : p.read_open ≡ true
  pub write : p.write_open ≡ true
