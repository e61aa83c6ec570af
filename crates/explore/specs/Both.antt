-- What a comparison of two machines leaves.
use Rattle.std.specs.Prelude.{List, None, Option, Some, drop, if◌then◌else◌, length, take, ℕ, ◌*◌, ◌==◌, ◌≡◌}
use Rattle.machine.specs.declared.inodes.Stat.{Stat}
use Rattle.machine.specs.View.{View}

-- neither state changed, and this is said
pub record BothStay (one one' other other' : View) (Says : Type 0) : Type 0 where
  pub stays : one'.state ≡ one.state
  pub other_stays : other'.state ≡ other.state
  pub says : Says

-- piece k, of 1024 bytes or less at the end
abbrev pub piece_of : List ℕ → ℕ → List ℕ
piece_of bytes k = take 1024 (drop (1024 * k) bytes)

-- piece k has `count` bytes, the same in both
pub record IsSamePiece (bytes others : List ℕ) (k count : ℕ) : Type 0 where
  pub same : piece_of bytes k ≡ piece_of others k
  pub long : count ≡ length (piece_of bytes k)

-- what is reported of a node, if it has a name
abbrev pub named_of : Option Stat → Option Stat
named_of None = None
named_of (Some stat) = if stat.links == 0 then None else Some stat
