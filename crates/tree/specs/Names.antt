-- What calls on names find in a directory, and the steps that remove a name.
use Rattle.std.specs.Prelude.{Bool, List, Option, drop, if◌then◌else◌, length, option_and_then, option_map, position, ℕ}
use Rattle.std.specs.Prelude.{◌==◌, Some, None}
use Rattle.tree.specs.declared.place.Found.{Found}
use Rattle.unixmodel.specs.Files.{Entry, Files, Node, change_node, has_name, is_directory, slot, taken}
use Rattle.unixmodel.specs.NameCalls.{fewer_links, may_remove}

-- the slot of a name, and the number there
abbrev pub found_at : ℕ → Option Entry → Option Found
found_at k o = option_map (λ (e : Entry). let f : Found = record { place = k; number = e.number } in f) o

unfoldable pub found_in : List (Option Entry) → List ℕ → Option Found
found_in places name = option_and_then (λ k. found_at k (slot places k)) (position (has_name name) places)

-- no slots are in use except the first two
abbrev pub is_bare : List (Option Entry) → Bool
is_bare places = length (taken (drop 2 places)) == 0

-- node n has one link fewer, and so has directory d where n is one, whose ".." is gone
abbrev pub dropped : Files → ℕ → ℕ → Bool → Files
dropped files n d goes = let less =
    change_node files n fewer_links in if goes then change_node less d fewer_links else less

-- whether it is a directory, for a node that may go
abbrev pub removal : Node → Option Bool
removal node = if may_remove node then Some (is_directory node) else None
