-- The walk follows the map.
use Rattle.std.proofs.Common.{ℕ, ◌≡◌, List, Option, Some, None}
use Rattle.std.specs.Prelude.{if◌then◌else◌}
use Rattle.unixmodel.specs.declared.trap.Access.{Access}
use Rattle.unixmodel.specs.Translation.{leaf_allows, walk_page, is_canonical as is_canonical_page}
use Rattle.pagetable.specs.Tree.{lookup_of}

-- the frame that a page which is mapped so has for an access: its own, where the marks allow the access
abbrev pub translation : Access → Option (ℕ × ℕ) → Option ℕ
translation access None = None
translation access (Some x) = if leaf_allows access x.1 then Some x.0 else None

-- the frame that the map gives to a page for an access
abbrev pub given_frame : List (List ℕ) → ℕ → ℕ → Access → Option ℕ
given_frame m root page access = if is_canonical_page page then translation access (lookup_of m root page) else None

-- the walk gives what the map gives
abbrev pub WalksByMap : List (List ℕ) → ℕ → Type 0
WalksByMap m root = (page : ℕ) (access : Access) → (walk_page m root page access).frame ≡ given_frame m root page access
