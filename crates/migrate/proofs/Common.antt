-- The names that the lemmas of this crate import from other crates, passed on here. Declares nothing.
pub use Rattle.std.proofs.Common.{◌+◌, ◌++◌, ◌<◌, ◌==◌, [], ap, arith, cond, Err, inl, inr, length, List, None, Ok}
pub use Rattle.std.proofs.Common.{Option, refl, Result, Some, subst, sum_by, sym, ℕ, ◌∙◌, ◌≡◌, ◌≢◌, ◌≤◌}
pub use Rattle.std.proofs.lemmas.Bool.{cases_lt, false≢true}
pub use Rattle.std.proofs.lemmas.List.{append-nil, drop_all, ext_get_or, get_or-set_other, get_or-set_same, length-set}
pub use Rattle.std.proofs.lemmas.List.{set-set}
pub use Rattle.std.specs.Prelude.{false, is_some, IsOk, IsSome, OnOk, unwrap_or}
pub use Rattle.imagemake.proofs.Putting.{told_err}
pub use Rattle.imagerules.proofs.Bounds.{HasPlace-at, inodes-least, inodes-most}
pub use Rattle.imagerules.proofs.Denoting.{Denotes-files, HasKinds-denotes, HasSizes-denotes, node_fits}
pub use Rattle.imagerules.specs.Fields.{HasGeometry}
unfoldable pub use Rattle.imagerules.specs.Places.{files_in, node_in}
pub use Rattle.imagerules.specs.Rules.{BlockRules-of, HasBlocks-of}
unfoldable pub use Rattle.imagerules.specs.Rules.{BlockRules}
pub use Rattle.inode.specs.Store.{Changes, is_device, IsFull, IsLaidOut, IsWhole, LacksWriting, no_node, raw_at, Serves}
pub use Rattle.inode.specs.Store.{Store, with_bytes, Writes}
pub use Rattle.layout.proofs.GrowLemmas.{at_or, length-nodes_of}
pub use Rattle.layout.specs.declared.Geometry.{Geometry}
pub use Rattle.tree.proofs.Stored.{stored-after, taken-grows}
pub use Rattle.tree.proofs.Storing.{blocks_of-set, files-are, held-again, held-none, length-held, Stores-set, sum-taken}
pub use Rattle.tree.proofs.Storing.{taken_by, whole-node}
pub use Rattle.tree.specs.Stored.{FitsPlaces, IsRaw, IsStored, Stores}
unfoldable pub use Rattle.tree.specs.Stored.{files_of}
unfoldable pub use Rattle.unixmodel.specs.Counts.{blocks_of}
pub use Rattle.unixmodel.specs.Files.{blocks_for, Files, kind_of, links_of, longest, Node, node_bytes, put, size_of}
pub use Rattle.unixmodel.specs.Files.{slot}
unfoldable pub use Rattle.unixmodel.specs.Files.{free_slots}
pub use Rattle.unixmodel.specs.Files.Node.{Directory, File}
pub use Rattle.unixmodel.specs.Formats.{Format, large, most_bytes, small}
pub use Rattle.unixmodel.specs.Image.{Denotes, DenotesSmall, FitsSize, format_of, inodes_in, IsNode, KeepsNode}
pub use Rattle.unixmodel.specs.Image.{KeepsRules, KeepsRulesTo, kind_in, size_in, Stands}
pub use Rattle.migrate.specs.Copies.{CanStand, Copies, image_fault, IsBroken, Lacks, write_fault}
pub use Rattle.migrate.specs.declared.fault.MigrateFault.{MigrateFault}
pub use Rattle.migrate.specs.declared.fault.MigrateFault.TheVariants.{Image, NoMemory}
