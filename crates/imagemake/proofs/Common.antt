-- The names that the lemmas of this crate import from other crates, passed on here. Declares nothing.
pub use Rattle.std.proofs.Common.{◌%◌, ◌&&◌, ◌*◌, ◌+◌, ◌++◌, ◌-◌, ◌/◌, ◌<◌, ◌==◌, [], ◌^◌, add-one, All, ap, ap₂, arith}
pub use Rattle.std.proofs.Common.{Bool, Bor, bytes_eq, cond, count_by, Decides, drop, eqb, Err, false, filter, flat_map}
pub use Rattle.std.proofs.Common.{get_or, inl, inr, is_some, IsSome, IsTrue, length, List, map, nat_eq, nat_le, nat_lt}
pub use Rattle.std.proofs.Common.{None, not, Ok, OnOk, Option, option_and_then, option_map, position, refl, replicate}
pub use Rattle.std.proofs.Common.{Result, set, slice_get, Some, subst, suc, sum_by, sym, take, true, unwrap_or, zero}
pub use Rattle.std.proofs.Common.{◌||◌, ℕ, ◌∙◌, ◌∷◌, ◌≡◌, ◌≢◌, ◌≤◌, ◌⊎◌}
pub use Rattle.std.proofs.lemmas.Bool.{and_from, and_parts, cases_Bool, cases_eq, cases_lt, cond-false, cond-true}
pub use Rattle.std.proofs.lemmas.Bool.{eqb-true, false_from_ne_true, false≢true, le-leb, le-ltb, leb-false, leb-true}
pub use Rattle.std.proofs.lemmas.Bool.{lt-leb, lt-ltb, or_left, or_parts, or_right, true≢false, eq-eqb, ne_eqb}
pub use Rattle.std.proofs.lemmas.Bool.Decides.{Decides-eqb, Decides-like, Decides-ltb, Decides-or, nat_tests}
pub use Rattle.std.proofs.lemmas.Bool.Decides.{same_from_decides}
pub use Rattle.std.proofs.lemmas.List.{append-nil, drop_all, ext_get_or, get_or-append_right, get_or-replicate}
pub use Rattle.std.proofs.lemmas.List.{get_or-set_other, get_or-set_same, get_or-take, get_or_append_left, get_or_past}
pub use Rattle.std.proofs.lemmas.List.{length-append, length-replicate, length-set, length-take-le, length_push}
pub use Rattle.std.proofs.lemmas.List.{set-set, set_comm, take_all, take_rest}
pub use Rattle.std.proofs.lemmas.List.Elements.{All-head, All-nil, All-tail, All-take, filter_passes}
pub use Rattle.std.proofs.lemmas.List.Folds.{list_all-append, position_or_len_push}
pub use Rattle.std.proofs.lemmas.List.Quantifiers.{position-Some}
pub use Rattle.std.proofs.lemmas.List.Sums.{length-filter, prefix_len-le-length, sum_by-cons}
pub use Rattle.std.proofs.lemmas.Option.{none-some, same_Some, slice_get-map, some_pair_parts, slice_get_read}
pub use Rattle.std.proofs.lemmas.Result.{err_from_is_err_and, IfOk-at_ok}
pub use Rattle.std.proofs.lemmas.Slice.Eq.{bytes_eq-Decides, strip_prefix_is}
pub use Rattle.std.specs.List.{list_all, list_any, position_or_len, range_with_len}
pub use Rattle.std.specs.Prelude.{AllPairs, IfErr, IfOk, IsOk}
pub use Rattle.std.specs.Result.{IsErrAnd, is_err}
pub use Rattle.imagerules.proofs.Spelling.{image_of-blocks, length-image_of, part-image_of}
pub use Rattle.imagerules.proofs.Denoting.{below-slot, EntriesAt-from, IsPlain-name, LinksAt-from}
pub use Rattle.imagerules.proofs.Marking.{All-flat_map, blocks_of-free, blocks_of-used, named_before-all, All-numbers}
pub use Rattle.imagerules.proofs.Marking.{HasAddresses-from}
pub use Rattle.imagerules.proofs.Super.{kind-located, size-located}
pub use Rattle.imagerules.specs.Content.{image_of}
pub use Rattle.imagerules.specs.Marks.{IsOnce}
pub use Rattle.layout.proofs.GrowLemmas.{at_or, get_or-bytes_of, length-bytes_of}
pub use Rattle.layout.specs.Image.{asked_slot, IsInode, IsUsed, node_with, RawNode}
unfoldable pub use Rattle.layout.specs.Image.{bit_in, byte_of, bytes_of, node_at, slot_of}
pub use Rattle.layout.specs.Sound.{HasParts, IsNamed, IsSound}
pub use Rattle.layout.specs.Super.{bitmap_start_of, data_start_of, super_of}
pub use Rattle.layout.specs.declared.Geometry.{Geometry}
pub use Rattle.name_rules.proofs.Counts.{names_by-le}
pub use Rattle.name_rules.proofs.Finding.{change-is, position-None, IsGap}
pub use Rattle.name_rules.proofs.Quiet.{HasLinked}
pub use Rattle.name_rules.specs.Rules.{KeepsLive, KeepsTree, names_for}
unfoldable pub use Rattle.name_rules.specs.Rules.{folders, names_by}
pub use Rattle.tree.proofs.Following.{end-lost, IsNow, now-begin, now-files, now-limit, now-read, now-turned, now-up}
pub use Rattle.tree.proofs.Following.{some-now}
pub use Rattle.tree.proofs.Ending.{lost-served, now-changed, turned-last}
pub use Rattle.tree.proofs.Places.{blocks_of-entered, entered-is, room-end, enter-room, none-not}
pub use Rattle.tree.proofs.Storing.{blocks_of-set, files-are, held-again, slot-within, taken_by, whole-node}
pub use Rattle.tree.proofs.Stored.{number-lowest, taken-grows}
unfoldable pub use Rattle.tree.specs.Entering.{entered, room_in}
pub use Rattle.tree.specs.Tree.{FileTree, HasFiles, Looks, tree_with}
pub use Rattle.unixmodel.specs.Files.{blocks_for, change_node, dot, dot_dot, Files, is_directory, kind_of, links_of}
pub use Rattle.unixmodel.specs.Files.{longest, most_places, Node, onto_first, pieces, put, size_of, slot, split_last}
pub use Rattle.unixmodel.specs.Files.{Spot, taken, with_last, with_links, Entry, enter, free_number}
unfoldable pub use Rattle.unixmodel.specs.Files.{free_slots, lookup}
pub use Rattle.unixmodel.specs.Files.Node.{File, Directory, Device}
pub use Rattle.unixmodel.specs.Formats.{Format, format, large, most_bytes, small}
pub use Rattle.unixmodel.specs.Image.{data_start, entries_of, format_of, inodes_in, is_directory_at, is_name}
pub use Rattle.unixmodel.specs.Image.{IsDirectory, KeepsNode, KeepsRules, KeepsSize, kind_in, size_in, super_number}
unfoldable pub use Rattle.unixmodel.specs.Image.{all_entries, bit_of, is_named, names_of, parent_of, subdirectories}
pub use Rattle.unixmodel.specs.Manifest.{appended, bare_directory, data_blocks_of, has_numbers, if_room, is_short}
pub use Rattle.unixmodel.specs.Manifest.{linked, ManifestEntry, names_in, node_for, Wrong, Thing}
unfoldable pub use Rattle.unixmodel.specs.Manifest.{added, bare_files, files_made, with_entries, with_manifest_entry}
pub use Rattle.unixmodel.specs.Manifest.Thing.{Bytes, Folder, Special}
pub use Rattle.unixmodel.specs.Manifest.Wrong.{Inodes, Name, Numbers, Twice, Blocks}
pub use Rattle.unixmodel.specs.NameCalls.{more_links, new_directory}
unfoldable pub use Rattle.unixmodel.specs.Counts.{blocks_of}
pub use Rattle.tree.specs.Whole.{IsWhole}
pub use Rattle.imagemake.specs.Added.{CanAdd, HasDirectory, IsBlank, IsPossible, PackedAt, Puts, PutsName, Stores}
pub use Rattle.imagemake.specs.Begins.{AddsEntry, BlamesDevice, IsGoing, IsMade, IsSpot, made_by, make_fault}
pub use Rattle.imagemake.specs.Begins.{MakesEntries}
pub use Rattle.imagemake.specs.Begun.{IsBegun, IsListed}
pub use Rattle.imagemake.specs.Made.{LeadsTo, made_name, MadeName, name_of, Names, seek, stands_at}
unfoldable pub use Rattle.imagemake.specs.Made.{found, is_folder, reach}
pub use Rattle.imagemake.specs.Making.{entry_at, entry_of, makes_directory, MakesImage, meaning, Refuses, thing_of}
pub use Rattle.imagemake.specs.Nodes.{bare}
pub use Rattle.imagemake.specs.declared.manifest.MakeFault.{MakeFault}
pub use Rattle.imagemake.specs.declared.manifest.MakeFault.TheVariants.{NoMemory}
pub use Rattle.imagemake.specs.declared.store.StoreFault.{StoreFault}
