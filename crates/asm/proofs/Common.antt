-- The names that the lemmas of this crate import from other crates, passed on here. Declares nothing.
pub use Rattle.std.proofs.Common.{◌%◌, ◌*◌, ◌+◌, ◌++◌, ◌-◌, ◌/◌, ◌<◌, ◌==◌, [], ◌^◌, add-one, ap, append_assoc, arith}
pub use Rattle.std.proofs.Common.{Bool, bytes_eq, cond, drop, Err, false, find, get_or, if◌then◌else◌, inl, inr, is_ok}
pub use Rattle.std.proofs.Common.{length, length-append, List, map, neg_ℤ, negsuc, None, not, Ok, OnOk, Option}
pub use Rattle.std.proofs.Common.{option_map, pos, refl, replicate, Result, rules, slice_get, Some, suc, sym, take}
pub use Rattle.std.proofs.Common.{true, zero, ℕ, ℤ, ◌∙◌, ◌∷◌, ◌≡◌, ◌≤◌}
pub use Rattle.std.proofs.Math.Nat.{div-add-mod, mod-lt, mul_right_comm, pow-suc}
pub use Rattle.std.proofs.lemmas.Bool.{le-leb, lt-leb, lt-ltb, ne_eqb}
pub use Rattle.std.proofs.lemmas.List.{length-replicate, take_all}
pub use Rattle.std.specs.HashMap.{get_by, HashMap, UpdatesBy}
pub use Rattle.std.specs.List.{HoldsAt, position_from}
pub use Rattle.std.specs.Option.{option_and_then, option_or}
pub use Rattle.std.specs.Prelude.{IfSome, is_some, MatchOption, slice_range}
pub use Rattle.std.specs.declared.alloc.AllocError.{AllocError}
pub use Rattle.asmtext.specs.Numbers.{field_within, natural_within, number_of}
pub use Rattle.asmtext.specs.Statements.{line_seen}
pub use Rattle.unixmodel.specs.Assembly.{assembled, filled, if_room, is_step, room_at}
unfoldable pub use Rattle.unixmodel.specs.Assembly.{codes_from, definition, object, placed, placed_from}
unfoldable pub use Rattle.unixmodel.specs.ElfFile.{elf_file, elf_header, program_header}
pub use Rattle.unixmodel.specs.Memory.{Perm}
unfoldable pub use Rattle.unixmodel.specs.Memory.{pages_of, zeros}
pub use Rattle.unixmodel.specs.Numbers.{away, ceil_div, field, le, lies_in, number, number_at}
pub use Rattle.unixmodel.specs.declared.assembly.AsmKind.{AsmKind}
pub use Rattle.asm.specs.Emitted.{behind, Tells}
pub use Rattle.asm.specs.Labels.{Finds, named}
pub use Rattle.asm.specs.Placed.{placed_seen, step_of}
