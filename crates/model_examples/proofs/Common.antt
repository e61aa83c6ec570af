-- The names that the lemmas of this crate import from other crates, passed on here. Declares nothing.
pub use Prim.Native.String.{String}
pub use Rattle.std.specs.List.{range_with_len}
pub use Rattle.unixmodel.specs.Calls.{After, quiet, settle, call}
pub use Rattle.unixmodel.specs.Counts.{free_frames, blocks_of, frames_of}
pub use Rattle.unixmodel.specs.Files.Node.{Directory, File}
pub use Rattle.unixmodel.specs.Memory.{Memory, overwrite, Page, read_bytes, zero_page, pages_of, write_bytes, zeros}
pub use Rattle.unixmodel.specs.Next.{memory_after, effect_of}
pub use Rattle.unixmodel.specs.Numbers.{le, low, number}
pub use Rattle.unixmodel.specs.Outcome.{limited, minus_one, Outcome}
pub use Rattle.unixmodel.specs.Process.{Process}
pub use Rattle.unixmodel.specs.Run.{run, turns}
pub use Rattle.unixmodel.specs.State.{change_process, process_at, put_process, State}
pub use Rattle.unixmodel.specs.declared.event.Event.{Event}
pub use Rattle.unixmodel.specs.declared.event.Event.TheVariants.{Key, Step, Tick}
pub use Rattle.unixmodel.specs.declared.process.Mode.TheVariants.{Running, Waiting, Zombie}
pub use Rattle.unixmodel.specs.declared.trap.Cause.{Cause}
pub use Rattle.unixmodel.specs.declared.trap.Trap.{Trap}
