-- The rows of read and write come to the same with other numbers of open files and pipes.
use Rattle.std.proofs.Common.{[], ap, List, nat_le, Option, refl, suc}
use Rattle.std.proofs.Common.{zero, ℕ, ◌+◌, ◌∷◌, ◌≡◌}
use Rattle.std.specs.Prelude.{drop, is_some, length, not, take, ◌&&◌, ◌++◌}
use Rattle.std.specs.Prelude.{◌-◌, ◌==◌}
use Rattle.renumbering.proofs.Outcomes.{Agrees, agrees-either, agrees-given, agrees-named, agrees-open, agrees-provided}
use Rattle.renumbering.proofs.Outcomes.{agrees-same}
use Rattle.renumbering.proofs.Slots.{each-more, there-put}
use Rattle.renumbering.proofs.States.{Fits, View, fits-held, fits-open}
use Rattle.renumbering.proofs.States.{has-end-in, seen-files}
use Rattle.renumbering.proofs.States.{seen-put, seen-refl, state_in}
use Rattle.renumbering.specs.Renumbered.{AreOpen, EachTaken, IsThere, Renumbering, file_moved}
use Rattle.renumbering.specs.Renumbered.{process_moved, target_moved}
use Rattle.unixmodel.specs.Console.{Taken}
use Rattle.unixmodel.specs.FileCalls.{is_usable}
use Rattle.unixmodel.specs.FileCalls.{read_file, read_on, read_pipe, read_row, read_taken, read_target}
use Rattle.unixmodel.specs.FileCalls.{received, room_for, unless_empty}
use Rattle.unixmodel.specs.FileCalls.{write_file, write_on, write_pipe, write_row, write_target}
use Rattle.unixmodel.specs.Files.{Files, Node, longest, put, slot}
use Rattle.unixmodel.specs.Files.Node.{Device, Directory, File}
use Rattle.unixmodel.specs.Memory.{can_write, read_bytes}
use Rattle.unixmodel.specs.Numbers.{int_of, low, natural}
use Rattle.unixmodel.specs.OpenFiles.{OpenFile, Target, pipe_room}
use Rattle.unixmodel.specs.OpenFiles.End.{ReadEnd, WriteEnd}
use Rattle.unixmodel.specs.OpenFiles.Target.{OnNode, OnPipe}
use Rattle.unixmodel.specs.Outcome.{Outcome, pending_arg, pending_of}
use Rattle.unixmodel.specs.Process.{Process, arg}
use Rattle.unixmodel.specs.State.{State, has_end}
use Rattle.unixmodel.specs.declared.call.Call.TheVariants.{Read}
use Rattle.unixmodel.specs.declared.call.Call.TheVariants.{Write}
use Rattle.unixmodel.specs.declared.process.Pending.{Pending}

is-usable-in : (r : Renumbering) (files : Files) (t : Target) → is_usable files (target_moved r t) ≡ is_usable files t
is-usable-in r files (OnNode n offset) = refl
is-usable-in r files (OnPipe q end) = refl

module _ {v : View} {s : State} (fits : Fits v s) (i : ℕ) (p : Process) (named : AreOpen s.opens p) where
  abbrev t : State
  t = state_in v s

  abbrev q : Process
  q = process_moved v.files p

  -- ---- read and write

  read-pipe-agrees : (w : Pending) (r : ℕ) (bytes : List ℕ)
      → Agrees (read_pipe s i p w r bytes) (read_pipe t i q w (v.pipes.there r) bytes)
  unfolding state_in
  read-pipe-agrees w r [] = agrees-either _ _ _ _ _ _ (has-end-in fits r WriteEnd) (seen-refl fits, refl)
      (seen-refl fits, refl, refl)
  read-pipe-agrees w r (x ∷ bytes) = (
    seen-put (fits-held fits r (v.pipes.there r) _ refl) i _ _ s.files s.console refl named,
    refl,
    refl,
  )

  read-taken-agrees : (w : Pending) (taken : Taken) → Agrees (read_taken s i p w taken) (read_taken t i q w taken)
  unfolding state_in
  read-taken-agrees w taken =
      let seen = seen-put fits i (received p w taken.bytes) (received q w taken.bytes) s.files
      (record s.console { committed = taken.rest }) refl named in
      agrees-either taken.over _ _ _ _ _ refl (seen, refl, refl) (seen, refl)

  -- an open file is put where it was, on a node
  still-open : (k : ℕ) (f : OpenFile) (ds : List (Option ℕ)) → EachTaken (IsThere s.opens) ds
      → EachTaken (IsThere (put s.opens k f)) ds
  still-open k f ds each = each-more (λ m taken. there-put s.opens k m f taken) each

  read-file-agrees : (w : Pending) (k : ℕ) (f : OpenFile) (n offset : ℕ) (node : Node)
      → Agrees (read_file s i p w k f n offset node)
      (read_file t i q w (v.files.there k) (file_moved v.pipes f) n offset node)
  unfolding state_in
  read-file-agrees w k f n offset (Device links major minor) = read-taken-agrees w _
  read-file-agrees w k f n offset (File links bytes) = (
    seen-put (fits-open fits k (v.files.there k) _ _ refl refl tt) i _ _ s.files s.console refl
        (still-open k _ p.descriptors named),
    refl,
    refl,
  )
  read-file-agrees w k f n offset (Directory links places) = (
    seen-put (fits-open fits k (v.files.there k) _ _ refl refl tt) i _ _ s.files s.console refl
        (still-open k _ p.descriptors named),
    refl,
    refl,
  )

  read-target-agrees : (w : Pending) (k : ℕ) (f : OpenFile) (target : Target)
      → Agrees (read_target s i p w k f target)
      (read_target t i q w (v.files.there k) (file_moved v.pipes f) (target_moved v.pipes target))
  unfolding state_in
  read-target-agrees w k f (OnNode n offset) =
      agrees-same (slot s.files n) _ _ _ refl λ node there. read-file-agrees w k f n offset node
  read-target-agrees w k f (OnPipe r end) =
      agrees-given (λ bytes. bytes) (slot s.pipes r) _ _ _ (fits.held.holds r) λ bytes there.
      read-pipe-agrees w r bytes

  pub read-on-agrees : (w : Pending) → Agrees (read_on s i p w) (read_on t i q w)
  unfolding read_on state_in
  read-on-agrees w =
      agrees-named fits p (pending_arg w 0) _ _ λ k at.
      agrees-open fits k _ _ λ f there.
      read-target-agrees w k f f.target

  write-file-agrees : (k : ℕ) (f : OpenFile) (n offset : ℕ) (new : List ℕ) (node : Node)
      → Agrees (write_file s k f n offset new node)
      (write_file t (v.files.there k) (file_moved v.pipes f) n offset new node)
  unfolding state_in room_for
  write-file-agrees k f n offset new (Device links major minor) = (seen-refl fits, refl, refl)
  write-file-agrees k f n offset new (File links bytes) = agrees-provided
      (nat_le offset (length bytes) && nat_le (offset + length new) longest) _ _ _ refl (
        seen-files (fits-open fits k (v.files.there k) _ _ refl refl tt) _ s.console,
        refl,
        refl,
      )
  write-file-agrees k f n offset new (Directory links places) = tt

  write-pipe-agrees : (w : Pending) (r : ℕ) (held new : List ℕ)
      → Agrees (write_pipe s w r held new) (write_pipe t w (v.pipes.there r) held new)
  unfolding state_in
  write-pipe-agrees w r held new =
      let piece = take (pipe_room - length held) (drop w.done new) in
      let seen = seen-refl (fits-held fits r (v.pipes.there r) (held ++ piece) refl) in
      agrees-either (not (has_end s r ReadEnd)) _ _ _ _ _ (ap not (has-end-in fits r ReadEnd))
      (seen-refl fits, refl, refl)
      (agrees-either (w.done + length piece == length new) _ _ _ _ _ refl (seen, refl, refl) (seen, refl))

  write-target-agrees : (w : Pending) (k : ℕ) (f : OpenFile) (new : List ℕ) (target : Target)
      → Agrees (write_target s w k f new target)
      (write_target t w (v.files.there k) (file_moved v.pipes f) new (target_moved v.pipes target))
  unfolding state_in
  write-target-agrees w k f new (OnNode n offset) =
      agrees-same (slot s.files n) _ _ _ refl λ node there. write-file-agrees k f n offset new node
  write-target-agrees w k f new (OnPipe r end) =
      agrees-given (λ bytes. bytes) (slot s.pipes r) _ _ _ (fits.held.holds r) λ held there.
      write-pipe-agrees w r held new

  pub write-on-agrees : (w : Pending) → Agrees (write_on s i p w) (write_on t i q w)
  unfolding write_on state_in
  write-on-agrees w =
      agrees-named fits p (pending_arg w 0) _ _ λ k at.
      agrees-open fits k _ _ λ f there.
      agrees-same (read_bytes p.memory (pending_arg w 1) (low (pending_arg w 2))) _ _ _ refl λ new is.
      write-target-agrees w k f new f.target

  -- ---- as they begin

  agrees-unless-empty : (c : ℕ) (rest more : Outcome) → Agrees rest more
      → Agrees (unless_empty s c rest) (unless_empty t c more)
  agrees-unless-empty zero rest more agrees = (seen-refl fits, refl, refl)
  agrees-unless-empty (suc c) rest more agrees = agrees

  pub read-agrees : Agrees (read_row s i p) (read_row t i q)
  unfolding read_row state_in
  read-agrees =
      agrees-named fits p (arg p 0) _ _ λ k at.
      agrees-open fits k _ _ λ f there.
      agrees-provided (f.readable && is_usable s.files f.target) _ _ _
      (ap (λ b. f.readable && b) (is-usable-in v.pipes s.files f.target)) (
      agrees-same (natural (int_of (arg p 2))) _ _ _ refl λ c is.
      agrees-unless-empty c _ _ (
      agrees-provided (can_write p.memory (arg p 1) c) _ _ _ refl (
      read-on-agrees (pending_of Read s p))))

  pub write-agrees : Agrees (write_row s i p) (write_row t i q)
  unfolding write_row state_in
  write-agrees =
      agrees-named fits p (arg p 0) _ _ λ k at.
      agrees-open fits k _ _ λ f there.
      agrees-provided (f.writable && is_usable s.files f.target) _ _ _
      (ap (λ b. f.writable && b) (is-usable-in v.pipes s.files f.target)) (
      agrees-same (natural (int_of (arg p 2))) _ _ _ refl λ c is.
      agrees-unless-empty c _ _ (
      agrees-provided (is_some (read_bytes p.memory (arg p 1) c)) _ _ _ refl (
      write-on-agrees (pending_of Write s p))))
