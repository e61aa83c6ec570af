-- Each row of the table of calls comes to the same with other numbers of open files and pipes.
use Rattle.std.proofs.Common.{ap, List, nat_le, None, Option, refl, Some, subst, suc, sym}
use Rattle.std.proofs.Common.{zero, ℕ, ℤ, ◌+◌, ◌∙◌, ◌≡◌}
use Rattle.std.specs.Prelude.{is_some, length, pos, ◌%◌, ◌&&◌, ◌+ℤ◌}
use Rattle.std.specs.Prelude.{◌==◌, ◌^◌, ◌||◌}
use Rattle.renumbering.proofs.Opening.{open-agrees, pipe-agrees}
use Rattle.renumbering.proofs.Outcomes.{Agrees, agrees-either, agrees-given, agrees-named, agrees-open, agrees-provided}
use Rattle.renumbering.proofs.Outcomes.{agrees-same}
use Rattle.renumbering.proofs.Slots.{clear-map, each-clear, each-put, free-map, put-map}
use Rattle.renumbering.proofs.Transfers.{read-agrees, read-on-agrees, write-agrees, write-on-agrees}
use Rattle.renumbering.proofs.States.{Fits, View, at-in}
use Rattle.renumbering.proofs.States.{frames-in, seen-change, seen-files}
use Rattle.renumbering.proofs.States.{seen-places, seen-put, seen-refl, state_in, where-in}
use Rattle.renumbering.specs.Renumbered.{AreOpen, Renumbering}
use Rattle.renumbering.specs.Renumbered.{places_moved, process_moved, target_moved}
use Rattle.unixmodel.specs.Calls.{goes_on, row}
use Rattle.unixmodel.specs.Counts.{page_frames}
use Rattle.unixmodel.specs.FileCalls.{close_row, dup_row, fstat_row, node_number}
use Rattle.unixmodel.specs.FileCalls.{stat_bytes, with_descriptor}
use Rattle.unixmodel.specs.Files.{clear, find, free_slot, is_directory, put, slot, spot_of}
use Rattle.unixmodel.specs.Files.Node.{Device}
use Rattle.unixmodel.specs.Memory.{can_write, path_at, write_bytes}
use Rattle.unixmodel.specs.NameCalls.{chdir_row, link_row, linked, made_at, made_directory}
use Rattle.unixmodel.specs.NameCalls.{mkdir_row, mknod_row, path_arg, unlink_row}
use Rattle.unixmodel.specs.NameCalls.{unlinked}
use Rattle.unixmodel.specs.Numbers.{int_of, low, natural}
use Rattle.unixmodel.specs.OpenFiles.{OpenFile, Target}
use Rattle.unixmodel.specs.OpenFiles.Target.{OnNode, OnPipe}
use Rattle.unixmodel.specs.Outcome.{pending_arg, pending_of}
use Rattle.unixmodel.specs.Plan.{plan}
use Rattle.unixmodel.specs.Process.{Process, arg, has_pid, is_child_of, is_zombie, last_pid}
use Rattle.unixmodel.specs.ProcessCalls.{args_at, child_of, exec_row, file_bytes, fits_beside, fork_row, has_child}
use Rattle.unixmodel.specs.ProcessCalls.{has_slept, kill_row, marked, replaced, resized, sbrk_row, sharing, sleep_on}
use Rattle.unixmodel.specs.ProcessCalls.{status_of, wait_for, wait_on, wait_row, with_status, zombie_child}
use Rattle.unixmodel.specs.State.{State, place_of_pid, process_at}
use Rattle.unixmodel.specs.declared.call.Call.{Call}
use Rattle.unixmodel.specs.declared.call.Call.TheVariants.{Chdir, Close, Dup, Exec, Exit, Fork, Fstat, Getpid, Kill}
use Rattle.unixmodel.specs.declared.call.Call.TheVariants.{Link, Mkdir, Mknod, Open, Pipe, Read, Sbrk, Sleep, Unlink}
use Rattle.unixmodel.specs.declared.call.Call.TheVariants.{Uptime, Wait, Write}
use Rattle.unixmodel.specs.declared.process.Pending.{Pending}

-- ---- what does not look at numbers

node-in : (r : Renumbering) (t : Target) → node_number (target_moved r t) ≡ node_number t
node-in r (OnNode n offset) = refl
node-in r (OnPipe q end) = refl

with-status-in : (r : Renumbering) (p : Process) (a : ℕ) (status : ℤ)
    → with_status (process_moved r p) a status ≡ process_moved r (with_status p a status)
with-status-in r p zero status = refl
with-status-in r p (suc a) status = refl

with-status-open : (opens : List (Option OpenFile)) (p : Process) (a : ℕ) (status : ℤ) → AreOpen opens p
    → AreOpen opens (with_status p a status)
with-status-open opens p zero status named = named
with-status-open opens p (suc a) status named = named

module _ {v : View} {s : State} (fits : Fits v s) (i : ℕ) (p : Process) (named : AreOpen s.opens p) where
  abbrev t : State
  t = state_in v s

  abbrev q : Process
  q = process_moved v.files p

  dup-agrees : Agrees (dup_row s i p) (dup_row t i q)
  unfolding dup_row state_in
  dup-agrees =
      agrees-named fits p (arg p 0) _ _ λ k at.
      agrees-same (free_slot p.descriptors) _ _ _ (free-map v.files.there p.descriptors) λ fd free. (
        seen-put fits i (with_descriptor p fd k) _ s.files s.console
            (ap (λ (ds : List (Option ℕ)). record p { descriptors = ds })
            (put-map v.files.there p.descriptors fd k))
            (each-put fd k (named.at (low (arg p 0)) k at) named),
        refl,
        refl,
      )

  close-agrees : Agrees (close_row s i p) (close_row t i q)
  unfolding close_row state_in
  close-agrees =
      agrees-named fits p (arg p 0) _ _ λ k at. (
        seen-put fits i (record p { descriptors = clear p.descriptors (low (arg p 0)) }) _ s.files s.console
            (ap (λ (ds : List (Option ℕ)). record p { descriptors = ds })
            (clear-map v.files.there p.descriptors (low (arg p 0))))
            (each-clear (low (arg p 0)) named),
        refl,
        refl,
      )

  fstat-agrees : Agrees (fstat_row s i p) (fstat_row t i q)
  unfolding fstat_row state_in
  fstat-agrees =
      agrees-named fits p (arg p 0) _ _ λ k at.
      agrees-open fits k _ _ λ f open_file.
      agrees-same (node_number f.target) _ _ _ (node-in v.pipes f.target) λ n is.
      agrees-same (slot s.files n) _ _ _ refl λ node there.
      agrees-provided (can_write p.memory (arg p 1) 24) _ _ _ refl (
        seen-put fits i (record p { memory = write_bytes p.memory (arg p 1) (stat_bytes n node) }) _ s.files s.console
            refl named,
        refl,
        refl,
      )

  sbrk-agrees : Agrees (sbrk_row s i p) (sbrk_row t i q)
  unfolding sbrk_row state_in
  sbrk-agrees = agrees-same (natural (pos p.size +ℤ int_of (arg p 0))) _ _ _ refl λ size is. (
    seen-put fits i (resized p size) _ s.files s.console refl named,
    refl,
    refl,
  )

  exec-agrees : Agrees (exec_row s i p) (exec_row t i q)
  unfolding exec_row state_in
  exec-agrees =
      agrees-same (path_at p.memory (arg p 0)) _ _ _ refl λ path is.
      agrees-same (find s.files p.directory path) _ _ _ refl λ n found.
      agrees-same (file_bytes (slot s.files n)) _ _ _ refl λ file there.
      agrees-same (args_at p.memory (arg p 1)) _ _ _ refl λ args are.
      agrees-same (plan file args) _ _ _ refl λ new planned.
      agrees-provided (fits_beside s new) _ _ _
      (ap (λ n. nat_le (n + 3 + page_frames (length new.memory)) s.frame_limit) (frames-in fits)) (
        seen-put fits i (replaced p new) _ s.files s.console refl named,
        refl,
        refl,
      )

  -- ---- names

  chdir-agrees : Agrees (chdir_row s i p) (chdir_row t i q)
  unfolding chdir_row state_in
  chdir-agrees =
      agrees-same (path_arg p 0) _ _ _ refl λ path is.
      agrees-same (find s.files p.directory path) _ _ _ refl λ n found.
      agrees-same (slot s.files n) _ _ _ refl λ node there.
      agrees-provided (is_directory node) _ _ _ refl (
        seen-put fits i (record p { directory = n }) _ s.files s.console refl named,
        refl,
        refl,
      )

  mknod-agrees : Agrees (mknod_row s i p) (mknod_row t i q)
  unfolding mknod_row state_in
  mknod-agrees =
      agrees-same (path_arg p 0) _ _ _ refl λ path is.
      agrees-same (spot_of s.files p.directory path) _ _ _ refl λ spot found.
      agrees-same (made_at s.files spot (λ n. Device 1 (arg p 1 % 2 ^ 16) (arg p 2 % 2 ^ 16))) _ _ _ refl λ made is.
      (seen-files fits made.files s.console, refl, refl)

  mkdir-agrees : Agrees (mkdir_row s i p) (mkdir_row t i q)
  unfolding mkdir_row state_in
  mkdir-agrees =
      agrees-same (path_arg p 0) _ _ _ refl λ path is.
      agrees-same (spot_of s.files p.directory path) _ _ _ refl λ spot found.
      agrees-same (made_directory s.files spot) _ _ _ refl λ files made. (seen-files fits files s.console, refl, refl)

  unlink-agrees : Agrees (unlink_row s i p) (unlink_row t i q)
  unfolding unlink_row state_in
  unlink-agrees =
      agrees-same (path_arg p 0) _ _ _ refl λ path is.
      agrees-same (spot_of s.files p.directory path) _ _ _ refl λ spot found.
      agrees-same (unlinked s.files spot) _ _ _ refl λ files made. (seen-files fits files s.console, refl, refl)

  link-agrees : Agrees (link_row s i p) (link_row t i q)
  unfolding link_row state_in
  link-agrees =
      agrees-same (path_arg p 0) _ _ _ refl λ old is.
      agrees-same (path_arg p 1) _ _ _ refl λ new is.
      agrees-same (find s.files p.directory old) _ _ _ refl λ n found.
      agrees-same (spot_of s.files p.directory new) _ _ _ refl λ spot found.
      agrees-same (linked s.files spot n) _ _ _ refl λ files made. (seen-files fits files s.console, refl, refl)

  -- ---- fork, kill, wait

  fork-agrees : Agrees (fork_row s i p) (fork_row t i q)
  unfolding fork_row state_in
  fork-agrees =
      agrees-same (free_slot s.places) _ _ _ (free-map (process_moved v.files) s.places) λ j free.
      agrees-provided (nat_le s.next_pid last_pid) _ _ _ refl (
        seen-places fits (put (put s.places i (sharing p)) j (child_of (sharing p) s.next_pid)) _ s.files s.console
            s.ticks (s.next_pid + 1) s.last s.halted
            (ap (λ ps. put ps j (process_moved v.files (child_of (sharing p) s.next_pid)))
            (put-map (process_moved v.files) s.places i (sharing p))
            ∙ put-map (process_moved v.files) (put s.places i (sharing p)) j (child_of (sharing p) s.next_pid))
            (each-put j (child_of (sharing p) s.next_pid) named
            (each-put i (sharing p) named fits.there.descriptors)),
        refl,
        refl,
      )

  kill-agrees : Agrees (kill_row s i p) (kill_row t i q)
  unfolding kill_row state_in
  kill-agrees =
      agrees-same (natural (int_of (arg p 0))) _ _ _ refl λ pid is.
      agrees-provided (nat_le 1 pid) _ _ _ refl (
      agrees-same (place_of_pid s pid) _ _ _ (where-in v.files (has_pid pid) (λ p. refl) s.places) λ j found. (
        seen-change fits j marked (λ p. refl) (λ p named. named),
        refl,
        refl,
      ))

  child-in : (pid : ℕ) → zombie_child t pid ≡ zombie_child s pid
  unfolding state_in
  child-in pid = where-in v.files (λ u. is_child_of pid u && is_zombie u) (λ p. refl) s.places

  wait-for-agrees : (w : Pending) (o : Option ℕ) → Agrees (wait_for s i p w o) (wait_for t i q w o)
  unfolding state_in
  wait-for-agrees w None = (seen-refl fits, refl)
  wait-for-agrees w (Some j) =
      agrees-given (process_moved v.files) (process_at s j) _ _ _ (at-in fits j) λ child there.
      let a = pending_arg w 0 in
      let paid = with_status p a (status_of child.mode) in (
        seen-places fits (clear (put s.places i paid) j) _ s.files s.console s.ticks s.next_pid s.last s.halted
            (ap (λ u. clear (put (places_moved v.files s.places) i u) j)
            (with-status-in v.files p a (status_of child.mode))
            ∙ ap (λ ps. clear ps j) (put-map (process_moved v.files) s.places i paid)
            ∙ clear-map (process_moved v.files) (put s.places i paid) j)
            (each-clear j (each-put i paid (with-status-open s.opens p a (status_of child.mode) named)
            fits.there.descriptors)),
        refl,
        refl,
      )

  wait-on-agrees : (w : Pending) → Agrees (wait_on s i p w) (wait_on t i q w)
  unfolding wait_on
  wait-on-agrees w =
      subst (λ o. Agrees (wait_for s i p w (zombie_child s p.pid)) (wait_for t i q w o)) (sym (child-in p.pid))
      (wait-for-agrees w (zombie_child s p.pid))

  sleep-on-agrees : (w : Pending) → Agrees (sleep_on s i p w) (sleep_on t i q w)
  unfolding sleep_on state_in
  sleep-on-agrees w = agrees-either (has_slept s w) _ _ _ _ _ refl (seen-refl fits, refl, refl) (seen-refl fits, refl)

  wait-agrees : Agrees (wait_row s i p) (wait_row t i q)
  unfolding wait_row state_in
  wait-agrees =
      agrees-provided (has_child s p.pid) _ _ _
      (ap is_some (where-in v.files (is_child_of p.pid) (λ p. refl) s.places)) (
      agrees-provided (arg p 0 == 0 || can_write p.memory (arg p 0) 4) _ _ _ refl (
      wait-on-agrees (pending_of Wait s p)))

-- ---- all of them

pub row-agrees : {v : View} {s : State} (fits : Fits v s) (i : ℕ) (p : Process) → AreOpen s.opens p → (number : Call)
    → Agrees (row s i p number) (row (state_in v s) i (process_moved v.files p) number)
unfolding state_in
row-agrees fits i p named Fork = fork-agrees fits i p named
row-agrees fits i p named Exit = (seen-refl fits, refl)
row-agrees fits i p named Wait = wait-agrees fits i p named
row-agrees fits i p named Pipe = pipe-agrees fits i p named
row-agrees fits i p named Read = read-agrees fits i p named
row-agrees fits i p named Kill = kill-agrees fits i p named
row-agrees fits i p named Exec = exec-agrees fits i p named
row-agrees fits i p named Fstat = fstat-agrees fits i p named
row-agrees fits i p named Chdir = chdir-agrees fits i p named
row-agrees fits i p named Dup = dup-agrees fits i p named
row-agrees fits i p named Getpid = (seen-refl fits, refl, refl)
row-agrees fits i p named Sbrk = sbrk-agrees fits i p named
row-agrees {s = s} fits i p named Sleep = sleep-on-agrees fits i p named (pending_of Sleep s p)
row-agrees fits i p named Uptime = (seen-refl fits, refl, refl)
row-agrees fits i p named Open = open-agrees fits i p named
row-agrees fits i p named Write = write-agrees fits i p named
row-agrees fits i p named Close = close-agrees fits i p named
row-agrees fits i p named Mknod = mknod-agrees fits i p named
row-agrees fits i p named Unlink = unlink-agrees fits i p named
row-agrees fits i p named Link = link-agrees fits i p named
row-agrees fits i p named Mkdir = mkdir-agrees fits i p named

pub goes-on-agrees : {v : View} {s : State} (fits : Fits v s) (i : ℕ) (p : Process) → AreOpen s.opens p → (w : Pending)
    → (number : Call)
    → Agrees (goes_on s i p w number) (goes_on (state_in v s) i (process_moved v.files p) w number)
goes-on-agrees fits i p named w Wait = wait-on-agrees fits i p named w
goes-on-agrees fits i p named w Sleep = sleep-on-agrees fits i p named w
goes-on-agrees fits i p named w Read = read-on-agrees fits i p named w
goes-on-agrees fits i p named w Write = write-on-agrees fits i p named w
goes-on-agrees fits i p named w _ = tt
