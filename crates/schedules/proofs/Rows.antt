-- Each row of the table of calls comes to the same in a view of the state.
use Rattle.std.proofs.Common.{[], ap, Bool, false, length, List, nat_le, None, Option, refl, Some, subst, suc}
use Rattle.std.proofs.Common.{sym, true, zero, ℕ, ℤ, ◌+◌, ◌∙◌, ◌∷◌, ◌≡◌}
use Rattle.std.proofs.lemmas.List.Quantifiers.{position-Some}
use Rattle.std.specs.Prelude.{if◌then◌else◌, is_none, is_some, option_map, ◌&&◌, ◌==◌, ◌||◌}
use Rattle.schedules.proofs.Views.{IsFair, IsFresh, IsPlain, IsTimely, View, change-at, frames-in, free-in, is_over}
use Rattle.schedules.proofs.Views.{mode_in, pending_in, timely}
use Rattle.schedules.proofs.Views.{places_in, plain_in, process_in, put-plain, set-at, slot-at, state_in, status-in}
use Rattle.schedules.proofs.Views.{where-in, within-in, zombie-in}
use Rattle.schedules.specs.Alike.{is_uptime}
use Rattle.unixmodel.specs.Calls.{goes_on, row}
use Rattle.unixmodel.specs.Console.{Console, Taken}
use Rattle.unixmodel.specs.Counts.{is_within, page_frames}
use Rattle.unixmodel.specs.FileCalls.{close_row, descriptor, dup_row, fstat_row, is_usable, pipe_row}
use Rattle.unixmodel.specs.FileCalls.{read_file, read_on, read_pipe, read_row, read_taken, read_target, room_for}
use Rattle.unixmodel.specs.FileCalls.{unless_empty, write_file, write_on, write_pipe, write_row, write_target}
use Rattle.unixmodel.specs.Files.{Files, Node, clear, find, free_slot, put, slot}
use Rattle.unixmodel.specs.Files.Node.{Device, Directory, File}
use Rattle.unixmodel.specs.NameCalls.{chdir_row, link_row, mkdir_row, mknod_row, open_row, unlink_row}
use Rattle.unixmodel.specs.OpenFiles.{OpenFile, Target}
use Rattle.unixmodel.specs.OpenFiles.Target.{OnNode, OnPipe}
use Rattle.unixmodel.specs.Outcome.{Outcome, given, limited, pending_arg, pending_of, provided}
use Rattle.unixmodel.specs.Outcome.Outcome.{Done, Ends, Refused, Waits}
use Rattle.unixmodel.specs.Memory.{can_write, path_at, read_bytes}
use Rattle.unixmodel.specs.Plan.{Plan, plan}
use Rattle.unixmodel.specs.Numbers.{int_of, low, natural}
use Rattle.unixmodel.specs.Process.{Process, arg, has_pid, is_child_of, is_zombie, last_pid}
use Rattle.unixmodel.specs.ProcessCalls.{args_at, child_of, exec_row, file_bytes, fits_beside, fork_row, has_child}
use Rattle.unixmodel.specs.ProcessCalls.{has_slept, kill_row, marked, replaced, sbrk_row, sleep_on, sharing}
use Rattle.unixmodel.specs.ProcessCalls.{status_of, wait_for, wait_on, wait_row, with_status, zombie_child}
use Rattle.unixmodel.specs.State.{State, place_of_pid, process_at}
use Rattle.unixmodel.specs.declared.call.Call.{Call}
use Rattle.unixmodel.specs.declared.call.Call.TheVariants.{Chdir, Close, Dup, Exec, Exit, Fork, Fstat, Getpid, Kill}
use Rattle.unixmodel.specs.declared.call.Call.TheVariants.{Link, Mkdir, Mknod, Open, Pipe, Read, Sbrk, Sleep, Unlink}
use Rattle.unixmodel.specs.declared.call.Call.TheVariants.{Uptime, Wait, Write}
use Rattle.unixmodel.specs.declared.process.Pending.{Pending}

-- ---- outcomes

-- a state, and the view of it
pub record Seen (v : View) (s t : State) : Type 0 where
  pub time : s.ticks ≡ v.now
  pub is : t ≡ state_in v s

-- what a call comes to, and the view of it
abbrev pub Agrees : View → Outcome → Outcome → Type 0
Agrees v Refused Refused = Unit {0}
Agrees v (Done s answer bytes) (Done t other more) = Seen v s t × (other ≡ answer) × (more ≡ bytes)
Agrees v (Waits s w) (Waits t x) = Seen v s t × (x ≡ pending_in v w)
Agrees v (Ends s status) (Ends t other) = Seen v s t × (other ≡ status)
Agrees v _ _ = ⊥

pub agrees-given : {X : Type 0} (v : View) (o u : Option X) (rest more : X → Outcome) → u ≡ o
    → ((x : X) → Agrees v (rest x) (more x)) → Agrees v (given o rest) (given u more)
agrees-given v None u rest more is agrees = subst (λ x. Agrees v Refused (given x more)) (sym is) tt
agrees-given v (Some x) u rest more is agrees =
    subst (λ y. Agrees v (rest x) (given y more)) (sym is) (agrees x)

pub agrees-found : {X : Type 0} (v : View) (o u : Option X) (rest more : X → Outcome) → u ≡ o
    → ((x : X) → o ≡ Some x → Agrees v (rest x) (more x)) → Agrees v (given o rest) (given u more)
agrees-found v None u rest more is agrees = subst (λ x. Agrees v Refused (given x more)) (sym is) tt
agrees-found v (Some x) u rest more is agrees =
    subst (λ y. Agrees v (rest x) (given y more)) (sym is) (agrees x refl)

pub agrees-provided : (v : View) (test other : Bool) (rest more : Outcome) → other ≡ test → Agrees v rest more
    → Agrees v (provided test rest) (provided other more)
agrees-provided v true other rest more is agrees =
    subst (λ b. Agrees v rest (provided b more)) (sym is) agrees
agrees-provided v false other rest more is agrees =
    subst (λ b. Agrees v Refused (provided b more)) (sym is) tt

pub agrees-either : (v : View) (test other : Bool) (one two first second : Outcome) → other ≡ test → Agrees v one first
    → Agrees v two second
    → Agrees v (if test then one else two) (if other then first else second)
agrees-either v true other one two first second is left right =
    subst (λ b. Agrees v one (if b then first else second)) (sym is) left
agrees-either v false other one two first second is left right =
    subst (λ b. Agrees v two (if b then first else second)) (sym is) right

pub agrees-limited : (v : View) (o u : Outcome) → IsFair v → Agrees v o u → Agrees v (limited o) (limited u)
agrees-limited v Refused Refused fair agrees = tt
agrees-limited v (Done s answer bytes) (Done t other more) fair agrees =
    agrees-provided v (is_within s) (is_within t) (Done s answer bytes) (Done t other more)
    (ap is_within agrees.0.is ∙ within-in v fair s) agrees
agrees-limited v (Waits s w) (Waits t x) fair agrees = agrees
agrees-limited v (Ends s status) (Ends t other) fair agrees = agrees
agrees-limited v Refused (Done t other more) fair agrees = absurd agrees
agrees-limited v Refused (Waits t x) fair agrees = absurd agrees
agrees-limited v Refused (Ends t other) fair agrees = absurd agrees
agrees-limited v (Done s answer bytes) Refused fair agrees = absurd agrees
agrees-limited v (Done s answer bytes) (Waits t x) fair agrees = absurd agrees
agrees-limited v (Done s answer bytes) (Ends t other) fair agrees = absurd agrees
agrees-limited v (Waits s w) Refused fair agrees = absurd agrees
agrees-limited v (Waits s w) (Done t other more) fair agrees = absurd agrees
agrees-limited v (Waits s w) (Ends t other) fair agrees = absurd agrees
agrees-limited v (Ends s status) Refused fair agrees = absurd agrees
agrees-limited v (Ends s status) (Done t other more) fair agrees = absurd agrees
agrees-limited v (Ends s status) (Waits t x) fair agrees = absurd agrees

-- ---- states

pub seen-refl : (v : View) (s : State) → s.ticks ≡ v.now → Seen v s (state_in v s)
seen-refl v s time = record { time = time; is = refl }

-- whatever else is new, and with slots that are seen
pub seen-places : (v : View) (s : State) (ps qs : List (Option Process)) (files : Files)
    (opens : List (Option OpenFile)) (pipes : List (Option (List ℕ))) (console : Console)
    (next_pid last : ℕ) (halted : Option ℤ)
    → s.ticks ≡ v.now → qs ≡ places_in v ps
    → Seen v
    (record s {
      places = ps;
      files = files;
      opens = opens;
      pipes = pipes;
      console = console;
      next_pid = next_pid;
      last = last;
      halted = halted;
    })
    (record (state_in v s) {
      places = qs;
      files = files;
      opens = opens;
      pipes = pipes;
      console = console;
      next_pid = next_pid;
      last = last;
      halted = halted;
    })
unfolding state_in
seen-places v s ps qs files opens pipes console next_pid last halted time is = record {
  time = time;
  is = ap (λ (places : List (Option Process)). record s {
    places = places;
    files = files;
    opens = opens;
    pipes = pipes;
    console = console;
    ticks = v.clock;
    next_pid = next_pid;
    last = last;
    halted = halted;
  }) is;
}

-- with one process written
pub seen-put : (v : View) (s : State) (i : ℕ) (p : Process) (files : Files) (opens : List (Option OpenFile))
    (pipes : List (Option (List ℕ))) (console : Console) (next_pid last : ℕ) (halted : Option ℤ)
    → s.ticks ≡ v.now → IsPlain v i
    → Seen v
    (record s {
      places = put s.places i p;
      files = files;
      opens = opens;
      pipes = pipes;
      console = console;
      next_pid = next_pid;
      last = last;
      halted = halted;
    })
    (record (state_in v s) {
      places = put (places_in v s.places) i (plain_in v p);
      files = files;
      opens = opens;
      pipes = pipes;
      console = console;
      next_pid = next_pid;
      last = last;
      halted = halted;
    })
seen-put v s i p files opens pipes console next_pid last halted time plain =
    seen-places v s (put s.places i p) (put (places_in v s.places) i (plain_in v p)) files opens pipes
    console next_pid last halted time (put-plain v s.places i p plain)

-- a call with this number, w, that goes on, and the view of it
abbrev pub GoesOnAgrees : (State → ℕ → Process → Pending → Outcome) → Call → Type 0
GoesOnAgrees on number = (v : View) (s : State) (i : ℕ) (p : Process) (w : Pending) → IsFair v
    → s.ticks ≡ v.now → IsPlain v i → w.number ≡ number
    → Agrees v (on s i p w) (on (state_in v s) i (plain_in v p) (pending_in v w))

-- ---- the rows

-- the row of a call, and the view of it
abbrev pub RowAgrees : (State → ℕ → Process → Outcome) → Type 0
RowAgrees row = (v : View) (s : State) (i : ℕ) (p : Process) → IsFair v
    → s.ticks ≡ v.now → IsPlain v i → IsFresh v s.places
    → Agrees v (row s i p) (row (state_in v s) i (plain_in v p))

-- what rows are made of: a search by these finds most
pub ruleset agreeing = (agrees-given, agrees-provided, agrees-either, seen-put, seen-refl)

dup-agrees : RowAgrees dup_row
unfolding dup_row state_in
dup-agrees v s i p fair time plain fresh = search agreeing depth 6

close-agrees : RowAgrees close_row
unfolding close_row state_in
close-agrees v s i p fair time plain fresh = search agreeing depth 5

pipe-agrees : RowAgrees pipe_row
unfolding pipe_row state_in
pipe-agrees v s i p fair time plain fresh = search agreeing depth 12

fstat-agrees : RowAgrees fstat_row
unfolding fstat_row state_in
fstat-agrees v s i p fair time plain fresh = search agreeing depth 9

sbrk-agrees : RowAgrees sbrk_row
unfolding sbrk_row state_in
sbrk-agrees v s i p fair time plain fresh = search agreeing depth 6

open-agrees : RowAgrees open_row
unfolding open_row state_in
open-agrees v s i p fair time plain fresh = search agreeing depth 12

mknod-agrees : RowAgrees mknod_row
unfolding mknod_row state_in
mknod-agrees v s i p fair time plain fresh = search agreeing depth 7

mkdir-agrees : RowAgrees mkdir_row
unfolding mkdir_row state_in
mkdir-agrees v s i p fair time plain fresh = search agreeing depth 7

link-agrees : RowAgrees link_row
unfolding link_row state_in
link-agrees v s i p fair time plain fresh = search agreeing depth 9

unlink-agrees : RowAgrees unlink_row
unfolding unlink_row state_in
unlink-agrees v s i p fair time plain fresh = search agreeing depth 7

chdir-agrees : RowAgrees chdir_row
unfolding chdir_row state_in
chdir-agrees v s i p fair time plain fresh = search agreeing depth 8

-- ---- fork, kill, exec

free-is : (o : Option Process) → is_none o ≡ true → o ≡ None
free-is None free = refl
free-is (Some p) free = absurd cc

found-free : (ps : List (Option Process)) (j : ℕ) → free_slot ps ≡ Some j → slot ps j ≡ None
found-free ps j found = free-is (slot ps j) (position-Some is_none ps j None found).1

fork-agrees : RowAgrees fork_row
unfolding fork_row state_in
fork-agrees v s i p fair time plain fresh =
    agrees-found v (free_slot s.places) _ _ _ (free-in v s.places) λ j free.
    agrees-provided v (nat_le s.next_pid last_pid) _ _ _ refl (
      seen-places v s _ _ s.files s.opens s.pipes s.console (s.next_pid + 1) s.last s.halted time
          (ap (λ ps. put ps j (plain_in v (child_of (sharing p) s.next_pid)))
          (put-plain v s.places i (sharing p) plain)
          ∙ put-plain v (put s.places i (sharing p)) j (child_of (sharing p) s.next_pid)
          (fresh.free j (found-free s.places j free))),
      refl,
      refl,
    )

-- the place of a pid
pub pid-in : (v : View) (s : State) (pid : ℕ) → place_of_pid (state_in v s) pid ≡ place_of_pid s pid
unfolding state_in
pid-in v s pid = where-in v (has_pid pid) (λ n p. refl) s.places

kill-agrees : RowAgrees kill_row
unfolding kill_row state_in
kill-agrees v s i p fair time plain fresh =
    agrees-given v (natural (int_of (arg p 0))) _ _ _ refl λ pid.
    agrees-provided v (nat_le 1 pid) _ _ _ refl (
    agrees-given v (place_of_pid s pid) _ _ _ (pid-in v s pid) λ j. (
      seen-places v s _ _ s.files s.opens s.pipes s.console s.next_pid s.last s.halted time
          (change-at (process_in v) marked marked j (λ q. refl) s.places),
      refl,
      refl,
    ))

fits-in : (v : View) → IsFair v → (s : State) (new : Plan) → fits_beside (state_in v s) new ≡ fits_beside s new
unfolding state_in
fits-in v fair s new = ap (λ n. nat_le (n + 3 + page_frames (length new.memory)) s.frame_limit) (frames-in v fair s)

exec-agrees : RowAgrees exec_row
unfolding exec_row state_in
exec-agrees v s i p fair time plain fresh =
    agrees-given v (path_at p.memory (arg p 0)) _ _ _ refl λ path.
    agrees-given v (find s.files p.directory path) _ _ _ refl λ n.
    agrees-given v (file_bytes (slot s.files n)) _ _ _ refl λ file.
    agrees-given v (args_at p.memory (arg p 1)) _ _ _ refl λ args.
    agrees-given v (plan file args) _ _ _ refl λ new.
    agrees-provided v (fits_beside s new) _ _ _ (fits-in v fair s new) (
      seen-put v s i (replaced p new) s.files s.opens s.pipes s.console s.next_pid s.last s.halted time plain,
      refl,
      refl,
    )

-- ---- wait

child-in : (v : View) (s : State) (pid : ℕ) → has_child (state_in v s) pid ≡ has_child s pid
unfolding state_in
child-in v s pid = ap is_some (where-in v (is_child_of pid) (λ n p. refl) s.places)

pub zombie-child-in : (v : View) (s : State) (pid : ℕ) → zombie_child (state_in v s) pid ≡ zombie_child s pid
unfolding state_in
zombie-child-in v s pid = where-in v (λ q. is_child_of pid q && is_zombie q)
    (λ n p. ap (λ b. is_child_of pid p && b) (zombie-in v p.mode)) s.places

with-status-in : (v : View) (p : Process) (a : ℕ) (status : ℤ)
    → with_status (plain_in v p) a status ≡ plain_in v (with_status p a status)
with-status-in v p zero status = refl
with-status-in v p (suc a) status = refl

collected-in : (v : View) (ps : List (Option Process)) (i j a : ℕ) (p child : Process) → IsPlain v i
    → clear (put (places_in v ps) i
    (with_status (plain_in v p) a (status_of (mode_in v child.mode)))) j
    ≡ places_in v (clear (put ps i (with_status p a (status_of child.mode))) j)
collected-in v ps i j a p child plain =
    ap (λ status. clear (put (places_in v ps) i (with_status (plain_in v p) a status)) j)
    (status-in v child.mode)
    ∙ ap (λ q. clear (put (places_in v ps) i q) j) (with-status-in v p a (status_of child.mode))
    ∙ ap (λ qs. clear qs j) (put-plain v ps i (with_status p a (status_of child.mode)) plain)
    ∙ set-at (process_in v) (put ps i (with_status p a (status_of child.mode))) j None

agrees-child : (v : View) (j : ℕ) (o u : Option Process) (rest more : Process → Outcome)
    → u ≡ option_map (process_in v j) o → ((x : Process) → Agrees v (rest x) (more (process_in v j x)))
    → Agrees v (given o rest) (given u more)
agrees-child v j None u rest more is agrees = subst (λ x. Agrees v Refused (given x more)) (sym is) tt
agrees-child v j (Some x) u rest more is agrees =
    subst (λ y. Agrees v (rest x) (given y more)) (sym is) (agrees x)

wait-for-agrees : (v : View) (s : State) (i : ℕ) (p : Process) (w : Pending) (o u : Option ℕ) → s.ticks ≡ v.now
    → IsPlain v i → u ≡ o
    → Agrees v (wait_for s i p w o) (wait_for (state_in v s) i (plain_in v p) (pending_in v w) u)
unfolding state_in
wait-for-agrees v s i p w None u time plain is = subst
    (λ x. Agrees v (Waits s w) (wait_for (state_in v s) i (plain_in v p) (pending_in v w) x)) (sym is)
    (seen-refl v s time, refl)
wait-for-agrees v s i p w (Some j) u time plain is = subst
    (λ x. Agrees v (wait_for s i p w (Some j))
    (wait_for (state_in v s) i (plain_in v p) (pending_in v w) x))
    (sym is)
    (agrees-child v j (process_at s j) _ _ _ (slot-at (process_in v) s.places j) λ child. (
      seen-places v s _ _ s.files s.opens s.pipes s.console s.next_pid s.last s.halted time
          (collected-in v s.places i j (pending_arg w 0) p child plain),
      refl,
      refl,
    ))

wait-on-agrees : GoesOnAgrees wait_on Wait
unfolding wait_on
wait-on-agrees v s i p w fair time plain waits =
    wait-for-agrees v s i p w (zombie_child s p.pid) _ time plain (zombie-child-in v s p.pid)

-- ---- the clock

-- a call that begins now
begins-in : (v : View) (s : State) (p : Process) (number : Call) → IsFair v → s.ticks ≡ v.now
    → pending_of number (state_in v s) (plain_in v p) ≡ pending_in v (pending_of number s p)
unfolding state_in
begins-in v s p number fair time =
    let args = arg p 0 ∷ arg p 1 ∷ arg p 2 ∷ [] in
    ap (λ n. record (pending_of number s p) { since = n })
    (sym (ap (v.since number args) time ∙ fair.begins number args))

-- a sleeper has waited as long
pub slept-in : (v : View) (s : State) (w : Pending) → IsTimely v → s.ticks ≡ v.now → w.number ≡ Sleep
    → has_slept (state_in v s) (pending_in v w) ≡ has_slept s w
unfolding state_in
slept-in v s w timely time sleeps = timely.slept w sleeps ∙ ap (λ n. is_over n w) (sym time)

sleep-on-agrees : GoesOnAgrees sleep_on Sleep
unfolding sleep_on
sleep-on-agrees v s i p w fair time plain sleeps =
    agrees-either v (has_slept s w) _ _ _ _ _ (slept-in v s w (timely v fair) time sleeps)
    (seen-refl v s time, refl, refl)
    (seen-refl v s time, refl)

-- ---- read and write

read-pipe-agrees : (v : View) (s : State) (i : ℕ) (p : Process) (w : Pending) (q : ℕ) (bytes : List ℕ)
    → s.ticks ≡ v.now → IsPlain v i
    → Agrees v (read_pipe s i p w q bytes)
    (read_pipe (state_in v s) i (plain_in v p) (pending_in v w) q bytes)
unfolding state_in
read-pipe-agrees v s i p w q [] time plain = search agreeing
read-pipe-agrees v s i p w q (b ∷ bs) time plain = search agreeing

read-taken-agrees : (v : View) (s : State) (i : ℕ) (p : Process) (w : Pending) (t : Taken) → s.ticks ≡ v.now
    → IsPlain v i
    → Agrees v (read_taken s i p w t)
    (read_taken (state_in v s) i (plain_in v p) (pending_in v w) t)
unfolding state_in
read-taken-agrees v s i p w t time plain = search agreeing

read-file-agrees : (v : View) (s : State) (i : ℕ) (p : Process) (w : Pending) (id : ℕ) (f : OpenFile) (n offset : ℕ)
    (node : Node) → s.ticks ≡ v.now → IsPlain v i
    → Agrees v (read_file s i p w id f n offset node)
    (read_file (state_in v s) i (plain_in v p) (pending_in v w) id f n offset node)
unfolding state_in
read-file-agrees v s i p w id f n offset (Device links major minor) time plain =
    read-taken-agrees v s i p w _ time plain
read-file-agrees v s i p w id f n offset (File links bytes) time plain = search agreeing
read-file-agrees v s i p w id f n offset (Directory links places) time plain = search agreeing

read-target-agrees : (v : View) (s : State) (i : ℕ) (p : Process) (w : Pending) (id : ℕ) (f : OpenFile)
    (target : Target) → s.ticks ≡ v.now → IsPlain v i
    → Agrees v (read_target s i p w id f target)
    (read_target (state_in v s) i (plain_in v p) (pending_in v w) id f target)
unfolding state_in
read-target-agrees v s i p w id f (OnNode n offset) time plain =
    agrees-given v (slot s.files n) _ _ _ refl λ node. read-file-agrees v s i p w id f n offset node time plain
read-target-agrees v s i p w id f (OnPipe q end) time plain =
    agrees-given v (slot s.pipes q) _ _ _ refl λ bytes. read-pipe-agrees v s i p w q bytes time plain

read-on-agrees : GoesOnAgrees read_on Read
unfolding read_on state_in
read-on-agrees v s i p w fair time plain reads =
    agrees-given v (descriptor p (pending_arg w 0)) _ _ _ refl λ id.
    agrees-given v (slot s.opens id) _ _ _ refl λ f.
    read-target-agrees v s i p w id f f.target time plain

write-file-agrees : (v : View) (s : State) (id : ℕ) (f : OpenFile) (n offset : ℕ) (new : List ℕ) (node : Node)
    → s.ticks ≡ v.now
    → Agrees v (write_file s id f n offset new node) (write_file (state_in v s) id f n offset new node)
unfolding state_in room_for
write-file-agrees v s id f n offset new (Device links major minor) time = (seen-refl v s time, refl, refl)
write-file-agrees v s id f n offset new (File links bytes) time = search agreeing
write-file-agrees v s id f n offset new (Directory links places) time = tt

write-pipe-agrees : (v : View) (s : State) (w : Pending) (q : ℕ) (held new : List ℕ) → s.ticks ≡ v.now
    → Agrees v (write_pipe s w q held new) (write_pipe (state_in v s) (pending_in v w) q held new)
unfolding state_in
write-pipe-agrees v s w q held new time = search agreeing

write-target-agrees : (v : View) (s : State) (w : Pending) (id : ℕ) (f : OpenFile) (new : List ℕ) (target : Target)
    → s.ticks ≡ v.now
    → Agrees v (write_target s w id f new target)
    (write_target (state_in v s) (pending_in v w) id f new target)
unfolding state_in
write-target-agrees v s w id f new (OnNode n offset) time =
    agrees-given v (slot s.files n) _ _ _ refl λ node. write-file-agrees v s id f n offset new node time
write-target-agrees v s w id f new (OnPipe q end) time =
    agrees-given v (slot s.pipes q) _ _ _ refl λ held. write-pipe-agrees v s w q held new time

write-on-agrees : GoesOnAgrees write_on Write
unfolding write_on state_in
write-on-agrees v s i p w fair time plain writes =
    agrees-given v (descriptor p (pending_arg w 0)) _ _ _ refl λ id.
    agrees-given v (slot s.opens id) _ _ _ refl λ f.
    agrees-given v (read_bytes p.memory (pending_arg w 1) (low (pending_arg w 2))) _ _ _ refl λ new.
    write-target-agrees v s w id f new f.target time

-- ---- the calls that wait, as they begin

-- what goes on as it begins
abbrev Begins : (State → ℕ → Process → Pending → Outcome) → Call → Type 0
Begins on number = (v : View) (s : State) (i : ℕ) (p : Process) → IsFair v
    → s.ticks ≡ v.now → IsPlain v i → IsFresh v s.places
    → Agrees v (on s i p (pending_of number s p))
    (on (state_in v s) i (plain_in v p) (pending_of number (state_in v s) (plain_in v p)))

begins : (on : State → ℕ → Process → Pending → Outcome) (number : Call) → GoesOnAgrees on number → Begins on number
begins on number agrees v s i p fair time plain fresh = subst
    (λ x. Agrees v (on s i p (pending_of number s p)) (on (state_in v s) i (plain_in v p) x))
    (sym (begins-in v s p number fair time))
    (agrees v s i p (pending_of number s p) fair time plain refl)

agrees-unless-empty : (v : View) (s : State) (c : ℕ) (rest more : Outcome) → s.ticks ≡ v.now → Agrees v rest more
    → Agrees v (unless_empty s c rest) (unless_empty (state_in v s) c more)
agrees-unless-empty v s zero rest more time agrees = (seen-refl v s time, refl, refl)
agrees-unless-empty v s (suc c) rest more time agrees = agrees

wait-agrees : RowAgrees wait_row
unfolding wait_row
wait-agrees v s i p fair time plain fresh =
    agrees-provided v (has_child s p.pid) _ _ _ (child-in v s p.pid) (
    agrees-provided v (arg p 0 == 0 || can_write p.memory (arg p 0) 4) _ _ _ refl (
    begins wait_on Wait wait-on-agrees v s i p fair time plain fresh))

read-agrees : RowAgrees read_row
unfolding read_row state_in
read-agrees v s i p fair time plain fresh =
    agrees-given v (descriptor p (arg p 0)) _ _ _ refl λ id.
    agrees-given v (slot s.opens id) _ _ _ refl λ f.
    agrees-provided v (f.readable && is_usable s.files f.target) _ _ _ refl (
    agrees-given v (natural (int_of (arg p 2))) _ _ _ refl λ c.
    agrees-unless-empty v s c _ _ time (
    agrees-provided v (can_write p.memory (arg p 1) c) _ _ _ refl (
    begins read_on Read read-on-agrees v s i p fair time plain fresh)))

write-agrees : RowAgrees write_row
unfolding write_row state_in
write-agrees v s i p fair time plain fresh =
    agrees-given v (descriptor p (arg p 0)) _ _ _ refl λ id.
    agrees-given v (slot s.opens id) _ _ _ refl λ f.
    agrees-provided v (f.writable && is_usable s.files f.target) _ _ _ refl (
    agrees-given v (natural (int_of (arg p 2))) _ _ _ refl λ c.
    agrees-unless-empty v s c _ _ time (
    agrees-provided v (is_some (read_bytes p.memory (arg p 1) c)) _ _ _ refl (
    begins write_on Write write-on-agrees v s i p fair time plain fresh)))

-- ---- all of them

-- uptime is asked in a view by which it is the same
abbrev pub Tells : View → Option Call → Type 0
Tells v number = is_uptime number ≡ true → v.clock ≡ v.now

pub row-agrees : (number : Call) (v : View) (s : State) (i : ℕ) (p : Process) → IsFair v → s.ticks ≡ v.now
    → IsPlain v i → IsFresh v s.places → Tells v (Some number)
    → Agrees v (row s i p number) (row (state_in v s) i (plain_in v p) number)
unfolding state_in
row-agrees Fork v s i p fair time plain fresh tells = fork-agrees v s i p fair time plain fresh
row-agrees Exit v s i p fair time plain fresh tells = (seen-refl v s time, refl)
row-agrees Wait v s i p fair time plain fresh tells = wait-agrees v s i p fair time plain fresh
row-agrees Pipe v s i p fair time plain fresh tells = pipe-agrees v s i p fair time plain fresh
row-agrees Read v s i p fair time plain fresh tells = read-agrees v s i p fair time plain fresh
row-agrees Kill v s i p fair time plain fresh tells = kill-agrees v s i p fair time plain fresh
row-agrees Exec v s i p fair time plain fresh tells = exec-agrees v s i p fair time plain fresh
row-agrees Fstat v s i p fair time plain fresh tells = fstat-agrees v s i p fair time plain fresh
row-agrees Chdir v s i p fair time plain fresh tells = chdir-agrees v s i p fair time plain fresh
row-agrees Dup v s i p fair time plain fresh tells = dup-agrees v s i p fair time plain fresh
row-agrees Getpid v s i p fair time plain fresh tells = (seen-refl v s time, refl, refl)
row-agrees Sbrk v s i p fair time plain fresh tells = sbrk-agrees v s i p fair time plain fresh
row-agrees Sleep v s i p fair time plain fresh tells =
    begins sleep_on Sleep sleep-on-agrees v s i p fair time plain fresh
row-agrees Uptime v s i p fair time plain fresh tells = (seen-refl v s time, tells refl ∙ sym time, refl)
row-agrees Open v s i p fair time plain fresh tells = open-agrees v s i p fair time plain fresh
row-agrees Write v s i p fair time plain fresh tells = write-agrees v s i p fair time plain fresh
row-agrees Close v s i p fair time plain fresh tells = close-agrees v s i p fair time plain fresh
row-agrees Mknod v s i p fair time plain fresh tells = mknod-agrees v s i p fair time plain fresh
row-agrees Unlink v s i p fair time plain fresh tells = unlink-agrees v s i p fair time plain fresh
row-agrees Link v s i p fair time plain fresh tells = link-agrees v s i p fair time plain fresh
row-agrees Mkdir v s i p fair time plain fresh tells = mkdir-agrees v s i p fair time plain fresh

pub goes-on-agrees : (number : Call) → GoesOnAgrees (λ s i p w. goes_on s i p w number) number
goes-on-agrees Wait = wait-on-agrees
goes-on-agrees Sleep = sleep-on-agrees
goes-on-agrees Read = read-on-agrees
goes-on-agrees Write = write-on-agrees
goes-on-agrees _ = λ v s i p w fair time plain same. tt
