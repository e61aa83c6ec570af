-- What a call leaves of a table that is in order: it is still in order.
use Rattle.std.proofs.Common.{[], ap, arith, Bool, false, inl, inr, List, map, None, Option, refl, set, Some, subst}
use Rattle.std.proofs.Common.{suc, sym, true, zero, ℕ, ℤ, ◌+◌, ◌<◌, ◌∙◌, ◌∷◌, ◌≡◌, ◌⊎◌}
use Rattle.std.proofs.Math.ListN.{get_or-map}
use Rattle.std.specs.Prelude.{if◌then◌else◌, negsuc, option_map, slice_set}
use Rattle.orders.specs.Tidy.{IsTableTidy}
use Rattle.unixmodel.specs.Calls.{end_at, end_if_killed, goes_on, outcome_of, row, settle}
use Rattle.unixmodel.specs.Console.{Console}
use Rattle.unixmodel.specs.Counts.{is_within}
use Rattle.unixmodel.specs.FileCalls.{close_row, dup_row, fstat_row, pipe_row, read_file, read_on, read_pipe, read_row}
use Rattle.unixmodel.specs.FileCalls.{read_target, unless_empty, write_file, write_on, write_row, write_target}
use Rattle.unixmodel.specs.Files.{Files, Node, clear, put, slot}
use Rattle.unixmodel.specs.Files.Node.{Device, Directory, File}
use Rattle.unixmodel.specs.NameCalls.{chdir_row, link_row, mkdir_row, mknod_row, open_row, unlink_row}
use Rattle.unixmodel.specs.OpenFiles.{OpenFile, Target}
use Rattle.unixmodel.specs.OpenFiles.Target.{OnNode, OnPipe}
use Rattle.unixmodel.specs.Outcome.{Outcome, end_process, given, limited, minus_one, orphaned, pending_of, provided}
use Rattle.unixmodel.specs.Outcome.{with_zombie, zombie_of}
use Rattle.unixmodel.specs.Outcome.Outcome.{Done, Ends, Refused, Waits}
use Rattle.unixmodel.specs.Process.{Process, is_child_of, is_running, with_answer, with_mode}
use Rattle.unixmodel.specs.ProcessCalls.{child_of, collect, exec_row, fork_row, kill_row, marked, sbrk_row, sharing}
use Rattle.unixmodel.specs.ProcessCalls.{sleep_on, status_of, wait_for, wait_on, wait_row, with_status}
use Rattle.unixmodel.specs.Reap.{reap, without_nodes, without_opens, without_pipes}
use Rattle.unixmodel.specs.State.{State, change_process, process_at}
use Rattle.unixmodel.specs.declared.call.Call.{Call}
use Rattle.unixmodel.specs.declared.call.Call.TheVariants.{Chdir, Close, Dup, Exec, Exit, Fork, Fstat, Getpid, Kill}
use Rattle.unixmodel.specs.declared.call.Call.TheVariants.{Link, Mkdir, Mknod, Open, Pipe, Read, Sbrk, Sleep, Unlink}
use Rattle.unixmodel.specs.declared.call.Call.TheVariants.{Uptime, Wait, Write}
use Rattle.unixmodel.specs.declared.process.Mode.TheVariants.{Waiting}
use Rattle.unixmodel.specs.declared.process.Pending.{Pending}

-- ---- slots

-- what a slot holds after one was written
set-at : (ps : List (Option Process)) (i j : ℕ) (o : Option Process) (q : Process) → slot (set ps i o) j ≡ Some q
    → ((j ≡ i) × (o ≡ Some q)) ⊎ (slot ps j ≡ Some q)
set-at [] i j o q at = absurd cc
set-at (x ∷ ps) zero zero o q at = inl (refl, at)
set-at (x ∷ ps) zero (suc j) o q at = inr at
set-at (x ∷ ps) (suc i) zero o q at = inr at
set-at (x ∷ ps) (suc i) (suc j) o q at = elim (set-at ps i j o q at) [
  | inl same ↦ inl (ap suc same.0, same.1)
  | inr other ↦ inr other
]

-- where process q comes from: one with its pid was in the slot, and q runs in slot r, or where that one ran
pub record Origin (r i : ℕ) (o : Option Process) (q : Process) : Type 0 where
  pub old : Process
  pub was : o ≡ Some old
  pub pid : q.pid ≡ old.pid
  pub runs : is_running q ≡ true → (i ≡ r) ⊎ (is_running old ≡ true)

-- each process comes from one
abbrev pub ComeFrom : ℕ → List (Option Process) → List (Option Process) → Type 0
ComeFrom r ps qs = (i : ℕ) (q : Process) → slot qs i ≡ Some q → Origin r i (slot ps i) q

itself : (r i : ℕ) (o : Option Process) (q : Process) → o ≡ Some q → Origin r i o q
itself r i o q at = record { old = q; was = at; pid = refl; runs = λ on. inr on }

come-then : (r : ℕ) (ps qs us : List (Option Process)) → ComeFrom r ps qs → ComeFrom r qs us → ComeFrom r ps us
come-then r ps qs us first second i q at =
    let two = second i q at in
    let one = first i two.old two.was in
    record {
      old = one.old;
      was = one.was;
      pid = two.pid ∙ one.pid;
      runs = λ on. elim (two.runs on) [ inl here ↦ inl here | inr runs ↦ one.runs runs ];
    }

-- one slot is written
come-set : (r i : ℕ) (ps : List (Option Process)) (o : Option Process)
    → ((q : Process) → o ≡ Some q → Origin r i (slot ps i) q) → ComeFrom r ps (set ps i o)
come-set r i ps o new j q at = elim (set-at ps i j o q at) [
  | inl same ↦ subst (λ k. Origin r k (slot ps k) q) (sym same.0) (new q same.1)
  | inr other ↦ itself r j (slot ps j) q other
]

same-some : {X : Type 0} (x y : X) → Some x ≡ Some y → x ≡ y
same-some x y same = cc

-- slot r gets a process with the same pid
come-own : (r : ℕ) (ps : List (Option Process)) (p q : Process) → slot ps r ≡ Some p → q.pid ≡ p.pid
    → ComeFrom r ps (put ps r q)
come-own r ps p q at same = come-set r r ps (Some q) (λ u is. record {
  old = p;
  was = at;
  pid = sym (ap (λ (v : Process). v.pid) (same-some q u is)) ∙ same;
  runs = λ on. inl refl;
})

come-clear : (r i : ℕ) (ps : List (Option Process)) → ComeFrom r ps (clear ps i)
come-clear r i ps = come-set r i ps None (λ q is. absurd cc)

-- a change of a process that leaves its pid, and who runs
pub record IsMild (r i : ℕ) (change : Process → Process) : Type 0 where
  pub pid : (p : Process) → (change p).pid ≡ p.pid
  pub runs : (p : Process) → is_running (change p) ≡ true → (i ≡ r) ⊎ (is_running p ≡ true)

come-changed : (r i : ℕ) (change : Process → Process) → IsMild r i change → (o : Option Process) (q : Process)
    → option_map change o ≡ Some q → Origin r i o q
come-changed r i change mild None q at = absurd cc
come-changed r i change mild (Some p) q at =
    let same : change p ≡ q = same-some (change p) q at in
    record {
      old = p;
      was = refl;
      pid = sym (ap (λ (v : Process). v.pid) same) ∙ mild.pid p;
      runs = λ on. mild.runs p (ap is_running same ∙ on);
    }

come-change : (r i : ℕ) (ps : List (Option Process)) (change : Process → Process) → IsMild r i change
    → ComeFrom r ps (slice_set ps i (option_map change (slot ps i)))
come-change r i ps change mild =
    come-set r i ps (option_map change (slot ps i)) (λ q is. come-changed r i change mild (slot ps i) q is)

come-map : (r : ℕ) (ps : List (Option Process)) (change : Process → Process) → ((i : ℕ) → IsMild r i change)
    → ComeFrom r ps (map (option_map change) ps)
come-map r ps change mild i q at =
    come-changed r i change (mild i) (slot ps i) q (sym (get_or-map (option_map change) ps i None) ∙ at)

-- ---- states

-- a table in order, in which nobody runs but in slot r
pub record TidyAt (r : ℕ) (s : State) : Type 0 where
  pub tidy : IsTableTidy s
  pub last : s.last ≡ r

pub tidy-from : {r : ℕ} {s : State} (t : State) → TidyAt r s → ComeFrom r s.places t.places → t.next_pid ≡ s.next_pid
    → t.last ≡ s.last → TidyAt r t
tidy-from {r} {s} t h come next last = record {
  tidy = record {
    apart = λ i j p q at there same.
        let one = come i p at in
        let two = come j q there in
        h.tidy.apart i j one.old two.old one.was two.was (sym one.pid ∙ same ∙ two.pid);
    below = λ i p at.
        let one = come i p at in
        let less = h.tidy.below i one.old one.was in
        omega (arith, less, one.pid, next);
    runner = λ i p at on.
        let one = come i p at in
        elim (one.runs on) [
          | inl here ↦ here ∙ sym h.last ∙ sym last
          | inr runs ↦ h.tidy.runner i one.old one.was runs ∙ sym last
        ];
  };
  last = last ∙ h.last;
}

come-refl : (r : ℕ) (ps qs : List (Option Process)) → qs ≡ ps → ComeFrom r ps qs
come-refl r ps qs same i q at = itself r i (slot ps i) q (ap (λ us. slot us i) (sym same) ∙ at)

-- the slots are as they were
pub tidy-all : {r : ℕ} {s : State} (t : State) → TidyAt r s → t.places ≡ s.places → t.next_pid ≡ s.next_pid
    → t.last ≡ s.last → TidyAt r t
tidy-all {r} {s} t h same next last = tidy-from t h (come-refl r s.places t.places same) next last

pub tidy-change : {r : ℕ} {s : State} (i : ℕ) (change : Process → Process) → IsMild r i change → TidyAt r s
    → TidyAt r (change_process s i change)
tidy-change {r} {s} i change mild h = tidy-from _ h (come-change r i s.places change mild) refl refl

pub reap-tidy : {r : ℕ} {s : State} → TidyAt r s → TidyAt r (reap s)
unfolding reap without_nodes without_pipes without_opens
reap-tidy h = tidy-all _ h refl refl refl

-- ---- how a process ends

orphaned-pid : (pid : ℕ) (p : Process) → (orphaned pid p).pid ≡ p.pid
orphaned-pid pid p = by (is_child_of pid p)
  where
    by : (b : Bool) → (if b then record p { parent = 1 } else p).pid ≡ p.pid
    by true = refl
    by false = refl

orphaned-runs : (pid : ℕ) (p : Process) → is_running (orphaned pid p) ≡ is_running p
orphaned-runs pid p = by (is_child_of pid p)
  where
    by : (b : Bool) → is_running (if b then record p { parent = 1 } else p) ≡ is_running p
    by true = refl
    by false = refl

orphaned-mild : (r i pid : ℕ) → IsMild r i (orphaned pid)
orphaned-mild r i pid = record {
  pid = orphaned-pid pid;
  runs = λ p on. inr (sym (orphaned-runs pid p) ∙ on);
}

pub end-tidy : {r : ℕ} {s : State} (p : Process) (status : ℤ) → process_at s r ≡ Some p → TidyAt r s
    → TidyAt r (end_process s r p status)
unfolding end_process
end-tidy {r} {s} p status at h =
    let orphans = map (option_map (orphaned p.pid)) s.places in
    let there : slot orphans r ≡ Some (orphaned p.pid p) =
    get_or-map (option_map (orphaned p.pid)) s.places r None ∙ ap (option_map (orphaned p.pid)) at in
    reap-tidy (tidy-from (with_zombie s r p status) h
    (come-then r s.places orphans (put orphans r (zombie_of p status))
    (come-map r s.places (orphaned p.pid) (λ i. orphaned-mild r i p.pid))
    (come-own r orphans (orphaned p.pid p) (zombie_of p status) there (sym (orphaned-pid p.pid p))))
    refl refl)

-- ---- what the outcome of a call leaves

-- the state that an outcome makes
abbrev pub Yields : ℕ → Outcome → Type 0
Yields r Refused = Unit {0}
Yields r (Done t answer bytes) = TidyAt r t
Yields r (Waits t w) = TidyAt r t
Yields r (Ends t status) = TidyAt r t

answer-mild : (r i answer : ℕ) → IsMild r i (with_answer answer)
answer-mild r i answer = record { pid = λ p. refl; runs = λ p on. inr on }

own-mild : (r : ℕ) (change : Process → Process) → ((p : Process) → (change p).pid ≡ p.pid) → IsMild r r change
own-mild r change pid = record { pid = pid; runs = λ p on. inl refl }

if-killed-tidy : {r : ℕ} {s : State} (o : Option Process) → process_at s r ≡ o → TidyAt r s
    → TidyAt r (end_if_killed s r o)
if-killed-tidy None at h = h
if-killed-tidy {r} {s} (Some p) at h = by p.killed
  where
    by : (b : Bool) → TidyAt r (if b then end_process s r p (negsuc 0) else reap s)
    by true = end-tidy p (negsuc 0) at h
    by false = reap-tidy h

end-at-tidy : {r : ℕ} {s : State} (status : ℤ) (o : Option Process) → process_at s r ≡ o → TidyAt r s
    → TidyAt r (end_at s r status o)
end-at-tidy status None at h = h
end-at-tidy status (Some p) at h = end-tidy p status at h

pub settle-tidy : {r : ℕ} {s : State} (o : Outcome) → TidyAt r s → Yields r o → TidyAt r (settle s r o).state
settle-tidy {r} Refused h yields = tidy-change r (with_answer minus_one) (answer-mild r r minus_one) h
settle-tidy {r} (Done t answer bytes) h yields =
    let done = change_process t r (with_answer answer) in
    if-killed-tidy (process_at done r) refl (tidy-change r (with_answer answer) (answer-mild r r answer) yields)
settle-tidy {r} (Waits t w) h yields =
    reap-tidy (tidy-change r (with_mode (Waiting w)) (own-mild r (with_mode (Waiting w)) (λ p. refl)) yields)
settle-tidy {r} (Ends t status) h yields = end-at-tidy status (process_at t r) refl yields

yields-given : {X : Type 0} (r : ℕ) (o : Option X) (rest : X → Outcome) → ((x : X) → o ≡ Some x → Yields r (rest x))
    → Yields r (given o rest)
yields-given r None rest yields = tt
yields-given r (Some x) rest yields = yields x refl

yields-provided : (r : ℕ) (test : Bool) (rest : Outcome) → Yields r rest → Yields r (provided test rest)
yields-provided r true rest yields = yields
yields-provided r false rest yields = tt

yields-either : (r : ℕ) (test : Bool) (one other : Outcome) → Yields r one → Yields r other
    → Yields r (if test then one else other)
yields-either r true one other first second = first
yields-either r false one other first second = second

yields-limited : (r : ℕ) (o : Outcome) → Yields r o → Yields r (limited o)
yields-limited r Refused yields = tt
yields-limited r (Done t answer bytes) yields = yields-provided r (is_within t) (Done t answer bytes) yields
yields-limited r (Waits t w) yields = yields
yields-limited r (Ends t status) yields = yields

-- ---- the rows of the calls of process p in slot r

module _ (r : ℕ) (s : State) (p : Process) (at : process_at s r ≡ Some p) (h : TidyAt r s) where
  -- the process is written, whatever else is new
  tidy-put : (q : Process) (files : Files) (opens : List (Option OpenFile)) (pipes : List (Option (List ℕ)))
      (console : Console) → q.pid ≡ p.pid
      → TidyAt r (record s {
        places = put s.places r q;
        files = files;
        opens = opens;
        pipes = pipes;
        console = console;
      })
  tidy-put q files opens pipes console same = tidy-from _ h (come-own r s.places p q at same) refl refl

  pub tidy-own : (q : Process) → q.pid ≡ p.pid → TidyAt r (record s { places = put s.places r q })
  tidy-own q same = tidy-put q s.files s.opens s.pipes s.console same

  -- no process is
  tidy-else : (files : Files) (opens : List (Option OpenFile)) (pipes : List (Option (List ℕ))) (console : Console)
      → TidyAt r (record s { files = files; opens = opens; pipes = pipes; console = console })
  tidy-else files opens pipes console = tidy-all _ h refl refl refl

  -- what outcomes are made of: a search by these finds what most rows leave
  ruleset yielding = (yields-given, yields-provided, yields-either, tidy-put, tidy-else)

  -- fork: a slot is filled, and the next pid is taken
  abbrev child : Process
  child = child_of (sharing p) s.next_pid

  abbrev shared : List (Option Process)
  shared = put s.places r (sharing p)

  sharer : TidyAt r (record s { places = shared })
  sharer = tidy-own (sharing p) refl

  child-pid : (q : Process) → Some child ≡ Some q → s.next_pid ≡ q.pid
  child-pid q is = ap (λ (v : Process). v.pid) (same-some child q is)

  -- the child in slot j, or a process that was there
  abbrev IsThere : ℕ → ℕ → Process → Type 0
  IsThere j i q = ((i ≡ j) × (Some child ≡ Some q)) ⊎ (slot shared i ≡ Some q)

  fork-apart : (j i k : ℕ) (q u : Process) → IsThere j i q → IsThere j k u → q.pid ≡ u.pid → i ≡ k
  fork-apart j i k q u (inl one) (inl two) same = one.0 ∙ sym two.0
  fork-apart j i k q u (inl one) (inr two) same =
      let less = sharer.tidy.below k u two in absurd (omega (arith, less, child-pid q one.1, same))
  fork-apart j i k q u (inr one) (inl two) same =
      let less = sharer.tidy.below i q one in absurd (omega (arith, less, child-pid u two.1, same))
  fork-apart j i k q u (inr one) (inr two) same = sharer.tidy.apart i k q u one two same

  fork-below : (j i : ℕ) (q : Process) → IsThere j i q → q.pid < s.next_pid + 1
  fork-below j i q (inl last) = omega (arith, child-pid q last.1)
  fork-below j i q (inr other) = let less = sharer.tidy.below i q other in omega (arith, less)

  fork-runner : (j i : ℕ) (q : Process) → IsThere j i q → is_running q ≡ true → i ≡ s.last
  fork-runner j i q (inl last) on =
      absurd (let runs : is_running child ≡ true = ap is_running (same-some child q last.1) ∙ on in cc)
  fork-runner j i q (inr other) on = sharer.tidy.runner i q other on

  fork-tidy : (j : ℕ) → TidyAt r (record s { places = put shared j child; next_pid = s.next_pid + 1 })
  fork-tidy j = record {
    tidy = record {
      apart = λ i k q u here there. fork-apart j i k q u (set-at shared j i (Some child) q here)
          (set-at shared j k (Some child) u there);
      below = λ i q here. fork-below j i q (set-at shared j i (Some child) q here);
      runner = λ i q here. fork-runner j i q (set-at shared j i (Some child) q here);
    };
    last = h.last;
  }

  -- wait: a zombie goes
  status-pid : (a : ℕ) (status : ℤ) → (with_status p a status).pid ≡ p.pid
  status-pid zero status = refl
  status-pid (suc a) status = refl

  collect-yields : (a j : ℕ) (child : Process) → Yields r (collect s r p a j child)
  collect-yields a j child =
      let with = with_status p a (status_of child.mode) in
      tidy-from (record s { places = clear (put s.places r with) j }) h
      (come-then r s.places (put s.places r with) (clear (put s.places r with) j)
      (come-own r s.places p with at (status-pid a (status_of child.mode)))
      (come-clear r j (put s.places r with)))
      refl refl

  wait-for-yields : (w : Pending) (o : Option ℕ) → Yields r (wait_for s r p w o)
  wait-for-yields w None = h
  wait-for-yields w (Some j) = yields-given r (process_at s j) _ (λ child here. collect-yields _ j child)

  -- kill: a process is marked
  kill-tidy : (j : ℕ) → TidyAt r (change_process s j marked)
  kill-tidy j = tidy-change j marked (record { pid = λ q. refl; runs = λ q on. inr on }) h

  -- read and write: by what the descriptor is open on
  read-pipe-yields : (w : Pending) (q : ℕ) (bytes : List ℕ) → Yields r (read_pipe s r p w q bytes)
  read-pipe-yields w q [] = search yielding
  read-pipe-yields w q (b ∷ bytes) = search yielding

  read-file-yields : (w : Pending) (k : ℕ) (f : OpenFile) (n offset : ℕ) (node : Node)
      → Yields r (read_file s r p w k f n offset node)
  read-file-yields w k f n offset (Device links major minor) = search yielding
  read-file-yields w k f n offset (File links bytes) = search yielding
  read-file-yields w k f n offset (Directory links places) = search yielding

  read-target-yields : (w : Pending) (k : ℕ) (f : OpenFile) (target : Target)
      → Yields r (read_target s r p w k f target)
  read-target-yields w k f (OnNode n offset) = search (yielding, read-file-yields)
  read-target-yields w k f (OnPipe q end) = search (yielding, read-pipe-yields)

  write-file-yields : (k : ℕ) (f : OpenFile) (n offset : ℕ) (new : List ℕ) (node : Node)
      → Yields r (write_file s k f n offset new node)
  write-file-yields k f n offset new (Device links major minor) = search yielding
  write-file-yields k f n offset new (File links bytes) = search yielding
  write-file-yields k f n offset new (Directory links places) = tt

  write-target-yields : (w : Pending) (k : ℕ) (f : OpenFile) (new : List ℕ) (target : Target)
      → Yields r (write_target s w k f new target)
  write-target-yields w k f new (OnNode n offset) = search (yielding, write-file-yields)
  write-target-yields w k f new (OnPipe q end) = search yielding

  unless-empty-yields : (c : ℕ) (rest : Outcome) → Yields r rest → Yields r (unless_empty s c rest)
  unless-empty-yields zero rest yields = h
  unless-empty-yields (suc c) rest yields = yields

  pub goes-on-yields : (w : Pending) (call : Call) → Yields r (goes_on s r p w call)
  unfolding wait_on sleep_on read_on write_on
  goes-on-yields w Wait = wait-for-yields w _
  goes-on-yields w Sleep = search yielding
  goes-on-yields w Read = search (yielding, read-target-yields)
  goes-on-yields w Write = search (yielding, write-target-yields)
  goes-on-yields w _ = tt

  row-yields : (call : Call) → Yields r (row s r p call)
  unfolding fork_row wait_row pipe_row read_row kill_row dup_row sbrk_row write_row close_row exec_row fstat_row
      chdir_row open_row mknod_row unlink_row link_row mkdir_row
  row-yields Fork = search (yielding, fork-tidy)
  row-yields Exit = h
  row-yields Wait = let on = goes-on-yields (pending_of Wait s p) Wait in search yielding
  row-yields Pipe = search yielding depth 9
  row-yields Read = let on = goes-on-yields (pending_of Read s p) Read in search (yielding, unless-empty-yields) depth 9
  row-yields Kill = search (yielding, kill-tidy)
  row-yields Dup = search yielding
  row-yields Getpid = h
  row-yields Sbrk = search yielding
  row-yields Sleep = goes-on-yields (pending_of Sleep s p) Sleep
  row-yields Uptime = h
  row-yields Write =
      let on = goes-on-yields (pending_of Write s p) Write in search (yielding, unless-empty-yields) depth 9
  row-yields Close = search yielding
  row-yields Exec = search yielding depth 9
  row-yields Fstat = search yielding depth 9
  row-yields Chdir = search yielding depth 9
  row-yields Open = search yielding depth 9
  row-yields Mknod = search yielding
  row-yields Unlink = search yielding
  row-yields Link = search yielding depth 9
  row-yields Mkdir = search yielding

  pub outcome-yields : (o : Option Call) → Yields r (outcome_of s r p o)
  outcome-yields None = tt
  outcome-yields (Some number) = yields-limited r (row s r p number) (row-yields number)
