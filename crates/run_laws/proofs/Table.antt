-- What the table of calls leaves in the slots of other processes, whether a call is served or refused for now.
use Rattle.run_laws.proofs.Common.{and_parts, cases_eq, same_Some, get_or-set_other, position-Some, Pending, Node}
use Rattle.run_laws.proofs.Common.{clear, free_slot, put, slot, Process, is_child_of, is_zombie, State, change_process}
use Rattle.run_laws.proofs.Common.{holds, process_at, OpenFile, Target, Call}
use Rattle.std.proofs.Common.{◌+◌, [], ap, inl, inr, List, None, Option, refl, set, Some, subst, suc, sym, true, zero}
use Rattle.std.proofs.Common.{ℕ, ◌∙◌, ◌∷◌, ◌≡◌, ◌≢◌}
use Rattle.std.specs.Prelude.{◌&&◌, is_none, option_map}
use Rattle.unixmodel.specs.Calls.{goes_on, row}
use Rattle.unixmodel.specs.FileCalls.{read_file, read_pipe, read_target, unless_empty, write_file, write_target}
use Rattle.unixmodel.specs.FileCalls.{close_row, dup_row, fstat_row, pipe_row, read_on, read_row, write_on, write_row}
use Rattle.unixmodel.specs.ProcessCalls.{child_of, collect, marked, sharing, wait_for, zombie_child, exec_row, fork_row}
use Rattle.unixmodel.specs.ProcessCalls.{kill_row, sbrk_row, sleep_on, wait_on, wait_row}
use Rattle.unixmodel.specs.Files.Node.{Device, Directory, File}
use Rattle.unixmodel.specs.OpenFiles.Target.{OnNode, OnPipe}
use Rattle.run_laws.proofs.Others.{IsPassed, IsSame, Passes, passed-is, same-refl, spares-passes, Yields, passes-refl}
use Rattle.run_laws.proofs.Others.{yielding, yields-given}
use Rattle.unixmodel.specs.declared.call.Call.TheVariants.{Chdir, Close, Dup, Exec, Exit, Fork, Fstat, Getpid, Kill}
use Rattle.unixmodel.specs.declared.call.Call.TheVariants.{Link, Mkdir, Mknod, Open, Pipe, Read, Sbrk, Sleep, Unlink}
use Rattle.unixmodel.specs.declared.call.Call.TheVariants.{Uptime, Wait, Write}
use Rattle.unixmodel.specs.Outcome.{pending_of, Outcome}
use Rattle.unixmodel.specs.NameCalls.{chdir_row, link_row, mkdir_row, mknod_row, open_row, unlink_row}

-- ---- what the rows of the calls leave in the slots of other processes, where a search needs more than what
-- outcomes are made of

-- ---- fork: a free slot is filled

fork-passed : (places : List (Option Process)) (r j : ℕ) (q p : Process) → free_slot places ≡ Some j → (i : ℕ) → i ≢ r
    → IsPassed (slot places i) (slot (put (put places r q) j p) i)
fork-passed places r j q p free i apart = elim (cases_eq i j) [
  | inl here ↦ subst (λ o. IsPassed o (slot (put (put places r q) j p) i))
      (sym (ap (slot places) here ∙ none (slot places j) (position-Some is_none places j None free).1)) tt
  | inr other ↦ passed-is (slot places i) (slot (put (put places r q) j p) i)
      (get_or-set_other (put places r q) j i (Some p) None other ∙ get_or-set_other places r i (Some q) None apart)
]
  where
    none : (o : Option Process) → is_none o ≡ true → o ≡ None
    none None is = refl
    none (Some p) is = absurd cc

pub fork-passes : (s : State) (r : ℕ) (p : Process) (j : ℕ) → free_slot s.places ≡ Some j
    → Passes r s (record s {
      places = put (put s.places r (sharing p)) j (child_of (sharing p) s.next_pid);
      next_pid = s.next_pid + 1;
    })
fork-passes s r p j free = record {
  last = refl;
  others = λ i apart. fork-passed s.places r j (sharing p) (child_of (sharing p) s.next_pid) free i apart;
}

-- ---- wait: a zombie goes

zombie-found : (s : State) (pid j : ℕ) (child : Process) → zombie_child s pid ≡ Some j → process_at s j ≡ Some child
    → is_zombie child ≡ true
zombie-found s pid j child found here =
    let test = λ (q : Process). is_child_of pid q && is_zombie q in
    (and_parts (is_child_of pid child) (is_zombie child)
    (sym (ap (holds test) here) ∙ (position-Some (holds test) s.places j None found).1)).1

passed-gone : (o u : Option Process) (child : Process) → o ≡ Some child → u ≡ None → is_zombie child ≡ true
    → IsPassed o u
passed-gone None u child here gone zombie = tt
passed-gone (Some p) None child here gone zombie = ap is_zombie (same_Some p child here) ∙ zombie
passed-gone (Some p) (Some q) child here gone zombie = absurd cc

cleared : (places : List (Option Process)) (j : ℕ) → slot (clear places j) j ≡ None
cleared [] j = refl
cleared (o ∷ places) zero = refl
cleared (o ∷ places) (suc j) = cleared places j

gone-passed : (places : List (Option Process)) (r j : ℕ) (o : Option Process) (child : Process)
    → slot places j ≡ Some child → is_zombie child ≡ true → (i : ℕ) → i ≢ r
    → IsPassed (slot places i) (slot (clear (set places r o) j) i)
gone-passed places r j o child here zombie i apart = elim (cases_eq i j) [
  | inl same ↦ passed-gone (slot places i) (slot (clear (set places r o) j) i) child (ap (slot places) same ∙ here)
      (ap (slot (clear (set places r o) j)) same ∙ cleared (set places r o) j) zombie
  | inr other ↦ passed-is (slot places i) (slot (clear (set places r o) j) i)
      (get_or-set_other (set places r o) j i None None other ∙ get_or-set_other places r i o None apart)
]

collect-yields : (s : State) (r : ℕ) (p : Process) (a j pid : ℕ) (child : Process) → zombie_child s pid ≡ Some j
    → process_at s j ≡ Some child → Yields r s (collect s r p a j child)
collect-yields s r p a j pid child found here = record {
  last = refl;
  others = gone-passed s.places r j _ child here (zombie-found s pid j child found here);
}

pub wait-for-yields : (s : State) (r : ℕ) (p : Process) (w : Pending) (pid : ℕ) (o : Option ℕ) → zombie_child s pid ≡ o
    → Yields r s (wait_for s r p w o)
wait-for-yields s r p w pid None found = passes-refl r s
wait-for-yields s r p w pid (Some j) found =
    yields-given r s (process_at s j) _ (λ child here. collect-yields s r p _ j pid child found here)

-- ---- kill: a process is marked

same-marked : (o : Option Process) → IsSame o (option_map marked o)
same-marked None = tt
same-marked (Some p) = refl

marked-same : (places : List (Option Process)) (j i : ℕ)
    → IsSame (slot places i) (slot (set places j (option_map marked (slot places j))) i)
marked-same [] j i = tt
marked-same (o ∷ places) zero zero = same-marked o
marked-same (o ∷ places) zero (suc i) = same-refl (slot places i)
marked-same (o ∷ places) (suc j) zero = same-refl o
marked-same (o ∷ places) (suc j) (suc i) = marked-same places j i

pub kill-passes : (s : State) (r j : ℕ) → Passes r s (change_process s j marked)
kill-passes s r j = spares-passes (record { last = refl; others = λ i apart. marked-same s.places j i })

-- ---- read and write: by what the descriptor is open on

pub read-pipe-yields : (s : State) (r : ℕ) (p : Process) (w : Pending) (q : ℕ) (bytes : List ℕ)
    → Yields r s (read_pipe s r p w q bytes)
read-pipe-yields s r p w q [] = search yielding
read-pipe-yields s r p w q (b ∷ bytes) = search yielding

pub read-file-yields : (s : State) (r : ℕ) (p : Process) (w : Pending) (k : ℕ) (f : OpenFile) (n offset : ℕ)
    (node : Node) → Yields r s (read_file s r p w k f n offset node)
read-file-yields s r p w k f n offset (Device links major minor) = search yielding
read-file-yields s r p w k f n offset _ = search yielding

pub read-target-yields : (s : State) (r : ℕ) (p : Process) (w : Pending) (k : ℕ) (f : OpenFile) (target : Target)
    → Yields r s (read_target s r p w k f target)
read-target-yields s r p w k f (OnNode n offset) = search (yielding, read-file-yields)
read-target-yields s r p w k f (OnPipe q end) = search (yielding, read-pipe-yields)

pub write-file-yields : (s : State) (r k : ℕ) (f : OpenFile) (n offset : ℕ) (new : List ℕ) (node : Node)
    → Yields r s (write_file s k f n offset new node)
write-file-yields s r k f n offset new (Device links major minor) = search yielding
write-file-yields s r k f n offset new (File links bytes) = search yielding
write-file-yields s r k f n offset new (Directory links places) = tt

pub write-target-yields : (s : State) (r : ℕ) (w : Pending) (k : ℕ) (f : OpenFile) (new : List ℕ) (target : Target)
    → Yields r s (write_target s w k f new target)
write-target-yields s r w k f new (OnNode n offset) = search (yielding, write-file-yields)
write-target-yields s r w k f new (OnPipe q end) = search yielding

pub unless-empty-yields : (s : State) (r c : ℕ) (rest : Outcome) → Yields r s rest → Yields r s (unless_empty s c rest)
unless-empty-yields s r zero rest yields = passes-refl r s
unless-empty-yields s r (suc c) rest yields = yields

pub goes-on-yields : (s : State) (r : ℕ) (p : Process) (w : Pending) (call : Call) → Yields r s (goes_on s r p w call)
unfolding wait_on sleep_on read_on write_on
goes-on-yields s r p w Wait = wait-for-yields s r p w p.pid _ refl
goes-on-yields s r p w Sleep = search yielding
goes-on-yields s r p w Read = search (yielding, read-target-yields)
goes-on-yields s r p w Write = search (yielding, write-target-yields)
goes-on-yields s r p w _ = tt

pub row-yields : (s : State) (r : ℕ) (p : Process) (call : Call) → Yields r s (row s r p call)
unfolding fork_row wait_row pipe_row read_row kill_row dup_row sbrk_row write_row close_row exec_row fstat_row
    chdir_row open_row mknod_row unlink_row link_row mkdir_row
row-yields s r p Fork = search (yielding, fork-passes)
row-yields s r p Exit = passes-refl r s
row-yields s r p Wait = let on = goes-on-yields s r p (pending_of Wait s p) Wait in search yielding
row-yields s r p Pipe = search yielding depth 9
row-yields s r p Read = let on =
    goes-on-yields s r p (pending_of Read s p) Read in search (yielding, unless-empty-yields) depth 9
row-yields s r p Kill = search (yielding, kill-passes)
row-yields s r p Dup = search yielding
row-yields s r p Getpid = passes-refl r s
row-yields s r p Sbrk = search yielding
row-yields s r p Sleep = goes-on-yields s r p (pending_of Sleep s p) Sleep
row-yields s r p Uptime = passes-refl r s
row-yields s r p Write = let on =
    goes-on-yields s r p (pending_of Write s p) Write in search (yielding, unless-empty-yields) depth 9
row-yields s r p Close = search yielding
row-yields s r p Exec = search yielding depth 9
row-yields s r p Fstat = search yielding depth 9
row-yields s r p Chdir = search yielding depth 9
row-yields s r p Open = search yielding depth 9
row-yields s r p Mknod = search yielding
row-yields s r p Unlink = search yielding
row-yields s r p Link = search yielding depth 9
row-yields s r p Mkdir = search yielding
