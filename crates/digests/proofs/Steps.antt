-- Steps that follow one another.
use Rattle.digests.proofs.Common.{[], ap, arith, bytes_or_none, contents_mixed, each, has_space, Kernel, length-append}
use Rattle.digests.proofs.Common.{loaded, lost-then, mix, mixed, node_mixed, on_hart, place_mixed, process_at}
use Rattle.digests.proofs.Common.{read-then, slot, SpaceView, state_of, take, view_at, ◌∙◌, ◌∷◌, ◌≡◌}
use Rattle.std.proofs.lemmas.List.{length-drop, length-take-le, take-append-le, take_all, take_min}
use Rattle.unixmodel.specs.Files.{kind_of, links_of, Node, node_bytes, size_of}
use Rattle.digests.specs.Digest.{bare_mixed, bytes_mixed, console_mixed, memory_mixed, front_of, major_of, page_or_same}
use Rattle.digests.specs.Digest.{status_number}
use Rattle.std.proofs.Common.{ap₂, drop, Err, false, get_or, length, List, min, None, Ok, Option, refl, Result, Some}
use Rattle.std.proofs.Common.{subst, suc, sym, true, ℕ, ◌*◌, ◌++◌, ◌+◌, ◌-◌, ◌<◌, ◌≤◌}
use Rattle.std.specs.Prelude.{is_some, option_map, slice_get}
use Rattle.std.proofs.lemmas.List.Sums.{fold_more}
use Rattle.kernel.proofs.Reaping.{match-loaded}
use Rattle.kernel.proofs.Readies.{process-state}
use Rattle.proc.specs.declared.process.Process.{Process}
use Rattle.proc.specs.Places.{Places, changed_at}
use Rattle.kernel.specs.Sound.{IsKernel}
use Rattle.kernel.specs.Whole.{with_space}
use Rattle.digests.specs.Digest.{bare, bare_state, by_clock, clock_by, holder_mixed, names_mixed}
use Rattle.digests.specs.Reads.{bare_by}
use Rattle.digests.proofs.Common.{places_mixed}
use Rattle.kernel.proofs.Holding.{slot-map}
use Rattle.schedules.specs.Alike.{places_set_back, process_set_back, state_set_back}
use Rattle.unixmodel.specs.Process as unix
use Rattle.unixmodel.specs.State.{State}
use Rattle.unixmodel.specs.Console.{Console}
use Rattle.unixmodel.specs.Memory.{Memory}
use Rattle.blockdev.specs.declared.DeviceFault.{DeviceFault}
use Rattle.blockdev.specs.Splice.{part}
use Rattle.digests.specs.Reads.{major_told, node_numbers}
use Rattle.inode.specs.declared.InodeStat.{InodeStat}
use Rattle.kernel.specs.Disk.{HasRead, ReadsDisk}
use Rattle.tree.specs.Calls.{IsPart}
use Rattle.tree.specs.Telling.{Tells, TellsAny}
use Rattle.unixmodel.specs.Files.Node.{Device, Directory, File}

pub each-none : (step : ℕ → ℕ → ℕ) (digest : ℕ) → digest ≡ each step 0 digest
unfolding each
each-none step digest = refl

each-more : (step : ℕ → ℕ → ℕ) (n digest : ℕ) → each step (n + 1) digest ≡ step (each step n digest) n
unfolding each
each-more step n digest = let a : n + 1 ≡ suc n = omega arith in ap (λ k. each step k digest) a

-- a step more
pub each-next : (step : ℕ → ℕ → ℕ) (n digest now next : ℕ) → now ≡ each step n digest → next ≡ step now n
    → next ≡ each step (n + 1) digest
each-next step n digest now next so_far told = told ∙ ap (λ d. step d n) so_far ∙ sym (each-more step n digest)

-- as many steps as there have to be
pub each-all : (step : ℕ → ℕ → ℕ) (n m digest now : ℕ) → now ≡ each step n digest → n ≡ m → now ≡ each step m digest
each-all step n m digest now so_far all = so_far ∙ ap (λ k. each step k digest) all

-- ---- the parts of a kernel's state, as they go into its digest

-- ---- processes

-- a page of a memory goes in, if there is one
abbrev pub pages_step : Memory → ℕ → ℕ → ℕ
pages_step memory digest n = page_or_same digest (slice_get memory n)

pub memory-done : (h : SpaceView) (digest now n pages : ℕ) → pages ≡ length h.memory
    → now ≡ each (pages_step h.memory) n (mix digest pages) → n ≡ pages → now ≡ memory_mixed digest h.memory
unfolding memory_mixed
memory-done h digest now n pages count is all =
    each-all (pages_step h.memory) n (length h.memory) (mix digest pages) now is (all ∙ count)
    ∙ ap (λ k. each (pages_step h.memory) (length h.memory) (mix digest k)) count

-- the process of a slot, by a clock that is set back and without numbers
abbrev timed : Option ℕ → unix.Process → unix.Process
timed None p = p
timed (Some ticks) p = bare (process_set_back ticks p)

-- a process with its space
spaced : (clock : Option ℕ) (h : SpaceView) (o : Option Process)
    → option_map (with_space h) (option_map (bare_by clock) o)
    ≡ option_map (timed clock) (option_map (with_space h) o)
spaced None h None = refl
spaced None h (Some p) = refl
spaced (Some ticks) h None = refl
spaced (Some ticks) h (Some p) = refl

timed-none : (o : Option unix.Process) → o ≡ option_map (timed None) o
timed-none None = refl
timed-none (Some p) = refl

timed-twice : (ticks : ℕ) (o : Option unix.Process)
    → option_map bare (option_map (process_set_back ticks) o) ≡ option_map (timed (Some ticks)) o
timed-twice ticks None = refl
timed-twice ticks (Some p) = refl

place-by : (clock : Option ℕ) (s : State) (i : ℕ)
    → process_at (by_clock clock s) i ≡ option_map (timed clock) (process_at s i)
unfolding bare_state state_set_back
place-by None s i = timed-none (process_at s i)
place-by (Some ticks) s i = slot-map bare (places_set_back ticks s.places) i
    ∙ ap (option_map bare) (slot-map (process_set_back ticks) s.places i)
    ∙ timed-twice ticks (process_at s i)

place-told : (clock : Option ℕ) (k : Kernel) (i digest : ℕ) (o : Option Process) → o ≡ slot (loaded k).places i
    → place_mixed digest (option_map (with_space (view_at k.spaces i)) (option_map (bare_by clock) o))
    ≡ place_mixed digest (process_at (by_clock clock (state_of k)) i)
place-told clock k i digest o is = ap (place_mixed digest)
    (spaced clock (view_at k.spaces i) o
    ∙ ap (λ (p : Option Process). option_map (timed clock) (option_map (with_space (view_at k.spaces i)) p)) is
    ∙ ap (option_map (timed clock)) (sym (process-state k i))
    ∙ sym (place-by clock (state_of k) i))

pub no-place : (clock : Option ℕ) (k : Kernel) (i digest : ℕ) → None ≡ slot (loaded k).places i
    → mix digest 0 ≡ place_mixed digest (process_at (by_clock clock (state_of k)) i)
no-place clock k i digest is = place-told clock k i digest None is

-- a process with its size alone goes in as with its space
bare-same : (digest : ℕ) (h : SpaceView) (p : Process)
    → bare_mixed digest (with_space (record { memory = []; size = h.size }) p) ≡ bare_mixed digest (with_space h p)
unfolding bare_mixed
bare-same digest h p = refl

-- where there is a process there is a space
pub space-there : (k : Kernel) → IsKernel k → (i : ℕ) (p : Process) → Some p ≡ slot (loaded k).places i
    → has_space k.spaces i ≡ true
space-there k sound i p is = sym (match-loaded k sound i) ∙ ap is_some (sym is)

pub place-done : (clock : Option ℕ) (k : Kernel) (i digest size bare now : ℕ) (p : Process)
    → Some p ≡ slot (loaded k).places i → size ≡ (view_at k.spaces i).size
    → bare ≡ bare_mixed digest (with_space (record { memory = []; size = size }) (bare_by clock p))
    → now ≡ memory_mixed bare (view_at k.spaces i).memory
    → now ≡ place_mixed digest (process_at (by_clock clock (state_of k)) i)
place-done clock k i digest size bare now p is long told all =
    let h = view_at k.spaces i in
    let q = bare_by clock p in
    all ∙ ap (λ d. memory_mixed d h.memory)
    (told ∙ ap (λ (n : ℕ). bare_mixed digest (with_space (record { memory = []; size = n }) q)) long
    ∙ bare-same digest h q) ∙ place-told clock k i digest (Some p) is

-- ---- a kernel's descriptors

module _ (k : Kernel) (i digest : ℕ) where
  holder-at : (o : Option Process) → o ≡ slot (loaded k).places i
      → holder_mixed (state_of k) digest (option_map (with_space (view_at k.spaces i)) o)
      ≡ holder_mixed (state_of k) digest (process_at (state_of k) i)
  holder-at o is = ap (holder_mixed (state_of k) digest)
      (ap (option_map (with_space (view_at k.spaces i))) is ∙ sym (process-state k i))

  pub no-holder : None ≡ slot (loaded k).places i
      → digest ≡ holder_mixed (state_of k) digest (process_at (state_of k) i)
  no-holder is = holder-at None is

  pub holder-done : (p : Process) (now : ℕ) → Some p ≡ slot (loaded k).places i
      → now ≡ names_mixed (state_of k) digest p.descriptors
      → now ≡ holder_mixed (state_of k) digest (process_at (state_of k) i)
  holder-done p now is told = told ∙ holder-at (Some p) is

-- ---- the console

abbrev pub typed : Console → List ℕ
typed c = c.committed ++ c.edited

pub byte-next : (xs : List ℕ) (i digest now next : ℕ) → i < length xs → now ≡ mixed digest (take i xs)
    → next ≡ mix now (get_or xs i 0) → next ≡ mixed digest (take (i + 1) xs)
byte-next xs i digest now next low so_far told = told ∙ ap (λ d. mix d (get_or xs i 0)) so_far
    ∙ sym (fold_more mix digest xs i 0 low)

pub console-done : (c : Console) (digest committed edited now n : ℕ) → committed ≡ length c.committed
    → edited ≡ length c.edited
    → now ≡ mixed (mixed digest (committed ∷ edited ∷ [])) (take n (typed c)) → n ≡ committed + edited
    → now ≡ console_mixed digest c
unfolding console_mixed
console-done c digest committed edited now n first second is all =
    is
    ∙ ap (λ xs. mixed (mixed digest (committed ∷ edited ∷ [])) xs)
    (take_all n (typed c) (omega (arith, length-append c.committed c.edited, first, second, all)))
    ∙ ap₂ (λ a b. mixed (mixed digest (a ∷ b ∷ [])) (typed c)) first second

-- ---- the rest

-- the hart's process says nothing of the rest
rest-of : (t : Places) (change : Process → Process) (o : Option ℕ)
    → (t.last ≡ (changed_at t change o).last) × (t.next_pid ≡ (changed_at t change o).next_pid)
rest-of t change None = (refl, refl)
rest-of t change (Some i) = (refl, refl)

-- nor does a clock that is set back, except for the clock
by-rest : (clock : Option ℕ) (s : State)
    → (clock_by clock s.ticks ∷ s.next_pid ∷ s.last ∷ status_number s.halted ∷ []) ≡ front_of (by_clock clock s)
unfolding bare_state state_set_back
by-rest None s = refl
by-rest (Some ticks) s = refl

pub front-state : (clock : Option ℕ) (k : Kernel)
    → (clock_by clock k.ticks ∷ k.table.next_pid ∷ k.table.last ∷ status_number k.halted ∷ [])
    ≡ front_of (by_clock clock (state_of k))
front-state clock k = let rest =
    rest-of k.table (on_hart k.spaces) k.spaces.active
    in ap₂ (λ n l. clock_by clock k.ticks ∷ n ∷ l ∷ status_number k.halted ∷ []) rest.1 rest.0
    ∙ by-rest clock (state_of k)

-- the console says nothing of the clock
pub processes-by : (clock : Option ℕ) (s : State) (front : ℕ)
    → places_mixed (console_mixed front s.console) (by_clock clock s)
    ≡ (let t = by_clock clock s in places_mixed (console_mixed front t.console) t)
unfolding bare_state state_set_back
processes-by None s front = refl
processes-by (Some ticks) s front = refl

-- ---- files that go into a digest step by step

-- so far no access has failed, and the files are as they were
pub record SoFar (old now : Kernel) (is digest : ℕ) : Type 0 where
  pub up : now.tree.failed ≡ false
  pub read : HasRead old now
  pub value : digest ≡ is

pub begun : (k : Kernel) (step : ℕ → ℕ → ℕ) (digest : ℕ) → k.tree.failed ≡ false → SoFar k k (each step 0 digest) digest
begun k step digest up =
    record { up = up; read = record { same = refl; later = omega arith }; value = each-none step digest }

-- what a step makes of a digest
pub step-on : {old now new : Kernel} (step : ℕ → ℕ → ℕ) (n digest : ℕ) {so_far next : ℕ}
    → SoFar old now (each step n digest) so_far → HasRead now new → next ≡ step so_far n
    → SoFar old new (each step (n + 1) digest) next
step-on step n digest {so_far} {next} before read told = record {
  up = ap (λ (k : Kernel). k.tree.failed) read.same ∙ before.up;
  read = read-then before.read read;
  value = each-next step n digest so_far next before.value told;
}

pub all-done : {old now : Kernel} (step : ℕ → ℕ → ℕ) (n m digest : ℕ) {so_far : ℕ}
    → SoFar old now (each step n digest) so_far → n ≡ m
    → ReadsDisk old now (λ told. told ≡ each step m digest) (Ok so_far)
all-done step n m digest {so_far} before all = (before.read, each-all step n m digest so_far before.value all)

-- ---- the bytes of a node

-- a block of bytes goes in
abbrev pub block_step : List ℕ → ℕ → ℕ → ℕ
block_step bytes digest k = bytes_mixed digest (take 1024 (drop (1024 * k) bytes))

read-front : (bytes old new : List ℕ) (at count : ℕ) → length old ≡ 1024 → count ≡ min (length old) (length bytes - at)
    → new ≡ part at count bytes ++ drop count old → take count new ≡ take 1024 (drop at bytes)
read-front bytes old new at count long is told =
    let there : count ≤ length (drop at bytes) = omega (arith, length-drop at bytes) in
    let exact : length (take count (drop at bytes)) ≡ count = length-take-le count (drop at bytes) there in
    let count_is : count ≡ min 1024 (length (drop at bytes)) = omega (arith, length-drop at bytes) in
    rw (
      told,
      take-append-le count (take count (drop at bytes)) (drop count old) (omega (arith, exact)),
      take_all count (take count (drop at bytes)) (omega (arith, exact)),
      count_is,
    ) (take_min 1024 (drop at bytes))

pub block-next : {old now new : Kernel} (number k digest : ℕ) (out : List ℕ) {so_far next count : ℕ} {out' : List ℕ}
    → SoFar old now (each (block_step (bytes_or_none (slot old.tree.files number))) k digest) so_far
    → length out ≡ 1024
    → ReadsDisk now new (IsPart (bytes_or_none (slot now.tree.files number)) (1024 * k) out out') (Ok count)
    → next ≡ bytes_mixed so_far (take count out')
    → SoFar old new (each (block_step (bytes_or_none (slot old.tree.files number))) (k + 1) digest) next
block-next {old} {now} number k digest out {so_far} {count = count} {out' = out'} before long reads told =
    step-on (block_step (bytes_or_none (slot old.tree.files number))) k digest before reads.0
    (told ∙ ap (bytes_mixed so_far)
    (read-front (bytes_or_none (slot now.tree.files number)) out out' (1024 * k) count long reads.1.0 reads.1.1
    ∙ ap (λ (y : Kernel). take 1024 (drop (1024 * k) (bytes_or_none (slot y.tree.files number)))) before.read.same))

-- ---- a node

major-is : (s : InodeStat) (node : Node) → Tells s node → major_told s ≡ major_of node
major-is s (File links bytes) (kind, links_is, size, major) = rw kind refl
major-is s (Device links major minor) (kind, links_is, size, major_is) = rw kind major_is
major-is s (Directory links places) (kind, links_is, size, major) = rw kind refl

no-node : {told : Option InodeStat} (digest now : ℕ) (o : Option Node) → told ≡ None → TellsAny told o
    → now ≡ mix digest 0 → now ≡ node_mixed digest o
no-node digest now None is tells mixed_is = mixed_is
no-node digest now (Some node) is tells mixed_is =
    absurd (subst (λ (t : Option InodeStat). TellsAny t (Some node)) is tells)

numbers-same : (s : InodeStat) (node : Node) → Tells s node
    → node_numbers s ≡ (kind_of node ∷ links_of node ∷ size_of node ∷ major_of node ∷ [])
numbers-same s node tells = rw (major-is s node tells, tells.0, tells.1, tells.2) refl

node-same : (s : InodeStat) (o : Option Node) (digest : ℕ) → TellsAny (Some s) o
    → contents_mixed (mixed digest (node_numbers s)) s.size (bytes_or_none o) ≡ node_mixed digest o
node-same s None digest tells = absurd tells
node-same s (Some node) digest tells =
    ap₂ (λ numbers size. contents_mixed (mixed digest numbers) size (node_bytes node)) (numbers-same s node tells)
    tells.2

-- no number of the disk's: nothing was read but that
pub none-done : {old new : Kernel} {told : Option InodeStat} (digest now number : ℕ)
    → ReadsDisk old new (λ t. TellsAny t (slot old.tree.files number)) (Ok told) → told ≡ None → now ≡ mix digest 0
    → ReadsDisk old new (λ d. d ≡ node_mixed digest (slot old.tree.files number)) (Ok now)
none-done {old = old} digest now number reads is mixed_is =
    (reads.0, no-node digest now (slot old.tree.files number) is reads.1 mixed_is)

-- after a look at the inode, what goes on holds of the whole
pub node-done : {old mid : Kernel} (new : Kernel) {told : Option InodeStat} {s : InodeStat} {front : ℕ}
    (digest number : ℕ) (r : Result ℕ DeviceFault)
    → ReadsDisk old mid (λ t. TellsAny t (slot old.tree.files number)) (Ok told) → told ≡ Some s
    → front ≡ mixed digest (node_numbers s)
    → ReadsDisk mid new (λ d. d ≡ contents_mixed front s.size (bytes_or_none (slot mid.tree.files number))) r
    → ReadsDisk old new (λ d. d ≡ node_mixed digest (slot old.tree.files number)) r
node-done new digest number (Err fault) look is front_is lost = lost-then look.0 lost
node-done {old = old} new {s = s} {front = front} digest number (Ok d) look is front_is reads =
    let tells : TellsAny (Some s) (slot old.tree.files number) =
    subst (λ (t : Option InodeStat). TellsAny t (slot old.tree.files number)) is look.1 in (
      read-then look.0 reads.0,
      reads.1
          ∙ ap (λ (k : Kernel). contents_mixed front s.size (bytes_or_none (slot k.tree.files number))) look.0.same
          ∙ ap (λ d. contents_mixed d s.size (bytes_or_none (slot old.tree.files number))) front_is
          ∙ node-same s (slot old.tree.files number) digest tells,
    )

-- ---- all nodes

pub node-next : {old now new : Kernel} (n digest : ℕ) {so_far next : ℕ}
    → SoFar old now (each (λ d n. node_mixed d (slot old.tree.files n)) n digest) so_far
    → ReadsDisk now new (λ d. d ≡ node_mixed so_far (slot now.tree.files n)) (Ok next)
    → SoFar old new (each (λ d n. node_mixed d (slot old.tree.files n)) (n + 1) digest) next
node-next {old = old} n digest {so_far = so_far} before reads =
    step-on (λ d n. node_mixed d (slot old.tree.files n)) n digest before reads.0
    (reads.1 ∙ ap (λ (k : Kernel). node_mixed so_far (slot k.tree.files n)) before.read.same)
