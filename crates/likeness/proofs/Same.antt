-- What two kernels have in common, part by part.
use Rattle.std.proofs.Common.{Bool, List, None, Option, Some, [], ap, ap₂, arith, drop, false, length}
use Rattle.std.proofs.Common.{get_or, not, refl, suc, sym, take, true, zero, ℕ, ℤ, ◌++◌, ◌+◌, ◌<◌, ◌∙◌, ◌∷◌}
use Rattle.std.proofs.Common.{◌≡◌}
use Rattle.std.proofs.lemmas.Bool.{OnTrue_at, OnTrue_from}
use Rattle.std.proofs.lemmas.Bool.Decides.{Decides-int_eq}
use Rattle.std.proofs.lemmas.List.{ext_get_or, length-append, length-map}
use Rattle.std.proofs.Math.Seq.{drop-append_seam, take-append_seam}
use Rattle.std.specs.Bool.{Decides, OnTrue}
use Rattle.std.specs.Option.{option_eq}
use Rattle.std.specs.Ordering.{int_eq}
use Rattle.std.specs.Prelude.{is_some, option_map, slice_get}
use Rattle.digests.specs.Reads.{process_by}
use Rattle.kernel.proofs.Changes.{length-active}
use Rattle.kernel.proofs.Holding.{slot-map}
use Rattle.kernel.proofs.Joined.{length-joined}
use Rattle.kernel.proofs.Readies.{process-state}
use Rattle.kernel.specs.Kernel.{Kernel, loaded, on_hart, state_of}
use Rattle.kernel.specs.Sound.{IsKernel}
use Rattle.kernel.specs.Whole.{with_space}
use Rattle.likeness.specs.Likeness.{AreSameButFiles, with_descriptors_of}
use Rattle.proc.specs.declared.process.Process.{Process}
use Rattle.proc.specs.Places.{Places, changed_at}
use Rattle.renumbering.specs.Alike.{AlikeUpToNumbers}
use Rattle.renumbering.specs.Pairs.{BothFit, EachFits, FittingStatesAreRenumbered, IsPair, Pairs, ProcessesFit}
use Rattle.schedules.specs.Alike.{process_set_back, state_set_back, timeless}
use Rattle.spaces.specs.Spaces.{SpaceView, view_at}
use Rattle.unixmodel.specs.Console.{Console}
use Rattle.unixmodel.specs.declared.call.Call.{Call}
use Rattle.unixmodel.specs.declared.process.Mode.{Mode}
use Rattle.unixmodel.specs.declared.process.Pending.{Pending}
use Rattle.unixmodel.specs.Files.{slot}
use Rattle.unixmodel.specs.State.{State, process_at}

-- ---- lists

-- slots that agree
pub slots-same : {X : Type 0} (xs ys : List (Option X)) → length xs ≡ length ys
    → ((k : ℕ) → k < length xs → slot xs k ≡ slot ys k) → xs ≡ ys
slots-same xs ys long each = ext_get_or None xs ys long each

some-same : {X : Type 0} {x y : X} → Some x ≡ Some y → x ≡ y
some-same h = cc

-- entries that agree
pub entries-same : {X : Type 0} (xs ys : List X) → length xs ≡ length ys
    → ((k : ℕ) → k < length xs → slice_get xs k ≡ slice_get ys k) → xs ≡ ys
entries-same [] [] long each = refl
entries-same [] (y ∷ ys) long each = absurd (omega arith)
entries-same (x ∷ xs) [] long each = absurd (omega arith)
entries-same (x ∷ xs) (y ∷ ys) long each =
    ap₂ (λ z zs. z ∷ zs) (some-same (each zero (omega arith)))
    (entries-same xs ys (omega arith) (λ k h. each (suc k) (omega arith)))

-- ---- tests

option-decides : {A : Type 0} (E : A → A → Bool) → ((a b : A) → Decides (E a b) (a ≡ b)) → (o p : Option A)
    → Decides (option_eq E o p) (o ≡ p)
option-decides E each None None = (λ h. refl, λ h. refl)
option-decides E each None (Some b) = (λ h. absurd (cc), λ h. absurd (cc))
option-decides E each (Some a) None = (λ h. absurd (cc), λ h. absurd (cc))
option-decides E each (Some a) (Some b) = (λ h. ap Some ((each a b).0 h), λ h. (each a b).1 (some-same h))

-- what `==` says of two statuses
pub status-same : (same : Bool) (o p : Option ℤ) → same ≡ option_eq int_eq o p → OnTrue same (o ≡ p)
status-same same o p is =
    OnTrue_from same _ (λ agreed. (option-decides int_eq Decides-int_eq o p).0 (sym is ∙ agreed))

-- ---- processes

abbrev pending_of : Call → List ℕ → ℕ → ℕ → Pending
pending_of number args done since = record { number = number; args = args; done = done; since = since }

pub pending-same : (v w : Pending) → v.number ≡ w.number → v.args ≡ w.args → v.done ≡ w.done → v.since ≡ w.since → v ≡ w
pending-same v w number args done since =
    ap₂ (λ n a. pending_of n a v.done v.since) number args ∙ ap₂ (λ d s. pending_of w.number w.args d s) done since

abbrev process_of : ℕ → ℕ → List ℕ → ℕ → List (Option ℕ) → ℕ → Bool → Mode → Process
process_of pid parent registers pc descriptors directory killed mode = record {
  pid = pid;
  parent = parent;
  registers = registers;
  pc = pc;
  descriptors = descriptors;
  directory = directory;
  killed = killed;
  mode = mode;
}

process-same : (p q : Process) → p.pid ≡ q.pid → p.parent ≡ q.parent → p.registers ≡ q.registers → p.pc ≡ q.pc
    → p.descriptors ≡ q.descriptors → p.directory ≡ q.directory → p.killed ≡ q.killed → p.mode ≡ q.mode → p ≡ q
process-same p q pid parent registers pc descriptors directory killed mode =
    ap₂ (λ a b. process_of a b p.registers p.pc p.descriptors p.directory p.killed p.mode) pid parent
    ∙ ap₂ (λ a b. process_of q.pid q.parent a b p.descriptors p.directory p.killed p.mode) registers pc
    ∙ ap₂ (λ a b. process_of q.pid q.parent q.registers q.pc a b p.killed p.mode) descriptors directory
    ∙ ap₂ (λ a b. process_of q.pid q.parent q.registers q.pc q.descriptors q.directory a b) killed mode

-- all is equal but the descriptors
pub same-but-descriptors : (p q : Process) → p.pid ≡ q.pid → p.parent ≡ q.parent → p.registers ≡ q.registers
    → p.pc ≡ q.pc → p.directory ≡ q.directory → p.killed ≡ q.killed → p.mode ≡ q.mode → q ≡ with_descriptors_of q p
same-but-descriptors p q pid parent registers pc directory killed mode = sym (
    process-same (with_descriptors_of q p) q pid parent registers pc refl directory killed mode)

place-here : (k : Kernel) (i : ℕ) (o : Option Process) → o ≡ slot (loaded k).places i
    → process_at (timeless (state_of k)) i
    ≡ option_map (with_space (view_at k.spaces i)) (option_map (process_by (Some k.ticks)) o)
unfolding state_set_back
place-here k i o is =
    slot-map (process_set_back k.ticks) (state_of k).places i
    ∙ ap (option_map (process_set_back k.ticks)) (process-state k i)
    ∙ ap (λ (p : Option Process). option_map (process_set_back k.ticks)
    (option_map (with_space (view_at k.spaces i)) p))
    (sym is)
    ∙ swap o
  where
    swap : (o : Option Process)
        → option_map (process_set_back k.ticks) (option_map (with_space (view_at k.spaces i)) o)
        ≡ option_map (with_space (view_at k.spaces i)) (option_map (process_by (Some k.ticks)) o)
    swap None = refl
    swap (Some p) = refl

both-at : {X : Type 0} (Fits : X → X → Type 0) {o o' u u' : Option X} → o ≡ o' → u ≡ u' → BothFit Fits o' u'
    → BothFit Fits o u
both-at Fits first second fits = rw (first, second) fits

module _ (k l : Kernel) (i : ℕ) (pairs : Pairs) where
  abbrev PlacesFit : Type 0
  PlacesFit = BothFit (ProcessesFit pairs) (process_at (timeless (state_of k)) i)
      (process_at (timeless (state_of l)) i)

  -- no process, and whether the other kernel has none
  pub none-fit : (none : Bool) (o : Option Process) → None ≡ slot (loaded k).places i → o ≡ slot (loaded l).places i
      → is_some o ≡ not none → OnTrue none PlacesFit
  none-fit none None first second is =
      OnTrue_from none PlacesFit (λ agreed.
      both-at (ProcessesFit pairs) (place-here k i None first) (place-here l i None second) tt)
  none-fit none (Some p) first second is =
      OnTrue_from none PlacesFit (λ agreed. absurd (let both : true ≡ false = is ∙ ap not agreed in cc))

  pub place-fit : (fit : Bool) (p q : Process) → Some p ≡ slot (loaded k).places i
      → Some q ≡ slot (loaded l).places i
      → process_by (Some l.ticks) q ≡ with_descriptors_of q (process_by (Some k.ticks) p)
      → view_at k.spaces i ≡ view_at l.spaces i → OnTrue fit (EachFits (IsPair pairs) p.descriptors q.descriptors)
      → OnTrue fit PlacesFit
  place-fit fit p q first second alike spaces named = OnTrue_from fit PlacesFit (λ agreed.
      both-at (ProcessesFit pairs) (place-here k i (Some p) first) (place-here l i (Some q) second) (record {
        descriptors = OnTrue_at agreed named;
        rest = ap₂ (λ (h : SpaceView) (r : Process). with_space h r) (sym spaces) alike;
      }))

-- ---- how many slots there are

pub places-long : (k : Kernel) → IsKernel k → length (timeless (state_of k)).places ≡ 64
unfolding state_set_back
places-long k sound =
    length-map (state_of k).places (option_map (process_set_back k.ticks))
    ∙ length-joined (loaded k).places k.spaces.places
    ∙ length-active k k.spaces.active
    ∙ sound.all

pub opens-long : (k : Kernel) → IsKernel k → length (state_of k).opens ≡ 100
opens-long k sound = length-map k.files _ ∙ sound.opened.table.all

-- ---- typed bytes

abbrev console_of : List ℕ → List ℕ → Console
console_of committed edited = record { committed = committed; edited = edited }

pub typed-same : (c d : Console) → length c.committed ≡ length d.committed → length c.edited ≡ length d.edited
    → ((k : ℕ) → k < length c.committed + length c.edited
    → get_or (c.committed ++ c.edited) k 0 ≡ get_or (d.committed ++ d.edited) k 0) → c ≡ d
typed-same c d committed edited each =
    let all : c.committed ++ c.edited ≡ d.committed ++ d.edited =
    ext_get_or 0 (c.committed ++ c.edited) (d.committed ++ d.edited)
    (omega (arith, length-append {A = ℕ}, committed, edited))
    (λ k low. each k (omega (arith, length-append {A = ℕ}))) in
    let front : c.committed ≡ d.committed = sym (take-append_seam c.committed c.edited)
    ∙ ap₂ (λ n xs. take n xs) committed all ∙ take-append_seam d.committed d.edited in
    let back : c.edited ≡ d.edited = sym (drop-append_seam c.committed c.edited)
    ∙ ap₂ (λ n xs. drop n xs) committed all ∙ drop-append_seam d.committed d.edited in
    ap₂ console_of front back

-- ---- the whole

rest-of : (t : Places) (change : Process → Process) (o : Option ℕ)
    → ((changed_at t change o).last ≡ t.last) × ((changed_at t change o).next_pid ≡ t.next_pid)
rest-of t change None = (refl, refl)
rest-of t change (Some i) = (refl, refl)

next-pid : (k : Kernel) → (state_of k).next_pid ≡ k.table.next_pid
next-pid k = let rest = rest-of k.table (on_hart k.spaces) k.spaces.active in rest.1

last-picked : (k : Kernel) → (state_of k).last ≡ k.table.last
last-picked k = let rest = rest-of k.table (on_hart k.spaces) k.spaces.active in rest.0

pub next-same : (k l : Kernel) (t u : Places) → t ≡ k.table → u ≡ l.table → t.next_pid ≡ u.next_pid
    → (state_of k).next_pid ≡ (state_of l).next_pid
next-same k l t u first second same = next-pid k ∙ sym (ap (λ (x : Places). x.next_pid) first) ∙ same
    ∙ ap (λ (x : Places). x.next_pid) second ∙ sym (next-pid l)

pub last-same : (k l : Kernel) (t u : Places) → t ≡ k.table → u ≡ l.table → t.last ≡ u.last
    → (state_of k).last ≡ (state_of l).last
last-same k l t u first second same = last-picked k ∙ sym (ap (λ (x : Places). x.last) first) ∙ same
    ∙ ap (λ (x : Places). x.last) second ∙ sym (last-picked l)

pub alike-by : FittingStatesAreRenumbered → (s t : State) → AreSameButFiles s t → s.files ≡ t.files
    → AlikeUpToNumbers s t
unfolding state_set_back
alike-by law s t same files = law (timeless s) (timeless t) (record {
  files = same.pairs.files;
  pipes = same.pairs.pipes;
  places = same.pairs.places;
  open_files = same.pairs.open_files;
  held = same.pairs.held;
  rest = rw (
    files,
    same.console,
    same.next_pid,
    same.last,
    same.frame_limit,
    same.block_limit,
    same.halted,
  ) refl;
})
