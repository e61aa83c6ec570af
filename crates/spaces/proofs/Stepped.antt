-- A step of the hart in the space of the active slot.
use Rattle.spaces.proofs.Common.{Ram, Held, Narrows, changed, ◌≡◌, ◌⊎◌, inl, inr, ℕ, ◌/◌, ◌≤◌, true, List, Option, Some}
use Rattle.spaces.proofs.Common.{None, refl, sym, ap, ◌∙◌, memory_of, Store, Perm, Memory, page_for, marks_at}
use Rattle.spaces.proofs.Common.{entry_marks, right_marks, user_leaf, arith, Err, IfSome, length, map, slice_set, subst}
use Rattle.spaces.proofs.Common.{set-get_or, IfNone, Frames, memory_of-cycle, cycle-again, WritesOnly, Hart, IsMemory}
use Rattle.spaces.proofs.Common.{FrameNo, coherent-kept, shows-coherent, IsCoherent, Mapped, Shows, WalksTo, cycle}
use Rattle.spaces.proofs.Common.{slot, Effect, trap, memory_after, HoldsInside, HoldsNothing, IsKept, StorePageFault}
use Rattle.spaces.proofs.Common.{Trap, trade-machine, trade-others, walks-entries, IsMachine, OthersUntouched}
use Rattle.spaces.proofs.Common.{entries_of, holds, IsMapped, IsRearranged, IsSpace, mapping_of, pages_in, pages_of}
use Rattle.spaces.proofs.Common.{Stands, Space, Does, Spaces, SpaceView, Traps, view_at, with_place, IsSpaces}
use Rattle.spaces.proofs.Common.{pipe_frames, pipe_shown, Runs, shown, spaces_of, view_with, Inside, DoesOne, Point}
use Rattle.spaces.proofs.Common.{point_of, Executes}
use Rattle.hart.proofs.ChangeLemmas.{IsDone, IsTrapped, follows-cases, follows-only}
use Rattle.hart.specs.Follows.{Follows}
use Rattle.spaces.proofs.Places.{pipes-beside, held-is, slot-is}
use Rattle.spaces.proofs.SpacesLemmas.{within}
use Rattle.spaces.proofs.Shown.{with_holders, same-place, shown-as, shown-placed}
use Rattle.spaces.proofs.Traded.{reframed-showing}
use Rattle.spaces.proofs.Rights.{changed-right, done-right, let_through, narrows, opened-alike, sound, stands-only}
use Rattle.spaces.proofs.Rights.{trap-right}
use Rattle.sv39.proofs.WalkLemmas.{walk_page-inside}
use Rattle.unixmodel.specs.declared.trap.Cause.{Cause}

-- ---- the space of the active slot

-- the fields where the hart has run
abbrev pub ran_by : {T : Type 0} → Inside T → T → Hart → Ram → Inside T
ran_by i t h k = record i { memory = with_holders k i.memory.frames; translator = t; hart = h }

-- the hart's next cycle on a memory
abbrev pub cycle_on : {T : Type 0} → Inside T → Memory → Effect
cycle_on i memory = cycle i.hart.registers i.hart.pc memory

-- how the step of the active slot ends
abbrev pub Stopped : Option ℕ → Spaces → Spaces → Trap → Type 0
Stopped a old new c = IfSome a (λ at. Traps old new at c)

abbrev pub Comes : Option ℕ → Spaces → Spaces → Option Trap → Type 0
Comes a old new result = IfNone result (IfSome a (Executes old new)) × IfSome result (Stopped a old new)

pub record IsRun {T : Type 0} (held : T → Held) (i : Inside T) (at : ℕ) (x : Space) : Type 0 where
  pub is : IsSpaces held i
  pub active : i.active ≡ Some at
  pub loaded : i.loaded ≡ Some at
  pub stands : slot i.places.items at ≡ Some x
  pub same : i.hart.root.0 ≡ x.root.0
  pub coherent : IsCoherent (held i.translator) x.root.0 (entries_of i.memory.ram x)

pub run-of : {T : Type 0} {held : T → Held} {i : Inside T} {at : ℕ} → IsSpaces held i
    → i.active ≡ Some at → (x : Space) × IsRun held i at x
run-of {held} {i} {at} is e =
    let loaded : i.loaded ≡ Some at = rw e at is.active in
    let run : Runs (held i.translator) i.memory.ram i.hart.root.0 i.places.items at = rw loaded at is.loaded in (
      run.space,
      record {
        is = is;
        active = e;
        loaded = loaded;
        stands = run.stands;
        same = run.same;
        coherent = run.coherent;
      },
    )

pub run-at : {T : Type 0} {held : T → Held} {i : Inside T} {at : ℕ} (x : Space) → IsSpaces held i
    → i.active ≡ Some at → slot i.places.items at ≡ Some x → IsRun held i at x
run-at {held} {i} {at} x is e stands =
    let run = run-of is e in
    let both : Some run.0 ≡ Some x = sym run.1.stands ∙ stands in
    let same : run.0 ≡ x = cc in
    subst (λ (d : Space). IsRun held i at d) same run.1

-- the spaces are intact in a memory, and the tables of the running one show what they showed
pub record IsHere {T : Type 0} (i : Inside T) (x : Space) (m : Ram) : Type 0 where
  pub machine : IsMachine m i.memory.frames i.places.items (pipe_frames i.pipes.items)
  pub entries : entries_of m x ≡ entries_of i.memory.ram x
  pub count : length m ≡ length i.memory.ram

-- the values where the hart is at a point
abbrev pub spaces_at : {T : Type 0} → Inside T → Point → Spaces
spaces_at i p = record {
  places = map (shown p.ram) i.places.items;
  active = i.active;
  registers = p.registers;
  pc = p.pc;
  frames = length p.ram;
  pipes = map (pipe_shown p.ram) i.pipes.items;
}

module _ {T : Type 0} {held : T → Held} {i : Inside T} {at : ℕ} {x : Space} (r : IsRun held i at x) where
  pub here : IsHere i x i.memory.ram
  here = record { machine = r.is.machine; entries = refl; count = refl }

  module _ {m k : Ram} (here : IsHere i x m) (wrote : WritesOnly m (entries_of i.memory.ram x) k) where
    stands-here : Stands m k x
    stands-here = let space =
        here.machine.each at x r.stands in stands-only m k x space.dense space.once (rw here.entries wrote)

    pub here-more : IsHere i x k
    here-more =
        let space = here.machine.each at x r.stands in
        let s = stands-here in
        record {
          machine = rw (same-place i.places.items at x r.stands)
              (trade-machine m k i.memory.frames i.memory.frames i.places.items (pipe_frames i.pipes.items)
              at (Some x) here.machine (within i.places.items at x r.stands) (s.space i.memory.frames space)
              (rw r.stands (s.trades i.memory.frames space)));
          entries = s.entries ∙ here.entries;
          count = s.count ∙ here.count;
        }

  -- an instruction that the hart does by what the walk lets through
  pub point-does : (old new : Point) → IsHere i x old.ram → DoesOne (entries_of i.memory.ram x) old new
      → Does (spaces_at i old) at (spaces_at i new)
  point-does old new here one =
      let m = old.ram in
      let k = new.ram in
      let d = one.done in
      let space = here.machine.each at x r.stands in
      let by_right = done-right m x old.registers old.pc space.dense d (rw here.entries one.means) in
      let s = stands-here here one.writes in
      let memory : k ≡ changed m (entries_of m x) d.change = ap (λ (p : Point). p.ram) one.leaves
      ∙ ap (λ (e : List Mapped). changed m e d.change) (sym here.entries) in
      let after : pages_of k x ≡ memory_after (pages_of m x) d.change =
      ap (memory_of k) s.mapping
      ∙ ap (λ r. memory_of r (mapping_of m x)) (memory ∙ changed-right m x.root.0 (pages_in x.size) d.change)
      ∙ memory_of-cycle m (mapping_of m x) old.registers old.pc d (sound right_marks m x space.dense space.once)
      by_right in
      let others : OthersUntouched m k i.places.items at =
      trade-others m k i.memory.frames i.memory.frames i.places.items (pipe_frames i.pipes.items) (holds k x)
      at here.machine (rw r.stands (s.trades i.memory.frames space)) in
      let pipes = pipes-beside m k i.memory.frames i.memory.frames i.places.items i.pipes.items (holds k x)
      at here.machine (rw r.stands (s.trades i.memory.frames space)) in
      let places : map (shown k) i.places.items
      ≡ slice_set (map (shown m) i.places.items)
      at (Some (view_with (memory_after (pages_of m x) d.change) x.size)) =
      ap (map (shown k)) (same-place i.places.items at x r.stands)
      ∙ shown-placed m k i.places.items at (Some x) others
      ∙ ap (slice_set (map (shown m) i.places.items) at)
      (shown-as k x (memory_after (pages_of m x) d.change) x.size after refl) in
      let seen : view_at (spaces_at i old) at ≡ view_with (pages_of m x) x.size =
      held-is (record i { memory = with_holders m i.memory.frames }) _ r.stands in
      let registers : new.registers ≡ d.regs = ap (λ (p : Point). p.registers) one.leaves in
      let pc : new.pc ≡ d.pc = ap (λ (p : Point). p.pc) one.leaves in
      record { done = d; means = rw seen by_right; leaves = rw (seen, registers, pc, places, pipes, s.count) refl }

  -- the fields where the hart has run, and writes have left this memory
  pub sound-run : (t : T) (h : Hart) (k : Ram) → IsHere i x k → h.root ≡ i.hart.root
      → IsCoherent (held t) x.root.0 (entries_of i.memory.ram x) → HoldsInside (held t) k
      → IsSpaces held (ran_by i t h k)
  sound-run t h k here root coherent inside =
      let now : Runs (held t) k h.root.0 i.places.items at =
      record {
        space = x;
        stands = r.stands;
        same = ap (λ (f : FrameNo). f.0) root ∙ r.same;
        coherent = rw here.entries coherent;
      } in
      record {
        machine = here.machine;
        all = r.is.all;
        loaded = rw r.loaded now;
        active = r.is.active;
        inside = inside;
        pipes = r.is.pipes;
        both = r.is.both;
      }

-- ---- a step

kept-inside : (old new : Held) (m k : Ram) (root : ℕ) → length k ≡ length m → HoldsInside old m → IsKept old new m root
    → HoldsInside new k
kept-inside old new m k root same inside kept t holds = elim (kept t holds) [
  | inl was ↦ (let h = inside t was in omega (arith, same, h))
  | inr now ↦ (let h = walk_page-inside m t.root t.page t.access t.frame now.1 in omega (arith, same, h))
]

-- what a step of the hart did
pub record Steps {T : Type 0} (held : T → Held) (i : Inside T) (t : T) (h : Hart) (k : Ram) (result : Option Trap)
    : Type 0 where
  pub memory : IsMemory i.memory.ram
  pub small : length i.memory.ram ≤ 32768
  pub step : (mapping : List Mapped) → Shows (held i.translator) i.memory.ram i.hart.root.0 mapping
      → Follows (cycle_on i (memory_of i.memory.ram mapping)) mapping result i.hart h i.memory.ram k
  pub kept : IsKept (held i.translator) (held t) i.memory.ram i.hart.root.0
  pub count : length k ≡ length i.memory.ram

-- a trap leaves the memory and the hart
record Trapped {T : Type 0} (i : Inside T) (h : Hart) (k : Ram) (c : Trap) (x : Space) : Type 0 where
  low : cycle_on i (let_through i.memory.ram x) ≡ Err c
  pub hart : h ≡ i.hart
  pub memory : k ≡ i.memory.ram

-- the fields once a page was opened and the translator fenced
pub record Reopened {T : Type 0} (held : T → Held) (i j : Inside T) (at : ℕ) (x : Space) : Type 0 where
  pub run : IsRun held j at x
  pub view : spaces_of j ≡ spaces_of i
  pub hart : j.hart ≡ i.hart
  pub pages : pages_of j.memory.ram x ≡ pages_of i.memory.ram x

same-value : (v : Spaces) (at : ℕ) (y : Option SpaceView) → slot v.places at ≡ y → with_place v at y ≡ v
same-value v at y e = ap (λ (l : List (Option SpaceView)). record v { places = l })
    (ap (slice_set v.places at) (sym e) ∙ set-get_or v.places at None)

-- what holds of slot `at` holds of the active slot
for-active : {a : Option ℕ} {at : ℕ} (P : ℕ → Type 0) → a ≡ Some at → P at → IfSome a P
for-active P e p = rw e p

module _ {T : Type 0} {held : T → Held} {i : Inside T} {t : T} {h : Hart} {k : Ram} {result : Option Trap} {at : ℕ}
    {x : Space} (r : IsRun held i at x) (s : Steps held i t h k result) where
  walks : WalksTo i.memory.ram x.root.0 (entries_of i.memory.ram x)
  walks = walks-entries i.memory.ram x.root.0 x.trap.0 (pages_in x.size) s.small (r.is.machine.each at x r.stands).dense

  follows : Follows (cycle_on i (let_through i.memory.ram x)) (entries_of i.memory.ram x) result i.hart h i.memory.ram k
  follows = s.step (entries_of i.memory.ram x)
      (rw r.same (shows-coherent (held i.translator) i.memory.ram x.root.0 (entries_of i.memory.ram x) walks
      r.coherent))

  came : IsDone (cycle_on i (let_through i.memory.ram x)) (entries_of i.memory.ram x) result i.hart h i.memory.ram k
      ⊎ IsTrapped (cycle_on i (let_through i.memory.ram x)) result i.hart h i.memory.ram k
  came = follows-cases (cycle_on i (let_through i.memory.ram x)) (entries_of i.memory.ram x) result i.hart h
      i.memory.ram k follows

  wrote : WritesOnly i.memory.ram (entries_of i.memory.ram x) k
  wrote =
      let space = r.is.machine.each at x r.stands in
      follows-only i.hart.registers i.hart.pc (entries_of i.memory.ram x) result i.hart h i.memory.ram k s.memory
      (sound entry_marks i.memory.ram x space.dense space.once) follows

  same-root : h.root ≡ i.hart.root
  same-root = elim came [ inl done ↦ done.root | inr trapped ↦ ap (λ (x : Hart). x.root) trapped.hart ]

  -- it leaves the fields sound
  pub sound-stepped : IsSpaces held (ran_by i t h k)
  sound-stepped =
      let kept : IsKept (held i.translator) (held t) i.memory.ram x.root.0 = rw r.same at s.kept in
      sound-run r t h k (here-more r (here r) wrote) same-root
      (coherent-kept (held i.translator) (held t) i.memory.ram x.root.0 (entries_of i.memory.ram x) walks r.coherent
      kept)
      (kept-inside (held i.translator) (held t) i.memory.ram k i.hart.root.0 s.count r.is.inside s.kept)

  -- an instruction was done
  pub step-done : result ≡ None → IfSome i.active (Executes (spaces_of i) (spaces_of (ran_by i t h k)))
  step-done none = elim came [
    | inl done ↦
        let one : DoesOne (entries_of i.memory.ram x) (point_of i.hart i.memory.ram) (point_of h k) =
        record {
          done = done.done;
          means = done.is;
          leaves = rw (done.registers, done.pc, done.memory) refl;
          writes = wrote;
        } in
        let does = point-does r (point_of i.hart i.memory.ram) (point_of h k) (here r) one in
        for-active (Executes (spaces_of i) (spaces_of (ran_by i t h k))) r.active (does.done, does.means, does.leaves)
    | inr trapped ↦ absurd (let bad = sym none ∙ trapped.result_is in cc)
  ]

  trapped : (c : Trap) → result ≡ Some c → Trapped i h k c x
  trapped c e = elim came [
    | inl done ↦ absurd (let bad = sym done.result_is ∙ e in cc)
    | inr stopped ↦
        let both : Some stopped.cause ≡ Some c = sym stopped.result_is ∙ e in
        let same : stopped.cause ≡ c = cc in
        record { low = stopped.is ∙ ap Err same; hart = stopped.hart; memory = stopped.memory }
  ]

  -- or a trap was raised, which is one by right, too
  trap-at : (c : Trap) → result ≡ Some c → cycle_on i (pages_of i.memory.ram x) ≡ Err c
      → Stopped i.active (spaces_of i) (spaces_of (ran_by i t h k)) c
  trap-at c e right =
      let left = trapped c e in
      let both : Traps (spaces_of i) (spaces_of (ran_by i t h k)) at c =
      rw (held-is i _ r.stands) (right, rw (left.hart, left.memory) refl) in
      for-active (λ at. Traps (spaces_of i) (spaces_of (ran_by i t h k)) at c) r.active both

  pub step-trap : (c : Trap) → result ≡ Some c
      → (c.cause ≡ StorePageFault → page_for Store (pages_of k x) c.address ≡ None)
      → Stopped i.active (spaces_of i) (spaces_of (ran_by i t h k)) c
  step-trap c e closed =
      let left = trapped c e in
      let none : c.cause ≡ StorePageFault
      → page_for Store (pages_of i.memory.ram x) c.address ≡ None =
      subst (λ (m : Ram). c.cause ≡ StorePageFault → page_for Store (pages_of m x) c.address ≡ None)
      left.memory closed in
      trap-at c e (trap-right i.memory.ram x i.hart.registers i.hart.pc (r.is.machine.each at x r.stands).dense c
      left.low
      none)

  -- so the space is intact
  pub trap-space : (c : Trap) → result ≡ Some c → IsSpace k x i.memory.frames
  trap-space c e = subst (λ (m : Ram). IsSpace m x i.memory.frames) (sym (trapped c e).memory)
      (r.is.machine.each at x r.stands)

  pub reopened : (u : T) (l : Ram) (n : Frames) (c : Trap) → result ≡ Some c → IsRearranged k l x i.memory.frames n
      → HoldsNothing (held u) → Reopened held i (record i { memory = with_holders l n; translator = u; hart = h }) at x
  reopened u l n c e re fenced =
      let left = trapped c e in
      let arranged : IsRearranged i.memory.ram l x i.memory.frames n =
      subst (λ (m : Ram). IsRearranged m l x i.memory.frames n) left.memory re in
      let placed = reframed-showing r.is
      at x l n u (pages_of i.memory.ram x) r.stands arranged.frames (λ v has. absurd (fenced v has)) (λ a. fenced)
      arranged.pages in
      rw left.hart (record {
        run = run-at x placed.sound r.active r.stands;
        view = placed.view ∙ same-value (spaces_of i)
            at (Some (view_with (pages_of i.memory.ram x) x.size)) (slot-is i at (Some x) r.stands);
        hart = refl;
        pages = arranged.pages;
      })

  -- a store that faulted is done again, once its page was opened
  same-again : (m : Ram) (c : Trap) (g : Perm) → result ≡ Some c → c.cause ≡ StorePageFault → IsMapped m x
      → pages_of m x ≡ pages_of i.memory.ram x → marks_at m x.root.0 (c.address / 4096) ≡ user_leaf g true
      → cycle_on i (let_through m x) ≡ cycle_on i (pages_of m x)
  same-again m c g e store mapped pages made =
      let down = narrows i.memory.ram x (r.is.machine.each at x r.stands).dense in
      let fault = (trapped c e).low ∙ ap (λ (u : Cause). trap u c.address) store in
      cycle-again i.hart.registers i.hart.pc c.address (let_through i.memory.ram x) (let_through m x) (pages_of m x)
      (subst (Narrows (let_through i.memory.ram x)) (sym pages) down) (narrows m x mapped)
      (opened-alike m x.root.0 (pages_in x.size) c.address g made) fault

-- either of the two
outcome : {T : Type 0} {held : T → Held} {i : Inside T} {t : T} {h : Hart} {k : Ram} {at : ℕ} {x : Space}
    (result : Option Trap) → IsRun held i at x → Steps held i t h k result
    → cycle_on i (let_through i.memory.ram x) ≡ cycle_on i (pages_of i.memory.ram x)
    → Comes i.active (spaces_of i) (spaces_of (ran_by i t h k)) result
outcome None r s right = (step-done r s refl, tt)
outcome (Some c) r s right = (tt, trap-at r s c refl (sym right ∙ (trapped r s c refl).low))

-- what the second step did, in terms of the values before the first: j are the fields between
pub second : {T : Type 0} {held : T → Held} {i j : Inside T} {t u : T} {h o : Hart} {k l : Ram}
    {result again : Option Trap} {at : ℕ} {x : Space} (c : Trap) (g : Perm) → IsRun held i at x
    → Steps held i t h k result → result ≡ Some c → c.cause ≡ StorePageFault
    → Reopened held i j at x → marks_at j.memory.ram x.root.0 (c.address / 4096) ≡ user_leaf g true
    → Steps held j u o l again
    → Comes j.active (spaces_of i) (spaces_of (ran_by j u o l)) again
second {j} {u} {o} {l} {again} {at} {x} c g r s e store re made next =
    let right = same-again r s j.memory.ram c g e store (re.run.is.machine.each at x re.run.stands).dense re.pages made
    in
    subst (λ (v : Spaces). Comes j.active v (spaces_of (ran_by j u o l)) again) re.view
    (outcome again re.run next (rw re.hart right))
