-- Many instructions of the process of a slot, as the hart ran them.
use Rattle.spaces.proofs.Common.{Ram, Held, ◌≡◌, ℕ, ◌≤◌, true, List, Option, Some, None, refl, memory_of, entry_marks}
use Rattle.spaces.proofs.Common.{arith, Err, IfSome, length, subst, Hart, IsCoherent, Mapped, WalksTo, cycle}
use Rattle.spaces.proofs.Common.{StorePageFault, Trap, walks-entries, entries_of, pages_in, pages_of, Space, view_at}
use Rattle.spaces.proofs.Common.{IsSpaces, spaces_of, view_with, Inside, Point, point_of, ◌+◌, suc, zero, is_some}
use Rattle.spaces.proofs.Common.{Advances}
use Rattle.spaces.proofs.Places.{held-is}
use Rattle.spaces.proofs.SpacesLemmas.{AdvancesTo, advances-more, advances-none}
use Rattle.spaces.proofs.Stepped.{IsHere, IsRun, here, here-more, point-does, ran_by, run-of, sound-run, spaces_at}
use Rattle.spaces.proofs.Rights.{let_through, sound, trap-right}
use Rattle.hart.specs.Runs.{Goes, GoesOn, Reaches, RunsTo, StaysWhole}

-- ---- instructions of the process of a slot, as the hart ran them

module _ {T : Type 0} {held : T → Held} {i : Inside T} {at : ℕ} {x : Space} (r : IsRun held i at x) where
  here-reached : (n : ℕ) (m : Ram) → Reaches n (entries_of i.memory.ram x) i.memory.ram m → IsHere i x m
  unfolding Reaches
  here-reached zero m same = rw same (here r)
  here-reached (suc n) m (mid, reaches, wrote) = here-more r (here-reached n mid reaches) wrote

  -- many instructions, one after the other
  ran : (stops : List ℕ) (n : ℕ) (first new : Point) → IsHere i x first.ram
      → RunsTo stops n (entries_of i.memory.ram x) first new
      → Advances stops n (spaces_at i first) at (spaces_at i new) × IsHere i x new.ram
  unfolding RunsTo
  ran stops zero first new here same = rw same (advances-none stops (spaces_at i first) at, here)
  ran stops (suc n) first new here (mid, runs, one, past) =
      let before = ran stops n first mid here runs in (
        advances-more stops n (spaces_at i first) (spaces_at i mid) (spaces_at i new)
            at before.0 (point-does r mid new before.1 one) past,
        here-more r before.1 one.writes,
      )

  begun : {stops : List ℕ} → length i.memory.ram ≤ 32768
      → Goes (held i.translator) i.hart.root.0 (entries_of i.memory.ram x) stops 0 (point_of i.hart i.memory.ram)
      (point_of i.hart i.memory.ram)
  unfolding RunsTo Reaches
  begun small =
      let space = r.is.machine.each at x r.stands in
      let walks : (n : ℕ) (m : Ram) → Reaches n (entries_of i.memory.ram x) i.memory.ram m
      → WalksTo m i.hart.root.0 (entries_of i.memory.ram x) =
      λ n m reaches. (
      let now = here-reached n m reaches in
      rw (r.same, ← now.entries)
      (walks-entries m x.root.0 x.trap.0 (pages_in x.size) (rw now.count small)
      (now.machine.each at x r.stands).dense)) in
      record {
        steady = record { sound = sound entry_marks i.memory.ram x space.dense space.once; walks = walks };
        coherent = rw r.same r.coherent;
        runs = refl;
        reaches = refl;
        count = refl;
      }

-- what a run of the hart did
pub record RanOn {T : Type 0} (held : T → Held) (i : Inside T) (t : T) (h : Hart) (k : Ram) (stops : List ℕ) (done : ℕ)
    (stopped : Option Trap) : Type 0 where
  pub small : length i.memory.ram ≤ 32768
  pub goes : (mapping : List Mapped)
      → GoesOn (held i.translator) (held t) i.hart.root.0 mapping stops (point_of i.hart i.memory.ram) (point_of h k)
      done
      stopped
  pub whole : StaysWhole (held t) i.hart h i.memory.ram k

module _ {T : Type 0} {held : T → Held} {i : Inside T} {t : T} {h : Hart} {k : Ram} {stops : List ℕ} {done : ℕ}
    {at : ℕ} {x : Space} (r : IsRun held i at x) where
  went-on : (stopped : Option Trap) → RanOn held i t h k stops done stopped
      → Goes (held t) i.hart.root.0 (entries_of i.memory.ram x) stops done (point_of i.hart i.memory.ram) (point_of h k)
      × IfSome stopped (λ c. cycle h.registers h.pc (memory_of k (entries_of i.memory.ram x)) ≡ Err c)
  went-on stopped o =
      let none : 0 + done ≡ done = omega arith in
      let all = o.goes (entries_of i.memory.ram x) 0 (point_of i.hart i.memory.ram)
      (λ more. absurd (omega (arith, more)))
      (begun r o.small) in (
        subst (λ (n : ℕ). Goes (held t) i.hart.root.0 (entries_of i.memory.ram x) stops n (point_of i.hart i.memory.ram)
            (point_of h k)) none all.0,
        all.1,
      )

  -- the spaces after the run
  ran-at : (stopped : Option Trap) → RanOn held i t h k stops done stopped
      → IsSpaces held (ran_by i t h k) × Advances stops done (spaces_of i) at (spaces_of (ran_by i t h k))
  ran-at stopped o =
      let went = (went-on stopped o).0 in
      let all = ran r stops done (point_of i.hart i.memory.ram) (point_of h k) (here r) went.runs in (
        sound-run r t h k all.1 o.whole.root
            (subst (λ n. IsCoherent (held t) n (entries_of i.memory.ram x)) r.same went.coherent) o.whole.inside,
        all.0,
      )

  -- the trap after the run, except for a store's, is one by right, too
  stops-right : (c : Trap) → RanOn held i t h k stops done (Some c) → (c.cause ≡ StorePageFault → ⊥)
      → cycle h.registers h.pc (view_at (spaces_of (ran_by i t h k)) at).memory ≡ Err c
  stops-right c o other =
      let all = went-on (Some c) o in
      let now = (ran r stops done (point_of i.hart i.memory.ram) (point_of h k) (here r) all.0.runs).1 in
      let low : cycle h.registers h.pc (let_through k x) ≡ Err c = rw now.entries all.1 in
      let seen : view_at (spaces_of (ran_by i t h k)) at ≡ view_with (pages_of k x) x.size =
      held-is (ran_by i t h k) _ r.stands in
      rw seen (trap-right k x h.registers h.pc (now.machine.each at x r.stands).dense c low
      (λ store. absurd (other store)))

pub ran-sound : {T : Type 0} {held : T → Held} {i : Inside T} {t : T} {h : Hart} {k : Ram} {stops : List ℕ} {done : ℕ}
    {stopped : Option Trap} (a : Option ℕ) → IsSpaces held i → RanOn held i t h k stops done stopped → i.active ≡ a
    → is_some a ≡ true
    → IsSpaces held (ran_by i t h k) × AdvancesTo stops done a (spaces_of i) (spaces_of (ran_by i t h k))
ran-sound None is o e some = absurd (cc)
ran-sound (Some at) is o e some = ran-at (run-of is e).1 _ o

-- the next instruction raises the trap that the run returned, except where that is a store's
pub ran-trap : {T : Type 0} {held : T → Held} {i : Inside T} {t : T} {h : Hart} {k : Ram} {stops : List ℕ} {done : ℕ}
    (stopped : Option Trap) (a : Option ℕ) → IsSpaces held i → RanOn held i t h k stops done stopped → i.active ≡ a
    → IfSome stopped (λ c. (c.cause ≡ StorePageFault → ⊥)
    → IfSome a (λ at. cycle h.registers h.pc (view_at (spaces_of (ran_by i t h k)) at).memory ≡ Err c))
ran-trap None a is o e = tt
ran-trap (Some c) None is o e = λ other. tt
ran-trap (Some c) (Some at) is o e = λ other. stops-right (run-of is e).1 c o other
