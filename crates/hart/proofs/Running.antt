-- One run after another: what is left of a count, and operations of a page after earlier ones.
use Rattle.hart.proofs.Common.{Ram, ap, Fetch, frame_for, Goes, Hart, Held, HoldsInside, inl, inr, InstructionPageFault}
use Rattle.hart.proofs.Common.{IsAnswer, IsKept, List, Mapped, None, Option, option_map, place_in, Point, point_at}
use Rattle.hart.proofs.Common.{refl, Some, subst, sym, Trap, ℕ, ◌/◌, ◌∙◌, ◌≡◌, arith, GoesOn, pc_at, point_of}
use Rattle.hart.proofs.Common.{StaysWhole, ◌*◌, ◌+◌, ◌-◌, ◌<◌, ◌≤◌, false, cases_lt, IsBehind, IsClear, IsPast, is_stop}
use Rattle.hart.proofs.Straight.{cycle-unfound, frame-found, goes-kept}
use Rattle.hart.proofs.Stopping.{behind-past}
use Rattle.ram.specs.declared.FrameNo.{FrameNo}

-- ---- one run after another

goes-then : {a b d : Held} {root : ℕ} {mapping : List Mapped} {stops : List ℕ} {old mid new : Point} (x y : ℕ)
    (stopped : Option Trap) → IsBehind stops x old.pc mid.pc
    → GoesOn a b root mapping stops old mid x None → GoesOn b d root mapping stops mid new y stopped
    → GoesOn a d root mapping stops old new (x + y) stopped
goes-then {stops = stops} x y stopped behind f h n first past g =
    let both = h (n + x) first (behind-past stops behind n past) (f n first past g).0 in
    let sum : n + x + y ≡ n + (x + y) = omega arith in
    (rw (← sum) both.0, both.1)

-- nothing is done yet
pub goes-none : {held : Held} {root : ℕ} {mapping : List Mapped} {stops : List ℕ} {point : Point} {x : ℕ} → x ≡ 0
    → GoesOn held held root mapping stops point point x None
goes-none {x} none n first past g = (let same : n + x ≡ n = omega (arith, none) in rw same g, tt)

-- some of `count` are left
pub record GoesLeft (held held' : Held) (stops : List ℕ) (old new : Hart) (pc : ℕ) (ram ram' : Ram) (count left : ℕ)
    (f : ℕ) : Type 0 where
  pub whole : StaysWhole held' old new ram ram'
  pub bounded : left ≤ count
  pub behind : IsBehind stops (count - left) old.pc pc
  pub goes : (mapping : List Mapped) → frame_for mapping (old.pc / 4096) Fetch ≡ Some f
      → GoesOn held held' old.root.0 mapping stops (point_of old ram) (point_at new pc ram') (count - left) None

pub whole-then : {b d : Held} {first mid new : Hart} {ram ram' ram'' : Ram} → StaysWhole b first mid ram ram'
    → StaysWhole d mid new ram' ram'' → StaysWhole d first new ram ram''
whole-then one two = record { inside = two.inside; count = two.count ∙ one.count; root = two.root ∙ one.root }

-- operations of a page after earlier ones
pub page-then : {a b d : Held} {stops : List ℕ} {first mid : Hart} (new : Hart) (done rest : ℕ) {pc : ℕ} {base : ℕ}
    (k to : ℕ)
    {ram ram' : Ram} (ram'' : Ram) {count left f : ℕ} (stopped : Option Trap)
    → GoesLeft a b stops first mid pc ram ram' count left f
    → base ≡ first.pc / 4096 * 4096 → pc_at base k ≡ pc → rest + done ≡ left
    → ((mapping : List Mapped) → frame_for mapping (base / 4096) Fetch ≡ Some f
    → GoesOn b d mid.root.0 mapping stops (point_at mid (pc_at base k) ram') (point_at new to ram'') done stopped)
    → (mapping : List Mapped) → frame_for mapping (first.pc / 4096) Fetch ≡ Some f
    → GoesOn a d first.root.0 mapping stops (point_of first ram) (point_at new to ram'') (count - rest) stopped
page-then {a} {b} {d} {first} {mid} new done rest {pc} {base} k to {ram} {ram'} ram'' {count} {left} stopped before is
    start parts straight mapping at =
    let root : mid.root.0 ≡ first.root.0 = ap (λ (r : FrameNo). r.0) before.whole.root in
    let page : base / 4096 ≡ first.pc / 4096 = omega (arith, is) in
    let step = rw (root, start) at (straight mapping (rw page at)) in
    let sum : count - rest ≡ (count - left) + done = omega (arith, before.bounded, parts) in
    rw sum (goes-then _ _ _ before.behind (before.goes mapping at) step)

-- nothing is done yet at an index
pub left-begins : {held : Held} {stops : List ℕ} {hart : Hart} {ram : Ram} (base k : ℕ) {count left f : ℕ}
    → HoldsInside held ram → pc_at base k ≡ hart.pc → left ≡ count
    → GoesLeft held held stops hart hart (pc_at base k) ram ram count left f
left-begins {held} {stops} {hart} {ram} base k {count} {left} {f} inside start all =
    subst (λ pc. GoesLeft held held stops hart hart pc ram ram count left f) (sym start) (record {
      whole = record { inside = inside; count = refl; root = refl };
      bounded = omega (arith, all);
      behind = inr (omega (arith, all), refl);
      goes = λ mapping at. goes-none (omega (arith, all));
    })

-- a jump leads to another index, at no stop
pub left-on : {a b d : Held} {stops : List ℕ} {first mid : Hart} (new : Hart) {base : ℕ} (k index to : ℕ)
    {ram ram' : Ram} (ram'' : Ram) {count left f done rest : ℕ}
    → GoesLeft a b stops first mid (pc_at base k) ram ram' count left f → base ≡ first.pc / 4096 * 4096
    → 0 < done → rest + done ≡ left → StaysWhole d mid new ram' ram'' → is_stop stops to ≡ false → pc_at base index ≡ to
    → ((mapping : List Mapped) → frame_for mapping (base / 4096) Fetch ≡ Some f
    → GoesOn b d mid.root.0 mapping stops (point_at mid (pc_at base k) ram') (point_at new to ram'') done None)
    → GoesLeft a d stops first new (pc_at base index) ram ram'' count rest f
left-on {a} {b} {d} {stops} {first} {mid} new {base} k index to {ram} {ram'} ram'' {count} {left} {f} {done} {rest}
    before is some parts whole clear there straight =
    let bounded = before.bounded in
    subst (λ pc. GoesLeft a d stops first new pc ram ram'' count rest f) (sym there) (record {
      whole = whole-then before.whole whole;
      bounded = omega (arith, parts, bounded);
      behind = inl (omega (arith, some, parts, bounded), clear);
      goes = page-then new done rest k to ram'' None before is refl parts straight;
    })

-- an operation that isn't done, after earlier ones, is at no stop
pub stop-behind : {held held' : Held} {stops : List ℕ} {old new : Hart} {pc : ℕ} {ram ram' : Ram} {count left f : ℕ}
    (base k end done rest : ℕ) → GoesLeft held held' stops old new pc ram ram' count left f
    → pc_at base k ≡ pc → done < end - k → rest + done ≡ left → IsClear stops base k end
    → IsBehind stops (count - rest) old.pc (pc_at base (k + done))
stop-behind {stops} {old} {pc} {count} {left} base k end done rest before start fewer parts clear =
    elim (cases_lt 0 done) [
      | inl some ↦ let bounded =
          before.bounded in inl (
            omega (arith, some, parts, bounded),
            clear (k + done) (omega (arith, some)) (omega (arith, fewer)),
          )
      | inr least ↦
          let none : done ≡ 0 = omega (arith, least) in
          let same : k ≡ k + done = omega (arith, none) in
          let there : pc_at base (k + done) ≡ pc = subst (λ j. pc_at base j ≡ pc) same start in
          let count : count - left ≡ count - rest = omega (arith, none, parts) in
          rw (there, ← count) before.behind
    ]

-- a program is at a page, whose look-up has this result
module _ (a : Held) {b : Held} (d : Held) {stops : List ℕ} {first mid : Hart} {ram ram' : Ram} (done : ℕ)
    (mapping : List Mapped) (whole : StaysWhole b first mid ram ram')
    (before : GoesOn a b first.root.0 mapping stops (point_of first ram) (point_of mid ram') done None)
    (kept : IsKept b d ram' mid.root.0) {o : Option ℕ}
    (found : IsAnswer b ram' mid.root.0 mid.pc Fetch (option_map (place_in mid.pc) o)) where
  come : {n : ℕ} {start : Point} → IsPast stops n first.pc
      → Goes a first.root.0 mapping stops n start (point_of first ram)
      → Goes d mid.root.0 mapping stops (n + done) start (point_of mid ram')
      × (frame_for mapping (mid.pc / 4096) Fetch ≡ o)
  come {n} {start} past g = let now : Goes b mid.root.0 mapping stops (n + done) start (point_of mid ram') =
      rw (ap (λ (r : FrameNo). r.0) whole.root) (before n start past g).0
      in (goes-kept now d kept, frame-found now o found)

  -- where no page is found there is a page fault
  pub run-faults : o ≡ None
      → GoesOn a d first.root.0 mapping stops (point_of first ram) (point_of mid ram') done
      (Some (record { cause = InstructionPageFault; address = mid.pc }))
  run-faults none n start past g = let now =
      come past g in rw (← ap (λ (r : FrameNo). r.0) whole.root) (now.0, cycle-unfound _ _ _ _ (now.1 ∙ none))

  -- a page after earlier ones
  pub run-then : {e : Held} (new : Hart) (ram'' : Ram) (count left rest f : ℕ) (stopped : Option Trap)
      → IsBehind stops done first.pc mid.pc → o ≡ Some f → left ≤ count → rest ≤ left → done ≡ count - left
      → ((mapping : List Mapped) → frame_for mapping (mid.pc / 4096) Fetch ≡ Some f
      → GoesOn d e mid.root.0 mapping stops (point_of mid ram') (point_of new ram'') (left - rest) stopped)
      → GoesOn a e first.root.0 mapping stops (point_of first ram) (point_of new ram'') (count - rest) stopped
  run-then new ram'' count left rest f stopped behind some bounded fewer is page n start past g =
      let now = come past g in
      let sum : n + (count - rest) ≡ n + done + (left - rest) = omega (arith, bounded, fewer, is) in
      rw (← ap (λ (r : FrameNo). r.0) whole.root, sum)
      (page mapping (now.1 ∙ some) (n + done) start (behind-past stops behind n past) now.0)
