-- What a step of the process in one slot leaves in the others.
use Rattle.run_laws.proofs.Common.{get_or-set_other, slot, Process, is_zombie, State, process_at, IsLeft, Rests}
use Rattle.run_laws.proofs.Common.{is_child_of, Done, Ends, Refused, Waits, Files, OpenFile}
use Rattle.std.proofs.Common.{ap, Bool, false, List, map, None, Option, refl, set, Some, subst, sym, true, ℕ, ℤ, ◌∙◌}
use Rattle.std.proofs.Common.{◌≡◌, ◌≢◌}
use Rattle.std.specs.Prelude.{if◌then◌else◌, option_map}
use Rattle.unixmodel.specs.Counts.{is_within}
use Rattle.unixmodel.specs.Outcome.{given, limited, orphaned, Outcome, provided, zombie_of, end_process}
use Rattle.unixmodel.specs.Reap.{reap, without_nodes, without_opens, without_pipes}
use Rattle.std.proofs.Math.ListN.{get_or-map}
use Rattle.unixmodel.specs.Console.{Console}

-- the process of a slot stays, as far as others can't change it; and a free slot stays free
abbrev pub IsSame : Option Process → Option Process → Type 0
IsSame (Some p) (Some q) = Rests p q
IsSame None None = Unit {0}
IsSame _ _ = ⊥

-- or a free slot gets a process, or a zombie goes
abbrev pub IsPassed : Option Process → Option Process → Type 0
IsPassed None o = Unit {0}
IsPassed (Some p) o = IsLeft p o

pub rests-then : (p q r : Process) → Rests p q → Rests q r → Rests p r
rests-then p q r first second = second ∙ ap (λ (x : Process). record x { parent = r.parent; killed = r.killed }) first

pub same-refl : (o : Option Process) → IsSame o o
same-refl None = tt
same-refl (Some p) = refl

passed-refl : (o : Option Process) → IsPassed o o
passed-refl None = tt
passed-refl (Some p) = refl

pub same-is : (o u : Option Process) → u ≡ o → IsSame o u
same-is o u is = subst (IsSame o) (sym is) (same-refl o)

pub passed-is : (o u : Option Process) → u ≡ o → IsPassed o u
passed-is o u is = subst (IsPassed o) (sym is) (passed-refl o)

pub same-passed : (a b c : Option Process) → IsSame a b → IsPassed b c → IsPassed a c
same-passed None b c first second = tt
same-passed (Some p) None c first second = absurd first
same-passed (Some p) (Some q) None first second = sym (ap is_zombie first) ∙ second
same-passed (Some p) (Some q) (Some r) first second = rests-then p q r first second

pub passed-same : (a b c : Option Process) → IsPassed a b → IsSame b c → IsPassed a c
passed-same None b c first second = tt
passed-same (Some p) None None first second = first
passed-same (Some p) None (Some r) first second = absurd second
passed-same (Some p) (Some q) None first second = absurd second
passed-same (Some p) (Some q) (Some r) first second = rests-then p q r first second

-- ---- states

-- what a step of the process in slot r leaves of each other slot
pub record Leaves (Stays : Option Process → Option Process → Type 0) (r : ℕ) (s t : State) : Type 0 where
  pub last : t.last ≡ s.last
  pub others : (i : ℕ) → i ≢ r → Stays (process_at s i) (process_at t i)

-- they are as they were
abbrev pub Spares : ℕ → State → State → Type 0
Spares = Leaves IsSame

-- or a free one is filled, or a zombie is taken away
abbrev pub Passes : ℕ → State → State → Type 0
Passes = Leaves IsPassed

pub leaves-then : {A B C : Option Process → Option Process → Type 0} {r : ℕ} {s t u : State}
    → ((a b c : Option Process) → A a b → B b c → C a c) → Leaves A r s t → Leaves B r t u → Leaves C r s u
leaves-then {s} {t} {u} join first second = record {
  last = second.last ∙ first.last;
  others = λ i apart. join (process_at s i) (process_at t i) (process_at u i) (first.others i apart)
      (second.others i apart);
}

pub spares-passes : {r : ℕ} {s t : State} → Spares r s t → Passes r s t
spares-passes {t} spares =
    leaves-then same-passed spares (record { last = refl; others = λ i apart. passed-refl (process_at t i) })

-- only its own slot is written
pub spares-own : {r : ℕ} {s t : State} (o : Option Process) → t.places ≡ set s.places r o → t.last ≡ s.last
    → Spares r s t
spares-own {r} {s} {t} o places last = record {
  last = last;
  others = λ i apart. same-is (process_at s i) (process_at t i)
      (ap (λ xs. slot xs i) places ∙ get_or-set_other s.places r i o None apart);
}

-- or none
pub spares-all : {r : ℕ} {s t : State} → t.places ≡ s.places → t.last ≡ s.last → Spares r s t
spares-all {s} {t} places last =
    record { last = last; others = λ i apart. same-is (process_at s i) (process_at t i) (ap (λ xs. slot xs i) places) }

-- what holds on both ways of a test
pub by-test : {A : Type 0} (P : A → Type 0) (b : Bool) (x y : A) → P x → P y → P (if b then x else y)
by-test P true x y one other = one
by-test P false x y one other = other

-- ---- how a process ends, and what its end leaves of the others

pub reap-spares : {r : ℕ} {s t : State} → Spares r s t → Spares r s (reap t)
unfolding reap without_nodes without_pipes without_opens
reap-spares spares = record { last = spares.last; others = spares.others }

-- ---- the children of a process that ends

orphaned-same : (pid : ℕ) (o : Option Process) → IsSame o (option_map (orphaned pid) o)
orphaned-same pid None = tt
orphaned-same pid (Some p) = by-test (Rests p) (is_child_of pid p) (record p { parent = 1 }) p refl refl

pub end-spares : (s : State) (r : ℕ) (p : Process) (status : ℤ) → Spares r s (end_process s r p status)
unfolding end_process
end-spares s r p status = reap-spares (record {
  last = refl;
  others = λ i apart.
      subst (IsSame (process_at s i))
      (sym (get_or-set_other (map (option_map (orphaned p.pid)) s.places) r i (Some (zombie_of p status)) None apart
      ∙ get_or-map (option_map (orphaned p.pid)) s.places i None))
      (orphaned-same p.pid (process_at s i));
})

-- ---- what the outcome of a call leaves in the slots of other processes, however the row comes to it

-- the state that an outcome makes
abbrev pub Yields : ℕ → State → Outcome → Type 0
Yields r s Refused = Unit {0}
Yields r s (Done t answer bytes) = Passes r s t
Yields r s (Waits t w) = Passes r s t
Yields r s (Ends t status) = Passes r s t

pub yields-given : {X : Type 0} (r : ℕ) (s : State) (o : Option X) (rest : X → Outcome)
    → ((x : X) → o ≡ Some x → Yields r s (rest x)) → Yields r s (given o rest)
yields-given r s None rest yields = tt
yields-given r s (Some x) rest yields = yields x refl

pub yields-provided : (r : ℕ) (s : State) (test : Bool) (rest : Outcome) → Yields r s rest
    → Yields r s (provided test rest)
yields-provided r s true rest yields = yields
yields-provided r s false rest yields = tt

pub yields-either : (r : ℕ) (s : State) (test : Bool) (one other : Outcome) → Yields r s one → Yields r s other
    → Yields r s (if test then one else other)
yields-either r s = by-test (Yields r s)

pub yields-limited : (r : ℕ) (s : State) (o : Outcome) → Yields r s o → Yields r s (limited o)
yields-limited r s Refused yields = tt
yields-limited r s (Done t answer bytes) yields = yields-provided r s (is_within t) (Done t answer bytes) yields
yields-limited r s (Waits t w) yields = yields
yields-limited r s (Ends t status) yields = yields

pub passes-all : (r : ℕ) (s t : State) → t.places ≡ s.places → t.last ≡ s.last → Passes r s t
passes-all r s t places last = spares-passes (spares-all places last)

pub passes-refl : (r : ℕ) (s : State) → Passes r s s
passes-refl r s = passes-all r s s refl refl

-- a state with one of its slots written, whatever else is new
pub passes-put : (r : ℕ) (s : State) (o : Option Process) (files : Files) (opens : List (Option OpenFile))
    (pipes : List (Option (List ℕ))) (console : Console)
    (ticks next_pid frame_limit block_limit : ℕ) (halted : Option ℤ)
    → Passes r s (record s {
      places = set s.places r o;
      files = files;
      opens = opens;
      pipes = pipes;
      console = console;
      ticks = ticks;
      next_pid = next_pid;
      frame_limit = frame_limit;
      block_limit = block_limit;
      halted = halted;
    })
passes-put r s o files opens pipes console ticks next_pid frame_limit block_limit halted =
    spares-passes (spares-own o refl refl)

-- what outcomes are made of: a search by these finds what most rows leave
pub ruleset yielding = (yields-given, yields-provided, yields-either, passes-refl, passes-put, passes-all)
