-- Where processes may wait.
use Rattle.proc.proofs.Common.{Bool, List, [], arith, false, get_or, inl, inr, length, refl, subst, suc, true, zero, ℕ}
use Rattle.proc.proofs.Common.{◌+◌, ◌<◌, ◌∷◌, ◌≡◌, ◌≤◌, slice_set, cases_lt, get_or-set_same, IsNext, NoneIsIn, all_in}
use Rattle.proc.proofs.Common.{is_in, IsFirst, NoneSays, place_in_round, None, Option, Some, ap, map, option_map, sym}
use Rattle.proc.proofs.Common.{◌-◌, ◌∙◌, if◌then◌else◌, refill, true≢false, IsFirstFrom, NoneFrom, is_child_of}
use Rattle.proc.proofs.Common.{orphaned, AreWithin, IsFirstWaiting, IsWithin, NoneWaits, waits_so, with_place, Process}
use Rattle.proc.proofs.Common.{Inside, WaitPlaces, slot, holds}
use Rattle.std.proofs.Common.{Global, length-set, Vec}
use Rattle.std.proofs.lemmas.List.{length-map, with_items_is}
use Rattle.proc.specs.Sound.{IsSound}
use Rattle.proc.specs.declared.waits.WaitKind.{WaitKind}
use Rattle.proc.specs.declared.waits.WaitKind.TheVariants.{Child, Time, Transfer}

-- the slots of a table
abbrev pub Processes : Type 0
Processes = List (Option Process)

-- ---- a pick that goes on from a turn of its round

-- the mask of all slots has each slot
pub all-in : (n i : ℕ) → is_in (all_in n) i ≡ true
unfolding all_in
all-in zero i = refl
all-in (suc n) zero = refl
all-in (suc n) (suc i) = all-in n i

-- what holds of each slot of a list, where one has something else
pub set-all : {X : Type 0} (P : ℕ → X → Type 0) (xs : List X) (i : ℕ) {x : X} (d : X) → P i x
    → ((j : ℕ) → P j (get_or xs j d)) → (j : ℕ) → P j (get_or (slice_set xs i x) j d)
set-all P [] i d here each j = each j
set-all P (y ∷ ys) zero d here each zero = here
set-all P (y ∷ ys) zero d here each (suc j) = each (suc j)
set-all P (y ∷ ys) (suc i) d here each zero = each 0
set-all P (y ∷ ys) (suc i) {x} d here each (suc j) = set-all (λ n. P (suc n)) ys i d here (λ n. each (suc n)) j

-- ---- what holds of each number from one up to another

module _ {P : ℕ → Type 0} {low mid : ℕ} (first' : (k : ℕ) → low ≤ k → k < mid → P k) where
  -- and from there up to a third
  pub up_to : {high : ℕ} → ((k : ℕ) → mid ≤ k → k < high → P k) → (k : ℕ) → low ≤ k → k < high → P k
  up_to then' k more less = elim (cases_lt k mid) [
    | inl before ↦ first' k more before
    | inr behind ↦ then' k behind less
  ]

  -- and of one more
  pub up_to-more : P mid → (k : ℕ) → low ≤ k → k < mid + 1 → P k
  up_to-more here = up_to (λ k behind less. let same : mid ≡ k = omega arith in subst P same here)

-- ---- a search that changes nothing

-- no turn so far said yes
pub record HasLooked (says : ℕ → Bool → Type 0) (last turn : ℕ) : Type 0 where
  pub in_round : (1 ≤ turn) × (turn ≤ 65)
  pub before : (k : ℕ) → 1 ≤ k → k < turn → says (place_in_round last k) false

pub looked-none : {says : ℕ → Bool → Type 0} {last : ℕ} → HasLooked says last 1
looked-none = record { in_round = (omega arith, omega arith); before = λ k low high. absurd (omega arith) }

module _ {says : ℕ → Bool → Type 0} {last turn : ℕ} (looked : HasLooked says last turn) (awake : List Bool)
    (asleep : (i : ℕ) → is_in awake i ≡ false → says i false) where
  looked-to : {to : ℕ} → NoneIsIn awake last turn to → (k : ℕ) → 1 ≤ k → k < to → says (place_in_round last k) false
  looked-to {to} out = up_to looked.before (λ k low high. asleep (place_in_round last k) (out k low high))

  module _ {next : ℕ} (is : IsNext awake last turn next) where
    pub looked-first : says (place_in_round last next) true → IsFirst says last (place_in_round last next)
    looked-first yes' = let from = looked.in_round in let to = is.in_round in record {
      turn = next;
      in_round = (omega arith, omega arith);
      there = refl;
      yes = yes';
      before = looked-to is.before;
    }

    pub looked-on : says (place_in_round last next) false → HasLooked says last (next + 1)
    looked-on no' = let from = looked.in_round in let to = is.in_round in record {
      in_round = (omega arith, omega arith);
      before = up_to-more {P = λ k. says (place_in_round last k) false} (looked-to is.before) no';
    }

  pub looked-all : NoneIsIn awake last turn 65 → NoneSays says last
  looked-all out = λ k low high. looked-to out k low (omega arith)

-- ---- a search that puts to sleep whoever isn't ready

-- whoever isn't awake isn't ready, and no slot of the turns so far is awake
pub record IsLooking (says : ℕ → Bool → Type 0) (last : ℕ) (awake : List Bool) (turn : ℕ) : Type 0 where
  pub passed : HasLooked (λ i. λ b. is_in awake i ≡ b) last turn
  pub asleep : (i : ℕ) → is_in awake i ≡ false → says i false

pub looks-begin : {says : ℕ → Bool → Type 0} (last : ℕ) (awake : List Bool)
    → ((i : ℕ) → is_in awake i ≡ false → says i false) → IsLooking says last awake 1
looks-begin last awake asleep = record { passed = looked-none; asleep = asleep }

-- a slot that isn't ready is put to sleep
module _ {says : ℕ → Bool → Type 0} {last : ℕ} {awake : List Bool} {turn : ℕ} (looks : IsLooking says last awake turn)
    {next : ℕ} (is : IsNext awake last turn next) (all : length awake ≡ 64)
    (no' : says (place_in_round last next) false) where
  abbrev at : ℕ
  at = place_in_round last next

  gone : (i : ℕ) → is_in awake i ≡ false → is_in (slice_set awake at false) i ≡ false
  gone = set-all (λ i b. is_in awake i ≡ false → b ≡ false) awake at true (λ _. refl) (λ i out. out)

  pub looks-on : IsLooking says last (slice_set awake at false) (next + 1)
  looks-on = record {
    passed = looked-on (record
        { in_round = looks.passed.in_round; before = λ k low high. gone _ (looks.passed.before k low high) }) awake
        gone is (get_or-set_same awake at false true (omega arith));
    asleep = set-all (λ i b. b ≡ false → says i false) awake at true (λ _. no') looks.asleep;
  }

-- ---- the first slot of a mask from one on: a round that begins after the last slot

pub first-from : {places : List Bool} {from turn : ℕ} → IsNext places 63 (from + 1) turn
    → IsFirstFrom places from (turn - 1)
first-from {places} {from} {turn} is =
    let inside = is.in_round in
    let here : place_in_round 63 turn ≡ turn - 1 = omega arith in
    record {
      in_places = (omega arith, omega arith);
      there = subst (λ j. is_in places j ≡ true) here is.there;
      before = λ j low high. (let there : place_in_round 63 (j + 1) ≡ j = omega arith
          in subst (λ k. is_in places k ≡ false) there (is.before (j + 1) (omega arith) (omega arith)));
    }

pub none-from : (places : List Bool) {from : ℕ} → NoneIsIn places 63 (from + 1) 65 → NoneFrom places from
none-from places out = λ j low high. let there : place_in_round 63 (j + 1) ≡ j =
    omega arith in subst (λ k. is_in places k ≡ false) there (out (j + 1) (omega arith) (omega arith))

-- ---- a mask that changes

pub set-in : (bs : List Bool) (i : ℕ) → is_in (slice_set bs i true) i ≡ true
set-in [] i = refl
set-in (b ∷ bs) zero = refl
set-in (b ∷ bs) (suc i) = set-in bs i

-- a slot that isn't in the mask after another was added was not in it before
pub set-out : (bs : List Bool) (i j : ℕ) → is_in (slice_set bs i true) j ≡ false → is_in bs j ≡ false
set-out [] i j out = out
set-out (b ∷ bs) zero zero out = absurd (cc)
set-out (b ∷ bs) zero (suc j) out = out
set-out (b ∷ bs) (suc i) zero out = out
set-out (b ∷ bs) (suc i) (suc j) out = set-out bs i j out

-- ---- the search for one who waits

-- from: where it began; next: where it goes on
pub record IsSearching (kind : WaitKind) (places : Processes) (from next : ℕ) (may : List Bool) : Type 0 where
  pub in_places : (from ≤ next) × (next ≤ 64)
  pub within : IsWithin kind places may
  pub before : (j : ℕ) → from ≤ j → j < next → holds (waits_so kind) (slot places j) ≡ false

pub search-begins : {kind : WaitKind} {places : Processes} {from : ℕ} {may : List Bool} → from ≤ 64
    → IsWithin kind places may → IsSearching kind places from from may
search-begins low within =
    record { in_places = (omega arith, low); within = within; before = λ j more less. absurd (omega arith) }

module _ {kind : WaitKind} {places : Processes} {from next : ℕ} {may : List Bool}
    (search' : IsSearching kind places from next may) where
  passed-to : {to : ℕ} → ((j : ℕ) → next ≤ j → j < to → is_in may j ≡ false) → (j : ℕ) → from ≤ j → j < to
      → holds (waits_so kind) (slot places j) ≡ false
  passed-to {to} out = up_to search'.before (λ j low high. search'.within.out j (out j low high))

  pub search-none : NoneFrom may next → NoneWaits places kind from
  search-none none = passed-to none

  module _ {at : ℕ} (is : IsFirstFrom may next at) where
    pub search-finds : holds (waits_so kind) (slot places at) ≡ true → IsFirstWaiting places kind from at
    search-finds yes' = let inside = is.in_places in let begun = search'.in_places in record {
      in_places = (omega arith, omega arith);
      there = yes';
      before = passed-to is.before;
    }

    pub search-goes : length may ≡ 64 → holds (waits_so kind) (slot places at) ≡ false
        → IsSearching kind places from (at + 1) (slice_set may at false)
    search-goes all no' = let inside = is.in_places in let begun = search'.in_places in record {
      in_places = (omega arith, omega arith);
      within = record {
        out = set-all (λ j b. b ≡ false → holds (waits_so kind) (slot places j) ≡ false) may
            at true (λ _. no') search'.within.out;
      };
      before = up_to-more {P = λ j. holds (waits_so kind) (slot places j) ≡ false} (passed-to is.before) no';
    }

-- ---- slots that change

module _ {kind : WaitKind} {places : Processes} {may : List Bool} (within : IsWithin kind places may) where
  one-put : (i : ℕ) (o : Option Process) → IsWithin kind (slice_set places i o) (slice_set may i true)
  one-put i o = record {
    out = set-all (λ j x. is_in (slice_set may i true) j ≡ false → holds (waits_so kind) x ≡ false) places i {x = o}
        None
        (λ out. absurd (true≢false (sym (set-in _ i) ∙ out))) (λ j out. within.out j (set-out _ i j out));
  }

  one-freed : (i : ℕ) → IsWithin kind (slice_set places i None) may
  one-freed i = record {
    out = set-all (λ j x. is_in may j ≡ false → holds (waits_so kind) x ≡ false) places i None
        (λ _. refl) within.out;
  }

-- a child that goes to process 1 waits as it did
orphan-waits : (kind : WaitKind) (pid : ℕ) (p : Process) → waits_so kind (orphaned pid p) ≡ waits_so kind p
orphan-waits kind pid p = go (is_child_of pid p) where
  go : (b : Bool) → waits_so kind (if b then record p { parent = 1 } else p) ≡ waits_so kind p
  go true = refl
  go false = refl

orphans-wait : (kind : WaitKind) (pid : ℕ) (os : Processes) (j : ℕ)
    → holds (waits_so kind) (slot (map (option_map (orphaned pid)) os) j) ≡ holds (waits_so kind) (slot os j)
orphans-wait kind pid [] j = refl
orphans-wait kind pid (None ∷ os) zero = refl
orphans-wait kind pid (Some p ∷ os) zero = orphan-waits _ _ p
orphans-wait kind pid (o ∷ os) (suc j) = orphans-wait _ _ os j

one-all : {kind : WaitKind} {places : Processes} → IsWithin kind places (all_in 64)
one-all = record { out = λ j out. absurd (true≢false (sym (all-in 64 j) ∙ out)) }

pub within-all : {places : Processes}
    → AreWithin places (record { sleeps = all_in 64; transfers = all_in 64; children = all_in 64 })
within-all {places} = record { sleeps = one-all; transfers = one-all; children = one-all }

module _ {places : Processes} {may : WaitPlaces} (are : AreWithin places may) where
  -- a slot in which a process may wait gets another process
  pub within-put : (i : ℕ) (o : Option Process) → AreWithin (slice_set places i o) (with_place may i)
  within-put i o = record {
    sleeps = one-put are.sleeps i o;
    transfers = one-put are.transfers i o;
    children = one-put are.children i o;
  }

  pub within-freed : (i : ℕ) → AreWithin (slice_set places i None) may
  within-freed i = record {
    sleeps = one-freed are.sleeps i;
    transfers = one-freed are.transfers i;
    children = one-freed are.children i;
  }

  pub within-orphaned : (pid : ℕ) → AreWithin (map (option_map (orphaned pid)) places) may
  within-orphaned pid = record {
    sleeps = record { out = λ j out. orphans-wait Time pid places j ∙ are.sleeps.out j out };
    transfers = record { out = λ j out. orphans-wait Transfer pid places j ∙ are.transfers.out j out };
    children = record { out = λ j out. orphans-wait Child pid places j ∙ are.children.out j out };
  }

-- ---- a table that changes

-- the slots on the heap
abbrev pub Slots : Type 0
Slots = Vec (Option Process) Global

-- a write through the slice of all
pub refilled : (v : Slots) {ys zs : Processes} → length zs ≡ length v.items → ys ≡ zs → refill v.len v.items ys ≡ zs
refilled v {ys} same is = with_items_is v ys (ap length is ∙ same ∙ sym v.ok.0) ∙ is

module _ {t : Inside} (is : IsSound t) where
  -- a table with as many slots, where whoever waits is in a slot of the masks
  sound-as : {places : Slots} {new : Processes} {next_pid : ℕ} {waiting may : WaitPlaces} → places.items ≡ new
      → length new ≡ length t.places.items → next_pid ≤ 2147483648 → waiting ≡ may → AreWithin new may
      → IsSound (record {
        places = places;
        last = t.last;
        next_pid = next_pid;
        awake = t.awake;
        waiting = waiting;
      })
  sound-as now all fits set' within =
      record { all = ap length now ∙ all ∙ is.all; last = is.last; pids = fits; waiting = rw (now, set') within }

  pub sound-put : (i : ℕ) (o : Option Process) {places : Slots} {next_pid : ℕ} {waiting : WaitPlaces}
      → places.items ≡ slice_set t.places.items i o → next_pid ≤ 2147483648 → waiting ≡ with_place t.waiting i
      → IsSound (record {
        places = places;
        last = t.last;
        next_pid = next_pid;
        awake = t.awake;
        waiting = waiting;
      })
  sound-put i o {next_pid} put fits set' =
      sound-as put (length-set t.places.items i o) fits set' (within-put is.waiting i o)

  pub sound-freed : (i : ℕ) {places : Slots} → places.items ≡ slice_set t.places.items i None
      → IsSound (record t { places = places })
  sound-freed i freed = sound-as freed (length-set t.places.items i None) is.pids refl (within-freed is.waiting i)

  pub sound-orphaned : (pid : ℕ) {places : Slots} → places.items ≡ map (option_map (orphaned pid)) t.places.items
      → IsSound (record t { places = places })
  sound-orphaned pid mapped =
      sound-as mapped (length-map t.places.items (option_map (orphaned pid))) is.pids refl
      (within-orphaned is.waiting _)
