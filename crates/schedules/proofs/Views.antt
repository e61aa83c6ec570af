-- A view of a state: its clock, and what processes hold, are others; what is looked at besides is the same.
use Rattle.std.proofs.Common.{[], ap, Bool, cond, length, List, map, nat_lt, None, Option, refl, set}
use Rattle.std.proofs.Common.{Some, suc, sym, zero, ℕ, ◌%◌, ◌+◌, ◌-◌, ◌^◌, ◌∙◌, ◌∷◌, ◌≡◌}
use Rattle.std.proofs.lemmas.List.Recursion.{is_position_or_len}
use Rattle.std.specs.List.{fold, list_any, position_or_len, sum_by}
use Rattle.std.specs.Prelude.{is_none, nat_le, option_map, position, slice_set, ◌&&◌, ◌||◌}
use Rattle.schedules.specs.Holding.{Held, held, holding, is_waiting_mode}
use Rattle.unixmodel.specs.Counts.{blocks_of, frames_of, is_within, opens_of, page_frames, process_frames}
use Rattle.unixmodel.specs.Files.{free_slot, put, slot, taken}
use Rattle.unixmodel.specs.Process.{Process, is_running_mode, is_zombie_mode}
use Rattle.unixmodel.specs.ProcessCalls.{sleep_time, status_of}
use Rattle.unixmodel.specs.State.{State, holds, open_limit}
use Rattle.unixmodel.specs.declared.call.Call.{Call}
use Rattle.unixmodel.specs.declared.call.Call.TheVariants.{Sleep}
use Rattle.unixmodel.specs.declared.process.Mode.{Mode}
use Rattle.unixmodel.specs.declared.process.Mode.TheVariants.{Ready, Running, Waiting, Zombie}
use Rattle.unixmodel.specs.declared.process.Pending.{Pending}

-- ---- lists of slots, each changed by its number

abbrev pub map_at : (ℕ → Process → Process) → List (Option Process) → List (Option Process)
map_at f [] = []
map_at f (o ∷ ps) = option_map (f 0) o ∷ map_at (λ n. f (suc n)) ps

-- the index of the first that passes
abbrev first : {X : Type 0} → (X → Bool) → List X → ℕ
first p [] = 0
first p (x ∷ xs) = cond (p x) 0 (1 + first p xs)

first-is : {X : Type 0} (p : X → Bool) (xs : List X) → first p xs ≡ position_or_len p xs
first-is p xs = is_position_or_len (first p) p refl (λ x xs. refl) xs

-- a test that no change shows to
abbrev pub Blind : (ℕ → Process → Process) → (Option Process → Bool) → Type 0
Blind f test = (n : ℕ) (o : Option Process) → test (option_map (f n) o) ≡ test o

first-at : (f : ℕ → Process → Process) (test : Option Process → Bool) → Blind f test → (ps : List (Option Process))
    → first test (map_at f ps) ≡ first test ps
first-at f test same [] = refl
first-at f test same (o ∷ ps) =
    ap (λ b. cond b 0 (1 + first test (map_at (λ n. f (suc n)) ps))) (same 0 o)
    ∙ ap (λ n. cond (test o) 0 (1 + n)) (first-at (λ n. f (suc n)) test (λ n. same (suc n)) ps)

length-at : (f : ℕ → Process → Process) (ps : List (Option Process)) → length (map_at f ps) ≡ length ps
length-at f [] = refl
length-at f (o ∷ ps) = ap (λ n. suc n) (length-at (λ n. f (suc n)) ps)

-- the same is found
pub position-at : (f : ℕ → Process → Process) (test : Option Process → Bool) → Blind f test
    → (ps : List (Option Process)) → position test (map_at f ps) ≡ position test ps
position-at f test same ps =
    ap (λ n. cond (nat_lt n (length (map_at f ps))) (Some n) None)
    (sym (first-is test (map_at f ps)) ∙ first-at f test same ps ∙ first-is test ps)
    ∙ ap (λ l. cond (nat_lt (position_or_len test ps) l) (Some (position_or_len test ps)) None) (length-at f ps)

pub set-at : (f : ℕ → Process → Process) (ps : List (Option Process)) (i : ℕ) (o : Option Process)
    → set (map_at f ps) i (option_map (f i) o) ≡ map_at f (set ps i o)
set-at f [] i o = refl
set-at f (q ∷ ps) zero o = refl
set-at f (q ∷ ps) (suc i) o = ap (λ qs. option_map (f 0) q ∷ qs) (set-at (λ n. f (suc n)) ps i o)

pub slot-at : (f : ℕ → Process → Process) (ps : List (Option Process)) (i : ℕ)
    → slot (map_at f ps) i ≡ option_map (f i) (slot ps i)
slot-at f [] i = refl
slot-at f (q ∷ ps) zero = refl
slot-at f (q ∷ ps) (suc i) = slot-at (λ n. f (suc n)) ps i

fold-at : {A : Type 0} (f : ℕ → Process → Process) (h : A → Process → A)
    → ((n : ℕ) (a : A) (p : Process) → h a (f n p) ≡ h a p) → (a : A) (ps : List (Option Process))
    → fold h a (taken (map_at f ps)) ≡ fold h a (taken ps)
fold-at f h same a [] = refl
fold-at f h same a (None ∷ ps) = fold-at (λ n. f (suc n)) h (λ n. same (suc n)) a ps
fold-at f h same a (Some p ∷ ps) =
    ap (λ b. fold h b (taken (map_at (λ n. f (suc n)) ps))) (same 0 a p)
    ∙ fold-at (λ n. f (suc n)) h (λ n. same (suc n)) (h a p) ps

any-at : (f : ℕ → Process → Process) (test : Process → Bool) → ((n : ℕ) (p : Process) → test (f n p) ≡ test p)
    → (ps : List (Option Process)) → list_any test (taken (map_at f ps)) ≡ list_any test (taken ps)
any-at f test same [] = refl
any-at f test same (None ∷ ps) = any-at (λ n. f (suc n)) test (λ n. same (suc n)) ps
any-at f test same (Some p ∷ ps) =
    ap (λ b. b || list_any test (taken (map_at (λ n. f (suc n)) ps))) (same 0 p)
    ∙ ap (λ b. test p || b) (any-at (λ n. f (suc n)) test (λ n. same (suc n)) ps)

pub all-at : (f : ℕ → Process → Process) (g : Process → Process) → ((n : ℕ) (p : Process) → g (f n p) ≡ f n (g p))
    → (ps : List (Option Process)) → map (option_map g) (map_at f ps) ≡ map_at f (map (option_map g) ps)
all-at f g same [] = refl
all-at f g same (None ∷ ps) = ap (λ qs. None ∷ qs) (all-at (λ n. f (suc n)) g (λ n. same (suc n)) ps)
all-at f g same (Some p ∷ ps) =
    ap (λ q. Some q ∷ map (option_map g) (map_at (λ n. f (suc n)) ps)) (same 0 p)
    ∙ ap (λ qs. Some (f 0 (g p)) ∷ qs) (all-at (λ n. f (suc n)) g (λ n. same (suc n)) ps)

option-at : (f g h : Process → Process) → ((p : Process) → g (f p) ≡ f (h p)) → (o : Option Process)
    → option_map g (option_map f o) ≡ option_map f (option_map h o)
option-at f g h same None = refl
option-at f g h same (Some p) = ap Some (same p)

-- a process is changed
pub change-at : (f : ℕ → Process → Process) (g h : Process → Process) (i : ℕ) → ((p : Process) → g (f i p) ≡ f i (h p))
    → (ps : List (Option Process))
    → slice_set (map_at f ps) i (option_map g (slot (map_at f ps) i))
    ≡ map_at f (slice_set ps i (option_map h (slot ps i)))
change-at f g h i same ps =
    ap (λ o. slice_set (map_at f ps) i (option_map g o)) (slot-at f ps i)
    ∙ ap (λ o. slice_set (map_at f ps) i o) (option-at (f i) g h same (slot ps i))
    ∙ set-at f ps i (option_map h (slot ps i))

-- ---- views

pub record View : Type 0 where
  -- the clock of the states that are seen, and what it is seen as
  pub now : ℕ
  pub clock : ℕ
  -- when a call that waits began, by its number and arguments
  pub since : Call → List ℕ → ℕ → ℕ
  -- what the process in a slot holds
  pub held : ℕ → Held → Held

abbrev pub pending_in : View → Pending → Pending
pending_in v w = record w { since = v.since w.number w.args w.since }

-- a sleep is over at a time
abbrev pub is_over : ℕ → Pending → Bool
is_over ticks w = nat_le (sleep_time w) ((ticks + (2 ^ 32 - w.since)) % 2 ^ 32)

-- sleeps are over as they are
abbrev pub SeesOver : View → Type 0
SeesOver v = (w : Pending) → w.number ≡ Sleep → is_over v.clock (pending_in v w) ≡ is_over v.now w

-- a view by which a state goes on as it does
pub record IsFair (v : View) : Type 0 where
  pub pages : (i : ℕ) (h : Held) → length (v.held i h).memory ≡ length h.memory
  pub begins : (number : Call) (args : List ℕ) → v.since number args v.now ≡ v.clock
  pub slept : SeesOver v

-- one by which sleeps are over as they are
pub record IsTimely (v : View) : Type 0 where
  pub slept : SeesOver v

pub timely : (v : View) → IsFair v → IsTimely v
timely v fair = record { slept = fair.slept }

-- of slot i what is held is seen
pub record IsPlain (v : View) (i : ℕ) : Type 0 where
  pub is : (h : Held) → v.held i h ≡ h

-- of each slot that is free what is held will be seen
pub record IsFresh (v : View) (ps : List (Option Process)) : Type 0 where
  pub free : (i : ℕ) → slot ps i ≡ None → IsPlain v i

abbrev pub mode_in : View → Mode → Mode
mode_in v Running = Running
mode_in v Ready = Ready
mode_in v (Waiting w) = Waiting (pending_in v w)
mode_in v (Zombie status) = Zombie status

-- a process of which all that is held is seen
abbrev pub plain_in : View → Process → Process
plain_in v p = record p { mode = mode_in v p.mode }

abbrev pub process_in : View → ℕ → Process → Process
process_in v i p = holding (v.held i (held p)) (plain_in v p)

abbrev pub places_in : View → List (Option Process) → List (Option Process)
places_in v ps = map_at (process_in v) ps

unfoldable pub state_in : View → State → State
state_in v s = record s { places = places_in v s.places; ticks = v.clock }

pub plain-is : (v : View) (i : ℕ) → IsPlain v i → (p : Process) → plain_in v p ≡ process_in v i p
plain-is v i plain p = sym (ap (λ h. holding h (plain_in v p)) (plain.is (held p)))

-- ---- what a view shows of slots

holds-in : (v : View) (test : Process → Bool) → ((n : ℕ) (p : Process) → test (process_in v n p) ≡ test p)
    → Blind (process_in v) (holds test)
holds-in v test same n None = refl
holds-in v test same n (Some p) = same n p

pub where-in : (v : View) (test : Process → Bool) → ((n : ℕ) (p : Process) → test (process_in v n p) ≡ test p)
    → (ps : List (Option Process)) → position (holds test) (places_in v ps) ≡ position (holds test) ps
where-in v test same ps = position-at (process_in v) (holds test) (holds-in v test same) ps

none-in : (v : View) → Blind (process_in v) is_none
none-in v n None = refl
none-in v n (Some p) = refl

pub free-in : (v : View) (ps : List (Option Process)) → free_slot (places_in v ps) ≡ free_slot ps
free-in v ps = position-at (process_in v) is_none (none-in v) ps

pub put-in : (v : View) (ps : List (Option Process)) (i : ℕ) (p : Process)
    → put (places_in v ps) i (process_in v i p) ≡ places_in v (put ps i p)
put-in v ps i p = set-at (process_in v) ps i (Some p)

pub put-plain : (v : View) (ps : List (Option Process)) (i : ℕ) (p : Process) → IsPlain v i
    → put (places_in v ps) i (plain_in v p) ≡ places_in v (put ps i p)
put-plain v ps i p plain = ap (put (places_in v ps) i) (plain-is v i plain p) ∙ put-in v ps i p

pub any-in : (v : View) (test : Process → Bool) → ((n : ℕ) (p : Process) → test (process_in v n p) ≡ test p)
    → (ps : List (Option Process)) → list_any test (taken (places_in v ps)) ≡ list_any test (taken ps)
any-in v test same ps = any-at (process_in v) test same ps

-- ---- modes

pub zombie-in : (v : View) (m : Mode) → is_zombie_mode (mode_in v m) ≡ is_zombie_mode m
zombie-in v Running = refl
zombie-in v Ready = refl
zombie-in v (Waiting w) = refl
zombie-in v (Zombie status) = refl

pub running-in : (v : View) (m : Mode) → is_running_mode (mode_in v m) ≡ is_running_mode m
running-in v Running = refl
running-in v Ready = refl
running-in v (Waiting w) = refl
running-in v (Zombie status) = refl

pub waiting-in : (v : View) (m : Mode) → is_waiting_mode (mode_in v m) ≡ is_waiting_mode m
waiting-in v Running = refl
waiting-in v Ready = refl
waiting-in v (Waiting w) = refl
waiting-in v (Zombie status) = refl

pub status-in : (v : View) (m : Mode) → status_of (mode_in v m) ≡ status_of m
status-in v Running = refl
status-in v Ready = refl
status-in v (Waiting w) = refl
status-in v (Zombie status) = refl

-- ---- limits

sum-in : (v : View) → IsFair v → (ps : List (Option Process))
    → sum_by process_frames (taken (places_in v ps)) ≡ sum_by process_frames (taken ps)
sum-in v fair ps = fold-at (process_in v) (λ n p. n + process_frames p)
    (λ i n p. ap (λ l. n + (4 + page_frames l)) (fair.pages i (held p))) 0 ps

pub frames-in : (v : View) → IsFair v → (s : State) → frames_of (state_in v s) ≡ frames_of s
unfolding state_in frames_of
frames-in v fair s = ap (λ n. n + length (taken s.pipes)) (sum-in v fair s.places)

pub within-in : (v : View) → IsFair v → (s : State) → is_within (state_in v s) ≡ is_within s
unfolding state_in
within-in v fair s = ap
    (λ n. nat_le n s.frame_limit && nat_le (blocks_of s.files) s.block_limit && nat_le (opens_of s) open_limit)
    (frames-in v fair s)
