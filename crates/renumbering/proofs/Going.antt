-- A call, the end of a process, and what nothing names any more, with other numbers of open files and pipes.
use Rattle.std.proofs.Common.{[], ap, Bool, false, List, map, None, Option, refl, replicate, Some, subst, suc, sym}
use Rattle.std.proofs.Common.{true, zero, ℕ, ℤ, ◌+◌, ◌∙◌, ◌∷◌, ◌≡◌}
use Rattle.std.proofs.lemmas.Bool.{eq-eqb, or_left, or_right}
use Rattle.std.specs.List.{list_any}
use Rattle.std.specs.Prelude.{if◌then◌else◌, nat_lt, negsuc, option_map, ◌==◌, ◌||◌}
use Rattle.renumbering.proofs.Outcomes.{Agrees, agrees-limited}
use Rattle.renumbering.proofs.Rows.{goes-on-agrees, row-agrees}
use Rattle.renumbering.proofs.Slots.{any-at, any-map, each-kept, each-map, each-put, map-swap, put-map}
use Rattle.renumbering.proofs.Slots.{same-some, there-kept}
use Rattle.renumbering.proofs.Tables.{moved-any, moved-kept, there-eq}
use Rattle.renumbering.proofs.States.{Fits, Seen, View, at-in, change-is, fits-change, fits-put, put-is, seen-change}
use Rattle.renumbering.proofs.States.{seen-files, seen-places, seen-refl, state_in}
use Rattle.renumbering.specs.Renumbered.{AreOpen, EachTaken, IsOnPipeThere, IsThere, Renumbering}
use Rattle.renumbering.specs.Renumbered.{places_moved, process_moved, target_moved}
use Rattle.unixmodel.specs.Calls.{After, call, call_of, end_at, end_if_killed, entered, goes_on, outcome, outcome_of}
use Rattle.unixmodel.specs.Calls.{quiet, resume, settle}
use Rattle.unixmodel.specs.Files.{Files, free_slots, links_of, put, slot, taken}
use Rattle.unixmodel.specs.Numbers.{low}
use Rattle.unixmodel.specs.OpenFiles.{OpenFile, Target, is_node, is_pipe}
use Rattle.unixmodel.specs.OpenFiles.Target.{OnNode, OnPipe}
use Rattle.unixmodel.specs.Outcome.{Outcome, end_process, halt_status, minus_one, no_descriptors, orphaned}
use Rattle.unixmodel.specs.Outcome.{zombie_of}
use Rattle.unixmodel.specs.Outcome.Outcome.{Done, Ends, Refused, Waits}
use Rattle.unixmodel.specs.Process.{Process, arg, descriptor_limit, is_child_of, with_answer, with_mode}
use Rattle.unixmodel.specs.Reap.{is_described, is_piped, is_same, is_used, kept, reap, without_nodes, without_opens}
use Rattle.unixmodel.specs.Reap.{without_pipes}
use Rattle.unixmodel.specs.State.{State, change_process, process_at, put_process}
use Rattle.unixmodel.specs.declared.call.Call.{Call}
use Rattle.unixmodel.specs.declared.process.Mode.TheVariants.{Running, Waiting}
use Rattle.unixmodel.specs.declared.process.Pending.{Pending}

-- ---- what names what

same-in : (r : Renumbering) (k : ℕ) (o : Option ℕ) → is_same (r.there k) (option_map r.there o) ≡ is_same k o
same-in r k None = refl
same-in r k (Some n) = there-eq r n k

names-in : (r : Renumbering) (k : ℕ) (ds : List (Option ℕ))
    → list_any (is_same (r.there k)) (map (option_map r.there) ds) ≡ list_any (is_same k) ds
names-in r k [] = refl
names-in r k (o ∷ ds) =
    ap (λ b. b || list_any (is_same (r.there k)) (map (option_map r.there) ds)) (same-in r k o)
    ∙ ap (λ b. is_same k o || b) (names-in r k ds)

named-by : (ds : List (Option ℕ)) (d k : ℕ) → slot ds d ≡ Some k → list_any (is_same k) ds ≡ true
named-by [] d k at = absurd cc
named-by (None ∷ ds) zero k at = absurd cc
named-by (Some n ∷ ds) zero k at =
    or_left (n == k) (list_any (is_same k) ds) (eq-eqb n k (same-some n k at))
named-by (o ∷ ds) (suc d) k at = or_right (is_same k o) (list_any (is_same k) ds) (named-by ds d k at)

pipe-in : (r : Renumbering) (q : ℕ) (t : Target) → is_pipe (r.there q) (target_moved r t) ≡ is_pipe q t
pipe-in r q (OnNode n offset) = refl
pipe-in r q (OnPipe u end) = there-eq r u q

node-in : (r : Renumbering) (n : ℕ) (t : Target) → is_node n (target_moved r t) ≡ is_node n t
node-in r n (OnNode m offset) = refl
node-in r n (OnPipe q end) = refl

kept-same : {X : Type 0} (test other : ℕ → X → Bool) → ((n : ℕ) (x : X) → other n x ≡ test n x)
    → (n : ℕ) (xs : List (Option X)) → kept other n xs ≡ kept test n xs
kept-same test other same n [] = refl
kept-same test other same n (None ∷ xs) = ap (λ ys. None ∷ ys) (kept-same test other same (n + 1) xs)
kept-same test other same n (Some x ∷ xs) =
    ap (λ b. (if b then Some x else None) ∷ kept other (n + 1) xs) (same n x)
    ∙ ap (λ ys. (if test n x then Some x else None) ∷ ys) (kept-same test other same (n + 1) xs)

-- ---- what nothing names any more

module _ {v : View} {s : State} (fits : Fits v s) where
  abbrev t : State
  t = state_in v s

  described-in : (k : ℕ) → is_described t (v.files.there k) ≡ is_described s k
  unfolding state_in
  described-in k = any-map (process_moved v.files) (λ p. list_any (is_same (v.files.there k)) p.descriptors)
      (λ p. list_any (is_same k) p.descriptors) (λ p. names-in v.files k p.descriptors) s.places

  piped-in : (q : ℕ) → is_piped t (v.pipes.there q) ≡ is_piped s q
  unfolding state_in
  piped-in q = moved-any fits.opens (λ f. is_pipe q f.target) (λ f. is_pipe (v.pipes.there q) f.target)
      (λ f. pipe-in v.pipes q f.target)

  used-in : (n : ℕ) → is_used t n ≡ is_used s n
  unfolding state_in
  used-in n =
      ap (λ b. b || list_any (λ (p : Process). p.directory == n) (taken (places_moved v.files s.places)))
      (moved-any fits.opens (λ f. is_node n f.target) (λ f. is_node n f.target) (λ f. node-in v.pipes n f.target))
      ∙ ap (λ b. list_any (λ (f : OpenFile). is_node n f.target) (taken s.opens) || b)
      (any-map (process_moved v.files) (λ p. p.directory == n) (λ p. p.directory == n) (λ p. refl) s.places)

  opens-in : Seen (without_opens s) (without_opens t)
  unfolding without_opens state_in
  opens-in = record {
    view = record v { opens = kept (λ k f. is_described t k) 0 v.opens };
    fits = record {
      opens = moved-kept fits.opens (λ k f. is_described s k) (λ k f. is_described t k) (λ k f. described-in k);
      held = fits.held;
      there = record {
        descriptors = record {
          at = λ i p at. record {
            at = λ d k named. there-kept (λ k f. is_described s k) s.opens k
                (λ f. any-at (λ (p : Process). list_any (is_same k) p.descriptors) s.places i p at
                (named-by p.descriptors d k named))
                ((fits.there.descriptors.at i p at).at d k named);
          };
        };
        pipes = each-kept (λ k f. is_described s k) s.opens (λ k f test at. fits.there.pipes.at k f at);
      };
    };
    is = refl;
  }

  -- the pipe of an open file is kept
  pipe-kept : (k : ℕ) (f : OpenFile) → slot s.opens k ≡ Some f → (target : Target) → f.target ≡ target
      → IsOnPipeThere (kept (λ q pipe. is_piped s q) 0 s.pipes) target
  pipe-kept k f at (OnNode n offset) is = tt
  pipe-kept k f at (OnPipe q end) is = there-kept (λ q pipe. is_piped s q) s.pipes q
      (λ bytes. any-at (λ (f : OpenFile). is_pipe q f.target) s.opens k f at (ap (is_pipe q) is ∙ eq-eqb q q refl))
      (subst (IsOnPipeThere s.pipes) is (fits.there.pipes.at k f at))

  pipes-in : Seen (without_pipes s) (without_pipes t)
  unfolding without_pipes state_in
  pipes-in = record {
    view = record v { held = kept (λ q pipe. is_piped t q) 0 v.held };
    fits = record {
      opens = fits.opens;
      held = moved-kept fits.held (λ q pipe. is_piped s q) (λ q pipe. is_piped t q) (λ q pipe. piped-in q);
      there = record {
        descriptors = fits.there.descriptors;
        pipes = record { at = λ k f at. pipe-kept k f at f.target refl };
      };
    };
    is = refl;
  }

  nodes-in : Seen (without_nodes s) (without_nodes t)
  unfolding without_nodes state_in
  nodes-in = subst (λ (files : Files). Seen (without_nodes s) (record t { files = files }))
      (sym (kept-same (λ n node. nat_lt 0 (links_of node) || is_used s n)
      (λ n node. nat_lt 0 (links_of node) || is_used t n)
      (λ n node. ap (λ b. nat_lt 0 (links_of node) || b) (used-in n)) 0 s.files))
      (seen-files fits (without_nodes s).files s.console)

-- what is seen of the first is so of the second
by-seen : {s t : State} (seen : Seen s t) (P : State → Type 0) → P (state_in seen.view s) → P t
by-seen seen P holds = subst P (sym seen.is) holds

pub seen-reap : {s t : State} → Seen s t → Seen (reap s) (reap t)
unfolding reap
seen-reap {s} {t} seen =
    let opens = by-seen seen (λ t. Seen (without_opens s) (without_opens t)) (opens-in seen.fits) in
    let pipes = by-seen opens (λ u. Seen (without_pipes (without_opens s)) (without_pipes u)) (pipes-in opens.fits) in
    by-seen pipes (λ u. Seen (reap s) (without_nodes u)) (nodes-in pipes.fits)

-- ---- the end of a process

orphaned-in : (r : Renumbering) (pid : ℕ) (p : Process)
    → orphaned pid (process_moved r p) ≡ process_moved r (orphaned pid p)
orphaned-in r pid p = by (is_child_of pid p)
  where
    by : (b : Bool) → (if b then record (process_moved r p) { parent = 1 } else process_moved r p)
        ≡ process_moved r (if b then record p { parent = 1 } else p)
    by true = refl
    by false = refl

orphaned-open : (opens : List (Option OpenFile)) (pid : ℕ) (p : Process) → AreOpen opens p
    → AreOpen opens (orphaned pid p)
orphaned-open opens pid p named = by (is_child_of pid p)
  where
    by : (b : Bool) → AreOpen opens (if b then record p { parent = 1 } else p)
    by true = named
    by false = named

still-free : {X Y : Type 0} (f : X → Y) (n : ℕ) → map (option_map f) (replicate n None) ≡ replicate n None
still-free f zero = refl
still-free f (suc n) = ap (λ us. None ∷ us) (still-free f n)

none-taken : {X : Type 0} (n i : ℕ) (x : X) → slot (replicate n None) i ≡ Some x → ⊥
none-taken zero i x at = absurd cc
none-taken (suc n) zero x at = absurd cc
none-taken (suc n) (suc i) x at = none-taken n i x at

pub each-none : {X : Type 0} (P : X → Type 0) (n : ℕ) → EachTaken P (free_slots n)
unfolding free_slots
each-none P n = record { at = λ i x at. absurd (none-taken n i x at) }

zombie-in : (r : Renumbering) (p : Process) (status : ℤ)
    → zombie_of (process_moved r p) status ≡ process_moved r (zombie_of p status)
unfolding no_descriptors free_slots
zombie-in r p status = ap (λ (ds : List (Option ℕ)). record (zombie_of p status) { descriptors = ds })
    (sym (still-free r.there descriptor_limit))

zombie-open : (opens : List (Option OpenFile)) (p : Process) (status : ℤ) → AreOpen opens (zombie_of p status)
unfolding no_descriptors
zombie-open opens p status = each-none (IsThere opens) descriptor_limit

pub end-in : {v : View} {s : State} → Fits v s → (i : ℕ) (p : Process) (status : ℤ)
    → Seen (end_process s i p status) (end_process (state_in v s) i (process_moved v.files p) status)
unfolding end_process state_in
end-in {v} {s} fits i p status =
    let orphans = map (option_map (orphaned p.pid)) s.places in
    seen-reap (seen-places fits (put orphans i (zombie_of p status)) _ s.files s.console s.ticks s.next_pid s.last
    (halt_status s p status)
    (ap (λ ps. put ps i (zombie_of (process_moved v.files p) status))
    (map-swap (process_moved v.files) (orphaned p.pid) (orphaned-in v.files p.pid) s.places)
    ∙ ap (put (places_moved v.files orphans) i) (zombie-in v.files p status)
    ∙ put-map (process_moved v.files) orphans i (zombie_of p status))
    (each-put i (zombie_of p status) (zombie-open s.opens p status)
    (each-map (orphaned p.pid) (orphaned-open s.opens p.pid) fits.there.descriptors)))

-- ---- what an outcome makes of a state

-- the same bytes, and states with other numbers
pub record SeenAfter (a b : After) : Type 0 where
  pub bytes : b.bytes ≡ a.bytes
  pub state : Seen a.state b.state

pub after-quiet : {s t : State} → Seen s t → SeenAfter (quiet s) (quiet t)
after-quiet seen = record { bytes = refl; state = seen }

killed-in : {v : View} {s : State} → Fits v s → (i : ℕ) (o : Option Process)
    → Seen (end_if_killed s i o) (end_if_killed (state_in v s) i (option_map (process_moved v.files) o))
killed-in fits i None = seen-refl fits
killed-in {v} {s} fits i (Some p) = by p.killed
  where
    by : (b : Bool) → Seen (if b then end_process s i p (negsuc 0) else reap s)
        (if b then end_process (state_in v s) i (process_moved v.files p) (negsuc 0) else reap (state_in v s))
    by true = end-in fits i p (negsuc 0)
    by false = seen-reap (seen-refl fits)

ended-in : {v : View} {s : State} → Fits v s → (i : ℕ) (status : ℤ) (o : Option Process)
    → Seen (end_at s i status o) (end_at (state_in v s) i status (option_map (process_moved v.files) o))
ended-in fits i status None = seen-refl fits
ended-in fits i status (Some p) = end-in fits i p status

done-in : {new t : State} → Seen new t → (i answer : ℕ)
    → (let done = change_process new i (with_answer answer) in
    let other = change_process t i (with_answer answer) in
    Seen (end_if_killed done i (process_at done i)) (end_if_killed other i (process_at other i)))
done-in {new} {t} seen i answer =
    let done = change_process new i (with_answer answer) in
    let fits = fits-change seen.fits i (with_answer answer) (λ p. refl) (λ p named. named) in
    by-seen seen (λ t. Seen (end_if_killed done i (process_at done i))
    (end_if_killed (change_process t i (with_answer answer)) i
    (process_at (change_process t i (with_answer answer)) i)))
    (subst (λ d. Seen (end_if_killed done i (process_at done i)) (end_if_killed d i (process_at d i)))
    (sym (change-is seen.fits i (with_answer answer) (λ p. refl) (λ p named. named)))
    (subst (λ o. Seen (end_if_killed done i (process_at done i)) (end_if_killed (state_in seen.view done) i o))
    (sym (at-in fits i)) (killed-in fits i (process_at done i))))

waits-in : {new t : State} → Seen new t → (i : ℕ) (w : Pending)
    → Seen (reap (change_process new i (with_mode (Waiting w)))) (reap (change_process t i (with_mode (Waiting w))))
waits-in {new} {t} seen i w = by-seen seen
    (λ t. Seen (reap (change_process new i (with_mode (Waiting w))))
    (reap (change_process t i (with_mode (Waiting w)))))
    (seen-reap (seen-change seen.fits i (with_mode (Waiting w)) (λ p. refl) (λ p named. named)))

ends-in : {new t : State} → Seen new t → (i : ℕ) (status : ℤ)
    → Seen (end_at new i status (process_at new i)) (end_at t i status (process_at t i))
ends-in {new} {t} seen i status = by-seen seen
    (λ t. Seen (end_at new i status (process_at new i)) (end_at t i status (process_at t i)))
    (subst (λ o. Seen (end_at new i status (process_at new i)) (end_at (state_in seen.view new) i status o))
    (sym (at-in seen.fits i)) (ended-in seen.fits i status (process_at new i)))

settle-in : {v : View} {s : State} → Fits v s → (i : ℕ) (o u : Outcome) → Agrees o u
    → SeenAfter (settle s i o) (settle (state_in v s) i u)
settle-in fits i Refused Refused agrees =
    after-quiet (seen-change fits i (with_answer minus_one) (λ p. refl) (λ p named. named))
settle-in {v} {s} fits i (Done new answer bytes) (Done t other more) agrees = record {
  bytes = agrees.2;
  state = subst (λ n. Seen (settle s i (Done new answer bytes)).state (settle s i (Done t n more)).state)
      (sym agrees.1) (done-in agrees.0 i answer);
}
settle-in {v} {s} fits i (Waits new w) (Waits t x) agrees = after-quiet
    (subst (λ x. Seen (settle s i (Waits new w)).state (settle s i (Waits t x)).state) (sym agrees.1)
    (waits-in agrees.0 i w))
settle-in {v} {s} fits i (Ends new status) (Ends t other) agrees = after-quiet
    (subst (λ n. Seen (settle s i (Ends new status)).state (settle s i (Ends t n)).state) (sym agrees.1)
    (ends-in agrees.0 i status))
settle-in fits i Refused (Done t other more) agrees = absurd agrees
settle-in fits i Refused (Waits t x) agrees = absurd agrees
settle-in fits i Refused (Ends t other) agrees = absurd agrees
settle-in fits i (Done new answer bytes) Refused agrees = absurd agrees
settle-in fits i (Done new answer bytes) (Waits t x) agrees = absurd agrees
settle-in fits i (Done new answer bytes) (Ends t other) agrees = absurd agrees
settle-in fits i (Waits new w) Refused agrees = absurd agrees
settle-in fits i (Waits new w) (Done t other more) agrees = absurd agrees
settle-in fits i (Waits new w) (Ends t other) agrees = absurd agrees
settle-in fits i (Ends new status) Refused agrees = absurd agrees
settle-in fits i (Ends new status) (Done t other more) agrees = absurd agrees
settle-in fits i (Ends new status) (Waits t x) agrees = absurd agrees

-- ---- calls

outcome-of-in : {v : View} {s : State} → Fits v s → (i : ℕ) (p : Process) → AreOpen s.opens p
    → (number : Option Call)
    → Agrees (outcome_of s i p number) (outcome_of (state_in v s) i (process_moved v.files p) number)
outcome-of-in fits i p named None = tt
outcome-of-in fits i p named (Some number) = agrees-limited _ _ (row-agrees fits i p named number)

pub call-in : {v : View} {s : State} → Fits v s → (i : ℕ) (p : Process) → AreOpen s.opens p
    → SeenAfter (call s i p) (call (state_in v s) i (process_moved v.files p))
unfolding call
call-in {v} {s} fits i p named =
    let begun = put_process s i (entered p) in
    let there = fits-put fits i (entered p) named in
    subst (λ t. SeenAfter (settle begun i (outcome begun i (entered p)))
    (settle t i (outcome t i (process_moved v.files (entered p))))) (sym (put-is fits i (entered p)))
    (settle-in there i _ _ (outcome-of-in there i (entered p) named (call_of (low (arg p 7)))))

pub resume-in : {v : View} {s : State} → Fits v s → (i : ℕ) (p : Process) → AreOpen s.opens p → (w : Pending)
    → SeenAfter (resume s i p w) (resume (state_in v s) i (process_moved v.files p) w)
unfolding resume
resume-in {v} {s} fits i p named w =
    let begun = put_process s i (with_mode Running p) in
    let there = fits-put fits i (with_mode Running p) named in
    subst (λ t. SeenAfter (settle begun i (goes_on begun i (with_mode Running p) w w.number))
    (settle t i (goes_on t i (process_moved v.files (with_mode Running p)) w w.number)))
    (sym (put-is fits i (with_mode Running p)))
    (settle-in there i _ _ (goes-on-agrees there i (with_mode Running p) named w w.number))
