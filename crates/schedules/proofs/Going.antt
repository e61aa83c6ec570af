-- A call, the end of a process, and what nothing names any more, in a view of the state.
use Rattle.std.proofs.Common.{[], ap, Bool, false, List, map, None, Option, refl, Some, subst, sym}
use Rattle.std.proofs.Common.{suc, true, zero, ℕ, ℤ, ◌+◌, ◌∙◌, ◌∷◌, ◌≡◌}
use Rattle.std.specs.List.{list_any}
use Rattle.std.specs.Prelude.{if◌then◌else◌, nat_eq, nat_lt, negsuc, option_map, ◌||◌}
use Rattle.schedules.proofs.Rows.{Agrees, Seen, Tells, agrees-limited, goes-on-agrees, row-agrees, seen-places}
use Rattle.schedules.proofs.Rows.{seen-refl}
use Rattle.schedules.proofs.Views.{IsFair, IsFresh, IsPlain, View, all-at, any-in, change-at, pending_in, plain-is}
use Rattle.schedules.proofs.Views.{plain_in, process_in, put-in, put-plain, slot-at, state_in}
use Rattle.unixmodel.specs.Calls.{After, call, call_of, end_at, end_if_killed, entered, goes_on, outcome, outcome_of}
use Rattle.unixmodel.specs.Calls.{quiet, resume, settle}
use Rattle.unixmodel.specs.Files.{Node, links_of, put, slot, taken}
use Rattle.unixmodel.specs.Numbers.{low}
use Rattle.unixmodel.specs.OpenFiles.{OpenFile, is_node}
use Rattle.unixmodel.specs.Outcome.{Outcome, end_process, minus_one, orphaned, with_zombie, zombie_of}
use Rattle.unixmodel.specs.Outcome.Outcome.{Done, Ends, Refused, Waits}
use Rattle.unixmodel.specs.Process.{Process, arg, is_child_of, with_answer, with_mode}
use Rattle.unixmodel.specs.Reap.{is_described, is_same, is_used, kept, reap, without_nodes, without_opens}
use Rattle.unixmodel.specs.Reap.{without_pipes}
use Rattle.unixmodel.specs.State.{State, change_process, process_at, put_process}
use Rattle.unixmodel.specs.declared.call.Call.{Call}
use Rattle.unixmodel.specs.declared.process.Mode.TheVariants.{Running, Waiting}
use Rattle.unixmodel.specs.declared.process.Pending.{Pending}

-- ---- what nothing names any more

kept-same : {X : Type 0} (test other : ℕ → X → Bool) → ((n : ℕ) (x : X) → other n x ≡ test n x)
    → (n : ℕ) (xs : List (Option X)) → kept other n xs ≡ kept test n xs
kept-same test other same n [] = refl
kept-same test other same n (None ∷ xs) = ap (λ ys. None ∷ ys) (kept-same test other same (n + 1) xs)
kept-same test other same n (Some x ∷ xs) =
    ap (λ b. (if b then Some x else None) ∷ kept other (n + 1) xs) (same n x)
    ∙ ap (λ ys. (if test n x then Some x else None) ∷ ys) (kept-same test other same (n + 1) xs)

described-in : (v : View) (s : State) (id : ℕ) → is_described (state_in v s) id ≡ is_described s id
unfolding state_in
described-in v s id = any-in v (λ p. list_any (is_same id) p.descriptors) (λ n p. refl) s.places

used-in : (v : View) (s : State) (n : ℕ) → is_used (state_in v s) n ≡ is_used s n
unfolding state_in
used-in v s n = ap (λ b. list_any (λ (f : OpenFile). is_node n f.target) (taken s.opens) || b)
    (any-in v (λ p. nat_eq p.directory n) (λ n p. refl) s.places)

opens-in : (v : View) (s : State) → without_opens (state_in v s) ≡ state_in v (without_opens s)
unfolding state_in without_opens
opens-in v s = ap (λ (opens : List (Option OpenFile)). state_in v (record s { opens = opens }))
    (kept-same (λ id f. is_described s id) (λ id f. is_described (state_in v s) id)
    (λ id f. described-in v s id) 0 s.opens)

nodes-in : (v : View) (s : State) → without_nodes (state_in v s) ≡ state_in v (without_nodes s)
unfolding state_in without_nodes
nodes-in v s = ap (λ (files : List (Option Node)). state_in v (record s { files = files }))
    (kept-same (λ n node. nat_lt 0 (links_of node) || is_used s n)
    (λ n node. nat_lt 0 (links_of node) || is_used (state_in v s) n)
    (λ n node. ap (λ b. nat_lt 0 (links_of node) || b) (used-in v s n)) 0 s.files)

pipes-in : (v : View) (s : State) → without_pipes (state_in v s) ≡ state_in v (without_pipes s)
unfolding state_in without_pipes
pipes-in v s = refl

reap-in : (v : View) (s : State) → reap (state_in v s) ≡ state_in v (reap s)
unfolding reap
reap-in v s =
    ap (λ t. without_nodes (without_pipes t)) (opens-in v s)
    ∙ ap without_nodes (pipes-in v (without_opens s))
    ∙ nodes-in v (without_pipes (without_opens s))

reap-time : (s : State) → (reap s).ticks ≡ s.ticks
unfolding reap without_nodes without_pipes without_opens
reap-time s = refl

pub seen-reap : (v : View) (s t : State) → Seen v s t → Seen v (reap s) (reap t)
seen-reap v s t seen = record {
  time = reap-time s ∙ seen.time;
  is = ap reap seen.is ∙ reap-in v s;
}

-- ---- the end of a process

by-test : {A : Type 0} (f : A → A) (b : Bool) (x y u w : A) → u ≡ f x → w ≡ f y
    → (if b then u else w) ≡ f (if b then x else y)
by-test f true x y u w one other = one
by-test f false x y u w one other = other

orphaned-in : (v : View) (pid n : ℕ) (p : Process)
    → orphaned pid (process_in v n p) ≡ process_in v n (orphaned pid p)
orphaned-in v pid n p =
    by-test (process_in v n) (is_child_of pid p) (record p { parent = 1 }) p _ _ refl refl

pub end-in : (v : View) (s : State) (i : ℕ) (p : Process) (status : ℤ) → s.ticks ≡ v.now
    → Seen v (end_process s i p status) (end_process (state_in v s) i (process_in v i p) status)
unfolding end_process state_in
end-in v s i p status time =
    seen-reap v (with_zombie s i p status) (with_zombie (state_in v s) i (process_in v i p) status)
    (seen-places v s _ _ s.files s.opens s.pipes s.console s.next_pid s.last _ time
    (ap (λ ps. put ps i (process_in v i (zombie_of p status)))
    (all-at (process_in v) (orphaned p.pid) (orphaned-in v p.pid) s.places)
    ∙ put-in v (map (option_map (orphaned p.pid)) s.places) i (zombie_of p status)))

-- ---- what an outcome makes of a state

-- a new state and its bytes, and the view of it
pub record SeenAfter (v : View) (a b : After) : Type 0 where
  pub bytes : b.bytes ≡ a.bytes
  pub state : Seen v a.state b.state

pub after-quiet : (v : View) (s t : State) → Seen v s t → SeenAfter v (quiet s) (quiet t)
after-quiet v s t seen = record { bytes = refl; state = seen }

pub changed-in : (v : View) (s : State) (i : ℕ) (f g : Process → Process)
    → ((p : Process) → f (process_in v i p) ≡ process_in v i (g p)) → s.ticks ≡ v.now
    → Seen v (change_process s i g) (change_process (state_in v s) i f)
unfolding state_in
changed-in v s i f g same time =
    seen-places v s _ _ s.files s.opens s.pipes s.console s.next_pid s.last s.halted time
    (change-at (process_in v) f g i same s.places)

-- the answer of a call, where all that its process holds is seen
answered-in : (v : View) (i answer : ℕ) → IsPlain v i → (p : Process)
    → with_answer answer (process_in v i p) ≡ process_in v i (with_answer answer p)
answered-in v i answer plain p =
    ap (with_answer answer) (sym (plain-is v i plain p)) ∙ plain-is v i plain (with_answer answer p)

killed-in : (v : View) (s : State) (i : ℕ) (o : Option Process) → s.ticks ≡ v.now
    → Seen v (end_if_killed s i o) (end_if_killed (state_in v s) i (option_map (process_in v i) o))
killed-in v s i None time = seen-refl v s time
killed-in v s i (Some p) time = either p.killed
  where
    either : (b : Bool) → Seen v (if b then end_process s i p (negsuc 0) else reap s)
        (if b then end_process (state_in v s) i (process_in v i p) (negsuc 0) else reap (state_in v s))
    either true = end-in v s i p (negsuc 0) time
    either false = seen-reap v s (state_in v s) (seen-refl v s time)

ended-in : (v : View) (s : State) (i : ℕ) (status : ℤ) (o : Option Process) → s.ticks ≡ v.now
    → Seen v (end_at s i status o) (end_at (state_in v s) i status (option_map (process_in v i) o))
ended-in v s i status None time = seen-refl v s time
ended-in v s i status (Some p) time = end-in v s i p status time

-- a process of a state that is seen
pub at-in : (v : View) (s : State) (i : ℕ) → process_at (state_in v s) i ≡ option_map (process_in v i) (process_at s i)
unfolding state_in
at-in v s i = slot-at (process_in v) s.places i

-- the view of a state, for another
by-view : (v : View) (s t : State) (P : State → Type 0) → Seen v s t → P (state_in v s) → P t
by-view v s t P seen holds = subst P (sym seen.is) holds

done-in : (v : View) (new t : State) (i answer : ℕ) → IsPlain v i → Seen v new t
    → (let done = change_process new i (with_answer answer) in
    let other = change_process t i (with_answer answer) in
    Seen v (end_if_killed done i (process_at done i)) (end_if_killed other i (process_at other i)))
done-in v new t i answer plain seen =
    let done = change_process new i (with_answer answer) in
    let changed = changed-in v new i (with_answer answer) (with_answer answer) (answered-in v i answer plain)
    seen.time in
    by-view v new t (λ t. Seen v (end_if_killed done i (process_at done i))
    (end_if_killed (change_process t i (with_answer answer)) i
    (process_at (change_process t i (with_answer answer)) i)))
    seen
    (by-view v done (change_process (state_in v new) i (with_answer answer))
    (λ d. Seen v (end_if_killed done i (process_at done i)) (end_if_killed d i (process_at d i))) changed
    (subst (λ o. Seen v (end_if_killed done i (process_at done i)) (end_if_killed (state_in v done) i o))
    (sym (at-in v done i)) (killed-in v done i (process_at done i) changed.time)))

waits-in : (v : View) (new t : State) (i : ℕ) (w : Pending) → Seen v new t
    → Seen v (reap (change_process new i (with_mode (Waiting w))))
    (reap (change_process t i (with_mode (Waiting (pending_in v w)))))
waits-in v new t i w seen = by-view v new t
    (λ t. Seen v (reap (change_process new i (with_mode (Waiting w))))
    (reap (change_process t i (with_mode (Waiting (pending_in v w)))))) seen
    (seen-reap v _ _ (changed-in v new i (with_mode (Waiting (pending_in v w))) (with_mode (Waiting w)) (λ p. refl)
    seen.time))

ends-in : (v : View) (new t : State) (i : ℕ) (status : ℤ) → Seen v new t
    → Seen v (end_at new i status (process_at new i)) (end_at t i status (process_at t i))
ends-in v new t i status seen = by-view v new t
    (λ t. Seen v (end_at new i status (process_at new i)) (end_at t i status (process_at t i))) seen
    (subst (λ o. Seen v (end_at new i status (process_at new i)) (end_at (state_in v new) i status o))
    (sym (at-in v new i)) (ended-in v new i status (process_at new i) seen.time))

settle-in : (v : View) (s : State) (i : ℕ) (o u : Outcome) → s.ticks ≡ v.now → IsPlain v i → Agrees v o u
    → SeenAfter v (settle s i o) (settle (state_in v s) i u)
settle-in v s i Refused Refused time plain agrees = after-quiet v _ _
    (changed-in v s i (with_answer minus_one) (with_answer minus_one) (answered-in v i minus_one plain) time)
settle-in v s i (Done new answer bytes) (Done t other more) time plain agrees = record {
  bytes = agrees.2;
  state = subst (λ n. Seen v (settle s i (Done new answer bytes)).state (settle s i (Done t n more)).state)
      (sym agrees.1) (done-in v new t i answer plain agrees.0);
}
settle-in v s i (Waits new w) (Waits t x) time plain agrees = after-quiet v _ _
    (subst (λ x. Seen v (settle s i (Waits new w)).state (settle s i (Waits t x)).state) (sym agrees.1)
    (waits-in v new t i w agrees.0))
settle-in v s i (Ends new status) (Ends t other) time plain agrees = after-quiet v _ _
    (subst (λ n. Seen v (settle s i (Ends new status)).state (settle s i (Ends t n)).state) (sym agrees.1)
    (ends-in v new t i status agrees.0))
settle-in v s i Refused (Done t other more) time plain agrees = absurd agrees
settle-in v s i Refused (Waits t x) time plain agrees = absurd agrees
settle-in v s i Refused (Ends t other) time plain agrees = absurd agrees
settle-in v s i (Done new answer bytes) Refused time plain agrees = absurd agrees
settle-in v s i (Done new answer bytes) (Waits t x) time plain agrees = absurd agrees
settle-in v s i (Done new answer bytes) (Ends t other) time plain agrees = absurd agrees
settle-in v s i (Waits new w) Refused time plain agrees = absurd agrees
settle-in v s i (Waits new w) (Done t other more) time plain agrees = absurd agrees
settle-in v s i (Waits new w) (Ends t other) time plain agrees = absurd agrees
settle-in v s i (Ends new status) Refused time plain agrees = absurd agrees
settle-in v s i (Ends new status) (Done t other more) time plain agrees = absurd agrees
settle-in v s i (Ends new status) (Waits t x) time plain agrees = absurd agrees

-- ---- calls

outcome-of-in : (v : View) (s : State) (i : ℕ) (p : Process) (number : Option Call) → IsFair v → s.ticks ≡ v.now
    → IsPlain v i → IsFresh v s.places → Tells v number
    → Agrees v (outcome_of s i p number) (outcome_of (state_in v s) i (plain_in v p) number)
outcome-of-in v s i p None fair time plain fresh tells = tt
outcome-of-in v s i p (Some number) fair time plain fresh tells =
    agrees-limited v _ _ fair (row-agrees number v s i p fair time plain fresh tells)

-- a process in its slot, and one of which all that is held is seen
pub begun-in : (v : View) (s : State) (i : ℕ) (p : Process) → s.ticks ≡ v.now
    → Seen v (put_process s i p) (put_process (state_in v s) i (process_in v i p))
unfolding state_in
begun-in v s i p time = seen-places v s _ _ s.files s.opens s.pipes s.console s.next_pid s.last s.halted time
    (put-in v s.places i p)

pub begun-plain : (v : View) (s : State) (i : ℕ) (p : Process) → s.ticks ≡ v.now → IsPlain v i
    → Seen v (put_process s i p) (put_process (state_in v s) i (plain_in v p))
unfolding state_in
begun-plain v s i p time plain =
    seen-places v s _ _ s.files s.opens s.pipes s.console s.next_pid s.last s.halted time
    (put-plain v s.places i p plain)

-- the slots that are free once a process is put into one
free-before : (ps : List (Option Process)) (i j : ℕ) (p : Process) → slot (put ps i p) j ≡ None → slot ps j ≡ None
free-before [] i j p free = refl
free-before (o ∷ ps) zero zero p free = absurd cc
free-before (o ∷ ps) zero (suc j) p free = free
free-before (o ∷ ps) (suc i) zero p free = free
free-before (o ∷ ps) (suc i) (suc j) p free = free-before ps i j p free

fresh-put : (v : View) (ps : List (Option Process)) (i : ℕ) (p : Process) → IsFresh v ps → IsFresh v (put ps i p)
fresh-put v ps i p fresh = record { free = λ j free. fresh.free j (free-before ps i j p free) }

pub call-in : (v : View) (s : State) (i : ℕ) (p : Process) → IsFair v → s.ticks ≡ v.now → IsPlain v i
    → IsFresh v s.places → Tells v (call_of (low (arg p 7)))
    → SeenAfter v (call s i p) (call (state_in v s) i (plain_in v p))
unfolding call
call-in v s i p fair time plain fresh tells =
    let begun = put_process s i (entered p) in
    let seen = begun-plain v s i (entered p) time plain in
    by-view v begun (put_process (state_in v s) i (plain_in v (entered p)))
    (λ t. SeenAfter v (settle begun i (outcome begun i (entered p)))
    (settle t i (outcome t i (plain_in v (entered p))))) seen
    (settle-in v begun i _ _ time plain (outcome-of-in v begun i (entered p) (call_of (low (arg p 7))) fair time plain
    (fresh-put v s.places i (entered p) fresh) tells))

pub resume-in : (v : View) (s : State) (i : ℕ) (p : Process) (w : Pending) → IsFair v → s.ticks ≡ v.now → IsPlain v i
    → SeenAfter v (resume s i p w) (resume (state_in v s) i (plain_in v p) (pending_in v w))
unfolding resume
resume-in v s i p w fair time plain =
    let begun = put_process s i (with_mode Running p) in
    let seen = begun-plain v s i (with_mode Running p) time plain in
    by-view v begun (put_process (state_in v s) i (plain_in v (with_mode Running p)))
    (λ t. SeenAfter v (settle begun i (goes_on begun i (with_mode Running p) w w.number))
    (settle t i (goes_on t i (plain_in v (with_mode Running p)) (pending_in v w) w.number))) seen
    (settle-in v begun i _ _ time plain
    (goes-on-agrees w.number v begun i (with_mode Running p) w fair time plain refl))
