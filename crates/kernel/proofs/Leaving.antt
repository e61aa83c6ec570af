-- What is left of the open files and the pipes where descriptors are closed is what the abstract Unix leaves.
use Rattle.kernel.proofs.Common.{IsOpened, WaitsWell, drop-cons, eq-eqb, append_assoc, Bool, List, None, Option, Some}
use Rattle.kernel.proofs.Common.{[], ap, arith, cond, false, inl, inr, length, refl, subst, suc, sym, true, ℕ, ◌+◌}
use Rattle.kernel.proofs.Common.{◌++◌, ◌<◌, ◌≡◌, ◌≤◌, ◌∙◌, ◌∷◌, drop, is_some, option_and_then, option_map, slice_set}
use Rattle.kernel.proofs.Common.{cases_lt, get_or_past, length-append, set-get_or, sum_by-cons, sum_by-set, IsCounted}
use Rattle.kernel.proofs.Common.{after_close, all_closed, standing, files_on, gone_nodes, last_node, listed, node_in}
use Rattle.kernel.proofs.Common.{node_on, one_in, Counts, one_at, IsPiped, lt-ltb, has_pipe-clear, pipes-left}
use Rattle.kernel.proofs.Common.{pipes-same, file_of, target_of, Counted, IsTable, closed, count_at, last_target}
use Rattle.kernel.proofs.Common.{opens_of, slot-opens, le-ltb, joined, Spaces, Files, clear, slot, taken, End, OnPipe}
use Rattle.kernel.proofs.Common.{reap, without_nodes, without_pipes, State}
use Rattle.files.specs.Places.{has_pipe, fewer, last_in}
use Rattle.kernel.proofs.Joined.{waits-fewer, count-joined}
use Rattle.kernel.proofs.Releasing.{named_in}
use Rattle.kernel.proofs.Holding.{Fds, Opens, Pipes, Processes, Views}
use Rattle.kernel.proofs.Named.{files-all_closed, kept-all_closed, opens-all_closed, table-all_closed}
use Rattle.files.specs.declared.file.End as files_end
use Rattle.files.specs.declared.file.OpenFile.{OpenFile}
use Rattle.files.specs.declared.file.Target.{Target}
use Rattle.files.specs.declared.file.Target.TheVariants as target
use Rattle.unixmodel.specs.OpenFiles as unix
use Rattle.files.proofs.PipesLemmas.{IsLeftOf, pipes-clear, piped-end, piped-last, piped-node, without_pipes-left}
use Rattle.files.proofs.Whole.{IsLeft, left-closed, left-same, opens-closed, opens-closed_last, set_outside}
use Rattle.files.proofs.Whole.{without_opens-left}

-- ---- pipes

module _ (pipes : Pipes) (t : Opens) (n : ℕ) (is : IsPiped pipes (opens_of t)) where
  stays : opens_of (closed t n) ≡ opens_of t → IsPiped pipes (opens_of (closed t n))
  stays same = rw same is

  goes-end : (f : unix.OpenFile) (q : ℕ) (e : End) (b : Bool) → slot (opens_of t) n ≡ Some f → f.target ≡ OnPipe q e
      → has_pipe (clear (opens_of t) n) q ≡ b
      → IsPiped (cond b pipes (clear pipes q)) (clear (opens_of t) n)
  goes-end f q e true at on stands = piped-end pipes _ n q f e is at on stands
  goes-end f q e false at on stands = piped-last pipes _ n q f e is at on stands

  goes : (f : OpenFile) (on : Target) → slot (opens_of t) n ≡ Some (file_of f) → f.target ≡ on
      → IsPiped (after_close pipes (clear (opens_of t) n) (Some on)) (clear (opens_of t) n)
  goes f (target.File number offset) at on = piped-node pipes _ n _ _ _ is at (ap target_of on)
  goes f (target.Console number) at on = piped-node pipes _ n _ 0 _ is at (ap target_of on)
  goes f (target.Device number) at on = piped-node pipes _ n _ 0 _ is at (ap target_of on)
  goes f (target.Pipe q e) at on = goes-end _ q _ _ at (ap target_of on) refl

  follows : (o : Option Counted) → slot t n ≡ o
      → IsPiped (after_close pipes (opens_of (closed t n)) (option_and_then last_in o)) (opens_of (closed t n))
  follows None at = stays (ap (λ o. opens_of (slice_set t n (option_and_then fewer o)))
      at ∙ ap opens_of (rw (← at) (set-get_or t n None)))
  follows (Some c) at = elim (cases_lt 1 c.count) [
    | inl more ↦ (let many : 1 < count_at t n = rw at more
        in rw (lt-ltb 1 c.count more) (stays (opens-closed t n many)))
    | inr last ↦
        let one : count_at t n ≤ 1 = rw at last in
        rw (le-ltb 1 c.count last)
        (subst (λ (os : List (Option unix.OpenFile)). IsPiped (after_close pipes os (Some c.file.target)) os)
        (sym (opens-closed_last t n one))
        (goes c.file c.file.target (slot-opens t n ∙ ap (option_map (λ (d : Counted). file_of d.file)) at) refl))
  ]

pub left-close_pipe : (old pipes : Pipes) (opens : List (Option unix.OpenFile)) (o : Option Target)
    → IsLeftOf old pipes → IsLeftOf old (after_close pipes opens o)
left-close_pipe old pipes opens (Some (target.Pipe q e)) left =
    elim (has_pipe opens q) as (λ b. IsLeftOf old (cond b pipes (clear pipes q)))
    [ true ↦ left | false ↦ pipes-clear old pipes q left ]
left-close_pipe old pipes opens _ left = left

last-is : (o : Option Counted) (on : Target) → option_and_then last_in o ≡ Some on
    → (c : Counted) × ((o ≡ Some c) × (c.file.target ≡ on))
last-is None on last = absurd (let bad : None ≡ Some on = last in cc)
last-is (Some c) on last = elim (cases_lt 1 c.count) [
  | inl more ↦ absurd (let bad : None ≡ Some on = rw (lt-ltb 1 c.count more) at last in cc)
  | inr one ↦ (let same : Some c.file.target ≡ Some on = rw (le-ltb 1 c.count one) at last in (c, (refl, cc)))
]

-- a pipe exists until its last end is closed
pub stands-last : (t : Opens) (pipes : Pipes) (n q : ℕ) (e : files_end.End) → IsPiped pipes (opens_of t)
    → last_target t n ≡ Some (target.Pipe q e) → is_some (slot pipes q) ≡ true
stands-last t pipes n q e is last =
    let c = last-is _ _ last in
    let at : slot (opens_of t) n ≡ Some (file_of c.0.file) = slot-opens t n
    ∙ ap (option_map (λ (d : Counted). file_of d.file)) c.1.0 in
    is q ∙ has_pipe-clear _ n _ q at ∙ rw (c.1.1, eq-eqb q q refl) refl

-- ---- what is left as a whole

-- some pipes that are left, where descriptors were closed
abbrev pub Leaves : Opens → Pipes → Pipes → Type 0
Leaves new before pipes = IsPiped pipes (opens_of new) × IsLeftOf before pipes

pub leaves-one : (t : Opens) (before pipes : Pipes) (n : ℕ) → Leaves t before pipes
    → Leaves (closed t n) before (after_close pipes (opens_of (closed t n)) (last_target t n))
leaves-one t before pipes n is =
    (follows pipes t n is.0 _ refl, left-close_pipe _ pipes (opens_of (closed t n)) (last_target t n) is.1)

pub leaves-standing : (t : Opens) (pipes : Pipes) (ds : Fds) → IsPiped pipes (opens_of t)
    → Leaves (all_closed t ds) pipes (standing pipes (opens_of (all_closed t ds)))
leaves-standing t pipes ds is =
    let all = kept-all_closed (λ u. (after : Pipes) × Leaves u pipes after)
    (λ u n h. (_, leaves-one u pipes h.0 n h.1)) t ds (pipes, (is, pipes-same pipes)) in
    rw (pipes-left (opens_of (all_closed t ds)) pipes all.0 all.1.0 all.1.1) all.1

-- what holds of the open files still holds
pub opened-closed : {t : Opens} {pipes : Pipes} {os : Processes} → IsOpened t pipes os → (ds : Fds) (after : Processes)
    → IsCounted (all_closed t ds) after → ((j : ℕ) → WaitsWell t (slot after j))
    → IsOpened (all_closed t ds) (standing pipes (opens_of (all_closed t ds))) after
opened-closed {t} {pipes} is ds after counted waits = let leaves = leaves-standing t pipes ds is.piped in record {
  table = table-all_closed t ds is.table;
  counted = counted;
  each = λ n f at. is.each n f (opens-all_closed t ds n f at);
  all = leaves.1.all ∙ is.all;
  piped = leaves.0;
  waits = λ j. waits-fewer t _ (files-all_closed t ds) _ (waits j);
}

-- there are no more pipes than there were
pub fewer-pipes : (old new : Pipes) → length new ≡ length old
    → ((q : ℕ) (bytes : List ℕ) → slot new q ≡ Some bytes → is_some (slot old q) ≡ true)
    → length (taken new) ≤ length (taken old)
fewer-pipes [] [] all each = omega arith
fewer-pipes (None ∷ old) (None ∷ new) all each = fewer-pipes old new (omega (arith, all)) (λ q. each (suc q))
fewer-pipes (Some b ∷ old) (None ∷ new) all each =
    omega (arith, fewer-pipes old new (omega (arith, all)) (λ q. each (suc q)))
fewer-pipes (None ∷ old) (Some b ∷ new) all each = absurd (let bad : false ≡ true = each 0 b refl in cc)
fewer-pipes (Some b ∷ old) (Some c ∷ new) all each =
    omega (arith, fewer-pipes old new (omega (arith, all)) (λ q. each (suc q)))
fewer-pipes _ _ all each = absurd (omega (arith, all))

pub fewer-standing : (t : Opens) (pipes : Pipes) (ds : Fds) → IsPiped pipes (opens_of t)
    → length (taken (standing pipes (opens_of (all_closed t ds)))) ≤ length (taken pipes)
fewer-standing t pipes ds is = let left =
    (leaves-standing t pipes ds is).1 in fewer-pipes pipes _ left.all (λ q bytes at. ap is_some (left.each q bytes at))

-- ---- what the abstract Unix leaves

-- the descriptors are those of the state's processes
pub counts-joined : (t : Opens) (os : Processes) (hs : Views) → IsCounted t os → Counts t (joined os hs)
counts-joined t os hs counted n = counted n ∙ sym (count-joined os hs n)

pub reap-left : (s : State) (old new : Opens) (before pipes : Pipes) (files : Files) → IsTable new → IsLeft old new
    → Counts new s.places → Leaves new before pipes
    → without_nodes (record s { opens = opens_of new; pipes = pipes })
    ≡ record s { files = files; opens = opens_of new; pipes = pipes }
    → reap (record s { opens = opens_of old; pipes = before })
    ≡ record s { files = files; opens = opens_of new; pipes = pipes }
unfolding reap
reap-left s old new before pipes files is left counts leaves nodes =
    ap (λ (x : State). without_nodes (without_pipes x))
    (without_opens-left (record s { pipes = before }) old new is left counts)
    ∙ ap without_nodes (without_pipes-left (record s { opens = opens_of new }) _ pipes leaves.0 leaves.1)
    ∙ nodes

-- where descriptors were closed, what is left of the table, the pipes and the nodes is what the state is left with
pub reap-closed : (s : State) (t : Opens) (pipes : Pipes) (ds : Fds) (files : Files) → IsTable t
    → IsPiped pipes (opens_of t) → Counts (all_closed t ds) s.places
    → without_nodes (record s
    { opens = opens_of (all_closed t ds); pipes = standing pipes (opens_of (all_closed t ds)) })
    ≡ record s {
      files = files;
      opens = opens_of (all_closed t ds);
      pipes = standing pipes (opens_of (all_closed t ds));
    }
    → reap (record s { opens = opens_of t; pipes = pipes })
    ≡ record s {
      files = files;
      opens = opens_of (all_closed t ds);
      pipes = standing pipes (opens_of (all_closed t ds));
    }
reap-closed s t pipes ds files is piped counts nodes =
    reap-left s t _ pipes _ files (table-all_closed t ds is)
    (kept-all_closed (IsLeft t) (left-closed t) t ds (left-same t)) counts (leaves-standing t pipes ds piped) nodes

-- ---- the nodes of open files that go

-- the holds of an open file that goes are those of its node
pub files_on-closed : (t : Opens) (n m : ℕ)
    → files_on (closed t n) m + named_in (listed (last_node t n)) m ≡ files_on t m
files_on-closed t n m = elim (cases_lt n (length t)) [
  | inl inside ↦ (let sums = sum_by-set (λ o. one_in m (node_in o)) t n (option_and_then fewer (slot t n)) None inside
      in omega (arith, sums, goes (slot t n)))
  | inr outside ↦ rw (set_outside t n (option_and_then fewer (slot t n)) outside, get_or_past t n None outside)
      (omega arith)
]
  where
    one : (h : Option ℕ) → named_in (listed h) m ≡ one_in m h
    one None = refl
    one (Some k) = sum_by-cons (one_at m) k [] ∙ omega arith

    goes : (o : Option Counted)
        → one_in m (node_in (option_and_then fewer o)) + named_in
        (listed (option_and_then node_on (option_and_then last_in o))) m ≡ one_in m (node_in o)
    goes None = refl
    goes (Some c) = elim (cases_lt 1 c.count) [
      | inl more ↦ rw (lt-ltb 1 c.count more) (omega arith)
      | inr last ↦ rw (le-ltb 1 c.count last) (omega (arith, one (node_on c.file.target)))
    ]

pub named_in-append : (xs ys : List ℕ) (m : ℕ) → named_in (xs ++ ys) m ≡ named_in xs m + named_in ys m
named_in-append [] ys m = omega arith
named_in-append (x ∷ xs) ys m =
    omega (arith, sum_by-cons (one_at m) x (xs ++ ys), sum_by-cons (one_at m) x xs, named_in-append xs ys m)

pub files_on-all_closed : (t : Opens) (ds : Fds) (m : ℕ)
    → files_on (all_closed t ds) m + named_in (gone_nodes t ds) m ≡ files_on t m
files_on-all_closed t [] m = omega arith
files_on-all_closed t (None ∷ ds) m = files_on-all_closed t ds m
files_on-all_closed t (Some n ∷ ds) m =
    omega (
      arith,
      files_on-all_closed (closed t n) ds m,
      files_on-closed t n m,
      named_in-append (listed (last_node t n)) (gone_nodes (closed t n) ds) m,
    )

-- ---- one descriptor after the other

-- the first i descriptors were closed, and these nodes went
pub record IsClosing (old : Opens) (before : Spaces) (ds : Fds) (t : Opens) (s : Spaces) (gone : List ℕ) (i : ℕ) : Type
    0 where
  pub files : all_closed t (drop i ds) ≡ all_closed old ds
  pub leaves : Leaves t before.pipes s.pipes
  pub spaces : s ≡ record before { pipes = s.pipes }
  pub nodes : gone ++ gone_nodes t (drop i ds) ≡ gone_nodes old ds
  pub few : length gone ≤ i

length-listed : (o : Option ℕ) → length (listed o) ≤ 1
length-listed None = omega arith
length-listed (Some n) = omega arith

module _ {old : Opens} {before : Spaces} {ds : Fds} {t : Opens} {s : Spaces} {gone : List ℕ} {i : ℕ}
    (is : IsClosing old before ds t s gone i) where
  next : i < length ds → (o : Option ℕ) → slot ds i ≡ o → o ∷ drop (i + 1) ds ≡ drop i ds
  next h o at =
      let e : suc i ≡ i + 1 = omega arith in
      sym (drop-cons ds i None h ∙ ap (λ d. d ∷ drop (suc i) ds) at ∙ ap (λ j. o ∷ drop j ds) e)

  pub closes-none : i < length ds → slot ds i ≡ None → IsClosing old before ds t s gone (i + 1)
  closes-none h at = record {
    files = ap (all_closed t) (next h None at) ∙ is.files;
    leaves = is.leaves;
    spaces = is.spaces;
    nodes = ap (λ rest. gone ++ gone_nodes t rest) (next h None at) ∙ is.nodes;
    few = omega (arith, is.few);
  }

  pub closes-some : i < length ds → (n : ℕ) → slot ds i ≡ Some n → (new : List ℕ)
      → new ≡ gone ++ listed (last_node t n)
      → IsClosing old before ds (closed t n)
      (record s { pipes = after_close s.pipes (opens_of (closed t n)) (last_target t n) }) new (i + 1)
  closes-some h n at new e = record {
    files = ap (all_closed t) (next h _ at) ∙ is.files;
    leaves = leaves-one t _ _ n is.leaves;
    spaces = ap (λ (x : Spaces). record x { pipes = after_close s.pipes (opens_of (closed t n)) (last_target t n) })
        is.spaces;
    nodes =
        ap (λ ns. ns ++ gone_nodes (closed t n) (drop (i + 1) ds)) e
        ∙ append_assoc gone (listed (last_node t n)) (gone_nodes (closed t n) (drop (i + 1) ds))
        ∙ ap (λ rest. gone ++ gone_nodes t rest) (next h _ at)
        ∙ is.nodes;
    few = omega (
      arith,
      is.few,
      ap length e,
      length-append gone (listed (last_node t n)),
      length-listed (last_node t n),
    );
  }

  -- all were
  pub closing-all : s ≡ record before { pipes = standing before.pipes (opens_of t) }
  closing-all = is.spaces ∙ ap (λ (ps : Pipes). record before { pipes = ps })
      (sym (pipes-left (opens_of t) _ _ is.leaves.0 is.leaves.1))
