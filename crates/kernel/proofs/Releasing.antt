-- What is left of the nodes of the disk where those that hold them let go.
use Rattle.kernel.proofs.Common.{◌≡◌, ◌≢◌, ℕ, suc, ◌+◌, ◌-◌, ◌≤◌, Bool, true, false, cond, List, [], ◌∷◌, Option, Some}
use Rattle.kernel.proofs.Common.{None, inl, inr, refl, ap, ap₂, sym, subst, ◌∙◌, arith, nat_lt, sum_by, unwrap_or, ◌||◌}
use Rattle.kernel.proofs.Common.{cases_eq, cases_lt, lt-ltb, ltb-true, or_left, or_right, nat_tests, get_or-set_other}
use Rattle.kernel.proofs.Common.{get_or-set_same, sum_by-cons, le-ltb, none-some, same_Some, one_at, Counted, opens_of}
use Rattle.kernel.proofs.Common.{AreHeld, FitsNode, IsFolder, IsInUse, all_dropped, dropped, files_on, home_in}
use Rattle.kernel.proofs.Common.{homes_at, one_at-self, node_in, node_of, node_on, slot-within, joined, holders}
use Rattle.kernel.proofs.Common.{without_hold, FileTree, blocks_of, Files, Node, clear, links_of, slot, is_used, kept}
use Rattle.kernel.proofs.Common.{without_nodes, State, KeepsTree}
use Rattle.kernel.proofs.Holding.{AreAway, IsHome, Opens, Processes, Views, held-counts, held-there, home-folder}
use Rattle.kernel.proofs.Holding.{used-is, within-holds}
use Rattle.files.specs.declared.file.OpenFile.{OpenFile}
use Rattle.files.specs.declared.file.Target.{Target}
use Rattle.files.specs.declared.file.Target.TheVariants as target
use Rattle.kernel.specs.Holding.{FitsFiles}
use Rattle.name_rules.proofs.Quiet.{is_held, kept-same}
use Rattle.tree.proofs.Keeping.{let-go-clear, let-go-held, let-go-linked, let-go-reaps, let-go-keeps}
use Rattle.tree.proofs.Storing.{blocks_of-set, some-node}

-- ---- what is kept of slots

module _ {X : Type 0} (test other : ℕ → X → Bool) where
  pub kept-cong : (k : ℕ) (xs : List (Option X))
      → ((i j : ℕ) (x : X) → j ≡ k + i → slot xs i ≡ Some x → test j x ≡ other j x) → kept test k xs ≡ kept other k xs
  kept-cong k [] same = refl
  kept-cong k (None ∷ xs) same =
      ap (λ ys. None ∷ ys) (kept-cong (k + 1) xs (λ i j x e at. same (suc i) j x (omega (arith, e)) at))
  kept-cong k (Some x ∷ xs) same =
      ap₂ (λ b ys. cond b (Some x) None ∷ ys) (same 0 k x (omega arith) refl)
      (kept-cong (k + 1) xs (λ i j y e at. same (suc i) j y (omega (arith, e)) at))

  twice : (k : ℕ) (x : X) (xs : List (Option X)) → (other k x ≡ true → test k x ≡ true)
      → kept other (k + 1) (kept test (k + 1) xs) ≡ kept other (k + 1) xs → (b : Bool) → test k x ≡ b → (c : Bool)
      → other k x ≡ c
      → kept other k (cond b (Some x) None ∷ kept test (k + 1) xs) ≡ cond c (Some x) None ∷ kept other (k + 1) xs
  twice k x xs narrow rest true e true f = ap₂ (λ d ys. cond d (Some x) None ∷ ys) f rest
  twice k x xs narrow rest true e false f = ap₂ (λ d ys. cond d (Some x) None ∷ ys) f rest
  twice k x xs narrow rest false e true f = absurd (let bad : true ≡ false = sym (narrow f) ∙ e in cc)
  twice k x xs narrow rest false e false f = ap (λ ys. None ∷ ys) rest

  -- what is kept twice is kept by the narrower test
  kept-twice : (k : ℕ) (xs : List (Option X)) → ((n : ℕ) (x : X) → other n x ≡ true → test n x ≡ true)
      → kept other k (kept test k xs) ≡ kept other k xs
  kept-twice k [] narrow = refl
  kept-twice k (None ∷ xs) narrow = ap (λ ys. None ∷ ys) (kept-twice (k + 1) xs narrow)
  kept-twice k (Some x ∷ xs) narrow = twice k x xs (narrow k x) (kept-twice (k + 1) xs narrow) _ refl _ refl

-- ---- one that held a node lets go

-- nodes are held, as holders are counted
abbrev pub is_by : List ℕ → ℕ → Node → Bool
is_by holds = is_held (λ k. nat_lt 0 (holders holds k))

by-holders : (holds : List ℕ) (n : ℕ) (node : Node) → 1 ≤ holders holds n → is_by holds n node ≡ true
by-holders holds n node some = or_right _ _ (lt-ltb 0 (holders holds n) some)

by-links : (holds : List ℕ) (n : ℕ) (node : Node) → 1 ≤ links_of node → is_by holds n node ≡ true
by-links holds n node some = or_left _ _ (lt-ltb 0 (links_of node) some)

-- each node has a link or is held
abbrev pub IsHeldAt : List ℕ → Files → Type 0
IsHeldAt holds files = (n : ℕ) (node : Node) → slot files n ≡ Some node → links_of node ≡ 0 → 1 ≤ holders holds n

pub settled-by : (holds : List ℕ) (files : Files) → IsHeldAt holds files → (n : ℕ) (node : Node)
    → slot files n ≡ Some node → is_by holds n node ≡ true
settled-by holds files held n node at = elim (cases_eq _ 0) [
  | inl none ↦ by-holders holds n node (held n node at none)
  | inr some ↦ by-links holds n node (omega (arith, some))
]

-- what is held is there
abbrev pub AreThere : List ℕ → Files → Type 0
AreThere holds files = (n : ℕ) → 1 ≤ holders holds n → slot files n ≢ None

module _ (t : FileTree) (n : ℕ) (some : 1 ≤ holders t.holds n) where
  other-after : (m : ℕ) → m ≢ n → holders (without_hold t.holds n) m ≡ holders t.holds m
  other-after m other = get_or-set_other t.holds n m (holders t.holds n - 1) 0 other

  -- how many hold node m then
  count-after : (m : ℕ) → holders (without_hold t.holds n) m + one_at m n ≡ holders t.holds m
  count-after m = elim (cases_eq m n) [
    | inl same ↦ rw same (omega
        (arith, some, get_or-set_same t.holds n (holders t.holds n - 1) 0 (within-holds _ n some), one_at-self n))
    | inr other ↦ (let none : one_at m n ≡ 0 = grind (arith, nat_tests) in omega (arith, other-after m other, none))
  ]

  module _ (node : Node) (at : slot t.files n ≡ Some node) where
    -- it stays, as somebody holds it or it has a link, or it goes
    drop-cases : (P : Files → Type 0) → ((links_of node ≡ 0 → 1 ≤ holders (without_hold t.holds n) n) → P t.files)
        → (holders (without_hold t.holds n) n ≡ 0 → links_of node ≡ 0 → P (clear t.files n)) → P (dropped t n).files
    drop-cases P stays goes = elim (cases_eq _ 0) [
      | inl none ↦ elim (cases_eq _ 0) [
        | inl bare ↦ subst P (sym (let-go-clear _ _ n node at none bare)) (goes none bare)
        | inr linked ↦ subst P (sym (let-go-linked _ _ n node at (omega (arith, linked))))
            (stays (λ bare. absurd (linked bare)))
      ]
      | inr more ↦ subst P (sym (let-go-held _ t.files n (omega (arith, more)))) (stays (λ bare. omega (arith, more)))
    ]

    -- another node stays, and so does this one while somebody holds it
    drop-stays : (m : ℕ) → 1 ≤ holders (without_hold t.holds n) m → slot (dropped t n).files m ≡ slot t.files m
    drop-stays m more = drop-cases (λ files. slot files m ≡ slot t.files m) (λ why. refl)
        (λ none bare. elim (cases_eq m n) [
          | inl same ↦ absurd (let bad : holders (without_hold t.holds n) m
              ≡ 0 = ap (holders (without_hold t.holds n)) same ∙ none in omega (arith, bad, more))
          | inr other ↦ get_or-set_other t.files n m None None other
        ])

    drop-there : AreThere t.holds t.files → AreThere (dropped t n).holds (dropped t n).files
    drop-there there m more gone = there m (omega (arith, count-after m, more)) (sym (drop-stays m more) ∙ gone)

    drop-zero : slot t.files 0 ≡ None → slot (dropped t n).files 0 ≡ None
    drop-zero zero' = drop-cases (λ files. slot files 0 ≡ None) (λ why. zero')
        (λ none bare. get_or-set_other t.files n 0 None None
        (λ same. none-some node (sym zero' ∙ ap (slot t.files) same ∙ at)) ∙ zero')

    drop-blocks : blocks_of (dropped t n).files ≤ blocks_of t.files
    drop-blocks = drop-cases (λ files. blocks_of files ≤ blocks_of t.files) (λ why. omega arith)
        (λ none bare. omega (arith, blocks_of-set _ n None (slot-within _ n node at)))

    drop-reaps : IsHeldAt t.holds t.files → (dropped t n).files ≡ kept (is_by (dropped t n).holds) 0 t.files
    drop-reaps held = let-go-reaps _ _ n node at (λ m x other here.
        let same : nat_lt 0 (holders (without_hold t.holds n) m) ≡ nat_lt 0 (holders t.holds m) =
        ap (nat_lt 0) (other-after m other) in
        ap (λ b. nat_lt 0 (links_of x) || b) same ∙ settled-by _ _ held m x here)

    drop-held : IsHeldAt t.holds t.files → IsHeldAt (dropped t n).holds (dropped t n).files
    drop-held held m x = drop-cases
        (λ files. slot files m ≡ Some x → links_of x ≡ 0 → 1 ≤ holders (without_hold t.holds n) m)
        (λ why here bare. elim (cases_eq m n) [
          | inl same ↦
              let is : node ≡ x = same_Some node x (sym at ∙ ap (slot t.files) (sym same) ∙ here) in
              subst (λ k. 1 ≤ holders (without_hold t.holds n) k) (sym same) (why (ap links_of is ∙ bare))
          | inr other ↦ omega (arith, other-after m other, held m x here bare)
        ])
        (λ none gone here bare. elim (cases_eq m n) [
          | inl same ↦ absurd (none-some x
              (sym (get_or-set_same t.files n None None (slot-within _ n node at))
              ∙ ap (slot (clear t.files n)) (sym same) ∙ here))
          | inr other ↦ omega (
            arith,
            other-after m other,
            held m x (sym (get_or-set_other t.files n m None None other) ∙ here) bare,
          )
        ])

-- ---- all of some let go

-- how often node m is named
abbrev pub named_in : List ℕ → ℕ → ℕ
named_in ns m = sum_by (one_at m) ns

-- no node is named more often than it is held
abbrev pub AreFew : List ℕ → List ℕ → Type 0
AreFew holds ns = (m : ℕ) → named_in ns m ≤ holders holds m

first-few : (holds : List ℕ) (n : ℕ) (ns : List ℕ) → AreFew holds (n ∷ ns) → 1 ≤ holders holds n
first-few holds n ns few = omega (arith, few n, sum_by-cons (one_at n) n ns, one_at-self n)

pub are-held : (t : FileTree) (ns : List ℕ) → AreThere t.holds t.files → AreFew t.holds ns → AreHeld t ns
are-held t [] there few = tt
are-held t (n ∷ ns) there few =
    let some = first-few _ n ns few in
    let node = some-node _ (there n some) in (
      there n some,
      (
        some,
        are-held (dropped t n) ns (drop-there t n some _ node.1 there)
            (λ m. omega (arith, few m, sum_by-cons (one_at m) n ns, count-after t n some m)),
      ),
    )

pub all-failed : (t : FileTree) (ns : List ℕ) → (all_dropped t ns).failed ≡ t.failed
all-failed t [] = refl
all-failed t (n ∷ ns) = all-failed (dropped t n) ns

-- what all of them leave
pub record Leaves (t : FileTree) (ns : List ℕ) : Type 0 where
  pub counts : (m : ℕ) → holders (all_dropped t ns).holds m + named_in ns m ≡ holders t.holds m
  pub reaps : (all_dropped t ns).files ≡ kept (is_by (all_dropped t ns).holds) 0 t.files
  pub stays : (m : ℕ) → 1 ≤ holders (all_dropped t ns).holds m → slot (all_dropped t ns).files m ≡ slot t.files m
  pub held : IsHeldAt (all_dropped t ns).holds (all_dropped t ns).files
  pub zero : slot (all_dropped t ns).files 0 ≡ None
  pub blocks : blocks_of (all_dropped t ns).files ≤ blocks_of t.files
  pub rules : KeepsTree (all_dropped t ns).files
  pub limit : (all_dropped t ns).block_limit ≡ t.block_limit

is_by-fewer : (less more : List ℕ) → ((m : ℕ) → holders less m ≤ holders more m) → (n : ℕ) (x : Node)
    → is_by less n x ≡ true → is_by more n x ≡ true
is_by-fewer less more fewer n x by = elim (cases_lt 0 (links_of x)) [
  | inl some ↦ by-links more n x (omega (arith, some))
  | inr none ↦
      let bare : nat_lt 0 (links_of x) ≡ false = le-ltb 0 (links_of x) (omega (arith, none)) in
      let held : nat_lt 0 (holders less n) ≡ true = rw bare at by in
      by-holders more n x (omega (arith, fewer n, ltb-true 0 (holders less n) held))
]

pub leaves-all : (t : FileTree) (ns : List ℕ) → KeepsTree t.files → AreThere t.holds t.files → AreFew t.holds ns
    → IsHeldAt t.holds t.files → slot t.files 0 ≡ None → Leaves t ns
leaves-all t [] rules there few held zero' = record {
  counts = λ m. omega arith;
  reaps = sym (kept-same (is_by t.holds) _ (settled-by _ _ held));
  stays = λ m more. refl;
  held = held;
  zero = zero';
  blocks = omega arith;
  rules = rules;
  limit = refl;
}
leaves-all t (n ∷ ns) rules there few held zero' =
    let some = first-few _ n ns few in
    let node = some-node _ (there n some) in
    let rest = leaves-all (dropped t n) ns (let-go-keeps rules (without_hold t.holds n) n)
    (drop-there t n some _ node.1 there)
    (λ m. omega (arith, few m, sum_by-cons (one_at m) n ns, count-after t n some m)) (drop-held t n some _ node.1 held)
    (drop-zero t n some _ node.1 zero') in
    record {
      counts = λ m. omega (arith, rest.counts m, sum_by-cons (one_at m) n ns, count-after t n some m);
      reaps =
          rest.reaps
          ∙ ap (kept (is_by (all_dropped t (n ∷ ns)).holds) 0) (drop-reaps t n some _ node.1 held)
          ∙ kept-twice (is_by (dropped t n).holds) (is_by (all_dropped t (n ∷ ns)).holds) 0 t.files
          (is_by-fewer (all_dropped t (n ∷ ns)).holds (dropped t n).holds (λ m. omega (arith, rest.counts m)));
      stays = λ m more. rest.stays m more ∙ drop-stays t n some _ node.1 m (omega (arith, more, rest.counts m));
      held = rest.held;
      zero = rest.zero;
      blocks = omega (arith, rest.blocks, drop-blocks t n some _ node.1);
      rules = rest.rules;
      limit = rest.limit;
    }

-- ---- open files and processes that go, and their nodes with them

-- those that are left were there
abbrev pub AreOld : Opens → Opens → Type 0
AreOld old new = (k : ℕ) (c : Counted) → slot new k ≡ Some c
    → (d : Counted) × ((slot old k ≡ Some d) × (d.file ≡ c.file))

abbrev pub AreOldHomes : Processes → Processes → Type 0
AreOldHomes old new = (j d : ℕ) → home_in (slot new j) ≡ Some d → home_in (slot old j) ≡ Some d

-- the others are left, where those go that held these nodes
pub record LetsGo (opens : Opens) (os : Processes) (left : Opens) (after : Processes) (ns : List ℕ) : Type 0 where
  pub counts : (m : ℕ) → files_on left m + homes_at after m + named_in ns m ≡ files_on opens m + homes_at os m
  pub files : AreOld opens left
  pub homes : AreOldHomes os after

module _ {t : FileTree} {opens : Opens} {os : Processes} (is : IsInUse t opens os) {left : Opens} {after : Processes}
    {ns : List ℕ} (go : LetsGo opens os left after ns) where
  few : AreFew t.holds ns
  few m = omega (arith, go.counts m, is.holds m)

  pub fewer-held : AreHeld t ns
  fewer-held = are-held t ns (held-there is) few

  pub fewer-leaves : Leaves t ns
  fewer-leaves = leaves-all t ns is.rules (held-there is) few is.held is.zero

  abbrev now : FileTree
  now = all_dropped t ns

  node-stays : (f : OpenFile) (on : Target) → ((n : ℕ) → node_on on ≡ Some n → slot now.files n ≡ slot t.files n)
      → FitsNode f on (node_of t.files (node_on on)) → FitsNode f on (node_of now.files (node_on on))
  node-stays f (target.Pipe pipe e) same fits = tt
  node-stays f on same fits = subst (FitsNode f on) (sym (same (unwrap_or (node_on on) 0) refl)) fits

  home-stays : (j : ℕ) (h : Option ℕ) → home_in (slot after j) ≡ h → IsHome now h
  home-stays j None at = tt
  home-stays j (Some d) at =
      subst IsFolder (sym (fewer-leaves.stays d
      (omega (arith, held-counts home_in refl after j d at, fewer-leaves.counts d, go.counts d, is.holds d))))
      (home-folder is j d (go.homes j d at))

  pub fewer-used : IsInUse now left after
  fewer-used = record {
    rules = fewer-leaves.rules;
    zero = fewer-leaves.zero;
    within = omega (arith, fewer-leaves.blocks, fewer-leaves.limit, is.within);
    holds = λ m. omega (arith, fewer-leaves.counts m, go.counts m, is.holds m);
    held = fewer-leaves.held;
    fits = λ k c at.
        let old = go.files k c at in
        node-stays c.file c.file.target
        (λ n on. fewer-leaves.stays n
        (omega (
          arith,
          held-counts node_in refl left k n (ap node_in at ∙ on),
          fewer-leaves.counts n,
          go.counts n,
          is.holds n,
        )))
        (subst (FitsFiles t.files) old.1.1 (is.fits k old.0 old.1.0));
    homes = λ j. home-stays j (home_in (slot after j)) refl;
  }

  -- the abstract Unix gives up the same nodes
  pub fewer-nodes : (s : State) (hs : Views) → AreAway after → s.files ≡ t.files → s.opens ≡ opens_of left
      → s.places ≡ joined after hs → without_nodes s ≡ record s { files = now.files }
  unfolding without_nodes
  fewer-nodes s hs away same opened placed =
      ap (λ fs. record s { files = fs })
      (ap (kept (λ n node. nat_lt 0 (links_of node) || is_used s n) 0) same
      ∙ kept-cong (λ n node. nat_lt 0 (links_of node) || is_used s n) (is_by now.holds) 0 _ (λ i j x e at.
      let same_at : j ≡ i = omega (arith, e) in
      let some : j ≢ 0 = λ z. none-some x (sym is.zero ∙ ap (slot t.files) (sym z ∙ same_at) ∙ at) in
      ap (λ b. nat_lt 0 (links_of x) || b)
      (used-is left after hs away s opened placed j some
      ∙ ap (nat_lt 0) (omega (arith, fewer-leaves.counts j, go.counts j, is.holds j))))
      ∙ sym fewer-leaves.reaps)
