-- Files in which two nodes change, a directory and a node that keeps its type: the rules stay.
use Rattle.name_rules.proofs.Common.{◌≡◌, ◌≢◌, ℕ, suc, ◌+◌, ◌*◌, ◌<◌, ◌≤◌, false, true, cond, List, None, Option, Some}
use Rattle.name_rules.proofs.Common.{inl, inr, length, set, ap, sym, refl, ◌∙◌, arith, subst, IsSome, option_map}
use Rattle.name_rules.proofs.Common.{unwrap_or, ◌==◌, cases_eq, cond-false, cond-true, eq-eqb, ne_eqb, get_or-set_other}
use Rattle.name_rules.proofs.Common.{get_or-set_same, length-set, same_Some, Entry, Files, Node, Spot, is_directory}
use Rattle.name_rules.proofs.Common.{links_of, longest, lookup, slot, with_links, Directory, File, KeepsSize}
use Rattle.name_rules.proofs.Common.{is_directory_at, is_name, names_of, Changed, IsIdle, Loses, Stays, shape, HasRoot}
use Rattle.name_rules.proofs.Common.{IsLive, IsRanked, KeepsLive, KeepsTree, entries, folders, names_by, names_for}
use Rattle.name_rules.proofs.Common.{with_entry}
use Rattle.name_rules.proofs.Counts.{called, unfit, names-but, names_by-le, HasMore, folders-more, good-less, good-more}
use Rattle.name_rules.proofs.Counts.{named-here, named-other, once-less, once-more, IsStep, above-kept, folders-kept}
use Rattle.name_rules.proofs.Counts.{live-kept, names-kept, entered, two-places}
use Rattle.name_rules.proofs.Finding.{slot-within, IsGap, absent-none, entered-size, entry_at}

pub directory-is : (files : Files) (n : ℕ) (node : Node) → slot files n ≡ Some node
    → is_directory_at files n ≡ is_directory node
directory-is files n node h = ap (λ o. unwrap_or (option_map is_directory o) false) h

-- ---- a node with another number of links

pub record IsRelinked (node more : Node) (k : ℕ) : Type 0 where
  pub names : (m : ℕ) → names_by (Some more) m ≡ names_by (Some node) m
  pub kind : is_directory more ≡ is_directory node
  pub links : links_of more ≡ k
  pub stays : option_map shape (Some more) ≡ option_map shape (Some node)
  pub size : KeepsSize (Some node) → KeepsSize (Some more)

pub relinked : (node : Node) (k : ℕ) → IsRelinked node (with_links node k) k
unfolding names_by
relinked (File links bytes) k = record { names = λ m. refl; kind = refl; links = refl; stays = refl; size = λ h. h }
relinked _ k = record { names = λ m. refl; kind = refl; links = refl; stays = refl; size = λ h. h }

-- ---- the two

-- node n, then node d
abbrev pub both : Files → ℕ → Node → ℕ → Node → Files
both files n node d above = set (set files n (Some node)) d (Some above)

-- what holds of two numbers, and of the others
by-two : (d n : ℕ) (P : ℕ → Type 0) → P d → P n → ((m : ℕ) → m ≢ d → m ≢ n → P m) → (m : ℕ) → P m
by-two d n P first second others m = elim (cases_eq m d) [
  | inl e ↦ subst P (sym e) first
  | inr s ↦ elim (cases_eq m n) [ inl e ↦ subst P (sym e) second | inr t ↦ others m s t ]
]

-- n is to be this node: it names as much as it did, stays what it is, and a directory or none if it has a name
pub record Alters (files : Files) (n : ℕ) (node : Node) (d : ℕ) : Type 0 where
  pub within : n < length files
  pub apart : n ≢ d
  pub other : n ≢ 1
  pub quiet : (m : ℕ) → names_by (Some node) m ≡ names_by (slot files n) m
  pub kind : 1 ≤ names_of files n → is_directory node ≡ is_directory_at files n
  pub same : IsSome (slot files n) → option_map shape (Some node) ≡ option_map shape (slot files n)
  pub size : KeepsSize (Some node)

-- and it gets a name in d
pub record Enters (files : Files) (n : ℕ) (node : Node) (d l r : ℕ) : Type 0 where
  pub links : r ≡ l + cond (is_directory node) 1 0
  pub grows : names_for n (Some node) ≡ names_for n (slot files n) + 1
  pub silent : (m : ℕ) → names_by (Some node) m ≡ 0
  pub fresh : is_directory node ≡ true → names_of files n ≡ 0
  pub linked : links_of node ≢ 0
  pub live : (more : Files) → 1 ≤ names_by (slot more d) n → KeepsLive more n (Some node)

module _ {files : Files} {n : ℕ} {node : Node} {d l : ℕ} {ps : List (Option Entry)} (keeps : KeepsTree files)
    (a : Alters files n node d) (before : slot files d ≡ Some (Directory (suc l) ps)) (r : ℕ) (qs : List (Option Entry))
    (size_above : 16 * length qs ≤ longest) where
  abbrev more : Files
  more = both files n node d (Directory (suc r) qs)

  count : length more ≡ length files
  count = length-set (set files n (Some node)) d (Some (Directory (suc r) qs)) ∙ length-set files n (Some node)

  within-above : d < length files
  within-above = slot-within files d (Directory (suc l) ps) before

  after : slot more d ≡ Some (Directory (suc r) qs)
  after = get_or-set_same (set files n (Some node)) d (Some (Directory (suc r) qs)) None
      (omega (arith, within-above, length-set files n (Some node)))

  here : slot more n ≡ Some node
  here = get_or-set_other (set files n (Some node)) d n (Some (Directory (suc r) qs)) None a.apart
      ∙ get_or-set_same files n (Some node) None a.within

  others : (m : ℕ) → m ≢ d → m ≢ n → slot more m ≡ slot files m
  others m s t = get_or-set_other (set files n (Some node)) d m (Some (Directory (suc r) qs)) None s
      ∙ get_or-set_other files n m (Some node) None t

  kind-here : is_directory_at more n ≡ is_directory node
  kind-here = directory-is more n node here

  bit-here : ◌≡◌ {A = ℕ} (cond (is_directory_at more n) 1 0) (cond (is_directory node) 1 0)
  bit-here = ap (λ b. cond b 1 0) kind-here

  live-before : IsLive files d l ps
  live-before = subst (KeepsLive files d) before (keeps.nodes d)

  root-kept : HasRoot more
  root-kept = elim (cases_eq 1 d) [
    | inl e ↦ record { links = r; places = qs; here = ap (slot more) e ∙ after }
    | inr s ↦ record {
      links = keeps.root.links;
      places = keeps.root.places;
      here = others 1 s (λ e. a.other (sym e))
          ∙ keeps.root.here;
    }
  ]

  -- by all nodes except d
  by-kept : (p m : ℕ) → p ≢ d → names_by (slot more p) m ≡ names_by (slot files p) m
  by-kept p m s = elim (cases_eq p n) [
    | inl e ↦ rw e (ap (λ o. names_by o m) here ∙ a.quiet m)
    | inr t ↦ ap (λ o. names_by o m) (others p s t)
  ]

  stays : Stays files more
  stays = by-two d n (λ m. IsSome (slot files m) → option_map shape (slot more m) ≡ option_map shape (slot files m))
      (λ used. ap (option_map shape) after ∙ sym (ap (option_map shape) before))
      (λ used. ap (option_map shape) here ∙ a.same used) (λ m s t used. ap (option_map shape) (others m s t))

  idle : (m : ℕ) → m ≢ n → IsIdle files more m
  idle m t x at none = elim (cases_eq m d) [
    | inl e ↦ let links : suc r ≡ links_of x =
        ap links_of (same_Some (Directory (suc r) qs) x (sym after ∙ ap (slot more) (sym e) ∙ at))
        in absurd (omega arith)
    | inr s ↦ record { was = x; here = sym (others m s t) ∙ at; none = none }
  ]

  -- an entry of d names n, or did
  module _ (same : (m : ℕ) → m ≢ n → names_by (slot more d) m ≡ names_by (slot files d) m) where
    step : IsStep files more n
    step = record {
      count = count;
      names = λ p m s. elim (cases_eq p d) [ inl e ↦ rw e (same m s) | inr t ↦ by-kept p m t ];
      kinds = by-two d n (λ m. 1 ≤ names_of files m → is_directory_at more m ≡ is_directory_at files m)
          (λ h. directory-is more d (Directory (suc r) qs) after
          ∙ sym (directory-is files d (Directory (suc l) ps) before)) (λ h. kind-here ∙ a.kind h)
          (λ m s t h. rw (others m s t) refl);
    }

    names-here : names_of more n + names_by (slot files d) n ≡ names_of files n + names_by (slot more d) n
    names-here = names-but files more d n count within-above (λ p s. by-kept p n s)

    folders-before : l ≡ folders more (entries ps)
    folders-before = live-before.counted ∙ sym (folders-kept step d (suc l) ps before)

    still-ranked : (p m : ℕ) → 1 ≤ names_by (slot files p) m → is_directory_at more m ≡ true
        → keeps.depth p < keeps.depth m
    still-ranked p m by directory =
        keeps.ranked p m by (sym (step.kinds m (omega (arith, by, names_by-le files p m))) ∙ directory)

    module _ (first : slot qs 0 ≡ slot ps 0) (second : slot qs 1 ≡ slot ps 1) (good : unfit qs ≡ 0)
        (once : (name : List ℕ) → called name qs ≤ 1) (counted : r ≡ folders more (entries qs)) where
      live-changed : IsLive more d r qs
      live-changed = record {
        own = first ∙ live-before.own;
        up = live-before.up;
        parent = second ∙ live-before.parent;
        above = above-kept step d live-before.up (λ s. a.apart (sym s)) live-before.above;
        good = good;
        once = once;
        counted = counted;
      }

      keeps-changed : names_of more n ≡ names_for n (Some node) → KeepsLive more n (Some node) → (depth : ℕ → ℕ)
          → IsRanked more depth → KeepsTree more
      keeps-changed named live depth ranked = record {
        root = root-kept;
        sizes = by-two d n (λ m. KeepsSize (slot more m)) (subst KeepsSize (sym after) size_above)
            (subst KeepsSize (sym here) a.size) (λ m s t. subst KeepsSize (sym (others m s t)) (keeps.sizes m));
        named = by-two d n (λ m. names_of more m ≡ names_for m (slot more m))
            (names-kept step d (λ e. a.apart (sym e)) ∙ keeps.named d ∙ ap (names_for d) before
            ∙ sym (ap (names_for d) after)) (named ∙ ap (names_for n) (sym here))
            (λ m s t. names-kept step m t ∙ keeps.named m ∙ ap (names_for m) (sym (others m s t)));
        nodes = by-two d n (λ m. KeepsLive more m (slot more m)) (subst (KeepsLive more d) (sym after) live-changed)
            (subst (KeepsLive more n) (sym here) live)
            (λ m s t. subst (KeepsLive more m) (sym (others m s t))
            (live-kept step m (slot files m) t refl (keeps.nodes m)));
        depth = depth;
        ranked = ranked;
      }

  -- ---- one more entry

  module _ {name : List ℕ} (gains : HasMore ps qs (record { name = name; number = n })) where
    gained-same : (m : ℕ) → m ≢ n → names_by (slot more d) m ≡ names_by (slot files d) m
    gained-same m s = ap (λ o. names_by o m) after ∙ named-other gains (suc r) (suc l) m s
        ∙ ap (λ o. names_by o m) (sym before)

    gained-here : names_by (slot more d) n ≡ names_by (slot files d) n + 1
    gained-here = omega (
      arith,
      ap (λ o. names_by o n) after,
      named-here gains (suc r) (suc l),
      ap (λ o. names_by o n) before,
    )

    module _ (good : is_name name ≡ true) (absent : called name ps ≡ 0) (enters : Enters files n node d l r) where
      -- a new directory lies below d
      depth-gained : ℕ → ℕ
      depth-gained m = cond (m == n) (suc (keeps.depth d)) (keeps.depth m)

      depth-new : depth-gained n ≡ suc (keeps.depth d)
      unfolding depth-gained
      depth-new = cond-true (n == n) (suc (keeps.depth d)) (keeps.depth n) (eq-eqb n n refl)

      depth-old : (m : ℕ) → m ≢ n → depth-gained m ≡ keeps.depth m
      unfolding depth-gained
      depth-old m s = cond-false (m == n) (suc (keeps.depth d)) (keeps.depth m) (ne_eqb m n s)

      rank-new : (p : ℕ) → p ≢ n → 1 ≤ names_by (slot more p) n → is_directory_at more n ≡ true
          → depth-gained p < depth-gained n
      rank-new p s h directory = elim (cases_eq p d) [
        | inl e ↦ omega (arith, depth-new, depth-old p s, ap keeps.depth e)
        | inr t ↦ absurd (omega (
          arith,
          h,
          by-kept p n t,
          names_by-le files p n,
          enters.fresh (sym kind-here ∙ directory),
        ))
      ]

      ranked-gained : IsRanked more depth-gained
      ranked-gained p m h directory = elim (cases_eq p n) [
        | inl e ↦ absurd (omega (
          arith,
          h,
          ap (λ j. names_by (slot more j) m) e,
          ap (λ o. names_by o m) here,
          enters.silent m,
        ))
        | inr s ↦ elim (cases_eq m n) [
          | inl e ↦ rw e (rank-new p s (rw e at h) (rw e at directory))
          | inr t ↦ omega (
            arith,
            depth-old p s,
            depth-old m t,
            still-ranked gained-same p m (omega (arith, h, (step gained-same).names p m t)) directory,
          )
        ]
      ]

      pub keeps-gained : Changed files more
      keeps-gained = record {
        tree = keeps-changed gained-same gains.first gains.second (good-more gains good live-before.good)
            (once-more gains absent live-before.once)
            (omega (arith, folders-before gained-same, bit-here, enters.links, folders-more gains more))
            (omega (arith, names-here gained-same, gained-here, keeps.named n, enters.grows))
            (enters.live more (omega (arith, gained-here))) depth-gained ranked-gained;
        stays = stays;
        idle = λ m x at none. elim (cases_eq m n) [
          | inl e ↦ absurd (enters.linked
              (ap links_of (same_Some node x (sym here ∙ ap (slot more) (sym e) ∙ at)) ∙ none))
          | inr s ↦ idle m s x at none
        ];
      }

  -- ---- one entry less

  module _ {name : List ℕ} (loses : HasMore qs ps (record { name = name; number = n })) where
    lost-same : (m : ℕ) → m ≢ n → names_by (slot more d) m ≡ names_by (slot files d) m
    lost-same m s = ap (λ o. names_by o m) after ∙ sym (named-other loses (suc l) (suc r) m s)
        ∙ ap (λ o. names_by o m) (sym before)

    lost-here : names_by (slot files d) n ≡ names_by (slot more d) n + 1
    lost-here = omega (
      arith,
      ap (λ o. names_by o n) after,
      named-here loses (suc l) (suc r),
      ap (λ o. names_by o n) before,
    )

    by-lost : (p m : ℕ) → names_by (slot more p) m ≤ names_by (slot files p) m
    by-lost p m = elim (cases_eq m n) [
      | inr s ↦ omega (arith, (step lost-same).names p m s)
      | inl e ↦ rw e (elim (cases_eq p d)
          [ inl f ↦ rw f (omega (arith, lost-here)) | inr t ↦ omega (arith, by-kept p n t) ])
    ]

    pub keeps-lost : (at : Spot) → l ≡ r + cond (is_directory node) 1 0
        → names_for n (Some node) + 1 ≡ names_for n (slot files n) → KeepsLive more n (Some node)
        → lookup files at.directory at.name ≡ Some n → Loses files more at
    keeps-lost at links shrinks live found = record {
      number = n;
      named = found;
      tree = keeps-changed lost-same (sym loses.first) (sym loses.second) (good-less loses live-before.good)
          (once-less loses live-before.once)
          (omega (arith, folders-before lost-same, bit-here, links, folders-more loses more))
          (omega (arith, names-here lost-same, lost-here, keeps.named n, shrinks)) live keeps.depth
          (λ p m h. still-ranked lost-same p m (omega (arith, h, by-lost p m)));
      stays = stays;
      idle = idle;
    }

-- ---- one more name keeps the rules: of a new node, or of a file that has names

-- n gets a name in a directory that has no such name
pub gets-name : {files : Files} (keeps : KeepsTree files) (at : Spot)
    → IsGap files at → {n l r : ℕ} {node : Node} {ps qs : List (Option Entry)}
    → slot files at.directory ≡ Some (Directory (suc l) ps)
    → with_entry ps (entry_at at n) ≡ Some qs → Alters files n node at.directory → Enters files n node at.directory l r
    → Changed files (both files n node at.directory (Directory (suc r) qs))
gets-name {files} keeps at spot {n} {l} {r} {node} {ps} {qs} before placed alters enters =
    let live = subst (KeepsLive files _) before (keeps.nodes _) in
    keeps-gained keeps alters before r qs
    (entered-size ps (entry_at at n) qs placed (subst KeepsSize before (keeps.sizes at.directory)))
    (entered (entry_at at n) (two-places live.own live.parent) placed)
    spot.name (absent-none files _ l ps at.name before live spot.absent) enters
