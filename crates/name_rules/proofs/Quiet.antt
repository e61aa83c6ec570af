-- Changes that leave all names: a node without links goes, or a file gets other bytes.
use Rattle.name_rules.proofs.Common.{◌≡◌, ◌≢◌, ℕ, zero, suc, ◌+◌, ◌≤◌, Bool, true, false, cond, List, [], ◌∷◌, ◌++◌}
use Rattle.name_rules.proofs.Common.{None, Option, Some, inl, inr, ◌⊎◌, drop, length, set, take, ap, sym, refl, ◌∙◌}
use Rattle.name_rules.proofs.Common.{cond_both, cond_some, arith, subst, nat_lt, option_map, unwrap_or, cases_eq}
use Rattle.name_rules.proofs.Common.{cond-false, cond-true, false≢true, get_or-set_other, length-append, length-drop}
use Rattle.name_rules.proofs.Common.{length-set, length-take, lt-ltb, ltb-true, set-get_or, none-some, same_Some, Files}
use Rattle.name_rules.proofs.Common.{Node, change_node, clear, is_directory, is_directory_at, links_of, longest, put}
use Rattle.name_rules.proofs.Common.{slot, Directory, File, KeepsSize, names_of, Changed, WasIdle, shape, emptied}
use Rattle.name_rules.proofs.Common.{HasRoot, KeepsLive, KeepsTree, names_by, names_for, if◌then◌else◌, ◌||◌, or_left}
use Rattle.name_rules.proofs.Common.{or_right, ext_get_or, Spot, IsIdle, Loses}
use Rattle.unixmodel.specs.Memory.{overwrite}
use Rattle.name_rules.proofs.Counts.{names-same, names_by-le, IsStep, live-kept}
use Rattle.name_rules.proofs.Finding.{change-is, slot-set, slot-within}
use Rattle.unixmodel.specs.Reap.{kept}

-- a node is as it was, or no directory, with the same names, and what may be named stays a directory or none
pub record IsAlike (n : ℕ) (o q : Option Node) : Type 0 where
  pub names : (m : ℕ) → names_by q m ≡ names_by o m
  pub wanted : names_for n q ≡ names_for n o
  pub kind : 1 ≤ names_for n o
      → unwrap_or (option_map is_directory q) false ≡ unwrap_or (option_map is_directory o) false
  pub size : KeepsSize o → KeepsSize q
  pub live : (q ≡ o) ⊎ ((files : Files) → KeepsLive files n o → KeepsLive files n q)

pub alike-same : (n : ℕ) (o : Option Node) → IsAlike n o o
alike-same n o = record { names = λ m. refl; wanted = refl; kind = λ h. refl; size = λ h. h; live = inl refl }

module _ {files : Files} (keeps : KeepsTree files) (more : Files) (count : length more ≡ length files)
    (alike : (n : ℕ) → IsAlike n (slot files n) (slot more n)) where
  kinds : (n : ℕ) → 1 ≤ names_of files n → is_directory_at more n ≡ is_directory_at files n
  kinds n h = (alike n).kind (omega (arith, h, keeps.named n))

  step : (n : ℕ) → IsStep files more n
  step n = record { count = count; names = λ p m s. (alike p).names m; kinds = kinds }

  nodes-alike : (n : ℕ) → KeepsLive more n (slot more n)
  nodes-alike n =
      let kept = live-kept (step (suc n)) n (slot files n) (λ e. absurd (omega arith)) refl (keeps.nodes n) in
      elim (alike n).live [
        | inl e ↦ subst (KeepsLive more n) (sym e) kept
        | inr f ↦ f more kept
      ]

  pub keeps-alike : HasRoot more → KeepsTree more
  keeps-alike root = record {
    root = root;
    sizes = λ n. (alike n).size (keeps.sizes n);
    named = λ n. names-same files more n count (λ p. (alike p).names n) ∙ keeps.named n ∙ sym (alike n).wanted;
    nodes = nodes-alike;
    depth = keeps.depth;
    ranked = λ d n h directory.
        let by = subst (λ c. 1 ≤ c) ((alike d).names n) h in
        keeps.ranked d n by (sym (kinds n (omega (arith, by, names_by-le files d n))) ∙ directory);
  }

-- one node that isn't the root changes to one that is alike
keeps-put : {files : Files} → KeepsTree files → (n : ℕ) (node : Node) (q : Option Node) → slot files n ≡ Some node
    → 1 ≢ n → IsAlike n (Some node) q → KeepsTree (set files n q)
keeps-put {files} keeps n node q here away alike =
    keeps-alike keeps _ (length-set files n q)
    (λ m. slot-set (λ o. IsAlike m (slot files m) o) files n q (slot-within files n node here) m
    (λ e. rw (e, here) alike) (λ s. alike-same m _))
    (record {
      links = keeps.root.links;
      places = keeps.root.places;
      here = get_or-set_other files n 1 q None away
          ∙ keeps.root.here;
    })

-- ---- a node without links

-- it has no names and names nothing
pub alike-gone : (files : Files) (n : ℕ) (node : Node) → KeepsLive files n (Some node) → links_of node ≡ 0
    → IsAlike n (Some node) None
unfolding names_by
alike-gone files n (Directory zero places) k h =
    record {
      names = λ m. rw k refl;
      wanted = refl;
      kind = λ l. absurd (omega arith);
      size = λ s. tt;
      live = inr (λ fs l. tt);
    }
alike-gone files n (Directory (suc links) places) k h = absurd (omega arith)
alike-gone files n _ k h =
    record {
      names = λ m. refl;
      wanted = sym h;
      kind = λ l. absurd (omega arith);
      size = λ s. tt;
      live = inr (λ fs l. tt);
    }

pub releases : {files : Files} → KeepsTree files → (n : ℕ) (node : Node) → slot files n ≡ Some node → links_of node ≡ 0
    → KeepsTree (clear files n)
releases {files} keeps n node here none =
    keeps-put keeps n node None here
    (λ e. let links = ap links_of
    (same_Some (Directory (suc keeps.root.links) keeps.root.places) node
    (sym keeps.root.here ∙ ap (slot files) e ∙ here)) in omega arith)
    (alike-gone files n node (subst (KeepsLive files n) here (keeps.nodes n)) none)

-- ---- other bytes

pub emptied-is : (files : Files) (n : ℕ) (node : Node) → slot files n ≡ Some node → emptied node ≡ node
    → change_node files n emptied ≡ files
emptied-is files n node here same = ap (λ o. set files n (option_map emptied o)) here
    ∙ ap (λ x. set files n (Some x)) same ∙ ap (set files n) (sym here) ∙ set-get_or files n None

module _ {files : Files} (keeps : KeepsTree files) where
  -- where nothing changes
  pub changed-same : Changed files files
  changed-same = record {
    tree = keeps;
    stays = λ m used. refl;
    idle = λ m node here none. record { was = node; here = here; none = none };
  }

  pub writes-bytes : (n links : ℕ) (old new : List ℕ) → slot files n ≡ Some (File links old) → length new ≤ longest
      → Changed files (put files n (File links new))
  unfolding names_by
  writes-bytes n links old new here size =
      let within = slot-within files n _ here in
      let new_node = Some (File links new) in
      record {
        tree = keeps-put keeps n (File links old) new_node here
            (λ e. false≢true (ap (λ o. unwrap_or (option_map is_directory o) false)
            (sym here ∙ ap (slot files) (sym e) ∙ keeps.root.here)))
            (record { names = λ m. refl; wanted = refl; kind = λ l. refl; size = λ s. size; live = inr (λ fs l. l) });
        stays = λ m used. slot-set (λ o. option_map shape o ≡ option_map shape (slot files m)) files n new_node within
            m (λ e. sym (ap (option_map shape) (ap (slot files) e ∙ here))) (λ s. refl);
        idle = λ m node at none. slot-set (λ o. o ≡ Some node → WasIdle files m) files n new_node within m
            (λ e is. record {
              was = File links old;
              here = ap (slot files) e ∙ here;
              none = ap links_of (same_Some (File links new) node is) ∙ none;
            })
            (λ s is. record { was = node; here = is; none = none }) at;
      }

  length-over : (old new : List ℕ) (offset : ℕ) → length old ≤ longest → offset + length new ≤ longest
      → length (overwrite old offset new) ≤ longest
  length-over old new offset fits room =
      let whole : length (overwrite old offset new)
      ≡ length (take offset old) + length new + length (drop (offset + length new) old) =
      length-append (take offset old ++ new) (drop (offset + length new) old)
      ∙ ap (λ c. c + length (drop (offset + length new) old)) (length-append (take offset old) new) in
      omega (arith, whole, length-take offset old, length-drop (offset + length new) old)

  -- some of the bytes of a write, from its offset on
  pub writes-over : (n links : ℕ) (old new : List ℕ) (offset k : ℕ) → slot files n ≡ Some (File links old)
      → offset + length new ≤ longest → Changed files (put files n (File links (overwrite old offset (take k new))))
  writes-over n links old new offset k here room =
      let part = length-take k new in
      writes-bytes n links old _ here
      (length-over old _ offset (subst KeepsSize here (keeps.sizes n)) (omega arith))

  -- a file is emptied, and any other node stays
  pub truncates : (n : ℕ) → Changed files (change_node files n emptied)
  truncates n = go _ refl where
    go : (o : Option Node) → slot files n ≡ o → Changed files (change_node files n emptied)
    go None here = subst (Changed files)
        (sym (ap (λ o. set files n (option_map emptied o)) here ∙ ap (set files n) (sym here)
        ∙ set-get_or files n None)) changed-same
    go (Some (File links bytes)) here =
        subst (Changed files) (sym (change-is files n emptied _ here))
        (writes-bytes n links bytes [] here (omega arith))
    go (Some node) here = subst (Changed files) (sym (emptied-is files n node here refl)) changed-same

-- ---- without nodes that have no links

one_kept : (Node → Bool) → Option Node → Option Node
one_kept test None = None
one_kept test (Some node) = cond (test node) (Some node) None

module _ (test : ℕ → Node → Bool) where
  pub length-kept : (k : ℕ) (files : Files) → length (kept test k files) ≡ length files
  length-kept k [] = refl
  length-kept k (None ∷ files) = ap suc (length-kept (k + 1) files)
  length-kept k (Some node ∷ files) = ap suc (length-kept (k + 1) files)

  slot-kept : (k : ℕ) (files : Files) (n : ℕ) → slot (kept test k files) n ≡ one_kept (test (k + n)) (slot files n)
  unfolding one_kept
  slot-kept k [] n = refl
  slot-kept k (None ∷ files) zero = refl
  slot-kept k (None ∷ files) (suc n) = let e : k + 1 + n ≡ k + suc n = omega arith in slot-kept (k + 1) files n
      ∙ ap (λ j. one_kept (test j) (slot files n)) e
  slot-kept k (Some node ∷ files) zero = let e : k ≡ k + 0 =
      omega arith in ap (λ j. cond (test j node) (Some node) None) e
  slot-kept k (Some node ∷ files) (suc n) = let e : k + 1 + n ≡ k + suc n = omega arith in slot-kept (k + 1) files n
      ∙ ap (λ j. one_kept (test j) (slot files n)) e

  slot-here : (files : Files) (n : ℕ) → slot (kept test 0 files) n ≡ one_kept (test n) (slot files n)
  slot-here files n = let e : 0 + n ≡ n = omega arith in slot-kept 0 files n
      ∙ ap (λ j. one_kept (test j) (slot files n)) e

  pub kept-none : (files : Files) (n : ℕ) → slot files n ≡ None → slot (kept test 0 files) n ≡ None
  unfolding one_kept
  kept-none files n here = slot-here files n ∙ ap (one_kept (test n)) here

  pub kept-here : (files : Files) (n : ℕ) (node : Node) → slot files n ≡ Some node → test n node ≡ true
      → slot (kept test 0 files) n ≡ Some node
  unfolding one_kept
  kept-here files n node here h = slot-here files n ∙ ap (one_kept (test n)) here ∙ cond-true _ _ None h

  pub kept-gone : (files : Files) (n : ℕ) (node : Node) → slot files n ≡ Some node → test n node ≡ false
      → slot (kept test 0 files) n ≡ None
  unfolding one_kept
  kept-gone files n node here h = slot-here files n ∙ ap (one_kept (test n)) here ∙ cond-false _ (Some node) None h

  -- nodes with links stay
  module _ (stays : (n : ℕ) (node : Node) → 1 ≤ links_of node → test n node ≡ true) where
    alike-kept : (files : Files) (n : ℕ) (o : Option Node) → KeepsLive files n o → IsAlike n o (one_kept (test n) o)
    unfolding one_kept
    alike-kept files n None k = alike-same n None
    alike-kept files n (Some node) k =
        cond_both (test n node) (Some node) None (IsAlike n (Some node)) (λ t. alike-same n (Some node)) (λ f.
        alike-gone files n node k
        (elim (cases_eq _ 0) [ inl z ↦ z | inr s ↦ absurd (false≢true (sym f ∙ stays n node (omega arith))) ]))

    -- some nodes without links go
    pub keeps-kept : {files : Files} → KeepsTree files → KeepsTree (kept test 0 files)
    unfolding one_kept
    keeps-kept {files} keeps =
        keeps-alike keeps _ (length-kept 0 files)
        (λ n. subst (λ q. IsAlike n (slot files n) q) (sym (slot-here files n))
        (alike-kept files n _ (keeps.nodes n)))
        (record {
          links = keeps.root.links;
          places = keeps.root.places;
          here = kept-here files 1 _ keeps.root.here
              (stays 1 _ (omega arith));
        })

-- what is left without all of them
abbrev pub left : Files → Files
left files = kept (λ n node. nat_lt 0 (links_of node)) 0 files

pub leaves : {files : Files} → KeepsTree files → KeepsTree (left files)
leaves keeps = keeps-kept (λ n node. nat_lt 0 (links_of node)) (λ n node h. lt-ltb 0 _ (omega arith)) keeps

-- each node has links
abbrev pub HasLinked : Files → Type 0
HasLinked files = (n : ℕ) (node : Node) → slot files n ≡ Some node → 1 ≤ links_of node

one-linked : (o : Option Node) (node : Node) → one_kept (λ x. nat_lt 0 (links_of x)) o ≡ Some node → 1 ≤ links_of node
unfolding one_kept
one-linked None node h = absurd (none-some node h)
one-linked (Some x) node h = let is = cond_some _ x node h in omega (arith, ltb-true 0 _ is.0, ap links_of is.1)

pub left-linked : (files : Files) → HasLinked (left files)
left-linked files n node h = one-linked _ node (sym (slot-here (λ n node. nat_lt 0 (links_of node)) files n) ∙ h)

-- ---- which nodes a call on names leaves to be given up: none, or the one that lost its last name

module _ (test : ℕ → Node → Bool) where
  -- nothing is to go
  abbrev pub IsSettled : Files → Type 0
  IsSettled files = (n : ℕ) (node : Node) → slot files n ≡ Some node → test n node ≡ true

  slot-same : (files : Files) (n : ℕ) (o : Option Node) → slot files n ≡ o
      → ((node : Node) → o ≡ Some node → test n node ≡ true) → slot (kept test 0 files) n ≡ o
  slot-same files n None here passes = kept-none test files n here
  slot-same files n (Some node) here passes = kept-here test files n node here (passes node refl)

  pub kept-same : (files : Files) → IsSettled files → kept test 0 files ≡ files
  kept-same files settled =
      ext_get_or None _ files (length-kept test 0 files) (λ n l. slot-same files n _ refl (settled n))

  -- node n alone may go
  pub kept-but : (files : Files) (n : ℕ) (node : Node) → slot files n ≡ Some node
      → ((m : ℕ) (x : Node) → m ≢ n → slot files m ≡ Some x → test m x ≡ true)
      → kept test 0 files ≡ (if test n node then files else clear files n)
  kept-but files n node here others = cond_both _ files _ (λ fs. kept test 0 files ≡ fs)
      (λ t. kept-same files (λ m x at. elim (cases_eq m n) [
        | inl e ↦ ap (λ j. test j x) e ∙ ap (test n) (sym (same_Some node x (sym here ∙ ap (slot files) (sym e) ∙ at)))
            ∙ t
        | inr s ↦ others m x s at
      ]))
      (λ f. ext_get_or None _ _ (length-kept test 0 files ∙ sym (length-set files n None))
      (λ m l. slot-set (λ q. slot (kept test 0 files) m ≡ q) files n None (slot-within files n node here) m
      (λ e. ap (slot (kept test 0 files)) e ∙ kept-gone test files n node here f)
      (λ s. slot-same files m _ refl (λ x at. others m x s at))))

-- ---- nodes that have links or are used stay

abbrev pub is_held : (ℕ → Bool) → ℕ → Node → Bool
is_held used n node = nat_lt 0 (links_of node) || used n

module _ (used : ℕ → Bool) (files more : Files) (settled : IsSettled (is_held used) files) where
  idle-held : (m : ℕ) (node : Node) → IsIdle files more m → slot more m ≡ Some node → is_held used m node ≡ true
  idle-held m node idle here = elim (cases_eq _ 0) [
    | inl z ↦
        let before = idle node here z in
        or_right _ _ (ap (λ c. nat_lt 0 c || used m) (sym before.none) ∙ settled m before.was before.here)
    | inr s ↦ or_left (nat_lt 0 (links_of node)) (used m) (lt-ltb 0 (links_of node) (omega arith))
  ]

  -- with one name less the node that had it goes, if it has no links and nothing uses it
  pub loses-reaped : {at : Spot} (loses : Loses files more at) (node : Node) → slot more loses.number ≡ Some node
      → kept (is_held used) 0 more ≡ (if is_held used loses.number node then more else clear more loses.number)
  loses-reaped loses node here = kept-but _ more _ node here (λ m x s at. idle-held m x (loses.idle m s) at)
