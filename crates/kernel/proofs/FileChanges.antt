-- Steps that change the files of the disk keep what a kernel keeps.
use Rattle.kernel.proofs.Common.{false, ◌≡◌, ◌≤◌, ◌∙◌, ℕ, Bool, true, List, Some, refl, ap, subst, sym, arith, Kernel}
use Rattle.kernel.proofs.Common.{Keeps, slot, None, Option, option_map, FitsNode, IsFolder, IsInUse, home_in, node_in}
use Rattle.kernel.proofs.Common.{node_of, holders, FileTree, Node, links_of, IsSome, ◌↔◌, KeepsTree, blocks_of}
use Rattle.kernel.proofs.Common.{Directory, nat_lt, lt-ltb, ltb-true, or_right, none-some, same_Some, Files, kept}
use Rattle.kernel.proofs.Common.{IsWhole, Err, Ok, OnErr, Result, ◌≢◌, IfOk, DeviceFault, Serves, All, IfErr, OnOk}
use Rattle.kernel.proofs.Common.{HasFiles, has_failed, change_node}
use Rattle.kernel.proofs.Steps.{fail-keeps, with-tree}
use Rattle.files.specs.declared.file.OpenFile.{OpenFile}
use Rattle.files.specs.declared.file.Target.{Target}
use Rattle.files.specs.declared.file.Target.TheVariants as target
use Rattle.kernel.proofs.Holding.{IsHome, held-counts, held-there, home-held, Opens, Processes}
use Rattle.kernel.proofs.Releasing.{is_by, settled-by}
use Rattle.name_rules.proofs.Quiet.{kept-gone, kept-here, kept-none}
use Rattle.name_rules.proofs.Dropping.{keeps-unlinked}
use Rattle.tree.specs.Unlinks.{unlinked_in}
use Rattle.name_rules.proofs.Quiet as quiet
use Rattle.tree.specs.declared.making.Leaf.{Leaf}
use Rattle.tree.specs.declared.TreeFault.{TreeFault}
use Rattle.tree.specs.declared.TreeFault.TheVariants.{Device}
use Rattle.tree.specs.Leaves.{leaf_node}
use Rattle.tree.specs.Tree as tree
use Rattle.unixmodel.specs.NameCalls.{emptied}
use Rattle.name_rules.specs.Changes.{Changed, shape, Loses}
use Rattle.tree.proofs.Keeping.{Reaps, unlinked-reaps, created-changed, device-is, folder-changed, linked-changed}
use Rattle.kernel.specs.Disk.{with_tree}
use Rattle.tree.specs.Calls.{MakesDirectory, MakesLink, MakesNode, TakesName}

-- ---- what holds of who holds nodes, where files change and the nodes that somebody holds stay of their type

-- a node fits by its shape
fits-shape : (f : OpenFile) (t : Target) (o : Option Node) → FitsNode f t o ↔ FitsNode f t (option_map shape o)
fits-shape f (target.Pipe pipe e) o = (λ is. is, λ is. is)
fits-shape f t (Some (Directory links places)) = (λ is. is, λ is. is)
fits-shape f t _ = (λ is. is, λ is. is)

folder-shape : (o : Option Node) → IsFolder o ↔ IsFolder (option_map shape o)
folder-shape (Some (Directory links places)) = (λ is. is, λ is. is)
folder-shape _ = (λ is. is, λ is. is)

pub folder-there : (o : Option Node) → IsFolder o → IsSome o
folder-there None is = absurd is
folder-there (Some node) is = refl

pub there : (o : Option Node) → (o ≡ None → ⊥) → IsSome o
there None is = absurd (is refl)
there (Some node) is = refl

module _ {t : FileTree} {opens : Opens} {os : Processes} (is : IsInUse t opens os) where
  module _ (now : FileTree)
      (stays : (n : ℕ) → 1 ≤ holders t.holds n
      → option_map shape (slot now.files n) ≡ option_map shape (slot t.files n)) where
    fits-stays : (f : OpenFile) (on : Target) (o : Option ℕ) → ((n : ℕ) → o ≡ Some n → 1 ≤ holders t.holds n)
        → FitsNode f on (node_of t.files o) → FitsNode f on (node_of now.files o)
    fits-stays f on None held fits = fits
    fits-stays f on (Some n) held fits =
        (fits-shape f on _).1 (subst (FitsNode f on) (sym (stays n (held n refl))) ((fits-shape f on _).0 fits))

    home-stays : (o : Option ℕ) → ((d : ℕ) → o ≡ Some d → 1 ≤ holders t.holds d) → IsHome t o → IsHome now o
    home-stays None held folder = tt
    home-stays (Some d) held folder =
        (folder-shape _).1 (subst IsFolder (sym (stays d (held d refl))) ((folder-shape _).0 folder))

    -- who holds which node stays
    pub used-shaped : KeepsTree now.files → now.holds ≡ t.holds → slot now.files 0 ≡ None
        → blocks_of now.files ≤ now.block_limit
        → ((n : ℕ) (node : Node) → slot now.files n ≡ Some node → links_of node ≡ 0 → 1 ≤ holders t.holds n)
        → IsInUse now opens os
    used-shaped rules same none few held = record {
      rules = rules;
      zero = none;
      within = few;
      holds = λ n. rw same (is.holds n);
      held = λ n node at bare. rw same (held n node at bare);
      fits = λ k c at. fits-stays c.file _ _
          (λ n on. omega (arith, held-counts node_in refl opens k n (ap node_in at ∙ on), is.holds n)) (is.fits k c at);
      homes = λ j. home-stays (home_in (slot os j)) (λ d at. home-held is j d at) (is.homes j);
    }

  -- no node loses its last link
  pub used-changed : (now : FileTree) → Changed t.files now.files → now.holds ≡ t.holds → slot now.files 0 ≡ None
      → blocks_of now.files ≤ now.block_limit → IsInUse now opens os
  used-changed now changed same none few = used-shaped now (λ n some. changed.stays n (there _ (held-there is n some)))
      changed.tree same none few
      (λ n node at bare. let was = changed.idle n node at bare in is.held n was.was was.here was.none)

-- ---- who holds nodes, where a name is taken away: nodes that nothing keeps any more go

module _ {old : FileTree} {opens : Opens} {os : Processes} (is : IsInUse old opens os) (t : FileTree) (d : ℕ)
    (path : List ℕ) (made : unlinked_in old.holds old.files d path ≡ Some t.files) where
  abbrev pub reaps : Reaps old.holds old.files d path t.files
  reaps = unlinked-reaps is.rules _ d path _ made

  loses : Loses old.files reaps.less reaps.at
  loses = keeps-unlinked is.rules reaps.at _ reaps.made

  -- nodes that nothing keeps are gone
  pub kept-is : t.files ≡ kept (is_by old.holds) 0 reaps.less
  kept-is = reaps.reaped (settled-by _ _ is.held)

  held-kept : (n : ℕ) → 1 ≤ holders old.holds n → (o : Option Node) → slot reaps.less n ≡ o
      → slot (kept (is_by old.holds) 0 reaps.less) n ≡ o
  held-kept n some None at = kept-none (is_by old.holds) _ n at
  held-kept n some (Some node) at =
      kept-here (is_by old.holds) _ n node at (or_right _ _ (lt-ltb 0 (holders old.holds n) some))

  stays : (n : ℕ) → 1 ≤ holders old.holds n → option_map shape (slot t.files n) ≡ option_map shape (slot old.files n)
  stays n some =
      ap (λ (fs : Files). option_map shape (slot fs n)) kept-is
      ∙ ap (option_map shape) (held-kept n some _ refl)
      ∙ loses.stays n (there _ (held-there is n some))

  -- a node that is there still has a link, or is held
  bare-held : (n : ℕ) (node : Node) → slot t.files n ≡ Some node → links_of node ≡ 0 → 1 ≤ holders old.holds n
  bare-held n node at bare = go (slot reaps.less n) refl where
    was : slot (kept (is_by old.holds) 0 reaps.less) n ≡ Some node
    was = ap (λ (fs : Files). slot fs n) (sym kept-is) ∙ at

    tested : (y : Node) → slot reaps.less n ≡ Some y → (b : Bool) → is_by old.holds n y ≡ b → 1 ≤ holders old.holds n
    tested y e false by = absurd (none-some node (sym (kept-gone (is_by old.holds) _ n y e by) ∙ was))
    tested y e true by =
        let same : y ≡ node = same_Some y node (sym (kept-here (is_by old.holds) _ n y e by) ∙ was) in
        let none : links_of y ≡ 0 = ap links_of same ∙ bare in
        let held : nat_lt 0 (holders old.holds n) ≡ true = rw none at by in
        ltb-true 0 (holders old.holds n) held

    go : (o : Option Node) → slot reaps.less n ≡ o → 1 ≤ holders old.holds n
    go None e = absurd (none-some node (sym (kept-none (is_by old.holds) _ n e) ∙ was))
    go (Some y) e = tested y e _ refl

  pub used-unlinked : t.holds ≡ old.holds → IsWhole t → IsInUse t opens os
  used-unlinked holds whole = used-shaped is t stays reaps.tree holds whole.zero whole.within bare-held

-- ---- calls on names, a file that is emptied, and bytes between nodes and memory keep what a kernel keeps

module _ {k : Kernel} (keeps : Keeps k) {now : Kernel} (same : k ≡ now) (up : now.tree.failed ≡ false) where
  in-use : IsInUse k.tree k.files k.table.places
  in-use = keeps.sound.used (rw (← same) at up)

  -- t: what the step left
  module _ {t : FileTree} {X : Type 0} {Done : X → Type 0} {Bad : Type 0} {Why : TreeFault → Type 0}
      {r : Result X TreeFault} (acts : tree.Acts k.tree t r Done Bad Why) (whole : OnOk r (IsWhole t)) where
    unchanged : t.files ≡ k.tree.files → IsInUse t k.files k.table.places
    unchanged alike =
        used-shaped in-use t (λ n some. ap (λ (fs : Files). option_map shape (slot fs n)) alike)
        (subst KeepsTree (sym alike) in-use.rules) acts.holds (ap (λ (fs : Files). slot fs 0) alike ∙ in-use.zero)
        (omega (arith, in-use.within, acts.limit, ap blocks_of alike))
        (λ n node at bare. in-use.held n node (ap (λ (fs : Files). slot fs n) (sym alike) ∙ at) bare)

    names-keep : ((v : X) → Done v → IsWhole t → IsInUse t k.files k.table.places) → Keeps (with_tree k t)
    names-keep done = record
        { sound = with-tree keeps.sound t (go r acts.done acts.refused whole acts.failed); watched = keeps.watched }
      where
        go : (s : Result X TreeFault) → IfOk s Done
            → IfErr s (λ fault. fault ≢ Device → tree.IsRefusal k.tree t Bad (Why fault)) → OnOk s (IsWhole t)
            → t.failed ≡ has_failed s → t.failed ≡ false → IsInUse t k.files k.table.places
        go (Ok v) told refused full failed good = done v told full
        go (Err fault) told refused full failed good = unchanged (refused (device-is fault (sym failed ∙ good))).same

    -- one more node or name
    made-keeps : ((v : X) → Done v → Changed k.tree.files t.files) → Keeps (with_tree k t)
    made-keeps changes = names-keep
        (λ v told full. used-changed in-use t (changes v told) acts.holds full.zero full.within)

  module _ {t : FileTree} (d : ℕ) (path : List ℕ) where
    pub create-keeps : (it : Leaf) {r : Result ℕ TreeFault} → All (λ b. b ≢ 0) path
        → MakesNode k.tree t d path (leaf_node it) r → OnOk r (IsWhole t) → Keeps (with_tree k t)
    create-keeps it plain acts whole =
        made-keeps acts whole (λ v made. created-changed in-use.rules d path plain it
        (record { files = t.files; number = v }) made)

    pub folder-keeps : {r : Result (Unit {0}) TreeFault} → All (λ b. b ≢ 0) path → MakesDirectory k.tree t d path r
        → OnOk r (IsWhole t) → Keeps (with_tree k t)
    folder-keeps plain acts whole = made-keeps acts whole (λ v made. folder-changed in-use.rules d path plain _ made)

    pub link-keeps : (from : List ℕ) {r : Result (Unit {0}) TreeFault} → All (λ b. b ≢ 0) path
        → MakesLink k.tree t d from path r → OnOk r (IsWhole t) → Keeps (with_tree k t)
    link-keeps from plain acts whole =
        made-keeps acts whole (λ v made. linked-changed in-use.rules d path plain from _ made)

    pub unlink-keeps : {r : Result (Unit {0}) TreeFault} → TakesName k.tree t d path r → OnOk r (IsWhole t)
        → Keeps (with_tree k t)
    unlink-keeps acts whole = names-keep acts whole (λ v made full. used-unlinked in-use t d path made acts.holds full)

  -- a file is emptied
  pub truncate-keeps : {t : FileTree} (n : ℕ) {r : Result (Unit {0}) DeviceFault}
      → Serves k.tree t r (λ done. HasFiles k.tree t (change_node k.tree.files n emptied)) → OnOk r (IsWhole t)
      → Keeps (with_tree k t)
  truncate-keeps {t} n {r} serves whole = go r serves.told whole serves.down where
    go : (s : Result (Unit {0}) DeviceFault) → IfOk s (λ done. HasFiles k.tree t (change_node k.tree.files n emptied))
        → OnOk s (IsWhole t) → OnErr s (t.failed ≡ true) → Keeps (with_tree k t)
    go (Ok done) told full down =
        let changed = subst (λ (u : FileTree). Changed k.tree.files u.files) (sym told)
        (quiet.truncates in-use.rules n) in
        record {
          sound = with-tree keeps.sound t
              (λ good. used-changed in-use t changed (ap (λ (u : FileTree). u.holds) told) full.zero full.within);
          watched = keeps.watched;
        }
    go (Err fault) told full down = fail-keeps keeps t down
