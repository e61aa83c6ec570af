-- Calls on a file system keep the rules of names; which nodes they leave without links.
use Rattle.tree.proofs.Common.{◌≡◌, ◌≢◌, ℕ, ◌+◌, Bool, List, None, Option, Some, cond, get_or, length, ap, sym, refl}
use Rattle.tree.proofs.Common.{◌∙◌, arith, subst, true, false, All, Err, IfErr, IfOk, IsSome, Ok, Result, nat_le}
use Rattle.tree.proofs.Common.{nat_lt, option_and_then, option_map, ◌&&◌, and_parts, false≢true, leb-false, leb-true}
use Rattle.tree.proofs.Common.{or_parts, none-some, option_and_then_some, same_Some, KeepsTree, lookup-used}
use Rattle.tree.proofs.Common.{changed-same, releases, writes-over, spot-parts, folder_in, linked_in, made_in, let_go}
use Rattle.tree.proofs.Common.{stays, leaf_node, Leaf, TreeFault, Acts, FileTree, IsRefusal, unlinked_in, IsFile}
use Rattle.tree.proofs.Common.{files_after, fitting, write_to, written, Files, Node, Spot, clear, find, links_of}
use Rattle.tree.proofs.Common.{longest, lookup, slot, spot_of, Made, linked, made_at, made_directory, unlinked, ◌≤◌}
use Rattle.tree.proofs.Common.{cond-false, cond-true, lt-ltb, or_from, or_left, or_right, DeviceFault, Turns, ◌<◌, []}
use Rattle.tree.proofs.Common.{replicate, inl, inr, cases_eq, ext_get_or, get_or-set_other, get_or-set_same, length-set}
use Rattle.tree.proofs.Common.{kept-gone, kept-here, kept-none, length-kept, unheld, InodeStat, TellsAny, Serves}
use Rattle.unixmodel.specs.Reap.{kept}
use Rattle.name_rules.proofs.Quiet.{is_held, IsSettled, kept-but, loses-reaped}
use Rattle.name_rules.specs.Changes.{Changed, Loses, shape}
use Rattle.name_rules.proofs.Adding.{keeps-linked, keeps-made, keeps-made-directory, IsNewFile}
use Rattle.name_rules.proofs.Dropping.{keeps-unlinked}
use Rattle.tree.specs.declared.making.Leaf.TheVariants as leaf
use Rattle.tree.specs.declared.TreeFault.TheVariants.{Device}
use Rattle.tree.specs.Tree.{has_failed, is_device}
use Rattle.tree.specs.Written.{with_bytes}
use Rattle.tree.proofs.Following.{IsNow, now-begin, now-files}
use Rattle.tree.proofs.Storing.{slot-within}

-- whether open files or working directories hold number k
abbrev pub used : List ℕ → ℕ → Bool
used holds k = nat_lt 0 (get_or holds k 0)

leaf-new : (l : Leaf) → IsNewFile (leaf_node l)
leaf-new leaf.File = record { kind = refl; links = refl; size = omega arith }
leaf-new (leaf.Device major minor) = record { kind = refl; links = refl; size = omega arith }

module _ {files : Files} (keeps : KeepsTree files) (d : ℕ) (path : List ℕ) (plain : All (λ b. b ≢ 0) path) where
  -- a file or device is made
  pub created-changed : (l : Leaf) (made : Made) → made_in files d path (leaf_node l) ≡ Some made
      → Changed files made.files
  unfolding made_in
  created-changed l made h =
      option_and_then_some (λ at. made_at files at (λ n. leaf_node l)) (spot_of files d path) made h
      (λ at spot is. keeps-made keeps
      at (spot-parts _ d path at plain spot) (λ n. leaf_node l) (λ n. leaf-new l) made is)

  -- a directory is made
  pub folder-changed : (more : Files) → folder_in files d path ≡ Some more → Changed files more
  unfolding folder_in
  folder-changed more h = option_and_then_some (made_directory files) (spot_of files d path) more h
      (λ at spot is. keeps-made-directory keeps at (spot-parts _ d path at plain spot) more is)

  -- one more name
  pub linked-changed : (old : List ℕ) (more : Files) → linked_in files d old path ≡ Some more → Changed files more
  unfolding linked_in
  linked-changed old more h =
      option_and_then_some (λ n. option_and_then (λ at. linked files at n) (spot_of files d path)) (find files d old)
      more h (λ n found rest.
      option_and_then_some (λ at. linked files at n) (spot_of files d path) more rest
      (λ at spot is. keeps-linked keeps at (spot-parts _ d path at plain spot) n more is))

-- ---- a node goes

module _ {files : Files} (keeps : KeepsTree files) (holds : List ℕ) where
  pub let-go-keeps : (n : ℕ) → KeepsTree (let_go holds files n)
  unfolding let_go
  let-go-keeps n = go (slot files n) refl where
    goes : (node : Node) → slot files n ≡ Some node → (b : Bool) → is_held (used holds) n node ≡ b
        → KeepsTree (cond b files (clear files n))
    goes node here true h = keeps
    goes node here false h =
        let few = leb-false 1 (links_of node) (or_parts _ _ h).0 in
        releases keeps n node here (omega arith)

    go : (o : Option Node) → slot files n ≡ o → KeepsTree (cond (stays holds n o) files (clear files n))
    go None here = keeps
    go (Some node) here = goes node here (is_held (used holds) n node) refl

-- ---- a name goes

-- the files are those of the definitions without the nodes that nothing keeps
pub record Reaps (holds : List ℕ) (files : Files) (d : ℕ) (path : List ℕ) (more : Files) : Type 0 where
  pub at : Spot
  pub spot : spot_of files d path ≡ Some at
  pub less : Files
  pub made : unlinked files at ≡ Some less
  pub reaped : IsSettled (is_held (used holds)) files → more ≡ kept (is_held (used holds)) 0 less
  pub tree : KeepsTree more

module _ {files : Files} (keeps : KeepsTree files) (holds : List ℕ) (d : ℕ) (path : List ℕ) where
  still : (at : Spot) (less : Files) (loses : Loses files less at)
      → (node : Node) × (slot less loses.number ≡ Some node)
  still at less loses = go (slot less loses.number) refl (loses.stays loses.number here) where
    here : IsSome (slot files loses.number)
    here = lookup-used keeps _ _ _ loses.named

    none : (o : Option Node) → IsSome o → option_map shape o ≡ None → ⊥
    none None h e = false≢true h
    none (Some x) h e = none-some _ (sym e)

    go : (o : Option Node) → slot less loses.number ≡ o
        → option_map shape o ≡ option_map shape (slot files loses.number)
        → (node : Node) × (slot less loses.number ≡ Some node)
    go None e same = absurd (none (slot files loses.number) here (sym same))
    go (Some node) e same = (node, e)

  reaps : (at : Spot) (less : Files) (loses : Loses files less at) → IsSettled (is_held (used holds)) files
      → let_go holds less loses.number ≡ kept (is_held (used holds)) 0 less
  unfolding let_go
  reaps at less loses settled =
      let node = still at less loses in
      ap (λ o. cond (stays holds loses.number o) less (clear less loses.number)) node.1
      ∙ sym (loses-reaped (used holds) _ less settled loses node.0 node.1)

  unlinked-at : (at : Spot) → spot_of files d path ≡ Some at → (n : ℕ) → lookup files at.directory at.name ≡ Some n
      → (o : Option Files) → unlinked files at ≡ o → (more : Files)
      → option_map (λ (less : Files). let_go holds less n) o ≡ Some more → Reaps holds files d path more
  unlinked-at at spot n named None e more h = absurd (none-some more h)
  unlinked-at at spot n named (Some less) e more h =
      let loses = keeps-unlinked keeps at less e in
      let number : n ≡ loses.number = same_Some n _ (sym named ∙ loses.named) in
      let is : let_go holds less n ≡ more = same_Some _ more h in
      record {
        at = at;
        spot = spot;
        less = less;
        made = e;
        reaped = λ settled. sym is ∙ ap (let_go holds less) number ∙ reaps at less loses settled;
        tree = subst KeepsTree is (let-go-keeps loses.tree holds n);
      }

  pub unlinked-reaps : (more : Files) → unlinked_in holds files d path ≡ Some more → Reaps holds files d path more
  unfolding unlinked_in
  unlinked-reaps more h =
      option_and_then_some (λ at. option_and_then
      (λ n. option_map (λ (less : Files). let_go holds less n) (unlinked files at))
      (lookup files at.directory at.name)) (spot_of files d path) more h (λ at spot rest.
      option_and_then_some (λ n. option_map (λ (less : Files). let_go holds less n) (unlinked files at))
      (lookup files at.directory at.name) more rest (λ n named last. unlinked-at at spot n named _ refl more last))

-- ---- bytes are written

pub written-changed : {files : Files} → KeepsTree files → (limit n at : ℕ) (new : List ℕ) → IsFile files n
    → Changed files (files_after files (written limit files n at new))
unfolding written
written-changed {files} keeps limit n at new file =
    subst (λ o. Changed files (files_after files (write_to limit files n at new o))) (sym file.here)
    (go (nat_le at (length file.bytes) && nat_le (at + length new) longest) refl)
  where
    go : (b : Bool) → (nat_le at (length file.bytes) && nat_le (at + length new) longest) ≡ b
        → Changed files (files_after files
        (cond b (Some (with_bytes files n
        at file.links file.bytes new (fitting limit files n at file.links file.bytes new))) None))
    go false e = changed-same keeps
    go true e = writes-over keeps n _ _ new at _ file.here (leb-true _ longest (and_parts _ _ e).1)

-- ---- what a call on names returns

pub device-is : (fault : TreeFault) → is_device fault ≡ false → fault ≢ Device
device-is fault h = λ e. false≢true (sym h ∙ ap is_device e)

-- where no access failed the rules are kept, if they are by what is done
pub acts-keeps : {T : Type 0} {old new : FileTree} {r : Result T TreeFault} {Done : T → Type 0} {Refused : Type 0}
    {Why : TreeFault → Type 0} → Acts old new r Done Refused Why → has_failed r ≡ false → KeepsTree old.files
    → ((x : T) → Done x → KeepsTree new.files) → KeepsTree new.files
acts-keeps {T} {old} {new} {r} {Done} {Refused} {Why} acts up keeps done = go r acts.done acts.refused up where
  go : (r : Result T TreeFault) → IfOk r Done
      → IfErr r (λ fault. fault ≢ Device → IsRefusal old new Refused (Why fault)) → has_failed r ≡ false
      → KeepsTree new.files
  go (Ok x) h none e = done x h
  go (Err fault) h none e = subst KeepsTree (sym (none (device-is fault e)).same) keeps

-- ---- a node goes, unless it has a link or somebody holds it

-- who held the node lets go of it first
pub let-go-serves : {old mid new : FileTree} {hs : List ℕ} (n : ℕ) {T : Type 0} {r : Result T DeviceFault}
    → mid ≡ record old { holds = hs } → Turns mid new r (let_go mid.holds mid.files n)
    → Serves old new r (λ _. new ≡ record old { files = let_go hs old.files n; holds = hs; failures = new.failures })
let-go-serves {old} {mid} {new} {hs} n {T} {r} is =
    subst (λ (t : FileTree). Turns t new r (let_go t.holds t.files n)
    → Serves old new r (λ _. new ≡ record old { files = let_go hs old.files n; holds = hs; failures = new.failures }))
    (sym is) (λ turns.
    let s = turns.serves in record
    { told = s.told; up = s.up; down = s.down; same_device = s.same_device; cause = s.cause })

module _ (holds : List ℕ) (files : Files) (n : ℕ) where
  pub let-go-held : 1 ≤ get_or holds n 0 → let_go holds files n ≡ files
  unfolding let_go
  let-go-held some = go (slot files n) where
    go : (o : Option Node) → cond (stays holds n o) files (clear files n) ≡ files
    go None = refl
    go (Some node) = cond-true _ _ _ (or_right _ _ (lt-ltb 0 _ some))

  module _ (node : Node) (here : slot files n ≡ Some node) where
    let-go-is : let_go holds files n ≡ cond (is_held (used holds) n node) files (clear files n)
    unfolding let_go
    let-go-is = ap (λ o. cond (stays holds n o) files (clear files n)) here

    pub let-go-linked : 1 ≤ links_of node → let_go holds files n ≡ files
    let-go-linked some = let-go-is ∙ cond-true _ _ _ (or_left _ _ (lt-ltb 0 _ some))

    pub let-go-clear : get_or holds n 0 ≡ 0 → links_of node ≡ 0 → let_go holds files n ≡ clear files n
    let-go-clear none bare =
        let-go-is
        ∙ cond-false _ _ _ (or_from _ _ (ap (nat_lt 0) bare) (ap (nat_lt 0) none))

    -- where all other nodes are kept by a link or somebody, no node stays that isn't kept
    pub let-go-reaps : ((m : ℕ) (x : Node) → m ≢ n → slot files m ≡ Some x → is_held (used holds) m x ≡ true)
        → let_go holds files n ≡ kept (is_held (used holds)) 0 files
    let-go-reaps others = let-go-is ∙ sym (kept-but _ _ n node here others)

-- ---- all nodes without links go, one number after the other

-- ---- one number

abbrev is_linked : ℕ → Node → Bool
is_linked n node = nat_lt 0 (links_of node)

-- a free number stays free
pub let-go-free : (holds : List ℕ) (files : Files) (n : ℕ) → slot files n ≡ None → let_go holds files n ≡ files
unfolding let_go
let-go-free holds files n here = ap (λ o. cond (stays holds n o) files (clear files n)) here

-- the other numbers stay as they are
let-go-beside : (files : Files) (n m : ℕ) → m ≢ n → slot (let_go [] files n) m ≡ slot files m
let-go-beside files n m away = go (slot files n) refl where
  go : (o : Option Node) → slot files n ≡ o → slot (let_go [] files n) m ≡ slot files m
  go None here = ap (λ fs. slot fs m) (let-go-free [] files n here)
  go (Some node) here = elim (cases_eq _ 0) [
    | inl none ↦ ap (λ fs. slot fs m) (let-go-clear [] files n node here refl none)
        ∙ get_or-set_other _ n m None None away
    | inr some ↦ ap (λ fs. slot fs m) (let-go-linked [] files n node here (omega (arith, some)))
  ]

-- number n gets what it has once nobody holds any node
let-go-at : (files now : Files) (n : ℕ) → slot now n ≡ slot files n → slot (let_go [] now n) n ≡ slot (unheld files) n
let-go-at files now n same = go (slot files n) refl where
  go : (o : Option Node) → slot files n ≡ o → slot (let_go [] now n) n ≡ slot (unheld files) n
  go None here = ap (λ fs. slot fs n) (let-go-free [] now n (same ∙ here)) ∙ same ∙ here
      ∙ sym (kept-none is_linked _ n here)
  go (Some node) here = elim (cases_eq _ 0) [
    | inl none ↦
        ap (λ fs. slot fs n) (let-go-clear [] now n node (same ∙ here) refl none)
        ∙ get_or-set_same now n None None (slot-within now n node (same ∙ here))
        ∙ sym (kept-gone is_linked _ n node here (ap (nat_lt 0) none))
    | inr some ↦
        ap (λ fs. slot fs n) (let-go-linked [] now n node (same ∙ here) (omega (arith, some)))
        ∙ same ∙ here
        ∙ sym (kept-here is_linked _ n node here (lt-ltb 0 (links_of node) (omega (arith, some))))
  ]

-- from the result of a look at it
pub told-free : {p : Option Node} (o : Option InodeStat) → o ≡ None → TellsAny o p → p ≡ None
told-free {p} o is told = go p (subst (λ (o : Option InodeStat). TellsAny o p) is told) where
  go : (p : Option Node) → TellsAny None p → p ≡ None
  go None t = refl
  go (Some node) t = absurd t

pub told-node : {p : Option Node} (o : Option InodeStat) (s : InodeStat) → o ≡ Some s → TellsAny o p
    → (node : Node) × (p ≡ Some node) × (s.links ≡ links_of node)
told-node {p} o s is told = go p (subst (λ (o : Option InodeStat). TellsAny o p) is told) where
  go : (p : Option Node) → TellsAny (Some s) p → (node : Node) × (p ≡ Some node) × (s.links ≡ links_of node)
  go None t = absurd t
  go (Some node) t = (node, refl, t.1)

let-go-long : (files : Files) (n : ℕ) → length (let_go [] files n) ≡ length files
unfolding let_go
let-go-long files n = go (stays [] n (slot files n)) where
  go : (b : Bool) → length (cond b files (clear files n)) ≡ length files
  go true = refl
  go false = length-set _ n None

-- ---- all of them

-- nobody holds any
abbrev bare : FileTree → FileTree
bare t = record t { holds = replicate (length t.holds) 0 }

-- the nodes below number i without links are gone
pub record IsSwept (old t : FileTree) (i : ℕ) : Type 0 where
  pub now : IsNow (bare old) t t.files
  pub long : length t.files ≡ length old.files
  pub below : (n : ℕ) → n < i → slot t.files n ≡ slot (unheld old.files) n
  pub rest : (n : ℕ) → i ≤ n → slot t.files n ≡ slot old.files n

pub swept-none : {old now : FileTree} → now ≡ bare old → IsSwept old now 0
swept-none {old} is = subst (λ (t : FileTree). IsSwept old t 0) (sym is)
    (record { now = now-begin; long = refl; below = λ n l. absurd (omega (arith, l)); rest = λ n l. refl })

pub from-bare : {old new : FileTree} {T : Type 0} {r : Result T DeviceFault} {Told : T → Type 0}
    → Serves (bare old) new r Told → Serves old new r Told
from-bare serves = record
    { told = serves.told; up = serves.up; down = serves.down; same_device = serves.same_device; cause = serves.cause }

-- one number more
pub swept-more : {old now new : FileTree} {i : ℕ} → IsSwept old now i → IsNow (bare old) new (let_go [] now.files i)
    → IsSwept old new (i + 1)
swept-more {old} {now} {new} {i} is next =
    let are = now-files next in record {
      now = subst (IsNow (bare old) new) (sym are) next;
      long = ap length are ∙ let-go-long _ i ∙ is.long;
      below = λ n l. ap (λ fs. slot fs n) are ∙ elim (cases_eq n i) [
        | inl same ↦ ap (slot (let_go [] now.files i)) same ∙ let-go-at _ _ i (is.rest i (omega arith))
            ∙ ap (slot (unheld old.files)) (sym same)
        | inr away ↦ let-go-beside _ i n away ∙ is.below n (omega (arith, l, away))
      ];
      rest = λ n l. ap (λ fs. slot fs n) are ∙ let-go-beside now.files i n (omega (arith, l))
          ∙ is.rest n (omega (arith, l));
    }

-- no number is left
pub swept-all : {old now : FileTree} {i : ℕ} → IsSwept old now i → length old.files ≤ i → now.files ≡ unheld old.files
swept-all {old} {now} is all =
    ext_get_or None now.files (unheld old.files) (is.long ∙ sym (length-kept is_linked 0 _))
    (λ n l. is.below n (omega (arith, l, all, is.long)))
