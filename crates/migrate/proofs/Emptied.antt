-- A node is copied: first without its bytes, and then they come.
use Rattle.layout.specs.declared.Kind.{Kind}
use Rattle.layout.specs.declared.Kind.TheVariants.{Free}
use Rattle.layout.specs.Kinds.{node_kind}
use Rattle.migrate.proofs.Common.{◌++◌, ◌≡◌, ◌<◌, ◌+◌, ℕ, List, [], None, Some, length, ap, refl, ◌∙◌, arith, subst}
use Rattle.migrate.proofs.Common.{Err, IsSome, Ok, false, is_some, unwrap_or, append-nil, drop_all, get_or-set_same}
use Rattle.migrate.proofs.Common.{length-set, set-set, blocks_of, Files, Node, blocks_for, links_of, node_bytes, put}
use Rattle.migrate.proofs.Common.{size_of, slot, Directory, File, Geometry, Changes, IsFull, LacksWriting, Serves}
use Rattle.migrate.proofs.Common.{Store, Writes, is_device, no_node, raw_at, with_bytes, FitsPlaces, IsRaw, Stores}
use Rattle.migrate.proofs.Common.{Stores-set, blocks_of-set, length-held, taken_by, whole-node, CanStand, Copies, Lacks}
use Rattle.migrate.proofs.Common.{write_fault, taken-grows, ◌≢◌}
use Rattle.std.specs.Prelude.{true}
use Rattle.blockdev.specs.Splice.{splice}
use Rattle.unixmodel.specs.Files.Node.{Device}
use Rattle.unixmodel.specs.Manifest.{data_blocks_of}
use Rattle.layout.specs.Image.{RawNode, taken_for}
use Rattle.balloc.specs.Inodes.{fresh_node}
use Rattle.inode.specs.declared.InodeFault.{InodeFault}
use Rattle.inode.specs.declared.InodeFault.TheVariants.{Blocks, Device, PastEnd, TooLong}

-- the node without its bytes
abbrev emptied : Node → Node
emptied (File links bytes) = File links []
emptied (Device links major minor) = Device links major minor
emptied (Directory links places) = Directory links []

-- as a disk holds it
abbrev raw_of : Node → RawNode
raw_of node = record { kind = node_kind node; links = links_of node; bytes = [] }

fresh-some : (kind : Kind) (links : ℕ) → kind ≢ Free → is_some (fresh_node kind links) ≡ true
fresh-some Free links some = absurd (some refl)
fresh-some kind links some = refl

raw-fresh : (node : Node) → fresh_node (node_kind node) (links_of node) ≡ Some (raw_of node)
raw-fresh (File links bytes) = refl
raw-fresh (Device links major minor) = refl
raw-fresh (Directory links places) = refl

raw-emptied : (node : Node) → IsRaw (raw_of node) (emptied node)
raw-emptied (Device links major minor) = record { kind = refl; links = refl; bytes = refl }
raw-emptied node = record { kind = refl; links = refl; bytes = refl }

emptied-fits : (node : Node) → FitsPlaces (Some (emptied node))
emptied-fits (Directory links places) = λ k d l. absurd (omega arith)
emptied-fits node = tt

raw-whole : (node : Node) → IsRaw (with_bytes (raw_of node) (node_bytes node)) node
raw-whole (Device links major minor) = record { kind = refl; links = refl; bytes = refl }
raw-whole node = record { kind = refl; links = refl; bytes = refl }

emptied-size : (node : Node) → size_of (emptied node) ≡ 0
emptied-size (Device links major minor) = refl
emptied-size node = refl

-- bytes of a node that has none
splice-none : (bytes : List ℕ) → splice 0 bytes [] ≡ bytes
splice-none bytes = ap (λ r. bytes ++ r) (drop_all _ [] (omega arith)) ∙ append-nil _

-- the fields of a node without bytes
pub fresh-as : {D : Type 0} {old mid : Store D} {n : ℕ} (node : Node) {kind : Kind} {links : ℕ} → kind ≡ node_kind node
    → links ≡ links_of node → Changes old mid n (fresh_node kind links) → Changes old mid n (Some (raw_of node))
fresh-as {D} {old} {mid} {n} node k l = subst (Changes old mid n) ((λ at. fresh_node (k at) (l at)) ∙ raw-fresh node)

module _ {D : Type 0} {g : Geometry} {s : Store D} {now : Files} (copies : Copies g s now) where
  pub in-files : (n : ℕ) → n < g.inodes → n < length now
  in-files n h = let long = length-held copies.stores in let same =
      ap (λ (g : Geometry). g.inodes) copies.numbers in omega arith

  pub taken-some : {mid : Store D} (n : ℕ) → n < length now → (kind : Kind) (links : ℕ) → kind ≢ Free
      → Changes s mid n (fresh_node kind links) → IsSome (slot mid.nodes n)
  taken-some n high kind links some changes =
      ap (λ ns. is_some (slot ns n)) changes.nodes
      ∙ ap is_some (get_or-set_same _ n _ None (omega (arith, copies.stores.nodes.count)))
      ∙ fresh-some kind links some

module _ {D : Type 0} {g : Geometry} {old : Store D} {now : Files} (copies : Copies g old now) (n : ℕ)
    (high : n < length now) (none : slot now n ≡ None) (node : Node) where
  abbrev raw : RawNode
  raw = raw_of node

  module _ {mid : Store D} (same : mid.geometry ≡ old.geometry) (taken : Changes old mid n (Some raw)) where
    -- its number is taken
    pub taken-stores : Stores mid (put now n (emptied node))
    taken-stores = Stores-set copies.stores n (Some raw) (Some (emptied node)) high taken same (raw-emptied node)
        (emptied-fits node)

    raw-is : raw_at mid.nodes n ≡ raw
    raw-is = ap (λ ns. raw_at ns n) taken.nodes
        ∙ ap (λ o. unwrap_or o no_node) (get_or-set_same _ n _ None (omega (arith, copies.stores.nodes.count)))

    module _ {image : List ℕ} (stands : CanStand image n node) {bytes : List ℕ} (are : bytes ≡ node_bytes node) where
      -- its bytes are written
      pub written-copies : {identity : D → List ℕ} {new : Store D} {u : Unit {0}}
          → Serves identity is_device mid new (Ok u) (λ _. Writes mid new n 0 bytes) (LacksWriting mid new n 0 bytes)
          → Copies g new (put now n node)
      written-copies {new = new} written =
          let still = written.follows.geometry in
          let all : with_bytes (raw_at mid.nodes n) (splice 0 bytes (raw_at mid.nodes n).bytes)
          ≡ with_bytes raw (node_bytes node) =
          ap (λ r. with_bytes r (splice 0 bytes r.bytes)) raw-is ∙ ap (with_bytes raw) (splice-none _ ∙ are) in
          record {
            numbers = still ∙ same ∙ copies.numbers;
            up = written.failed;
            stores = subst (Stores new) (set-set now n _ _)
                (Stores-set taken-stores n _ _ (omega (arith, length-set now n (Some (emptied node))))
                (subst (λ r. Changes mid new n (Some r)) all written.done.changes) still (raw-whole node)
                stands.fits);
          }

      -- or need more blocks than there are
      full-lacks : {new : Store D} (k : ℕ) → IsFull mid new n 0 bytes k
          → data_blocks_of g.size g.inodes < blocks_of (put now n node)
      full-lacks k full =
          let left = full.some_left in
          let few : mid.free + taken_for 0 < taken_for (0 + k + 1) =
          subst (λ r. mid.free + taken_for (length r.bytes) < taken_for (0 + k + 1)) raw-is full.few in
          let size = ap length are ∙ whole-node node stands.fits in
          let grows = taken-grows (0 + k + 1) (size_of node) (omega arith) in
          let b = blocks_of-set now n (Some node) high in
          let e = blocks_of-set now n (Some (emptied node)) high in
          let was : taken_by (slot now n) ≡ 0 = ap taken_by none in
          let bare : taken_by (Some (emptied node)) ≡ 0 = ap blocks_for (emptied-size node) in
          let zero : taken_for 0 ≡ 0 = refl in
          let all = taken-stores.free in
          subst (λ (g : Geometry). data_blocks_of g.size g.inodes < blocks_of (put now n node)) (same ∙ copies.numbers)
          (omega arith)

      lacks : (new : Store D) (fault : InodeFault) → (is_device fault ≡ false → LacksWriting mid new n 0 bytes fault)
          → Lacks g (put now n node) (write_fault fault)
      lacks new Device why = tt
      lacks new PastEnd why = absurd (let past = (why refl).1 in omega arith)
      lacks new TooLong why =
          let long = (why refl).2 in
          let size = ap length are ∙ whole-node node stands.fits in
          let short = stands.short in
          absurd (omega arith)
      lacks new (Blocks k) why = full-lacks k (why refl)

      -- why not all go
      pub refused-lacks : {identity : D → List ℕ} {new : Store D} {fault : InodeFault}
          → Serves {T = Unit {0}} identity is_device mid new (Err fault) (λ _. Writes mid new n 0 bytes)
          (LacksWriting mid new n 0 bytes) → Lacks g (put now n node) (write_fault fault)
      refused-lacks {new = new} {fault} written = lacks new fault written.refused
