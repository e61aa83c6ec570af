-- What a sound disk shows of its nodes, and what a change of the disk means for them.
use Rattle.layout.specs.Kinds.{kind_minor}
use Rattle.inode.proofs.Common.{◌≡◌, ◌∙◌, ℕ, Bool, List, None, Option, Some, ap, arith, inl, inr, length, refl, subst}
use Rattle.inode.proofs.Common.{sym, IsSome, false≢true, ◌⊎◌, unwrap_or, cases_eq, cases_lt, get_or_past, Disk, node_in}
use Rattle.inode.proofs.Common.{IsNode, IsWhole, no_node, Blocks, raw_at, store_over, used_by, Geometry, IsInode}
use Rattle.inode.proofs.Common.{RawNode, bytes_of, inode_at, nodes_of, taken_for, IsSound, get_or-nodes_of}
use Rattle.inode.proofs.Common.{length-bytes_of, length-nodes_of, node_at-none, node_at-some, slot, ◌+◌, ◌<◌, ◌≤◌, []}
use Rattle.inode.proofs.Common.{set, take, get_or-set_same, set-set, splice, IsTold, Tells, TellsAny, IsReadInto}
use Rattle.inode.proofs.Common.{Changes, Store, WritesFrom, WritesSome, with_bytes, LacksAt, Wrote, WritesAt}
use Rattle.inode.proofs.Common.{WritesFront, with_links, InodeStat, free_blocks}
use Rattle.std.specs.Prelude.{is_some}
use Rattle.std.proofs.lemmas.Option.{none-some}
use Rattle.balloc.specs.Inodes.{IsUnused, SetsNode, TakesInode, TakesNode, fresh_node}
use Rattle.inode.specs.Store.{Keeps, TakesLowest}
use Rattle.layout.proofs.KindLemmas.{read-free}
use Rattle.layout.specs.declared.Kind.{Kind}
use Rattle.layout.specs.declared.Kind.TheVariants.{Device, Directory, File, Free}
use Rattle.inode.specs.declared.write.Outcome.{Outcome}
use Rattle.inode.specs.declared.write.Outcome.TheVariants.{PastEnd, TooLong, Written}

-- ---- what a sound disk shows of its nodes

module _ (blocks : Blocks) (inodes n : ℕ) where
  abbrev here : Option RawNode
  here = slot (nodes_of blocks inodes) n

  -- an inode in use is a node
  pub slot-inode : IsInode blocks inodes n → here ≡ Some (node_in blocks n)
  slot-inode used = get_or-nodes_of blocks inodes n used.high ∙ node_at-some blocks n used.low used.kind

  -- a number is that of an inode in use, or it names nothing
  inode-cases : IsInode blocks inodes n ⊎ (here ≡ None)
  inode-cases = elim (cases_lt n inodes) [
    | inl high ↦
        let none = λ (why : (n ≡ 0) ⊎ ((inode_at blocks n).kind ≡ 0)). get_or-nodes_of blocks inodes n high
        ∙ node_at-none blocks n why in
        elim (cases_eq n 0) [
          | inl e ↦ inr (none (inl e))
          | inr low ↦ elim (cases_eq (inode_at blocks n).kind 0)
              [ inl z ↦ inr (none (inr z)) | inr kind ↦ inl (record { low = omega arith; high = high; kind = kind }) ]
        ]
    | inr past ↦ inr (get_or_past (nodes_of blocks inodes) n None (omega (arith, length-nodes_of blocks inodes)))
  ]

  pub slot-free : (IsInode blocks inodes n → ⊥) → here ≡ None
  slot-free none = elim inode-cases [ inl used ↦ absurd (none used) | inr free ↦ free ]

  pub inode-some : IsSome here → IsInode blocks inodes n
  inode-some some = elim inode-cases [ inl used ↦ used | inr free ↦ absurd (false≢true (sym (ap is_some free) ∙ some)) ]

  pub told-any : (o : Option InodeStat) → Tells blocks inodes n o → TellsAny here o
  told-any None none = rw (slot-free none) tt
  told-any (Some s) some = rw (slot-inode some.0) some.1

  -- a number that names nothing isn't in use
  pub unused-free : {g : Geometry} → g.inodes ≡ inodes → 1 ≤ n → n < inodes → here ≡ None → IsUnused g blocks n
  unused-free e low high free = record {
    low = low;
    high = omega arith;
    unused = elim (cases_eq (inode_at blocks n).kind 0) [
      | inl z ↦ z
      | inr kind ↦ absurd
          (none-some _ (sym free ∙ slot-inode (record { low = low; high = high; kind = kind })))
    ];
  }

-- of one in use
module _ {blocks : Blocks} {inodes n : ℕ} (used : IsInode blocks inodes n) where
  abbrev raw : RawNode
  raw = raw_at (nodes_of blocks inodes) n

  taken-none : slot (nodes_of blocks inodes) n ≡ None → ⊥
  taken-none none = none-some _ (sym none ∙ slot-inode blocks inodes n used)

  -- its node
  raw-inode : raw ≡ node_in blocks n
  raw-inode = ap (λ o. unwrap_or o no_node) (slot-inode blocks inodes n used)

  used-inode : used_by (slot (nodes_of blocks inodes) n) ≡ taken_for (length (bytes_of blocks n))
  used-inode = ap used_by (slot-inode blocks inodes n used)

  of-raw : (P : RawNode → Type 0) → P (node_in blocks n) → P raw
  of-raw P = subst P (sym raw-inode)

  pub told-raw : (s : InodeStat) → IsTold (node_in blocks n) s → IsTold raw s
  told-raw s = of-raw (λ raw. IsTold raw s)

  pub minor-raw : (minor : ℕ) → minor ≡ kind_minor (node_in blocks n).kind → minor ≡ kind_minor raw.kind
  minor-raw minor = of-raw (λ raw. minor ≡ kind_minor raw.kind)

  pub read-raw : {at : ℕ} {old new : List ℕ} (k : ℕ) → IsReadInto (bytes_of blocks n) at old new k
      → IsReadInto raw.bytes at old new k
  read-raw {at} {old} {new} k = of-raw (λ raw. IsReadInto raw.bytes at old new k)

  -- a node without bytes has size 0
  pub empty-raw : length raw.bytes ≡ 0 → (inode_at blocks n).size ≡ 0
  empty-raw e = sym (length-bytes_of blocks n) ∙ of-raw (λ raw. length (bytes_of blocks n) ≡ length raw.bytes) refl ∙ e

-- the nodes of a sound disk
pub whole-sound : {D : Type 0} {g : Geometry} {disk : Disk D} {failed : Bool} → IsSound g disk.blocks
    → IsWhole (store_over g disk failed)
whole-sound {D} {g} {disk} sound = record {
  count = length-nodes_of disk.blocks g.inodes;
  most = sound.parts.inodes_high;
  each = λ n node here.
      let used = inode-some disk.blocks g.inodes n (there here) in
      subst (IsNode n) (back (slot-inode disk.blocks g.inodes n used) here) (record {
        low = used.low;
        kind = λ free. used.kind ((read-free _ _ _).0 free);
        short = omega (arith, sound.fits n used, length-bytes_of disk.blocks n);
      });
} where
  there : {o : Option RawNode} {node : RawNode} → o ≡ Some node → IsSome o
  there e = rw e refl

  back : {o : Option RawNode} {x y : RawNode} → o ≡ Some x → o ≡ Some y → x ≡ y
  back e f = cc

-- ---- changes

-- a node without bytes takes no blocks
used-fresh : (kind : Kind) (links : ℕ) → used_by (fresh_node kind links) ≡ 0
used-fresh Free links = refl
used-fresh Directory links = refl
used-fresh File links = refl
used-fresh (Device major minor) links = refl

-- where no block is written the nodes are as they were
pub kept : {D : Type 0} {g : Geometry} {d d' : Disk D} {f b : Bool} → d'.blocks ≡ d.blocks
    → Keeps (store_over g d f) (store_over g d' b)
kept {g = g} e = record { nodes = ap (λ bs. nodes_of bs g.inodes) e; free = ap (free_blocks g) e }

-- number n names this node now
abbrev Names : {D : Type 0} → Geometry → Disk D → Disk D → Bool → Bool → ℕ → Option RawNode → Type 0
Names g d d' f b n node = Changes (store_over g d f) (store_over g d' b) n node

module _ {D : Type 0} {g : Geometry} {d d' : Disk D} {f b : Bool} {n : ℕ} where
  -- the node takes as many blocks as it did
  pub changes-sets : {node shown : Option RawNode} → SetsNode g d.blocks d'.blocks n node → node ≡ shown
      → used_by shown ≡ used_by (slot (nodes_of d.blocks g.inodes) n) → Names g d d' f b n shown
  changes-sets sets is used = record {
    whole = whole-sound sets.sound;
    nodes = sets.nodes ∙ ap (set (nodes_of d.blocks g.inodes) n) is;
    free = omega (arith, sets.free, used);
  }

  module _ (inode : IsInode d.blocks g.inodes n) where
    -- other bytes
    pub changes-wrote : {bytes : List ℕ} → Wrote g d.blocks d'.blocks n bytes
        → Names g d d' f b n (Some (with_bytes (raw_at (nodes_of d.blocks g.inodes) n) bytes))
    changes-wrote {bytes} wrote = record {
      whole = whole-sound wrote.sound;
      nodes = wrote.nodes ∙ ap (λ raw. set (nodes_of d.blocks g.inodes) n (Some (with_bytes raw bytes)))
          (sym (raw-inode inode));
      free = wrote.balance ∙ ap (λ k. free_blocks g d.blocks + k) (sym (used-inode inode));
    }

    pub changes-spliced : (at : ℕ) (bytes : List ℕ)
        → Wrote g d.blocks d'.blocks n (splice at bytes (bytes_of d.blocks n))
        → Names g d d' f b n (Some
        (with_bytes (raw_at (nodes_of d.blocks g.inodes) n)
        (splice at bytes (raw_at (nodes_of d.blocks g.inodes) n).bytes)))
    changes-spliced at bytes wrote =
        changes-wrote (of-raw inode (λ raw. Wrote g d.blocks d'.blocks n (splice at bytes raw.bytes)) wrote)

    pub writes-some : {at : ℕ} {bytes : List ℕ} (k : ℕ) → WritesFront g d.blocks d'.blocks n at bytes k
        → WritesSome (store_over g d f) (store_over g d' b) n at bytes k
    writes-some {at} {bytes} k front = record {
      most = front.within;
      changes = changes-spliced at (take k bytes) front.wrote;
      few = λ less. of-raw inode (λ raw. LacksAt (free_blocks g d.blocks) raw.bytes (at + k)) (front.few less);
    }

    -- other links
    pub changes-links : {links : ℕ} → SetsNode g d.blocks d'.blocks n (Some (with_links (node_in d.blocks n) links))
        → Names g d d' f b n (Some (with_links (raw_at (nodes_of d.blocks g.inodes) n) links))
    changes-links {links} sets =
        changes-sets sets (ap (λ raw. Some (with_links raw links)) (sym (raw-inode inode)))
        (ap (λ (raw : RawNode). taken_for (length raw.bytes)) (raw-inode inode) ∙ sym (used-inode inode))

    -- no node any more
    pub changes-given : length (raw_at (nodes_of d.blocks g.inodes) n).bytes ≡ 0 → SetsNode g d.blocks d'.blocks n None
        → Names g d d' f b n None
    changes-given empty sets =
        changes-sets sets refl (ap taken_for (sym empty)
        ∙ ap (λ (raw : RawNode). taken_for (length raw.bytes)) (raw-inode inode) ∙ sym (used-inode inode))

  -- one more node
  pub changes-taken : (kind : Kind) {links : ℕ} → slot (nodes_of d.blocks g.inodes) n ≡ None
      → TakesNode g d.blocks d'.blocks n kind links → Names g d d' f b n (fresh_node kind links)
  changes-taken kind {links} free takes = changes-sets takes.sets refl (used-fresh kind links ∙ sym (ap used_by free))

module _ {D : Type 0} (g : Geometry) (d d' : Disk D) (f b : Bool) where
  pub takes-lowest : (kind : Kind) (links : ℕ) (o : Option ℕ) → TakesInode g d.blocks d'.blocks kind links o
      → TakesLowest (store_over g d f) (store_over g d' b) kind links o
  takes-lowest kind links (Some n) takes =
      let lowest = takes.0 in
      let free = slot-free d.blocks g.inodes n (λ used. used.kind lowest.unused) in (
        record {
          low = lowest.low;
          high = omega (arith, lowest.high, length-nodes_of d.blocks g.inodes);
          free = free;
          lowest = λ m low less none. taken-none
              (record { low = low; high = omega (arith, lowest.high); kind = lowest.lowest m low less }) none;
        },
        changes-taken kind free takes.1,
      )
  takes-lowest kind links None all = (
    kept all.1,
    λ m low high none.
        let within : m < g.inodes = omega (arith, length-nodes_of d.blocks g.inodes) in
        taken-none (record { low = low; high = within; kind = all.0 m low within }) none,
  )

  pub writes-from : (n at : ℕ) (bytes : List ℕ) → IsInode d.blocks g.inodes n → (o : Outcome)
      → WritesAt g d.blocks d'.blocks n at bytes o → WritesFrom (store_over g d f) (store_over g d' b) n at bytes o
  writes-from n at bytes inode PastEnd past =
      (kept past.0, of-raw inode (λ raw. length raw.bytes < at) past.1)
  writes-from n at bytes inode TooLong long =
      (kept long.0, of-raw inode (λ raw. at ≤ length raw.bytes) long.1, long.2)
  writes-from n at bytes inode (Written k) wrote =
      (of-raw inode (λ raw. at ≤ length raw.bytes) wrote.0, wrote.1, writes-some inode k wrote.2)

-- ---- a node goes: first its bytes, then its number

some-within : (nodes : List (Option RawNode)) (n : ℕ) → IsSome (slot nodes n) → n < length nodes
some-within nodes n some =
    elim (cases_lt n (length nodes))
    [ inl high ↦ high | inr past ↦ absurd (none (get_or_past nodes n None (omega arith)) some) ] where
      none : {o : Option RawNode} → o ≡ None → IsSome o → ⊥
      none e some = cc

abbrev raw_of : Option RawNode → RawNode
raw_of o = unwrap_or o no_node

module _ {D : Type 0} {s mid : Store D} {n : ℕ} where
  slot-changed : {node : Option RawNode} → Changes s mid n node → IsSome (slot s.nodes n) → slot mid.nodes n ≡ node
  slot-changed {node} changes some = ap (λ ns. slot ns n) changes.nodes
      ∙ get_or-set_same s.nodes n node None (some-within s.nodes n some)

  pub emptied-asked : Changes s mid n (Some (with_bytes (raw_at s.nodes n) [])) → IsSome (slot s.nodes n)
      → IsSome (slot mid.nodes n) × (length (raw_at mid.nodes n).bytes ≡ 0)
  emptied-asked changes some =
      let here = slot-changed changes some in
      (rw here refl, ap (λ o. length (raw_of o).bytes) here)

  pub released : {new : Store D} → IsSome (slot s.nodes n) → Changes s mid n (Some (with_bytes (raw_at s.nodes n) []))
      → Changes mid new n None → Changes s new n None
  released some emptied given = record {
    whole = given.whole;
    nodes = given.nodes ∙ ap (λ ns. set ns n None) emptied.nodes ∙ set-set s.nodes n _ None;
    free =
        let here = ap used_by (slot-changed emptied some) in
        let first = emptied.free in
        let last = given.free in
        omega arith;
  }
