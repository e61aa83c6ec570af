-- A disk stays sound where an inode grows, and where its record is written while no block changes.
use Rattle.layout.proofs.Common.{◌≡◌, ◌≢◌, ℕ, ◌+◌, ◌<◌, ◌≤◌, List, [], ap, ◌∙◌, arith, inl, inr, cases_eq, block_at}
use Rattle.layout.proofs.Common.{Geometry, sym, Blocks, refl, subst, ◌/◌, ◌%◌, ◌⊎◌, false, get_or, Some, ext_get_or}
use Rattle.layout.proofs.Common.{longest, bitmap_start_of, DiskInode, IsInode, IsUsed, byte_of, bytes_of, inode_at}
use Rattle.layout.proofs.Common.{node_at, node_with, slot_in, slot_of, IsNamed, IsSound, cases_lt, IsFree, bit_in}
use Rattle.layout.proofs.Common.{Grows, HoldsBytes, WritesInode, replicate, get_or-replicate, get_or_past}
use Rattle.layout.proofs.Common.{length-replicate}
use Rattle.layout.specs.Image.{Asks, IsSpare, holder_of, in_record, address_of}
use Rattle.layout.proofs.Slots.{IsSpare-size, asks_at, asks_holder, slot_in-same, asks_cases, in_record-cases}
use Rattle.layout.proofs.Slots.{slot_in-record}
use Rattle.layout.proofs.GrowLemmas.{InData, IsSoundAt, KeepsOthers, NamedHere, get_or-bytes_of, length-bytes_of, mark}
use Rattle.layout.proofs.GrowLemmas.{node_at-some, record_in}

module _ {g : Geometry} {old mid new : Blocks} {n : ℕ} {inode : DiskInode} (sound : IsSound g old) (low : 1 ≤ n)
    (high : n < g.inodes) (grows : Grows g old mid n inode) (writes : WritesInode g mid new n inode) where
  pub Grows-keeps : KeepsOthers g old new n
  Grows-keeps = record {
    count = writes.count ∙ grows.count;
    sizes = writes.sizes;
    head = writes.rest 1 (omega arith) ∙ grows.front 1 (omega arith);
    inodes = λ m h apart. writes.others m apart ∙ ap (record_in m) (grows.front (2 + m / 16) (omega arith));
    named = λ m j u apart. writes.rest (slot_of old m j) (omega (arith, (sound.in_range m j u).0))
        ∙ grows.named m j u apart;
  }

  used_cases : (j : ℕ) → IsUsed old g.inodes n j ⊎ (IsUsed old g.inodes n j → ⊥)
  used_cases j = elim (cases_eq (inode_at old n).kind 0) [
    | inl none ↦ inr (λ u. u.inode.kind none)
    | inr some ↦ elim (asks_cases (inode_at old n).size j) [
      | inl a ↦ inl (record { inode = record { low = low; high = high; kind = some }; slot = a })
      | inr a ↦ inr
          (λ u. a u.slot)
    ]
  ]

  -- each slot that is asked for is a data block
  in_data : (j : ℕ) → Asks inode.size j → InData g (slot_in mid inode j)
  in_data j a = elim (used_cases j) [
    | inl u ↦ subst (InData g) (sym (grows.kept j u)) (sound.in_range n j u)
    | inr u ↦ ((grows.fresh j (a, u)).low, (grows.fresh j (a, u)).high)
  ]

  -- the slots of n are those that were prepared
  slot_is : (j : ℕ) → (in_record j ≡ false → Asks inode.size (holder_of j)) → slot_of new n j ≡ slot_in mid inode j
  unfolding slot_of
  slot_is j index =
      ap (λ i. slot_in new i j) writes.here
      ∙ slot_in-same mid new inode (λ h far a. writes.rest (slot_in mid inode h) (omega (arith, (in_data h a).0))) j
      index

  size_is : (inode_at new n).size ≡ inode.size
  size_is = ap (λ (i : DiskInode). i.size) writes.here

  asked : (j : ℕ) → IsUsed new g.inodes n j → Asks inode.size j
  asked j u = subst (λ s. Asks s j) size_is u.slot

  asking : (j : ℕ) → Asks inode.size j → IsUsed new g.inodes n j
  asking j a = record {
    inode = record {
      low = low;
      high = high;
      kind = λ z. grows.used j a (sym (ap (λ (i : DiskInode). i.kind) writes.here) ∙ z);
    };
    slot = subst (λ s. Asks s j) (sym size_is) a;
  }

  asked_slot : (j : ℕ) → Asks inode.size j → slot_of new n j ≡ slot_in mid inode j
  asked_slot j a = slot_is j (asks_holder a)

  -- a free block has no name
  unnamed : (b : ℕ) → IsFree g old b → IsNamed old g.inodes b → ⊥
  unnamed b free named = omega (arith, (sound.marked b free.high).1 (inr named), free.clear)

  bit_same : (b : ℕ) → b < g.size → mark g new b ≡ mark g mid b
  bit_same b h = ap (λ c. bit_in c (b % 8192)) (writes.rest (bitmap_start_of g.inodes + b / 8192) (omega arith))

  here_at : (b j : ℕ) → Asks inode.size j → slot_in mid inode j ≡ b → NamedHere sound Grows-keeps b
  here_at b j a e = (j, asking j a, asked_slot j a ∙ e)

  pub Grows-sound : IsSoundAt sound Grows-keeps
  Grows-sound = record {
    kind = let e = ap (λ (i : DiskInode). i.kind) writes.here in omega (arith, grows.kind);
    fits = omega (arith, size_is, grows.fits);
    in_range = λ j u. subst (InData g) (sym (asked_slot j (asked j u))) (in_data j (asked j u));
    once = λ i j u v e.
        let same : slot_in mid inode i ≡ slot_in mid inode j = sym (asked_slot i (asked i u)) ∙ e
        ∙ asked_slot j (asked j v) in
        elim (used_cases i) [
          | inl a ↦ elim (used_cases j) [
            | inl b ↦ (sound.once n i n j a b (sym (grows.kept i a) ∙ same ∙ grows.kept j b)).1
            | inr b ↦ absurd (unnamed (slot_in mid inode j) (grows.fresh j (asked j v, b))
                (n, i, a, sym (grows.kept i a) ∙ same))
          ]
          | inr a ↦ elim (used_cases j) [
            | inl b ↦ absurd (unnamed (slot_in mid inode i) (grows.fresh i (asked i u, a))
                (n, j, b, sym (grows.kept j b) ∙ sym same))
            | inr b ↦ grows.once i j (asked i u, a) (asked j v, b) same
          ]
        ];
    apart = λ b (j, u, e) (m, i, away, v, f).
        elim (used_cases j) [
          | inl a ↦ away (sound.once m i n j v a (f ∙ sym e ∙ asked_slot j (asked j u) ∙ grows.kept j a)).0
          | inr a ↦ unnamed (slot_in mid inode j) (grows.fresh j (asked j u, a))
              (m, i, v, f ∙ sym e ∙ asked_slot j (asked j u))
        ];
    spare = λ j i s.
        let t = IsSpare-size size_is s in
        slot_is j t.index ∙ grows.spare j t;
    marked = λ b h. (
      (λ one. elim ((grows.bits b h).0 (sym (bit_same b h) ∙ one)) [
        | inl was ↦ elim ((sound.marked b h).0 was) [
          | inl l ↦ inl l
          | inr (m, j, u, e) ↦ inr (elim (cases_eq m n) [
            | inr away ↦ inl (m, j, away, u, e)
            | inl met ↦
                let v : IsUsed old g.inodes n j = subst (λ q. IsUsed old g.inodes q j) met u in
                inr (here_at b j (grows.asks j v) (grows.kept j v ∙ ap (λ q. slot_of old q j) (sym met) ∙ e))
          ])
        ]
        | inr (j, f, e) ↦ inr (inr (here_at b j f.0 e))
      ]),
      (λ why. bit_same b h ∙ (grows.bits b h).1 (elim why [
        | inl l ↦ inl ((sound.marked b h).1 (inl l))
        | inr named ↦ elim named [
          | inl (m, j, away, u, e) ↦ inl ((sound.marked b h).1 (inr (m, j, u, e)))
          | inr (j, u, e) ↦ elim (used_cases j) [
            | inl a ↦ inl ((sound.marked b h).1
                (inr (n, j, a, sym (grows.kept j a) ∙ sym (asked_slot j (asked j u)) ∙ e)))
            | inr a ↦ inr (j, (asked j u, a), sym (asked_slot j (asked j u)) ∙ e)
          ]
        ]
      ])),
    );
  }

  pub Grows-bytes : (bytes : List ℕ) → HoldsBytes mid inode bytes → bytes_of new n ≡ bytes
  unfolding byte_of
  Grows-bytes bytes holds =
      let e : (inode_at new n).size ≡ inode.size = size_is in
      ext_get_or 0 _ _ (length-bytes_of new n ∙ e ∙ sym holds.size) (λ i l.
      let within : i < inode.size = omega (arith, length-bytes_of new n) in
      let a = asks_at inode.size i grows.fits within in
      get_or-bytes_of new n i (omega arith)
      ∙ ap (λ q. get_or (block_at new q) (i % 1024) 0) (asked_slot (i / 1024) a)
      ∙ ap (λ b. get_or b (i % 1024) 0)
      (writes.rest (slot_in mid inode (i / 1024)) (omega (arith, (in_data (i / 1024) a).0)))
      ∙ holds.bytes_are i within)

  pub Grows-node : (bytes : List ℕ) → inode.kind ≢ 0 → HoldsBytes mid inode bytes
      → node_at new n ≡ Some (node_with inode bytes)
  Grows-node bytes kind holds =
      node_at-some new n low (λ z. kind (sym (ap (λ (i : DiskInode). i.kind) writes.here) ∙ z))
      ∙ ap (λ i. Some (node_with i (bytes_of new n))) writes.here
      ∙ ap (λ b. Some (node_with inode b)) (Grows-bytes bytes holds)

-- ---- the record of an inode is written while no block changes: one without blocks, or one that keeps its blocks

-- numbers that are 0, and past them
pub zero_at : (n k : ℕ) → ◌≡◌ {A = ℕ} (get_or (replicate n 0) k 0) 0
zero_at n k = elim (cases_lt k n) [
  | inl h ↦ get_or-replicate n k 0 0 h
  | inr h ↦ get_or_past (replicate {A = ℕ} n 0) k 0 (omega (arith, length-replicate {A = ℕ} n 0))
]

-- a size of 0 asks for nothing
pub asks_none : (size j : ℕ) → size ≡ 0 → Asks size j → ⊥
asks_none size j e a = omega (arith, a.reached)

-- a spare slot of a record without blocks is one of its own numbers
pub spare_none : (blocks : Blocks) (inode : DiskInode) (j : ℕ) → inode.size ≡ 0
    → ((k : ℕ) → get_or inode.addresses k 0 ≡ 0) → IsSpare inode.size j → slot_in blocks inode j ≡ 0
spare_none blocks inode j e zero spare = elim (in_record-cases j) [
  | inl here ↦ slot_in-record blocks inode j here ∙ zero (address_of j)
  | inr held ↦ absurd (asks_none inode.size (holder_of j) e (spare.index held))
]

-- no block changes, and all that is asked for was in use
Grows-still : {g : Geometry} {old : Blocks} {n : ℕ} {inode : DiskInode} → IsSound g old → inode.kind ≤ 3
    → inode.size ≤ longest → ((j : ℕ) → Asks inode.size j → (inode.kind ≢ 0) × IsUsed old g.inodes n j)
    → ((j : ℕ) → IsUsed old g.inodes n j → Asks inode.size j × (slot_in old inode j ≡ slot_of old n j))
    → ((j : ℕ) → IsSpare inode.size j → slot_in old inode j ≡ 0) → Grows g old old n inode
Grows-still sound kind fits was stays spare = record {
  count = refl;
  sizes = sound.parts.sizes;
  front = λ k h. refl;
  named = λ m j u apart. refl;
  kind = kind;
  used = λ j a. (was j a).0;
  fits = fits;
  asks = λ j u. (stays j u).0;
  kept = λ j u. (stays j u).1;
  fresh = λ j f. absurd (f.1 (was j f.0).1);
  once = λ i j f f2 e. absurd (f.1 (was i f.0).1);
  spare = spare;
  bits = λ b h. ((λ one. inl one), (λ why. elim why [ inl one ↦ one | inr (j, f, e) ↦ absurd (f.1 (was j f.0).1) ]));
}

pub Grows-empty : (g : Geometry) (old : Blocks) (n : ℕ) (inode : DiskInode) → IsSound g old
    → ((j : ℕ) → IsUsed old g.inodes n j → ⊥) → inode.kind ≤ 3 → inode.size ≡ 0
    → ((k : ℕ) → get_or inode.addresses k 0 ≡ 0)
    → Grows g old old n inode
Grows-empty g old n inode sound unused kind empty zero =
    Grows-still sound kind (omega arith) (λ j a. absurd (asks_none inode.size j empty a)) (λ j u. absurd (unused j u))
    (λ j s. spare_none old inode j empty zero s)

pub HoldsBytes-empty : (mid : Blocks) (inode : DiskInode) → inode.size ≡ 0 → HoldsBytes mid inode []
HoldsBytes-empty mid inode e = record { size = sym e; bytes_are = λ i h. absurd (omega arith) }

-- ---- the same blocks

module _ (g : Geometry) (old : Blocks) (n : ℕ) (inode : DiskInode) (sound : IsSound g old)
    (used : IsInode old g.inodes n) (size : inode.size ≡ (inode_at old n).size)
    (addresses : inode.addresses ≡ (inode_at old n).addresses) where
  slot_same : (j : ℕ) → slot_in old inode j ≡ slot_of old n j
  unfolding slot_of slot_in
  slot_same j = ap (λ l. slot_in old (record inode { addresses = l }) j) addresses

  pub Grows-same : inode.kind ≤ 3 → inode.kind ≢ 0 → Grows g old old n inode
  Grows-same kind taken =
      let fit = sound.fits n used in
      Grows-still sound kind (omega arith)
      (λ j a. (taken, record { inode = used; slot = subst (λ s. Asks s j) size a }))
      (λ j u. (subst (λ s. Asks s j) (sym size) u.slot, slot_same j))
      (λ j s. slot_same j ∙ sound.spare n j used (IsSpare-size size s))

  pub HoldsBytes-same : HoldsBytes old inode (bytes_of old n)
  unfolding byte_of
  HoldsBytes-same =
      let e : inode.size ≡ (inode_at old n).size = size in
      record {
        size = length-bytes_of old n ∙ sym e;
        bytes_are = λ i h.
            ap (λ q. get_or (block_at old q) (i % 1024) 0) (slot_same (i / 1024))
            ∙ sym (get_or-bytes_of old n i (omega arith));
      }
