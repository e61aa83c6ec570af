-- How a change of one bit changes the count of free blocks.
use Rattle.balloc.proofs.Common.{set, drop, ap, sym, ◌∙◌, arith, refl, add-zero, cond, ◌≡◌, ℕ, ◌+◌, ◌-◌, ◌<◌, ◌≤◌, ◌==◌}
use Rattle.balloc.proofs.Common.{List, [], ◌∷◌, length, get_or, count_by, zero, suc, ext_get_or, bitmap_start_of}
use Rattle.balloc.proofs.Common.{Geometry, set_from, data_from, mark, Blocks, IsFree, data_bits, free_blocks, SetsBit}
use Rattle.balloc.proofs.Common.{subst, IsFirstFree, IsFullFrom, TakesLowest, ◌≢◌, ◌*◌, ◌/◌, ◌%◌, Option, Some, None}
use Rattle.balloc.proofs.Common.{inr, Fits, inode_bytes, IsInode, IsUsed, RawNode, bit_in, inode_at, node_at, node_with}
use Rattle.balloc.proofs.Common.{nodes_of, IsSound, IsSound-replace, KeepsOthers, node_at-none, nodes_of-changed}
use Rattle.balloc.proofs.Common.{Grows-keeps, Grows-node, Grows-sound, Grows-empty, HoldsBytes-empty, asks_none}
use Rattle.balloc.proofs.Common.{zero_at, IsUnused, SetsNode, fresh_inode, fresh_node, replicate}
use Rattle.std.proofs.lemmas.List.{drop_all, drop_more}
use Rattle.std.proofs.lemmas.List.Sums.{sum_by-cons, sum_by-set}
use Rattle.std.proofs.lemmas.List.FromFn.{length-map-range_with_len, get_or-map-range_with_len}
use Rattle.layout.specs.Numbers.{spelled}
use Rattle.layout.specs.declared.DiskInode.{DiskInode}
use Rattle.layout.specs.declared.Kind.{Kind}
use Rattle.layout.specs.declared.Kind.TheVariants.{Device, Directory, File, Free}
use Rattle.layout.specs.Grow.{Grows, WritesInode}

pub length-data_bits : (g : Geometry) (blocks : Blocks) → length (data_bits g blocks) ≡ g.size - data_from g
unfolding data_bits
length-data_bits g blocks = length-map-range_with_len _ _ _

pub get_or-data_bits : (g : Geometry) (blocks : Blocks) (i : ℕ) → i < g.size - data_from g
    → get_or (data_bits g blocks) i 0 ≡ mark g blocks (data_from g + i)
unfolding data_bits
get_or-data_bits g blocks i h =
    get_or-map-range_with_len (mark g blocks) (data_from g) (g.size - data_from g) i (data_from g + i) 0 h (omega arith)

module _ {g : Geometry} {old new : Blocks} {b : ℕ} where
  module _ {bit : ℕ} (sets : SetsBit g old new b bit) (low : data_from g ≤ b) (high : b < g.size) where
    abbrev spot : ℕ
    spot = b - data_from g

    spot_is : data_from g + spot ≡ b
    spot_is = omega arith

    data_bits-set : data_bits g new ≡ set (data_bits g old) spot bit
    data_bits-set =
        set_from 0 _ _ _ _ (omega (arith, length-data_bits g old))
        (length-data_bits g new ∙ sym (length-data_bits g old))
        (get_or-data_bits g new spot (omega arith) ∙ ap (mark g new) spot_is ∙ sets.here) (λ i l other.
        let within : i < g.size - data_from g = omega (arith, length-data_bits g old) in
        get_or-data_bits g new i within ∙ sets.others (data_from g + i) (omega arith) (omega arith)
        ∙ sym (get_or-data_bits g old i within))

    -- the bit that was there and the one that is there balance the counts
    free_blocks-set : free_blocks g new + cond (mark g old b == 0) 1 0 ≡ free_blocks g old + cond (bit == 0) 1 0
    free_blocks-set =
        ap (λ xs. count_by (λ x. x == 0) xs + cond (mark g old b == 0) 1 0) data_bits-set
        ∙ ap (λ x. count_by (λ y. y == 0) (set (data_bits g old) spot bit) + cond (x == 0) 1 0)
        (sym (get_or-data_bits g old spot (omega arith) ∙ ap (mark g old) spot_is))
        ∙ sum_by-set (λ x. cond (x == 0) 1 0) (data_bits g old) spot bit 0 (omega (arith, length-data_bits g old))

  pub free_blocks-take : IsFree g old b → SetsBit g old new b 1 → free_blocks g new + 1 ≡ free_blocks g old
  free_blocks-take free sets = ap (λ x. free_blocks g new + cond {A = ℕ} (x == 0) 1 0) (sym free.clear)
      ∙ free_blocks-set sets free.low free.high ∙ add-zero (free_blocks g old)

  pub free_blocks-give : data_from g ≤ b → b < g.size → mark g old b ≡ 1 → SetsBit g old new b 0
      → free_blocks g new ≡ free_blocks g old + 1
  free_blocks-give low high one sets = sym (add-zero (free_blocks g new))
      ∙ ap (λ x. free_blocks g new + cond {A = ℕ} (x == 0) 1 0) (sym one) ∙ free_blocks-set sets low high

-- ---- how many of a list are 0

abbrev pub zeros_in : List ℕ → ℕ
zeros_in bits = count_by (λ x. x == 0) bits

pub zeros-first : (x v : ℕ) (xs : List ℕ) → x ≡ v → zeros_in (x ∷ xs) ≡ cond (v == 0) 1 0 + zeros_in xs
zeros-first x v xs e = sum_by-cons (λ y. cond (y == 0) 1 0) x xs ∙ ap (λ y. cond {A = ℕ} (y == 0) 1 0 + zeros_in xs) e

-- bits that are set count nothing
pub zeros-skip : (xs : List ℕ) (i j : ℕ) → i ≤ j → j ≤ length xs → ((k : ℕ) → i ≤ k → k < j → get_or xs k 0 ≡ 1)
    → zeros_in (drop i xs) ≡ zeros_in (drop j xs)
zeros-skip xs zero zero low high ones = refl
zeros-skip xs (suc i) zero low high ones = absurd (omega arith)
zeros-skip [] i (suc j) low high ones = absurd (omega arith)
zeros-skip (x ∷ xs) zero (suc j) low high ones =
    omega (
      arith,
      zeros-first x 1 xs (ones 0 (omega arith) (omega arith)),
      zeros-skip xs 0 j (omega arith) (omega arith) (λ k l h. ones (suc k) (omega arith) (omega arith)),
    )
zeros-skip (x ∷ xs) (suc i) (suc j) low high ones =
    zeros-skip xs i j (omega arith) (omega arith) (λ k l h. ones (suc k) (omega arith) (omega arith))

pub zeros-past : (xs : List ℕ) → zeros_in (drop (length xs) xs) ≡ 0
zeros-past xs = ap zeros_in (drop_all (length xs) xs (omega arith))

-- where each bit is set nothing is free
pub free_blocks-none : (g : Geometry) (blocks : Blocks)
    → ((b : ℕ) → data_from g ≤ b → b < g.size → mark g blocks b ≡ 1) → free_blocks g blocks ≡ 0
free_blocks-none g blocks all =
    zeros-skip (data_bits g blocks) 0 (length (data_bits g blocks)) (omega arith) (omega arith) (λ i _ l.
    let within : i < g.size - data_from g = omega (arith, length-data_bits g blocks) in
    get_or-data_bits g blocks i within ∙ all (data_from g + i) (omega arith) (omega arith))
    ∙ zeros-past (data_bits g blocks)

-- the same bits
pub free_blocks-same : (g : Geometry) (old new : Blocks) → ((b : ℕ) → b < g.size → mark g new b ≡ mark g old b)
    → free_blocks g new ≡ free_blocks g old
free_blocks-same g old new same =
    ap (count_by (λ x. x == 0)) (ext_get_or 0 _ _ (length-data_bits g new ∙ sym (length-data_bits g old)) (λ i l.
    let within : i < g.size - data_from g = omega (arith, length-data_bits g new) in
    get_or-data_bits g new i within ∙ same (data_from g + i) (omega arith) ∙ sym (get_or-data_bits g old i within)))

-- ---- free blocks that a search found are taken

-- a search from the first data block on
pub full_none : (g : Geometry) (old : Blocks) {start : ℕ} → start ≡ data_from g → IsFullFrom g old start
    → free_blocks g old ≡ 0
full_none g old begins full = free_blocks-none g old (λ b low high. full b (omega arith) high)

module _ {g : Geometry} {old : Blocks} {start : ℕ} (begins : start ≡ data_from g) where
  pub found_takes : {mid new : Blocks} {b : ℕ} → IsFirstFree g old start b → mid ≡ old → SetsBit g mid new b 1
      → TakesLowest g old new b
  found_takes {new = new} {b} first same sets = record {
    lowest = record {
      free = first.free;
      lowest = λ c less free. omega (arith, first.before c (omega (arith, free.low)) less, free.clear);
    };
    takes = subst (λ x. SetsBit g x new b 1) same sets;
  }

-- ---- free blocks are counted from an index on

zeros-here : (xs : List ℕ) (j : ℕ) → j < length xs → get_or xs j 0 ≡ 0
    → zeros_in (drop j xs) ≡ 1 + zeros_in (drop (j + 1) xs)
zeros-here xs j high e = ap zeros_in (drop_more xs j 0 high) ∙ zeros-first (get_or xs j 0) 0 (drop (j + 1) xs) e

-- how many blocks are free from this one on
abbrev pub free_from : Geometry → Blocks → ℕ → ℕ
free_from g blocks from = zeros_in (drop (from - data_from g) (data_bits g blocks))

-- the first free one is found
pub free_from-first : {g : Geometry} {blocks : Blocks} {from b : ℕ} → data_from g ≤ from → IsFirstFree g blocks from b
    → free_from g blocks from ≡ 1 + free_from g blocks (b + 1)
free_from-first {g} {blocks} {from} {b} low first =
    let start = data_from g in
    let behind = first.low in
    let high = first.free.high in
    let next : b - start + 1 ≡ b + 1 - start = omega arith in
    let here : start + (b - start) ≡ b = omega arith in
    zeros-skip (data_bits g blocks) (from - start) (b - start) (omega arith) (omega (arith, length-data_bits g blocks))
    (λ k l h. get_or-data_bits g blocks k (omega arith) ∙ first.before (start + k) (omega arith) (omega arith))
    ∙ zeros-here (data_bits g blocks) (b - start) (omega (arith, length-data_bits g blocks))
    (get_or-data_bits g blocks (b - start) (omega arith) ∙ ap (mark g blocks) here ∙ first.free.clear)
    ∙ ap (λ k. 1 + zeros_in (drop k (data_bits g blocks))) next

-- none is found
pub free_from-none : (g : Geometry) (blocks : Blocks) (from : ℕ) → data_from g ≤ from → from ≤ g.size
    → IsFullFrom g blocks from → free_from g blocks from ≡ 0
free_from-none g blocks from low short full =
    let start = data_from g in
    zeros-skip (data_bits g blocks) (from - start) (length (data_bits g blocks))
    (omega (arith, length-data_bits g blocks)) (omega arith)
    (λ k l h. get_or-data_bits g blocks k (omega (arith, length-data_bits g blocks))
    ∙ full (start + k) (omega arith) (omega (arith, length-data_bits g blocks)))
    ∙ zeros-past (data_bits g blocks)

-- ---- the record of an inode without blocks is written

length-spelled : (xs : List ℕ) → length (spelled xs) ≡ 4 * length xs
length-spelled [] = refl
length-spelled (x ∷ xs) = omega (arith, length-spelled xs)

pub length-inode_bytes : (inode : DiskInode) → Fits inode → length (inode_bytes inode) ≡ 64
length-inode_bytes inode fits = omega (arith, length-spelled inode.addresses, fits.places)

-- a record that loses its blocks
pub emptied_fits : {inode : DiskInode} → Fits inode → Fits (record inode { size = 0; addresses = replicate 13 0 })
emptied_fits fits = record {
  kind = fits.kind;
  major = fits.major;
  minor = fits.minor;
  links = fits.links;
  size = omega arith;
  addresses = λ i h. omega (arith, zero_at 13 i);
  places = refl;
}

module _ {g : Geometry} {old new : Blocks} {n : ℕ} {inode : DiskInode} (sound : IsSound g old) (low : 1 ≤ n)
    (high : n < g.inodes) (unused : (j : ℕ) → IsUsed old g.inodes n j → ⊥)
    (kind : inode.kind ≤ 3) (empty : inode.size ≡ 0) (zero : (k : ℕ) → get_or inode.addresses k 0 ≡ 0)
    (writes : WritesInode g old new n inode) where
  abbrev grows : Grows g old old n inode
  grows = Grows-empty g old n inode sound unused kind empty zero

  abbrev keeps : KeepsOthers g old new n
  keeps = Grows-keeps sound low high grows writes

  recorded : (shown : Option RawNode) → node_at new n ≡ shown → SetsNode g old new n shown
  recorded shown is = record {
    sound = IsSound-replace sound keeps (Grows-sound sound low high grows writes);
    nodes = nodes_of-changed sound keeps high ∙ ap (set (nodes_of old g.inodes) n) is;
    free = free_blocks-same g old new
        (λ b h. ap (λ c. bit_in c (b % 8192)) (writes.rest (bitmap_start_of g.inodes + b / 8192) (omega arith)));
  }

  recorded_some : inode.kind ≢ 0 → SetsNode g old new n (Some (node_with inode []))
  recorded_some taken = recorded (Some (node_with inode []))
      (Grows-node sound low high grows writes [] taken (HoldsBytes-empty old inode empty))

  recorded_none : inode.kind ≡ 0 → SetsNode g old new n None
  recorded_none free = recorded None (node_at-none new n (inr (ap (λ (i : DiskInode). i.kind) writes.here ∙ free)))

-- a free inode is taken
pub recorded_fresh : {g : Geometry} {old new : Blocks} {n links : ℕ} (kind : Kind) → IsSound g old → IsUnused g old n
    → WritesInode g old new n (fresh_inode kind links) → SetsNode g old new n (fresh_node kind links)
recorded_fresh Free sound unused writes =
    recorded_none sound unused.low unused.high (λ j u. u.inode.kind unused.unused) (omega arith) refl (zero_at 13)
    writes refl
recorded_fresh Directory sound unused writes =
    recorded_some sound unused.low unused.high (λ j u. u.inode.kind unused.unused) (omega arith) refl (zero_at 13)
    writes (λ z. omega arith)
recorded_fresh File sound unused writes =
    recorded_some sound unused.low unused.high (λ j u. u.inode.kind unused.unused) (omega arith) refl (zero_at 13)
    writes (λ z. omega arith)
recorded_fresh (Device major minor) sound unused writes =
    recorded_some sound unused.low unused.high (λ j u. u.inode.kind unused.unused) (omega arith) refl (zero_at 13)
    writes (λ z. omega arith)

-- an inode without bytes is given back
pub recorded_given : {g : Geometry} {old new : Blocks} {n : ℕ} → IsSound g old → IsInode old g.inodes n
    → (inode_at old n).size ≡ 0 → WritesInode g old new n (fresh_inode Free 0) → SetsNode g old new n None
recorded_given sound inode empty writes =
    recorded_none sound inode.low inode.high (λ j u. asks_none _ j empty u.slot) (omega arith) refl (zero_at 13) writes
    refl
