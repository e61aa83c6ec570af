-- Where a byte of a file lies, by its record, and another size of it.
use Rattle.inode.proofs.Common.{◌≡◌, ℕ, ◌+◌, ◌-◌, ◌*◌, ◌/◌, ◌%◌, ◌^◌, ◌<◌, ◌≤◌, false, true, List, drop, length, get_or}
use Rattle.inode.proofs.Common.{min, set, ap, sym, subst, ◌∙◌, arith, refl, get_or-drop, nat_tests, block_at, part}
use Rattle.inode.proofs.Common.{splice, little_number, number_at, in_record, address_of, place_of, holder_of, record_in}
use Rattle.inode.proofs.Common.{Blocks, inode_at, inode_of, Asks, Geometry, HasIndex, HasInode, IsInode, IsSound, Fits}
use Rattle.inode.proofs.Common.{LiesInBlock, Prepares, WritesAt, WritesInode, Wrote, HasParts, HasParts-kept, take_all}
use Rattle.inode.proofs.Common.{blocks_for, bytes_of, single, slot_in, length-bytes_of, ◌⊎◌, [], take, inl, inr}
use Rattle.inode.proofs.Common.{ext_get_or, little_bytes, part-splice_apart, part-splice_same}
use Rattle.std.proofs.lemmas.List.{drop-drop, append-nil, drop-take}
use Rattle.byteorder.specs.Numbers.{little_from-lt, little_from-take, little_number-reads_back}
use Rattle.inode.specs.Finding.{IsFound}
use Rattle.inode.specs.declared.find.Found.{Found}
use Rattle.inode.specs.declared.write.Outcome.TheVariants.{Written}
use Rattle.inode.proofs.Filling.{inside_kept, inside_prepared, Puts-record}
use Rattle.inode.proofs.Growing.{own_fits, own_length}
use Rattle.inode.proofs.Reading.{HasInode-read, block-bytes, found_in, found_own, holder_lies, slot_in_disk}
use Rattle.inode.proofs.Reading.{slot_in_hand}
use Rattle.layout.specs.Numbers.{numbers_in}
use Rattle.layout.proofs.ReadsBack.{get_or-numbers_in, length-numbers_in, number_at-fits}
use Rattle.unixmodel.specs.Slots as place
use Rattle.layout.proofs.GrowLemmas.{WritesInode-part}

-- ---- the first slots lie in the record, and those after them in the single index block

own : (k : ℕ) → k < 11 → in_record k ≡ true
unfolding place.in_record
own k low = grind (arith, nat_tests)

own_at : (k : ℕ) → k < 11 → address_of k ≡ k
unfolding place.address_of
own_at k low = grind (arith, nat_tests)

listed : (k : ℕ) → 11 ≤ k → k < 267 → in_record k ≡ false
unfolding place.in_record
listed k low high = grind (arith, nat_tests)

listed_at : (k : ℕ) → k < 267 → place_of k ≡ k - 11
unfolding place.place_of
listed_at k high = grind (arith, nat_tests)

listed_in : (k : ℕ) → k < 267 → holder_of k ≡ single
unfolding place.holder_of
listed_in k high = grind (arith, nat_tests)

single_own : in_record single ≡ true
unfolding place.in_record
single_own = grind (arith, nat_tests)

single_at : address_of single ≡ 11
unfolding place.address_of
single_at = grind (arith, nat_tests)

-- ---- the numbers of a record

address-in : (bytes : List ℕ) (k : ℕ) → k < 13 → number_at bytes (3 + k) ≡ get_or (inode_of bytes).addresses k 0
address-in bytes k low =
    let place : 4 * (3 + k) ≡ 12 + 4 * k = omega arith in
    ap (λ n. little_number 4 (drop n bytes)) place ∙ ap (little_number 4) (sym (drop-drop (4 * k) 12 bytes))
    ∙ sym (get_or-numbers_in 13 (drop 12 bytes) k low)

module _ (blocks : Blocks) (bytes : List ℕ) (slot : ℕ) where
  -- the number of one of the first blocks
  pub own-number : slot < 11 → number_at bytes (3 + slot) ≡ slot_in blocks (inode_of bytes) slot
  own-number low = address-in bytes slot (omega (arith, low))
      ∙ found_own blocks (inode_of bytes) slot (own slot low) (sym (own_at slot low))

  module _ (low : 11 ≤ slot) (high : slot < 267) {index : ℕ} (index_is : index ≡ number_at bytes 14) where
    -- the single index block
    holder-number : index ≡ slot_in blocks (inode_of bytes) (holder_of slot)
    holder-number =
        index_is ∙ address-in bytes 11 (omega arith)
        ∙ found_own blocks (inode_of bytes) single single_own (sym single_at)
        ∙ ap (slot_in blocks (inode_of bytes)) (sym (listed_in slot high))

    pub index-lies : Asks (inode_of bytes).size slot → HasIndex blocks (inode_of bytes) → index < length blocks
    index-lies asked index = holder_lies blocks (inode_of bytes) slot (listed slot low high) asked index holder-number

    -- the number that it has
    pub listed-number : number_at (block_at blocks index) (slot - 11) ≡ slot_in blocks (inode_of bytes) slot
    listed-number = found_in blocks (inode_of bytes) slot (listed slot low high) holder-number
        (sym (listed_at slot high))

-- the fields of bytes fit their widths
pub fits-of : (bytes : List ℕ) → ((i : ℕ) → get_or bytes i 0 < 2 ^ 8) → Fits (inode_of bytes)
fits-of bytes are = record {
  kind = little_from-lt 0 2 bytes (λ i. (omega (arith, are i)));
  major = beside 2;
  minor = beside 4;
  links = beside 6;
  size = number_at-fits bytes 8 0 are;
  addresses = λ i h.
      let within : i < 13 = omega (arith, h, length-numbers_in 13 (drop 12 bytes)) in
      let e = get_or-numbers_in 13 (drop 12 bytes) i within in
      let f = number_at-fits bytes 12 i are in
      omega (arith, e, f);
  places = length-numbers_in 13 (drop 12 bytes);
} where
  beside : (at : ℕ) → little_number 2 (drop at bytes) < 2 ^ 16
  beside at = little_from-lt 0 2 (drop at bytes)
      (λ i. (let e = get_or-drop at bytes i 0 in omega (arith, e, are (at + i))))

-- ---- a block that was found

module _ {g : Geometry} {old : Blocks} {n at : ℕ} {found : Found} (sound : IsSound g old)
    (used : IsInode old g.inodes n) (is : IsFound old n at found) where
  pub found-held : HasInode g old n (inode_at old n)
  found-held = HasInode-read sound used refl

  pub found-there : at / 1024 < blocks_for (inode_at old n).size
  found-there = subst (λ s. at / 1024 < blocks_for s) is.size is.there

  pub found-lies : found.block < length old
  found-lies = omega (arith, slot_in_disk found-held refl (at / 1024) found-there, is.block)

  -- its bytes are those of the file
  pub found-bytes : (count : ℕ) → at % 1024 + count ≤ 1024
      → count ≤ found.size - at → part (at % 1024) count (block_at old found.block) ≡ part at count (bytes_of old n)
  found-bytes count room within =
      rw (is.block ∙ slot_in_hand found-held refl (at / 1024))
      (block-bytes found-held at count found-there room (rw (← is.size) within))

  pub found-count : (long : ℕ) {rest count : ℕ} → count ≡ min long rest
      → rest ≡ found.size - at → count ≡ min long (length (bytes_of old n) - at)
  found-count long count_is rest_is = count_is
      ∙ ap (min long) (rest_is ∙ ap (λ s. s - at) (is.size ∙ sym (length-bytes_of old n)))

  found-room : (bytes : List ℕ) → at ≤ found.size → at % 1024 + length bytes ≤ 1024
      → LiesInBlock (inode_at old n) at bytes
  found-room bytes within room =
      record { there = found-there; within = subst (λ s. at ≤ s) is.size within; room = room }

  -- bytes are written into it
  module _ {mid : Blocks} (bytes : List ℕ) (within : at ≤ found.size) (room : at % 1024 + length bytes ≤ 1024)
      (e : mid ≡ set old found.block (splice (at % 1024) bytes (block_at old found.block))) where
    pub found-kept : at + length bytes ≤ found.size → Wrote g old mid n (splice at bytes (bytes_of old n))
    found-kept short = (inside_kept found-held is.fits (found-room bytes within room) refl is.block e
        (rw (← is.size) short)).wrote

    module _ (more : found.size < at + length bytes) where
      longer : (inode_at old n).size ≤ at + length bytes
      longer = omega (arith, more, is.size)

      prepared : Prepares g old mid n (record (inode_at old n) { size = at + length bytes })
          (splice at bytes (bytes_of old n))
      prepared = inside_prepared found-held is.fits (found-room bytes within room) refl is.block e longer

      pub found-parts : HasParts g mid
      found-parts = HasParts-kept sound.parts prepared.grows.count prepared.grows.sizes

      -- and then the size
      pub found-longer : {new : Blocks}
          → WritesInode g mid new n (record (inode_at mid n) { size = at + length bytes })
          → Wrote g old new n (splice at bytes (bytes_of old n))
      found-longer {new} writes =
          let same : inode_at mid n ≡ inode_at old n =
          ap (record_in n) (prepared.grows.front (2 + n / 16) (omega (arith, used.high))) in
          (Puts-record found-held prepared
          (subst (λ i. WritesInode g mid new n (record i { size = at + length bytes })) same writes)).wrote

  pub found-writes : {new : Blocks} (bytes : List ℕ) → at ≤ found.size → at % 1024 + length bytes ≤ 1024
      → Wrote g old new n (splice at bytes (bytes_of old n)) → WritesAt g old new n at bytes (Written (length bytes))
  found-writes {new} bytes within room wrote =
      let long = own_length found-held in
      let most = own_fits found-held in
      let size = is.size in
      let there = is.there in (
        omega (arith, within, long, size),
        omega (arith, room, there, most, size),
        record {
          within = omega arith;
          wrote = rw (take_all (length bytes) bytes (omega arith)) wrote;
          few = λ less. absurd (omega (arith, less));
        },
      )

-- ---- the size of a record is written, and nothing else of it

-- a number of a record, by its offset in the block
number-placed : (w k at : ℕ) (block : List ℕ) → k + w ≤ 64
    → little_number w (drop k (part at 64 block)) ≡ little_number w (part (at + k) w block)
number-placed w k at block fits =
    let long : 64 ≡ k + (64 - k) = omega arith in
    ap (λ n. little_number w (drop k (take n (drop at block)))) long
    ∙ ap (little_number w) (drop-take k (64 - k) (drop at block))
    ∙ little_from-take 0 w (64 - k) (drop k (drop at block)) (omega arith)
    ∙ ap (little_number w) (drop-drop k at block)
    ∙ sym (little_from-take 0 w w (drop (at + k) block) (omega arith))

module _ (at s : ℕ) (block : List ℕ) (room : at + 64 ≤ length block) where
  -- a number beside the size is the old one
  number-beside : (w k : ℕ) → (k + w ≤ 8) ⊎ (12 ≤ k) → k + w ≤ 64
      → little_number w (drop k (part at 64 (splice (at + 8) (little_bytes 4 s) block)))
      ≡ little_number w (drop k (part at 64 block))
  number-beside w k apart fits =
      number-placed w k at (splice (at + 8) (little_bytes 4 s) block) fits
      ∙ ap (little_number w) (part-splice_apart (at + k) w (at + 8) (little_bytes 4 s) block (omega arith)
      (omega arith) (elim apart [ inl low ↦ inl (omega arith) | inr high ↦ inr (omega arith) ]))
      ∙ sym (number-placed w k at block fits)

  pub inode_of-resized : s < 2 ^ 32
      → inode_of (part at 64 (splice (at + 8) (little_bytes 4 s) block))
      ≡ record (inode_of (part at 64 block)) { size = s }
  inode_of-resized small =
      let next = part at 64 (splice (at + 8) (little_bytes 4 s) block) in
      let was = part at 64 block in
      λ i. record {
        kind = number-beside 2 0 (inl (omega arith)) (omega arith) i;
        major = number-beside 2 2 (inl (omega arith)) (omega arith) i;
        minor = number-beside 2 4 (inl (omega arith)) (omega arith) i;
        links = number-beside 2 6 (inl (omega arith)) (omega arith) i;
        size = (number-placed 4 8 at (splice (at + 8) (little_bytes 4 s) block) (omega arith)
            ∙ ap (little_number 4) (part-splice_same (at + 8) 4 (little_bytes 4 s) block refl (omega arith)
            ∙ sym (append-nil (little_bytes 4 s)))
            ∙ little_number-reads_back 4 s [] small) i;
        addresses = ext_get_or 0 (numbers_in 13 (drop 12 next)) (numbers_in 13 (drop 12 was))
            (length-numbers_in 13 (drop 12 next) ∙ sym (length-numbers_in 13 (drop 12 was))) (λ k l.
            let low : k < 13 = omega (arith, length-numbers_in 13 (drop 12 next)) in
            get_or-numbers_in 13 (drop 12 next) k low
            ∙ ap (little_number 4) (drop-drop (4 * k) 12 next)
            ∙ number-beside 4 (12 + 4 * k) (inr (omega arith)) (omega arith)
            ∙ ap (little_number 4) (sym (drop-drop (4 * k) 12 was))
            ∙ sym (get_or-numbers_in 13 (drop 12 was) k low)) i;
      }

pub WritesInode-size : (g : Geometry) (old new : Blocks) (n s : ℕ) → HasParts g old → n < g.inodes → s < 2 ^ 32
    → new ≡ set old (2 + n / 16) (splice (64 * (n % 16) + 8) (little_bytes 4 s) (block_at old (2 + n / 16)))
    → WritesInode g old new n (record (inode_at old n) { size = s })
WritesInode-size g old new n s parts high small e =
    let size = parts.sizes (2 + n / 16) (omega (arith, parts.count, parts.room)) in
    WritesInode-part g old new n _ (little_bytes 4 s) parts high (64 * (n % 16) + 8) (omega arith) (omega arith)
    (inode_of-resized (64 * (n % 16)) s (block_at old (2 + n / 16)) (omega (arith, size)) small) e
