-- The number of a directory's "..".
use Rattle.imagecheck.proofs.Common.{◌≡◌, ◌≢◌, ℕ, ◌<◌, ◌≤◌, List, Some, length, ap, sym, ◌∙◌, arith, subst, Geometry}
use Rattle.imagecheck.proofs.Common.{slot, Directory, contents_in, inodes_in, kind_in, links_in, HasNames, BlockRules}
use Rattle.imagecheck.proofs.Common.{HasBlocks, HasBlocks-of, HasGeometry, FitsEntries, HasEntries, files_in, places_in}
use Rattle.imagecheck.proofs.Common.{contents-long, file_in-used, node_in-directory, slot-files_in, ◌+◌, ◌-◌, ◌*◌, Bool}
use Rattle.imagecheck.proofs.Common.{[], ◌∷◌, None, get_or, take, drop, refl, cond, inl, inr, true, false, flat_map}
use Rattle.imagecheck.proofs.Common.{is_some, option_map, slice_range, unwrap_or, ◌==◌, IsSome, IsTrue, list_all}
use Rattle.imagecheck.proofs.Common.{cases_eq, get_or-drop, length-drop, length-take-le, none-some, dot_dot, count_in}
use Rattle.imagecheck.proofs.Common.{data_blocks, format_of, inode_at, is_data_block, is_directory_at, parent_of}
use Rattle.imagecheck.proofs.Common.{number_at, HasLinks, place_of_bytes, without_zeros, FitsFront, IsDirectoryIn}
use Rattle.imagecheck.proofs.Common.{first_block, length-block, same_number, number_in-record, length-data_blocks}
use Rattle.imagecheck.proofs.Common.{most_data, slot-places_in, All-data_blocks, FitsAddresses-at, is_data_block-below}
use Rattle.imagecheck.proofs.Common.{Entry, EntriesAt, length_in}
use Rattle.std.proofs.lemmas.Bool.{eqb-true}
use Rattle.unixmodel.specs.Image.{block_at}
use Rattle.imagecheck.proofs.Slotting.{data-at, first-address, first-here}
use Rattle.imagecheck.proofs.Reaching.{parent_leads, parent_root, used_from}
use Rattle.imagecheck.proofs.Entering.{is_directory-is, some_high, some_low}
use Rattle.std.proofs.lemmas.List.{drop-take, get_or-take, take-append-le, take-take}

-- ---- the names of a directory, and the rules of its entries

module _ (image : List ℕ) (n : ℕ) (low : 1 ≤ n) (high : n < inodes_in image) (directory : kind_in image n ≡ 1) where
  used : kind_in image n ≢ 0
  used z = absurd (omega arith)

  pub slot-directory : slot (files_in image) n ≡ Some (Directory (links_in image n) (places_in (contents_in image n)))
  slot-directory = slot-files_in image n high ∙ file_in-used image n low used
      ∙ ap Some (node_in-directory image n directory)

  pub entries-at : HasEntries (files_in image) → FitsEntries (files_in image) n (places_in (contents_in image n))
  entries-at h = subst (EntriesAt (files_in image) n) slot-directory (h n)

  pub names-at : HasEntries (files_in image) → HasNames image (contents_in image n)
  names-at h =
      let fits = entries-at h in
      record { good = λ k d l. record { name = fits.names k d l; number = fits.numbers k d l }; once = fits.once }

  pub directory-least : HasBlocks image → 32 ≤ length (contents_in image n)
  directory-least b = omega
      (arith, contents-long image b n low high used, (b.inodes.sizes n low high).directory_least directory)

-- the bytes of a directory hold its first two slots
pub least-in : {image : List ℕ} {g : Geometry} → HasGeometry image g → BlockRules image → (n : ℕ) → 1 ≤ n
    → n < g.inodes → kind_in image n ≡ 1
    → (bytes : List ℕ) → bytes ≡ contents_in image n → 32 ≤ length bytes
least-in {image = image} h rules n low high directory bytes e =
    subst (λ xs. 32 ≤ length xs) (sym e)
    (directory-least image n low (omega (arith, h.inodes)) directory (HasBlocks-of image rules))

-- ---- directories of the image and of its files

module _ (image : List ℕ) (n : ℕ) where
  pub is_directory-at : IsDirectoryIn image n → is_directory_at (files_in image) n ≡ true
  is_directory-at h = rw (slot-directory image n h.low h.high h.kind) refl

  pub IsDirectoryIn-from : is_directory_at (files_in image) n ≡ true → IsDirectoryIn image n
  IsDirectoryIn-from h =
      let used : IsSome (slot (files_in image) n) = used_from _ h in
      let high = some_high image n used in
      let low = some_low image n (omega arith) used in
      record { low = low; high = high; kind = eqb-true (kind_in image n) 1 (is_directory-is image n low high ∙ h) }

-- the parent of a directory is one
pub parent_directory : (image : List ℕ) → HasBlocks image → HasEntries (files_in image) → HasLinks (files_in image)
    → (n : ℕ) → IsDirectoryIn image n → IsDirectoryIn image (parent_of (files_in image) n)
parent_directory image blocks entries links n h = elim (cases_eq n 1) [
  | inl root ↦ rw (root, parent_root _)
      (record {
        low = omega arith;
        high = let least = blocks.inodes.super.inodes_least in omega arith;
        kind = blocks.inodes.kinds.root;
      })
  | inr other ↦
      IsDirectoryIn-from image _
      (parent_leads _ entries links n (ap is_some (slot-directory image n h.low h.high h.kind)) other).2.directory
]

-- ---- the first two slots of a directory, from 32 bytes

first-place : (bytes : List ℕ) → 32 ≤ length bytes → (k : ℕ) → k < 2
    → slot (places_in bytes) k ≡ place_of_bytes (take 16 (drop (16 * k) (take 32 bytes)))
first-place bytes least k l =
    let e : 16 * k + (32 - 16 * k) ≡ 32 = omega arith in
    let cut = drop-take (16 * k) (32 - 16 * k) bytes in
    slot-places_in bytes k (omega arith)
    ∙ ap place_of_bytes (sym (take-take 16 (32 - 16 * k) (drop (16 * k) bytes) (omega arith))
    ∙ ap (take 16) (sym cut ∙ ap (λ m. drop (16 * k) (take m bytes)) e))

pub FitsFront-same : (n parent : ℕ) (xs ys : List ℕ) → 32 ≤ length xs → 32 ≤ length ys → take 32 xs ≡ take 32 ys
    → FitsFront n parent xs → FitsFront n parent ys
FitsFront-same n parent xs ys long least e f =
    record { own = same 0 (omega arith) ∙ f.own; parent = same 1 (omega arith) ∙ f.parent } where
      same : (k : ℕ) → k < 2 → slot (places_in ys) k ≡ slot (places_in xs) k
      same k l = first-place ys least k l ∙ ap (λ bytes. place_of_bytes (take 16 (drop (16 * k) bytes))) (sym e)
          ∙ sym (first-place xs long k l)

taken_number : (t : Bool) (e f : Entry) → cond t None (Some e) ≡ Some f → e.number ≡ f.number
taken_number true e f h = absurd (none-some f h)
taken_number false e f h = ap (λ o. unwrap_or (option_map (λ (x : Entry). x.number) o) 0) h

-- what a list of blocks begins with
front_of : (image bs : List ℕ) (b : ℕ) → 1 ≤ length bs → get_or bs 0 0 ≡ b → 1024 * b + 1024 ≤ length image
    → take 32 (flat_map (block_at image) bs) ≡ slice_range image (1024 * b) (1024 * b + 32)
front_of image [] b some e inside = absurd (omega arith)
front_of image (x ∷ xs) b some e inside =
    let long : length (block_at image x) ≡ 1024 = length-block image x (omega arith) in
    let cut : 32 ≡ 1024 * b + 32 - 1024 * b = omega arith in
    rw (
      take-append-le 32 (block_at image x) (flat_map (block_at image) xs) (omega arith),
      e,
      take-take 32 (1024 * b + 1024 - 1024 * b) (drop (1024 * b) image) (omega arith),
    )
    (ap (λ m. take m (drop (1024 * b) image)) cut)

module _ (image : List ℕ) (blocks : HasBlocks image) (n : ℕ) (h : IsDirectoryIn image n) where
  -- its first block lies in the image
  pub first-data : (1 ≤ length (data_blocks image n)) × (get_or (data_blocks image n) 0 0 ≡ first_block image n)
      × (1024 * first_block image n + 1024 ≤ length image)
  first-data =
      let sizes = blocks.inodes.sizes n h.low h.high in
      let used : kind_in image n ≢ 0 = λ z. let k = h.kind in absurd (omega arith) in
      let some : 1 ≤ count_in image n = let least = sizes.directory_least h.kind in omega arith in
      let few : count_in image n ≤ most_data (format_of image) = let most = sizes.most used in omega arith in
      let long : 1 ≤ length (data_blocks image n) = omega (arith, length-data_blocks image n) in
      let first : get_or (data_blocks image n) 0 0 ≡ first_block image n = data-at image n 0 0 some
      ∙ number_in-record image n 0 (first-here image)
      ∙ ap (λ a. number_at 4 (inode_at n + 12 + 4 * a) image) (first-address image)
      ∙ ap (λ p. number_at 4 p image) (omega arith) in
      let each = All-data_blocks image n (λ b. IsTrue (is_data_block image b)) few
      (FitsAddresses-at image blocks.addresses n h.low h.high used).blocks 0 0 long in
      let whole = blocks.inodes.super.whole in
      (long, first, omega (arith, is_data_block-below image (get_or (data_blocks image n) 0 0) each))

  -- its bytes begin with those of that block
  pub contents-front : take 32 (contents_in image n)
      ≡ slice_range image (1024 * first_block image n) (1024 * first_block image n + 32)
  unfolding contents_in
  contents-front =
      take-take 32 (length_in image n) (flat_map (block_at image) (data_blocks image n))
      ((blocks.inodes.sizes n h.low h.high).directory_least h.kind)
      ∙ front_of image (data_blocks image n) (first_block image n) first-data.0 first-data.1 first-data.2

  -- the number in its second slot is its parent
  pub parent-read : HasEntries (files_in image)
      → number_at 2 (1024 * first_block image n + 16) image ≡ parent_of (files_in image) n
  parent-read entries =
      let at = 1024 * first_block image n in
      let front = slice_range image at (at + 32) in
      let place = take 16 (drop 16 front) in
      let inside = first-data.2 in
      let long : length front ≡ 32 =
      length-take-le (at + 32 - at) (drop at image) (omega (arith, length-drop at image)) ∙ omega arith in
      same_number 2 (at + 16) 0 image place (omega arith)
      (omega (arith, length-take-le 16 (drop 16 front) (omega (arith, length-drop 16 front)))) (λ i l.
      sym (get_or-take 16 (drop 16 front) (0 + i) 0 (omega arith) ∙ get_or-drop 16 front (0 + i) 0
      ∙ get_or-take (at + 32 - at) (drop at image) (16 + (0 + i)) 0 (omega arith)
      ∙ get_or-drop at image (16 + (0 + i)) 0 ∙ ap (λ p. get_or image p 0) (omega arith)))
      ∙ taken_number (list_all (λ b. b == 0) place)
      (record { name = without_zeros (drop 2 place); number = number_at 2 0 place })
      (record { name = dot_dot; number = parent_of (files_in image) n })
      (ap (λ bytes. place_of_bytes (take 16 (drop 16 bytes))) (sym contents-front)
      ∙ sym (first-place (contents_in image n) (directory-least image n h.low h.high h.kind blocks) 1 (omega arith))
      ∙ (entries-at image n h.low h.high h.kind entries).parent)
