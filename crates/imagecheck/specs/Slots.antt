-- The slots of an inode's numbers, as the check goes through them.
use Rattle.std.specs.Prelude.{IsTrue, List, length, ℕ, ◌*◌, ◌+◌, ◌<◌, ◌≡◌, ◌≤◌, false}
use Rattle.unixmodel.specs.Image.{count_in, format_of, is_data_block, number_in}
use Rattle.unixmodel.specs.Slots.{holder_of, in_record, slot_at, slots, taken_blocks}

-- the block in slot k lies in the image
abbrev pub Lies : List ℕ → ℕ → ℕ → Type 0
Lies image n k = 1024 * number_in image n k + 1024 ≤ length image

-- slot k is there, and the index blocks that lead to it lie in the image
pub record IsFound (image : List ℕ) (n k : ℕ) : Type 0 where
  pub within : k < slots (format_of image)
  pub holder : in_record (format_of image) k ≡ false → Lies image n (holder_of (format_of image) k)
  pub above : in_record (format_of image) k ≡ false
      → in_record (format_of image) (holder_of (format_of image) k) ≡ false
      → Lies image n (holder_of (format_of image) (holder_of (format_of image) k))

-- the number in the k-th of the slots that are there is that of a data block, or 0 where the size asks for none
pub record FitsSlot (image : List ℕ) (n k : ℕ) : Type 0 where
  pub asked : k < taken_blocks (format_of image) (count_in image n)
      → IsTrue (is_data_block image (number_in image n (slot_at (format_of image) (count_in image n) k)))
  pub spare : taken_blocks (format_of image) (count_in image n) ≤ k
      → number_in image n (slot_at (format_of image) (count_in image n) k) ≡ 0
