-- A memory is a list of frames, and a frame is a list of 4096 bytes.
use Rattle.std.specs.Prelude.{◌≡◌, ◌<◌, ℕ, ◌+◌, List, [], ◌++◌, length, take, drop, slice_index_or, slice_set}
use Rattle.std.specs.Prelude.{replicate}
use Rattle.byteorder.specs.Endian.{little_number, little_bytes}

-- the bytes of frame f, and none past the end
abbrev pub frame_of : List (List ℕ) → ℕ → List ℕ
frame_of m f = slice_index_or m f []

-- the bytes with those from offset o on replaced by bs
unfoldable pub put_bytes : List ℕ → ℕ → List ℕ → List ℕ
put_bytes xs o bs = take o xs ++ (bs ++ drop (o + length bs) xs)

-- the lowest n bytes of x, the lowest of them first
unfoldable pub word_bytes : ℕ → ℕ → List ℕ
word_bytes n x = little_bytes n x

-- the memory with the bytes from offset o of frame f on replaced by bs
-- (a frame past the end is not written)
unfoldable pub put : List (List ℕ) → ℕ → ℕ → List ℕ → List (List ℕ)
put m f o bs = slice_set m f (put_bytes (frame_of m f) o bs)

-- the number in the n bytes from offset o of frame f, the lowest first
unfoldable pub word_of : List (List ℕ) → ℕ → ℕ → ℕ → ℕ
word_of m f o n = little_number n (drop o (frame_of m f))

-- the first 4096 bytes, with zeros where there are fewer: a frame itself
unfoldable pub sized : List ℕ → List ℕ
sized xs = take 4096 (xs ++ replicate 4096 0)

-- every frame has 4096 bytes
pub record IsMemory (m : List (List ℕ)) : Type 0 where
  pub sized : (f : ℕ) → f < length m → length (frame_of m f) ≡ 4096
