-- What a write to a memory leaves.
use Rattle.std.proofs.Common.{◌≡◌, ◌≢◌, ℕ, zero, suc, ◌+◌, ◌-◌, ◌^◌, ◌<◌, ◌≤◌, ◌⊎◌, inl, inr, List, [], ◌++◌, length}
use Rattle.std.proofs.Common.{get_or, take, drop, set, refl, sym, ap, ◌∙◌, arith, length-append, length-set, slice_set}
use Rattle.std.proofs.Common.{get_or-set_other, get_or-set_same, replicate, ◌%◌, ◌∷◌, map, add-one, ◌*◌, append_assoc}
use Rattle.std.proofs.lemmas.List.{length-take-le, length-drop, get_or-drop, get_or-take, get_or-append_right}
use Rattle.std.proofs.lemmas.List.{get_or_append_left, drop_at, take_at, length-replicate, map-set, get_or-map}
use Rattle.std.proofs.lemmas.List.{length-map, get_or_default, drop_all, take_all, append-nil, drop-drop}
use Rattle.std.proofs.lemmas.List.{set-append_left, drop-replicate, take-replicate, take-take}
use Rattle.std.proofs.lemmas.Bool.{cases_eq}
use Rattle.byteorder.specs.Endian.{little_from, little_number}
use Rattle.byteorder.specs.Numbers.{little_number-reads_back, length-bytes_low_first}
use Rattle.ram.specs.Memory.{frame_of, put, put_bytes, word_of, word_bytes, IsMemory, sized}
use borrow.Rule.Slice.PartMut.{post_of, mid_of, put_mid, same_len_mid}
use Rattle.std.specs.Prelude.{slice_range}
use Rattle.std.proofs.lemmas.Simd.{length-chunk, length-put_chunk, put_chunk_whole}
use Rattle.std.proofs.Math.Seq.{take-add}
use Rattle.std.specs.Simd.Lanes.{chunk, put_chunk}

-- a memory: its frames, each a list of bytes
abbrev pub Ram : Type 0
Ram = List (List ℕ)

pub length-word_bytes : (n x : ℕ) → length (word_bytes n x) ≡ n
unfolding word_bytes
length-word_bytes n x = length-bytes_low_first 0 n x

pub length-put_bytes : (xs : List ℕ) (o : ℕ) (bs : List ℕ) → o + length bs ≤ length xs
    → length (put_bytes xs o bs) ≡ length xs
unfolding put_bytes
length-put_bytes xs o bs h =
    omega (
      arith,
      length-append (take o xs) (bs ++ drop (o + length bs) xs),
      length-append bs (drop (o + length bs) xs),
      length-take-le o xs (omega arith),
      length-drop (o + length bs) xs,
    )

pub get_or-put_bytes_below : (xs : List ℕ) (o : ℕ) (bs : List ℕ) (k d : ℕ) → o + length bs ≤ length xs → k < o
    → get_or (put_bytes xs o bs) k d ≡ get_or xs k d
unfolding put_bytes
get_or-put_bytes_below xs o bs k d h lt =
    get_or_append_left (take o xs) (bs ++ drop (o + length bs) xs) d k
    (omega (arith, length-take-le o xs (omega arith))) ∙ get_or-take o xs k d lt

pub get_or-put_bytes_above : (xs : List ℕ) (o : ℕ) (bs : List ℕ) (k d : ℕ) → o + length bs ≤ length xs
    → o + length bs ≤ k → get_or (put_bytes xs o bs) k d ≡ get_or xs k d
unfolding put_bytes
get_or-put_bytes_above xs o bs k d h le =
    get_or-append_right (take o xs) (bs ++ drop (o + length bs) xs) o k d (length-take-le o xs (omega arith))
    (omega arith)
    ∙ get_or-append_right bs (drop (o + length bs) xs) (length bs) (k - o) d refl (omega arith)
    ∙ get_or-drop (o + length bs) xs (k - o - length bs) d
    ∙ ap (λ j. get_or xs j d) (let e : o + length bs + (k - o - length bs) ≡ k = omega arith in e)

-- a number is the same where its bytes are
go-same : (i n : ℕ) (xs ys : List ℕ) → ((k : ℕ) → i ≤ k → k < i + n → get_or xs k 0 ≡ get_or ys k 0)
    → little_from i n xs ≡ little_from i n ys
go-same i zero xs ys h = refl
go-same i (suc n) xs ys h =
    rw (h i (omega arith) (omega arith), go-same (suc i) n xs ys (λ k a b. h k (omega arith) (omega arith))) refl

number-same : (n o : ℕ) (xs ys : List ℕ) → ((k : ℕ) → o ≤ k → k < o + n → get_or xs k 0 ≡ get_or ys k 0)
    → little_number n (drop o xs) ≡ little_number n (drop o ys)
number-same n o xs ys h =
    go-same 0 n (drop o xs) (drop o ys)
    (λ k a b. get_or-drop o xs k 0 ∙ h (o + k) (omega arith) (omega arith) ∙ sym (get_or-drop o ys k 0))

pub word_of-frame : (m n : Ram) (f g o k : ℕ) → frame_of m f ≡ frame_of n g → word_of m f o k ≡ word_of n g o k
unfolding word_of
word_of-frame m n f g o k e = ap (λ x. little_number k (drop o x)) e

module _ (m : Ram) (f o : ℕ) (bs : List ℕ) where
  pub length-put : length (put m f o bs) ≡ length m
  unfolding put
  length-put = length-set m f (put_bytes (frame_of m f) o bs)

  pub frame_of-put_other : (g : ℕ) → g ≢ f → frame_of (put m f o bs) g ≡ frame_of m g
  unfolding put
  frame_of-put_other g ne = get_or-set_other m f g (put_bytes (frame_of m f) o bs) [] ne

  pub frame_of-put_same : f < length m → frame_of (put m f o bs) f ≡ put_bytes (frame_of m f) o bs
  unfolding put
  frame_of-put_same h = get_or-set_same m f (put_bytes (frame_of m f) o bs) [] h

  pub word_of-put_other : (g p n : ℕ) → g ≢ f → word_of (put m f o bs) g p n ≡ word_of m g p n
  word_of-put_other g p n ne = word_of-frame (put m f o bs) m g g p n (frame_of-put_other g ne)

  -- a word beside the bytes that were written stays
  pub word_of-put_beside : (p n : ℕ) → IsMemory m → f < length m → o + length bs ≤ 4096
      → (p + n ≤ o) ⊎ (o + length bs ≤ p) → word_of (put m f o bs) f p n ≡ word_of m f p n
  unfolding word_of
  word_of-put_beside p n is h fits side =
      let full : length (frame_of m f) ≡ 4096 = is.sized f h in
      ap (λ y. little_number n (drop p y)) (frame_of-put_same h)
      ∙ number-same n p (put_bytes (frame_of m f) o bs) (frame_of m f) (λ k a b.
      elim side [
        | inl below ↦ get_or-put_bytes_below (frame_of m f) o bs k 0 (omega arith) (omega arith)
        | inr above ↦ get_or-put_bytes_above (frame_of m f) o bs k 0 (omega arith) (omega arith)
      ])

-- a word reads back
pub word_of-put_same : (m : Ram) (f o n x : ℕ) → IsMemory m → f < length m → o + n ≤ 4096 → x < 256 ^ n
    → word_of (put m f o (word_bytes n x)) f o n ≡ x
unfolding word_of put_bytes word_bytes
word_of-put_same m f o n x is h fits small =
    let bs = word_bytes n x in
    let full : length (frame_of m f) ≡ 4096 = is.sized f h in
    ap (λ y. little_number n (drop o y)) (frame_of-put_same m f o bs h)
    ∙ ap (λ y. little_number n y)
    (drop_at (take o (frame_of m f)) (bs ++ drop (o + length bs) (frame_of m f)) o
    (length-take-le o (frame_of m f) (omega arith)))
    ∙ little_number-reads_back n x (drop (o + length bs) (frame_of m f)) small

pub IsMemory-set : (m : Ram) (f : ℕ) (w : List ℕ) → IsMemory m → length w ≡ 4096 → IsMemory (set m f w)
IsMemory-set m f w is full = record {
  sized = λ g h.
      let inside : g < length m = omega (arith, length-set m f w) in
      elim (cases_eq g f) [
        | inl same ↦ rw (ap (λ i. get_or (set m f w) i []) same, get_or-set_same m f w [] (rw (← same) inside)) full
        | inr other ↦ rw (get_or-set_other m f g w [] other) (is.sized g inside)
      ];
}

-- ---- a frame of zeros

get_or-zeros : (n j : ℕ) → get_or (replicate {A = ℕ} n 0) j 0 ≡ 0
get_or-zeros zero j = refl
get_or-zeros (suc n) zero = refl
get_or-zeros (suc n) (suc j) = get_or-zeros n j

number-zeros : (i k n o : ℕ) → little_from i k (drop o (replicate {A = ℕ} n 0)) ≡ 0
number-zeros i zero n o = refl
number-zeros i (suc k) n o =
    rw (get_or-drop {A = ℕ} o (replicate {A = ℕ} n 0) i 0, get_or-zeros n (o + i), number-zeros (suc i) k n o) refl

pub word_of-zeros : (m : Ram) (u o k n : ℕ) → u < length m → word_of (slice_set m u (replicate {A = ℕ} n 0)) u o k ≡ 0
unfolding word_of
word_of-zeros m u o k n h = ap (λ x. little_number k (drop o x)) (get_or-set_same m u (replicate {A = ℕ} n 0) [] h)
    ∙ number-zeros 0 k n o

-- ---- lemmas on memories

pub length-sized : (xs : List ℕ) → length (sized xs) ≡ 4096
unfolding sized
length-sized xs = length-take-le 4096 (xs ++ replicate 4096 0)
    (omega (arith, length-append xs (replicate {A = ℕ} 4096 0), length-replicate {A = ℕ} 4096 0))

pub sized-full : (xs : List ℕ) → length xs ≡ 4096 → sized xs ≡ xs
unfolding sized
sized-full xs h = take_at xs (replicate 4096 0) 4096 h

pub frame_of-sized : (m : Ram) (f : ℕ) → f < length m → frame_of (map sized m) f ≡ sized (frame_of m f)
frame_of-sized m f h = get_or-map sized m f [] [] h

pub IsMemory-sized : (m : Ram) → IsMemory (map sized m)
IsMemory-sized m = record
    { sized = λ f h. rw (frame_of-sized m f (omega (arith, length-map m sized))) (length-sized (frame_of m f)) }

pub sized-zeros : sized (replicate 4096 0) ≡ replicate 4096 0
sized-zeros = sized-full (replicate 4096 0) (length-replicate {A = ℕ} 4096 0)

pub map-sized-zeros : (n : ℕ) → map sized (replicate n (replicate 4096 0)) ≡ replicate n (replicate 4096 0)
map-sized-zeros zero = refl
map-sized-zeros (suc n) = rw (sized-zeros, map-sized-zeros n) refl

module _ (m : Ram) {v : Ram} (is : map sized m ≡ v) where
  -- a frame that was read is the memory's, which is seen as v
  pub frame_of-read : (f : ℕ) (r : List ℕ) → f < length v → r ≡ get_or m f r → length r ≡ 4096 → r ≡ frame_of v f
  frame_of-read f r h e full =
      let inside : f < length m = omega (arith, ap length is, length-map m sized) in
      let at : get_or m f [] ≡ r = get_or_default m f [] r inside ∙ sym e in
      sym (ap (λ x. frame_of x f) (sym is) ∙ frame_of-sized m f inside ∙ ap sized at ∙ sized-full r full)

  -- a frame that was written is written in the memory, which was seen as v
  pub set-view : (f : ℕ) (w : List ℕ) → map sized (set m f w) ≡ set v f (sized w)
  set-view f w = map-set sized m f w ∙ ap (λ x. set x f (sized w)) is

  pub set-view_full : (f : ℕ) (w : List ℕ) → length w ≡ 4096 → map sized (set m f w) ≡ set v f w
  set-view_full f w full = set-view f w ∙ ap (λ x. set v f x) (sized-full w full)

  pub IsMemory-view : IsMemory v
  IsMemory-view = rw (← is) (IsMemory-sized m)

  -- a frame that was looked up twice: it is the memory's, and whole
  pub frame-read : (f : ℕ) (r s : List ℕ) → f < length v → r ≡ get_or m f r → s ≡ get_or m f s → length r ≡ 4096
      → (length s ≡ 4096) × (s ≡ frame_of v f)
  frame-read f r s h e g full =
      let inside : f < length m = omega (arith, ap length is, length-map m sized) in
      let same : r ≡ s = e ∙ get_or_default m f r s inside ∙ sym g in
      let whole : length s ≡ 4096 = rw (← same) full in
      (whole, frame_of-read f s h g whole)

pub length-zeros : length (replicate {A = ℕ} 4096 0) ≡ 4096
length-zeros = length-replicate {A = ℕ} 4096 0

-- after a write of bs and what followed them to the part of a frame from offset a
pub put-view : (m v : Ram) (f a : ℕ) (q r part bs : List ℕ) → map sized m ≡ v → f < length v → q ≡ get_or m f q
    → r ≡ get_or m f r → length q ≡ 4096 → a + length bs ≤ 4096
    → part ≡ bs ++ drop (length bs) (take (4096 - a) (drop a r))
    → map sized (set m f (take a r ++ (part ++ post_of a (4096 - a) r))) ≡ put v f a bs
unfolding put put_bytes
put-view m v f a q r part bs is h once again size fits given =
    let both = frame-read m is f q r h once again size in
    let full = both.0 in
    let read = both.1 in
    let e : part ≡ bs ++ drop (length bs) (drop a r) = given
    ∙ ap (λ x. bs ++ drop (length bs) x) (take_all (4096 - a) (drop a r) (omega (arith, length-drop a r))) in
    let rest : post_of a (4096 - a) r ≡ [] = drop_all (4096 - a) (drop a r) (omega (arith, length-drop a r)) in
    let whole : length (take a r ++ (part ++ post_of a (4096 - a) r)) ≡ 4096 =
    rw (rest, e) (omega (
      arith,
      length-append (take a r) ((bs ++ drop (length bs) (drop a r)) ++ []),
      length-append (bs ++ drop (length bs) (drop a r)) [],
      length-append bs (drop (length bs) (drop a r)),
      length-take-le a r (omega arith),
      length-drop (length bs) (drop a r),
      length-drop a r,
    )) in
    let new : take a r ++ (part ++ post_of a (4096 - a) r) ≡ put_bytes (frame_of v f) a bs =
    rw (rest, append-nil, e, drop-drop, ← read) refl in
    set-view_full m is f (take a r ++ (part ++ post_of a (4096 - a) r)) whole ∙ ap (λ w. set v f w) new

pub put_mid-bytes : (a k : ℕ) (r bs : List ℕ) → length bs ≡ k → take a r ++ (bs ++ post_of a k r) ≡ put_bytes r a bs
unfolding put_bytes
put_mid-bytes a k r bs len = rw (drop-drop, ← len) refl

-- a write in the second of two parts of a memory
set-back : (low high : Ram) (w : List ℕ) → low ++ set high 0 w ≡ set (low ++ high) (length low) w
set-back [] high w = refl
set-back (x ∷ low) high w = ap (λ l. x ∷ l) (set-back low high w)

pub set-parts_back : (m low high : Ram) (k : ℕ) (w : List ℕ) → m ≡ low ++ high → length low ≡ k
    → low ++ set high 0 w ≡ set m k w
set-parts_back m low high k w e len = set-back low high w ∙ ap (λ i. set (low ++ high) i w) len
    ∙ ap (λ x. set x k w) (sym e)

-- and in the first
pub set-parts_front : (m low high : Ram) (k : ℕ) (w : List ℕ) → m ≡ low ++ high → k < length low
    → set low k w ++ high ≡ set m k w
set-parts_front m low high k w e h = sym (set-append_left low high k w h) ∙ ap (λ x. set x k w) (sym e)

pub copied-length : (m n : Ram) (k : ℕ) (w : List ℕ) → n ≡ set m k w → length n ≡ length m
copied-length m n k w e = ap length e ∙ length-set m k w

set-split : (r : List ℕ) (at x : ℕ) → at < length r → set r at x ≡ take at r ++ x ∷ drop (suc at) r
set-split [] at x h = absurd (omega arith)
set-split (y ∷ r) zero x h = refl
set-split (y ∷ r) (suc at) x h = ap (λ l. y ∷ l) (set-split r at x (omega arith))

-- one byte
pub set-byte : (r : List ℕ) (at x : ℕ) → at < length r → x < 256 → set r at x ≡ put_bytes r at (word_bytes 1 x)
unfolding put_bytes word_bytes
set-byte r at x h small =
    let byte : x % 256 ≡ x = omega arith in
    set-split r at x h ∙ rw (byte, add-one) refl

module _ (m : Ram) {v : Ram} (is : map sized m ≡ v) where
  -- a frame of 4096 bytes is the same in the memory, which is seen as v
  frame_of-view : (f : ℕ) → f < length v → length (frame_of m f) ≡ 4096 → frame_of m f ≡ frame_of v f
  frame_of-view f h full =
      let inside : f < length m = omega (arith, ap length is, length-map m sized) in
      sym (ap (λ x. frame_of x f) (sym is) ∙ frame_of-sized m f inside ∙ sized-full (frame_of m f) full)

  -- after a copy of a part of a frame
  pub copied-view : (n : Ram) (from i to j len : ℕ) → from < length v → to < length v → i + len ≤ 4096 → j + len ≤ 4096
      → n ≡ set m to (put_bytes (frame_of m to) j (slice_range (frame_of m from) i (i + len)))
      → length (frame_of m from) ≡ 4096
      → length (frame_of m to) ≡ 4096 → map sized n ≡ put v to j (slice_range (frame_of v from) i (i + len))
  unfolding put
  copied-view n from i to j len h g fit room e whole full =
      let part = λ (x : List ℕ). slice_range x i (i + len) in
      let size : length (part (frame_of m from)) ≡ i + len - i =
      length-take-le (i + len - i) (drop i (frame_of m from)) (omega (arith, length-drop i (frame_of m from)))
      in
      let new : length (put_bytes (frame_of m to) j (part (frame_of m from))) ≡ 4096 =
      length-put_bytes (frame_of m to) j (part (frame_of m from)) (omega arith) ∙ full in
      ap (map sized) e
      ∙ set-view_full m is to (put_bytes (frame_of m to) j (part (frame_of m from))) new
      ∙ ap (λ x. set v to (put_bytes x j (part (frame_of m from)))) (frame_of-view to g full)
      ∙ ap (λ x. set v to (put_bytes (frame_of v to) j (part x))) (frame_of-view from h whole)

  -- after a copy of a whole frame
  pub copied-whole : (n : Ram) (from to : ℕ) → from < length v → n ≡ set m to (frame_of m from)
      → length (frame_of m from) ≡ 4096 → map sized n ≡ set v to (frame_of v from)
  copied-whole n from to h e whole =
      ap (map sized) e ∙ set-view_full m is to (frame_of m from) whole ∙ ap (set v to) (frame_of-view from h whole)

  -- after a write of a byte
  pub byte-view : (f at x : ℕ) (r : List ℕ) → length r ≡ 4096 → r ≡ frame_of v f → at < 4096 → x < 256
      → map sized (set m f (set r at x)) ≡ put v f at (word_bytes 1 x)
  unfolding put
  byte-view f at x r full read fits small =
      set-view_full m is f (set r at x) (length-set r at x ∙ full)
      ∙ ap (λ w. set v f w) (set-byte r at x (omega arith) small)
      ∙ ap (λ y. set v f (put_bytes y at (word_bytes 1 x))) read

-- ---- frames that are written part by part

-- the bytes of a frame as far as the parts before part n, of 64 bytes each, are these
pub record IsWritten (n : ℕ) (frame bytes : List ℕ) : Type 0 where
  pub size : length frame ≡ 4096
  pub begins : take (n * 64) frame ≡ take (n * 64) bytes

-- what lies before the end of a vector that is stored at an offset
part-stored : (a k m : ℕ) (xs ys : List ℕ) → length ys ≡ k → a + k ≤ length xs → m ≡ a + k
    → take m (put_mid a k xs (put_chunk 0 (mid_of a k xs) ys)) ≡ take a xs ++ ys
part-stored a k m xs ys size fits end =
    let whole : put_chunk 0 (mid_of a k xs) ys ≡ ys =
    put_chunk_whole (mid_of a k xs) ys (length-chunk a k xs fits ∙ sym size) in
    let before : length (take a xs) ≡ a = length-take-le a xs (omega arith) in
    ap (λ (w : List ℕ). take m (take a xs ++ (w ++ post_of a k xs))) whole
    ∙ ap (take m) (sym (append_assoc (take a xs) ys (post_of a k xs)))
    ∙ take_at (take a xs ++ ys) (post_of a k xs) m (omega (arith, length-append (take a xs) ys))

-- a part more is written
pub IsWritten-more : {n : ℕ} (k : ℕ) {frame bytes : List ℕ} (ys : List ℕ) → IsWritten n frame bytes → n < 64 → k ≡ 64
    → length bytes ≡ 4096 → ys ≡ take 64 (drop (n * 64) bytes)
    → IsWritten (n + 1) (put_mid (n * 64) k frame (put_chunk 0 (mid_of (n * 64) k frame) ys)) bytes
IsWritten-more {n} k {frame} {bytes} ys written h is size part =
    let a : ℕ = n * 64 in
    let own : length frame ≡ 4096 = written.size in
    let long : length ys ≡ k = ap length part ∙ length-chunk a 64 bytes (omega arith) ∙ sym is in
    let end : (n + 1) * 64 ≡ a + k = omega arith in
    let both : (n + 1) * 64 ≡ a + 64 = omega arith in
    record {
      size = same_len_mid a k frame (put_chunk 0 (mid_of a k frame) ys) (length-put_chunk 0 (mid_of a k frame) ys)
          ∙ own;
      begins = part-stored a k ((n + 1) * 64) frame ys long (omega arith) end
          ∙ ap (λ (w : List ℕ). w ++ ys) written.begins
          ∙ ap (λ (w : List ℕ). take a bytes ++ w) part
          ∙ sym (take-add a 64 bytes)
          ∙ ap (λ (m : ℕ). take m bytes) (sym both);
    }

-- all of it is
pub IsWritten-whole : {n : ℕ} {frame bytes : List ℕ} → IsWritten n frame bytes → 64 ≤ n → length bytes ≡ 4096
    → frame ≡ bytes
IsWritten-whole {n} {frame} {bytes} written h size =
    sym (take_all (n * 64) frame (omega arith)) ∙ written.begins ∙ take_all (n * 64) bytes (omega arith)

pub IsWritten-none : (frame bytes : List ℕ) → length frame ≡ 4096 → IsWritten 0 frame bytes
IsWritten-none frame bytes size = record { size = size; begins = refl }

-- a part of nothing but zeros
pub zeros-part : (a k n : ℕ) → a + k ≤ n → replicate {A = ℕ} k 0 ≡ take k (drop a (replicate n 0))
zeros-part a k n fits = sym (ap (take k) (drop-replicate a n 0) ∙ take-replicate k (n - a) 0 (omega arith))

-- a vector that is read out of a part of a frame
pub part-read : (a k : ℕ) (xs : List ℕ) → k ≡ 64 → chunk 0 64 (mid_of a k xs) ≡ take 64 (drop a xs)
part-read a k xs is = ap (λ (m : ℕ). chunk 0 64 (mid_of a m xs)) is ∙ take-take 64 64 (drop a xs) (omega arith)
