-- The steps of a write and of a read.
use Rattle.pipe.proofs.Common.{◌≡◌, ◌<◌, ◌≤◌, inl, inr, ℕ, suc, zero, ◌+◌, ◌-◌, ◌%◌, List, [], ◌∷◌, ◌++◌, append_assoc}
use Rattle.pipe.proofs.Common.{append-nil, drop, get_or, get_or-set_same, length, length-take, min, mod-eq_of_lt, refl}
use Rattle.pipe.proofs.Common.{set, slice_set, sym, take, ap, ap₂, ◌∙◌, arith, drop_min, drop_more, take_min, take_more}
use Rattle.pipe.proofs.Common.{frame_of, sized, ring, drop-ring, length-ring, ring-append, ring-around, ring-push}
use Rattle.pipe.proofs.Common.{take-ring}
use Rattle.std.proofs.lemmas.Bool.{cases_lt}
use Rattle.ram.proofs.MemoryLemmas.{sized-full}
use Rattle.pipe.specs.Pipe.{Pipe, bytes_of}

-- the first bytes are written, and then one more
pub append-more : (ys xs bs : List ℕ) {k : ℕ} (n : ℕ) {i : ℕ} (b : ℕ) → 512 ≤ length ys → k < 512 → n + length bs ≤ 512
    → i < length bs → b ≡ get_or bs i 0 → ring 512 ys k (n + i) ≡ ring 512 xs k n ++ take i bs
    → ring 512 (set ys ((k + n + i) % 512) b) k (n + (i + 1)) ≡ ring 512 xs k n ++ take (i + 1) bs
append-more ys xs bs {k} n {i} b full start fits low is h =
    let a : n + (i + 1) ≡ n + i + 1 = omega arith in
    rw (
      a,
      ring-push 512 ys k (n + i) (k + n + i) b full (omega arith) (omega arith) (omega arith),
      h,
      append_assoc,
      take_more bs i 0 low,
      is,
    ) refl

-- a frame that was lent has what was left there
pub frame-put : (m : List (List ℕ)) {f : ℕ} {ys : List ℕ} → f < length m → length ys ≡ 4096
    → frame_of (slice_set m f (sized ys)) f ≡ ys
frame-put m {f} {ys} low full = get_or-set_same m f (sized ys) [] low ∙ sized-full ys full

-- one more byte is read
pub ring-more : (xs : List ℕ) (k i : ℕ) → ring 512 xs k (i + 1) ≡ ring 512 xs k i ++ get_or xs ((k + i) % 512) 0 ∷ []
unfolding ring
ring-more xs k i = ring-append _ xs k i 1 _ refl

-- what fits is written
pub write-bytes : (x y bs ps : List ℕ) (k : ℕ) {n t : ℕ} → n ≤ 512 → t ≡ min (length bs) (512 - n) → ps ≡ take t bs
    → ring 512 y k (n + length ps) ≡ ring 512 x k n ++ ps
    → ring 512 y k (n + t) ≡ ring 512 x k n ++ take (512 - length (ring 512 x k n)) bs
write-bytes x y bs ps k {n} {t} room count is e =
    let len : n + t ≡ n + length ps = omega (arith, ap length is, length-take t bs) in
    let most : t ≡ min (512 - n) (length bs) = omega arith in
    ap (ring 512 y k) len ∙ e ∙ rw (is, most, length-ring) (ap (λ l. ring 512 x k n ++ l) (take_min _ bs))

pub ring-none : (x : List ℕ) (k n : ℕ) → n ≡ 0 → ring 512 x k n ≡ []
unfolding ring
ring-none x k zero h = refl
ring-none x k (suc n) h = absurd (omega arith)

-- what is there and fits is read
pub read-bytes : (x : List ℕ) (k n c : ℕ) {t : ℕ} → t ≡ min c n → ring 512 x k t ≡ take c (ring 512 x k n)
read-bytes x k n c count =
    rw count (sym (take-ring 512 x k (min c n) n (omega arith)) ∙ rw length-ring at (take_min c (ring 512 x k n)))

-- a start past the end is one from the beginning
ring-wrap : (x : List ℕ) (k n : ℕ) → ring 512 x (k % 512) n ≡ ring 512 x k n
ring-wrap x k n =
    let a : k % 512 ≡ k % 512 + 0 = omega arith in
    let b : k + 0 ≡ k = omega arith in
    ap (λ i. ring 512 x i n) a ∙ ring-around _ x k 0 n ∙ ap (λ i. ring 512 x i n) b

-- and the rest stays
pub read-rest : (x : List ℕ) (k n c : ℕ) {t : ℕ} → t ≡ min c n
    → ring 512 x ((k + t) % 512) (n - t) ≡ drop c (ring 512 x k n)
read-rest x k n c {t} count = ring-wrap x (k + t) (n - t) ∙ sym (drop-ring 512 x k t n)
    ∙ rw count (rw length-ring at (drop_min c (ring 512 x k n)))

pub read-nothing : (x : List ℕ) (k : ℕ) {n : ℕ} (c : ℕ) → n ≡ 0 → ring 512 x k n ≡ drop c (ring 512 x k n)
read-nothing x k {n} c h = ring-none x k n h ∙ sym (drop-ring _ x k c n ∙ ring-none x _ (n - c) (omega arith))

-- bytes that lie before the end of the room
pub ring-straight : (x : List ℕ) (k n : ℕ) → 512 ≤ length x → k + n ≤ 512 → ring 512 x k n ≡ take n (drop k x)
unfolding ring
ring-straight x k zero full h = refl
ring-straight x k (suc n) full h =
    let low : k < 512 = omega arith in
    rw (drop_more x k 0 (omega arith), mod-eq_of_lt low, ring-straight x (k + 1) n full (omega arith)) refl

-- the bytes of a ring are those up to the end of the room, and those from its beginning
pub ring-parts : (x : List ℕ) {k n t : ℕ} → 512 ≤ length x → k < 512 → n ≤ 512 → t ≡ min n (512 - k)
    → take t (drop k x) ++ take (n - t) x ≡ ring 512 x k n
ring-parts x {k} {n} {t} full start held front = elim (cases_lt (512 - k) n) [
  | inl more ↦
      let a : t ≡ 512 - k = omega arith in
      let b : (k + t) % 512 ≡ 0 = rw (let c : k + t ≡ 512 = omega arith in c) refl in
      ap₂ ◌++◌ (sym (ring-straight x k t full (omega arith)))
      (sym (ring-straight x 0 (n - t) full (omega arith)) ∙ rw b at (ring-wrap x (k + t) (n - t)))
      ∙ sym (ring-append 512 x k t (n - t) n (omega arith))
  | inr fits ↦
      let a : t ≡ n = omega arith in
      let b : n - t ≡ 0 = omega arith in
      ap₂ ◌++◌ (sym (ring-straight x k t full (omega arith))) (ap (λ i. take i x) b) ∙ append-nil (ring 512 x k t)
      ∙ ap (ring 512 x k) a
]

-- ---- what changes the bytes of a pipe, and what doesn't

-- a pipe holds the same bytes where its frame does
pub bytes_of-same : (m k : List (List ℕ)) (p : Pipe) → frame_of k p.frame ≡ frame_of m p.frame
    → bytes_of k p ≡ bytes_of m p
bytes_of-same m k p e = ap (λ places. ring 512 places p.from p.held) e
