-- The round trips: of numbers, and of an inode.
use Rattle.layout.proofs.Common.{◌≡◌, ℕ, ◌+◌, ◌-◌, ◌*◌, ◌^◌, ◌<◌, ◌≤◌, List, length, take, drop, ap, sym, ◌∙◌, arith}
use Rattle.layout.proofs.Common.{get_or, drop-take, ext_get_or, get_or-drop, length-map-range_with_len}
use Rattle.layout.proofs.Common.{get_or-map-range_with_len, little_number, little_from-take, little_from-lt, DiskInode}
use Rattle.layout.proofs.Common.{SuperBlock, number_at, numbers_in, [], ◌∷◌, ◌++◌, zero, suc, take-append_seam}
use Rattle.layout.proofs.Common.{drop-drop, little_number-reads_back, spelled, inode_of, inode_bytes, Fits, entry_of}
use Rattle.layout.proofs.Common.{entry_bytes, EntryFits, super_of, super_bytes, super_numbers, SuperFits, ◌/◌, ◌%◌}
use Rattle.layout.proofs.Common.{refl, map, take-add, length-drop, little_bytes, little_from-cons}
use Rattle.layout.specs.declared.Entry.{Entry}
use Rattle.std.specs.Int.{byte_at, bytes_low_first}
use Rattle.std.specs.List.{range_with_len}
use Rattle.std.proofs.Math.Nat.{div-div-eq-div-mul, pow-succ'}

-- ---- numbers in a front of the bytes

pub number_at-take : (m k : ℕ) (bytes : List ℕ) → 4 * k + 4 ≤ m → number_at (take m bytes) k ≡ number_at bytes k
number_at-take m k bytes h =
    let e : m ≡ 4 * k + (m - 4 * k) = omega arith in
    ap (λ n. little_number 4 (drop (4 * k) (take n bytes))) e
    ∙ ap (little_number 4) (drop-take (4 * k) (m - 4 * k) bytes)
    ∙ little_from-take 0 4 (m - 4 * k) (drop (4 * k) bytes) (omega arith)

pub get_or-numbers_in : (n : ℕ) (bytes : List ℕ) (k : ℕ) → k < n → get_or (numbers_in n bytes) k 0 ≡ number_at bytes k
unfolding numbers_in
get_or-numbers_in n bytes k h = get_or-map-range_with_len (number_at bytes) 0 n k k 0 h (omega arith)

pub length-numbers_in : (n : ℕ) (bytes : List ℕ) → length (numbers_in n bytes) ≡ n
unfolding numbers_in
length-numbers_in n bytes = length-map-range_with_len _ 0 n

pub numbers_in-take : (m n : ℕ) (bytes : List ℕ) → 4 * n ≤ m → numbers_in n (take m bytes) ≡ numbers_in n bytes
numbers_in-take m n bytes h =
    ext_get_or 0 _ _ (length-numbers_in n (take m bytes) ∙ sym (length-numbers_in n bytes)) (λ i l.
    let i_in : i < n = omega (arith, length-numbers_in n (take m bytes)) in
    get_or-numbers_in n (take m bytes) i i_in ∙ number_at-take m i bytes (omega arith)
    ∙ sym (get_or-numbers_in n bytes i i_in))

-- a number of four bytes has 32 bits
pub number_at-fits : (bytes : List ℕ) (at k : ℕ) → ((i : ℕ) → get_or bytes i 0 < 2 ^ 8)
    → number_at (drop at bytes) k < 2 ^ 32
number_at-fits bytes at k fits =
    little_from-lt 0 4 (drop (4 * k) (drop at bytes)) (λ i.
    let e : get_or (drop (4 * k) (drop at bytes)) i 0 ≡ get_or bytes (at + (4 * k + i)) 0 =
    get_or-drop (4 * k) (drop at bytes) i 0 ∙ get_or-drop at bytes (4 * k + i) 0 in
    let b = fits (at + (4 * k + i)) in
    omega arith)

pub number_at-spelled : (xs rest : List ℕ) (k : ℕ) → k < length xs → ((i : ℕ) → i < length xs → get_or xs i 0 < 2 ^ 32)
    → number_at (spelled xs ++ rest) k ≡ get_or xs k 0
number_at-spelled [] rest k h fits = absurd (omega arith)
number_at-spelled (x ∷ xs) rest zero h fits = little_number-reads_back 4 x (spelled xs ++ rest) (fits 0 (omega arith))
number_at-spelled (x ∷ xs) rest (suc k) h fits =
    let e : 4 * suc k ≡ 4 + 4 * k = omega arith in
    ap (λ n. little_number 4 (drop n (spelled (x ∷ xs) ++ rest))) e
    ∙ ap (little_number 4) (sym (drop-drop (4 * k) 4 (spelled (x ∷ xs) ++ rest)))
    ∙ number_at-spelled xs rest k (omega arith) (λ i l. fits (suc i) (omega arith))

pub numbers_in-spelled : (n : ℕ) (xs rest : List ℕ) → length xs ≡ n
    → ((i : ℕ) → i < length xs → get_or xs i 0 < 2 ^ 32) → numbers_in n (spelled xs ++ rest) ≡ xs
numbers_in-spelled n xs rest e fits =
    ext_get_or 0 _ _ (length-numbers_in n (spelled xs ++ rest) ∙ sym e) (λ i l.
    let i_in : i < n = omega (arith, length-numbers_in n (spelled xs ++ rest)) in
    get_or-numbers_in n (spelled xs ++ rest) i i_in ∙ number_at-spelled xs rest i (omega arith) fits)

pub inode_of-inode_bytes : (inode : DiskInode) (rest : List ℕ) → Fits inode
    → inode_of (inode_bytes inode ++ rest) ≡ inode
inode_of-inode_bytes inode rest fits = λ i. record {
  kind = little_number-reads_back 2 inode.kind [] fits.kind i;
  major = little_number-reads_back 2 inode.major [] fits.major i;
  minor = little_number-reads_back 2 inode.minor [] fits.minor i;
  links = little_number-reads_back 2 inode.links [] fits.links i;
  size = little_number-reads_back 4 inode.size [] fits.size i;
  addresses = numbers_in-spelled 13 inode.addresses rest fits.places fits.addresses i;
}

pub entry_of-entry_bytes : (entry : Entry) (rest : List ℕ) → EntryFits entry
    → entry_of (entry_bytes entry ++ rest) ≡ entry
entry_of-entry_bytes entry rest fits = λ i. record {
  number = little_number-reads_back 2 entry.number (entry.name ++ rest) fits.number i;
  name = (ap (λ n. take n (entry.name ++ rest)) (sym fits.name) ∙ take-append_seam entry.name rest) i;
}

-- of a super block's numbers
pub super_of-super_bytes : (s : SuperBlock) (rest : List ℕ) → SuperFits s → super_of (super_bytes s ++ rest) ≡ s
super_of-super_bytes s rest fits =
    let at = λ (k : ℕ) (h : k < 8). number_at-spelled (super_numbers s) rest k h fits.numbers in
    λ i. record {
      magic = at 0 (omega arith) i;
      size = at 1 (omega arith) i;
      blocks = at 2 (omega arith) i;
      inodes = at 3 (omega arith) i;
      log = at 4 (omega arith) i;
      log_start = at 5 (omega arith) i;
      inode_start = at 6 (omega arith) i;
      bitmap_start = at 7 (omega arith) i;
    }

-- ---- a record that is read from bytes is written as these bytes

-- each is below 256
abbrev pub AreBytes : List ℕ → Type 0
AreBytes xs = (i : ℕ) → get_or xs i 0 < 2 ^ 8

bytes-drop : (k : ℕ) (xs : List ℕ) → AreBytes xs → AreBytes (drop k xs)
bytes-drop k xs are i = omega (arith, get_or-drop k xs i 0, are (k + i))

-- ---- a number

-- a byte of a number is one lower in the number without its lowest byte
byte_at-suc : (i x : ℕ) → byte_at (suc i) x ≡ byte_at i (x / 256)
byte_at-suc zero x = refl
byte_at-suc (suc i) x = ap (λ p. x / p % 256) (pow-succ' 256 (suc i))
    ∙ ap (λ y. y % 256) (sym (div-div-eq-div-mul x 256 (256 ^ suc i)))

bytes_low_first-suc : (i n x : ℕ) → bytes_low_first (suc i) n x ≡ bytes_low_first i n (x / 256)
bytes_low_first-suc i zero x = refl
bytes_low_first-suc i (suc n) x = rw (byte_at-suc i x, bytes_low_first-suc (suc i) n x) refl

bytes-number : (n : ℕ) (xs : List ℕ) → n ≤ length xs → AreBytes xs → little_bytes n (little_number n xs) ≡ take n xs
bytes-number zero xs h are = refl
bytes-number (suc n) [] h are = absurd (omega arith)
bytes-number (suc n) (x ∷ xs) h are =
    let rest = little_number n xs in
    let small : x < 256 = are 0 in
    let low : (x + 256 * rest) % 256 ≡ x = omega arith in
    let high : (x + 256 * rest) / 256 ≡ rest = omega arith in
    ap (λ r. little_bytes (suc n) (x + 256 * r)) (little_from-cons 0 n x xs)
    ∙ rw (bytes_low_first-suc 0 n (x + 256 * rest), low, high, bytes-number n xs (omega arith) (λ i. are (suc i))) refl

-- a number of n bytes that come before others
pub in_front : (k n m : ℕ) (bytes : List ℕ) → k + n ≤ length bytes → AreBytes bytes
    → little_bytes n (little_number n (drop k bytes)) ++ take m (drop (k + n) bytes) ≡ take (n + m) (drop k bytes)
in_front k n m bytes h are =
    let within : n ≤ length (drop k bytes) = omega (arith, length-drop k bytes) in
    ap (λ front. front ++ take m (drop (k + n) bytes)) (bytes-number n (drop k bytes) within (bytes-drop k bytes are))
    ∙ ap (λ rest. take n (drop k bytes) ++ take m rest) (sym (drop-drop n k bytes))
    ∙ sym (take-add n m (drop k bytes))

-- ---- numbers of four bytes

pub spelled-range : (n i : ℕ) (bytes : List ℕ) → 4 * i + 4 * n ≤ length bytes → AreBytes bytes
    → spelled (map (number_at bytes) (range_with_len i n)) ≡ take (4 * n) (drop (4 * i) bytes)
spelled-range zero i bytes h are = refl
spelled-range (suc n) i bytes h are =
    let next : 4 * (i + 1) ≡ 4 * i + 4 = omega arith in
    let whole : 4 + 4 * n ≡ 4 * suc n = omega arith in
    ap (λ rest. little_bytes 4 (number_at bytes i) ++ rest)
    (spelled-range n (i + 1) bytes (omega arith) are ∙ ap (λ k. take (4 * n) (drop k bytes)) next)
    ∙ in_front (4 * i) 4 (4 * n) bytes (omega arith) are
    ∙ ap (λ k. take k (drop (4 * i) bytes)) whole

-- ---- the records

pub inode_bytes-inode_of : (bytes : List ℕ) → 64 ≤ length bytes → AreBytes bytes
    → inode_bytes (inode_of bytes) ≡ take 64 bytes
unfolding numbers_in
inode_bytes-inode_of bytes h are =
    let addresses = spelled-range 13 0 (drop 12 bytes) (omega (arith, length-drop 12 bytes)) (bytes-drop 12 bytes are)
    in
    rw (
      addresses,
      in_front 8 4 52 bytes (omega arith) are,
      in_front 6 2 56 bytes (omega arith) are,
      in_front 4 2 58 bytes (omega arith) are,
      in_front 2 2 60 bytes (omega arith) are,
    )
    (in_front 0 2 62 bytes (omega arith) are)
