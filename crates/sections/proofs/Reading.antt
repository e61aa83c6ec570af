-- Fields, pieces and texts, as the code reads them.
use Rattle.std.proofs.Common.{ap, refl, ◌≡◌, ℕ, zero, suc, ◌+◌, ◌-◌, ◌<◌, ◌≤◌, true, false, List, [], ◌∷◌}
use Rattle.std.proofs.Common.{◌++◌, length, take, drop, map, nat_lt, arith, append_assoc, append-nil}
use Rattle.std.proofs.lemmas.Bool.Decides.{nat_tests}
use Rattle.std.proofs.lemmas.Slice.{between_to_end}
use Rattle.byteorder.specs.Endian.{little_number}
use Rattle.sections.specs.declared.section.Section.{Section}
use Rattle.sections.specs.Headers.{pieces, section_in}

-- a field of bytes that are at most m
pub field : (n at m : ℕ) (bytes : List ℕ) → length bytes ≤ m
    → little_number n (take (m - at) (drop at bytes)) ≡ little_number n (drop at bytes)
field n at m bytes h = ap (little_number n) (between_to_end bytes at m h)

pub section-read : (bytes : List ℕ) (name kind flags offset size link : ℕ)
    → name ≡ little_number 4 bytes → kind ≡ little_number 4 (drop 4 bytes) → flags ≡ little_number 8 (drop 8 bytes)
    → offset ≡ little_number 8 (drop 24 bytes) → size ≡ little_number 8 (drop 32 bytes)
    → link ≡ little_number 4 (drop 40 bytes)
    → ◌≡◌ {A = Section}
    (record { name = name; kind = kind; flags = flags; offset = offset; size = size; link = link })
    (section_in bytes)
section-read bytes name kind flags offset size link n k f o s l = rw (n, k, f, o, s, l) refl

-- one more piece
pub pieces-more : (size count i : ℕ) (bytes : List ℕ) → i < count → size ≤ length bytes
    → pieces size (count - i) bytes ≡ take size bytes ∷ pieces size (count - (i + 1)) (drop size bytes)
pieces-more size count i bytes within has =
    let left : count - i ≡ suc (count - (i + 1)) = omega arith in
    let enough : nat_lt (length bytes) size ≡ false = grind (arith, nat_tests, has) in
    rw (left, enough) refl

-- the file ends before another
pub pieces-none : (size count : ℕ) (bytes : List ℕ) → length bytes < size → pieces size count bytes ≡ []
pieces-none size zero bytes short = refl
pieces-none size (suc count) bytes short =
    let less : nat_lt (length bytes) size ≡ true = grind (arith, nat_tests, short) in rw less refl

-- one more is read
pub listed-more : (count i : ℕ) (rest header after : List ℕ) (so_far new all : List Section) (section : Section)
    → i < count → header ≡ take 64 rest → after ≡ drop 64 rest → length after + 64 ≡ length rest
    → section ≡ section_in header → new ≡ so_far ++ section ∷ []
    → so_far ++ map section_in (pieces 64 (count - i) rest) ≡ all
    → new ++ map section_in (pieces 64 (count - (i + 1)) after) ≡ all
listed-more count i rest header after so_far new all section within front back has read pushed so =
    let more = pieces-more 64 count i rest within (omega arith) in
    rw (pushed, read, front, back, append_assoc) (rw more at so)

-- the file ends before another
pub listed-all : (count i : ℕ) (rest : List ℕ) (so_far all : List Section) → length rest < 64
    → so_far ++ map section_in (pieces 64 (count - i) rest) ≡ all → so_far ≡ all
listed-all count i rest so_far all short so =
    let none = pieces-none 64 (count - i) rest short in
    let whole : so_far ++ [] ≡ all = rw none at so in rw append-nil at whole
