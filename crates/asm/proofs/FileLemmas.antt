-- What the reader of program files finds in the file of a program.
use Rattle.asm.proofs.Common.{false, ◌≡◌, ◌∙◌, ◌≤◌, ◌<◌, ◌+◌, ◌-◌, ◌*◌, ◌/◌, ◌%◌, ◌^◌, ◌++◌, ◌∷◌, ℕ, List, Some, [], ap}
use Rattle.asm.proofs.Common.{append_assoc, arith, drop, length, refl, sym, replicate, take, true, suc, zero}
use Rattle.asm.proofs.Common.{length-append, if◌then◌else◌, Err, Ok, OnOk, Result, is_ok, slice_range, ◌==◌, pow-suc}
use Rattle.asm.proofs.Common.{AllocError, le-leb, lt-ltb, length-replicate, take_all, elf_file, elf_header}
use Rattle.asm.proofs.Common.{program_header, Perm, pages_of, zeros, ceil_div, le, number, number_at}
use Rattle.std.proofs.Math.Seq.{drop-append_seam, take-length}
use Rattle.std.proofs.Math.Bool.{or-true}
use Rattle.unixmodel.specs.Plan.{Loaded, Segment, load_segment, load_segments, may_follow, nothing_loaded, plan}
use Rattle.unixmodel.specs.Plan.{plan_flat, segment_at, segment_pages}

-- k bytes have all of a number below 256 ^ k
number-le : (k x : ℕ) → x < 256 ^ k → number (le k x) ≡ x
number-le zero x h = omega arith
number-le (suc k) x h =
    let p : 256 ^ suc k ≡ 256 ^ k * 256 = pow-suc 256 k in
    let less : x / 256 < 256 ^ k = omega (arith, p, h) in
    ap (λ n. x % 256 + 256 * n) (number-le k (x / 256) less) ∙ omega arith

-- eight bytes of a number, as divisions by powers of 256
pub le-8 : (x : ℕ) → x % 256 ∷ x / 256 % 256 ∷ x / 65536 % 256 ∷ x / 16777216 % 256 ∷ x / 4294967296 % 256
    ∷ x / 1099511627776 % 256 ∷ x / 281474976710656 % 256 ∷ x / 72057594037927936 % 256 ∷ [] ≡ le 8 x
le-8 x =
    let e2 : x / 65536 ≡ x / 256 / 256 = omega arith in
    let e3 : x / 16777216 ≡ x / 256 / 256 / 256 = omega arith in
    let e4 : x / 4294967296 ≡ x / 256 / 256 / 256 / 256 = omega arith in
    let e5 : x / 1099511627776 ≡ x / 256 / 256 / 256 / 256 / 256 = omega arith in
    let e6 : x / 281474976710656 ≡ x / 256 / 256 / 256 / 256 / 256 / 256 = omega arith in
    let e7 : x / 72057594037927936 ≡ x / 256 / 256 / 256 / 256 / 256 / 256 / 256 = omega arith in
    rw (e2, e3, e4, e5, e6, e7) refl

-- ---- the headers

abbrev front : ℕ → List ℕ
front size = elf_header ++ program_header size

abbrev read_segment : ℕ → Segment
read_segment size = record { kind = 1; flags = 7; offset = 4096; address = 0; file_size = size; size = size }

length-front : (size : ℕ) → length (front size) ≡ 120
unfolding elf_header program_header zeros
length-front size = refl

-- what they say
told : (size : ℕ) (rest : List ℕ) → record {
  magic : number_at 4 0 (front size ++ rest) ≡ 0x464C457F;
  entry : number_at 8 24 (front size ++ rest) ≡ 0;
  headers_at : number_at 8 32 (front size ++ rest) ≡ 64;
  headers : number_at 2 56 (front size ++ rest) ≡ 1;
  segment : segment_at (front size ++ rest) 64 ≡ read_segment (number (le 8 size));
}
unfolding elf_header program_header segment_at zeros
told size rest = record { magic = refl; entry = refl; headers_at = refl; headers = refl; segment = refl }

-- ---- the one segment

abbrev all_marks : Perm
all_marks = record { writable = true; executable = true; user = true; shared = false }

follows : (file : List ℕ) (size : ℕ) → size < 2 ^ 64 → 4096 + size ≤ length file
    → may_follow file 0 (read_segment size) ≡ true
follows file size h room =
    rw (
      le-leb size size (omega arith),
      lt-ltb (0 + size) (2 ^ 64) (omega arith),
      le-leb (4096 + size) (length file) room,
      or-true (size == 0),
    ) refl

abbrev program_of : List ℕ → Loaded
program_of bytes = record { pages = pages_of all_marks (ceil_div (length bytes) 4096) bytes; end = 0 + length bytes }

part : (file bytes : List ℕ) (at : ℕ) → drop at file ≡ bytes → slice_range file at (at + length bytes) ≡ bytes
part file bytes at behind =
    let e : at + length bytes - at ≡ length bytes = omega arith in
    rw (e, behind) (take-length bytes)

loads_it : (file bytes : List ℕ) → length bytes < 2 ^ 64 → length file ≡ 4096 + length bytes → drop 4096 file ≡ bytes
    → load_segment file nothing_loaded (read_segment (length bytes)) ≡ Some (program_of bytes)
unfolding segment_pages
loads_it file bytes h long behind =
    rw (follows file (length bytes) h (omega (arith, long)), part file bytes 4096 behind) refl

loads : (file bytes : List ℕ) → length bytes < 2 ^ 64 → length file ≡ 4096 + length bytes → drop 4096 file ≡ bytes
    → segment_at file 64 ≡ read_segment (length bytes)
    → load_segments file 1 64 nothing_loaded ≡ Some (program_of bytes)
unfolding load_segments
loads file bytes h long behind is =
    rw (le-leb 120 (length file) (omega (arith, long)), is, loads_it file bytes h long behind) refl

-- a file whose headers say so has the plan of its program
planned : (file bytes : List ℕ) → length bytes < 2 ^ 64 → length file ≡ 4096 + length bytes → drop 4096 file ≡ bytes
    → segment_at file 64 ≡ read_segment (length bytes)
    → number_at 4 0 file ≡ 0x464C457F → number_at 8 24 file ≡ 0 → number_at 8 32 file ≡ 64 → number_at 2 56 file ≡ 1
    → plan file [] ≡ plan_flat bytes
unfolding plan plan_flat
planned file bytes h long behind is m e at count =
    rw (le-leb 64 (length file) (omega (arith, long)), m, e, at, count, loads file bytes h long behind is) refl

in_front : (bytes : List ℕ) → elf_file bytes ≡ front (length bytes) ++ (zeros 3976 ++ bytes)
unfolding elf_file
in_front bytes = append_assoc (front (length bytes)) (zeros 3976) bytes

long : (xs ys : List ℕ) (n : ℕ) → length xs ≡ n → length (xs ++ ys) ≡ n + length ys
long xs ys n e = length-append xs ys ∙ ap (λ k. k + length ys) e

before_program : (size : ℕ) → length (front size ++ zeros 3976) ≡ 4096
unfolding zeros
before_program size = long (front size) (replicate 3976 0) 120 (length-front size)
    ∙ ap (λ k. 120 + k) (length-replicate {A = ℕ} 3976 0)

length-file : (bytes : List ℕ) → length (elf_file bytes) ≡ 4096 + length bytes
unfolding elf_file
length-file bytes = long (front (length bytes) ++ zeros 3976) bytes 4096 (before_program (length bytes))

behind-file : (bytes : List ℕ) → drop 4096 (elf_file bytes) ≡ bytes
unfolding elf_file
behind-file bytes = rw (sym (before_program (length bytes)))
    (drop-append_seam (front (length bytes) ++ zeros 3976) bytes)

pub plan-file : (bytes : List ℕ) → length bytes < 2 ^ 64 → plan (elf_file bytes) [] ≡ plan_flat bytes
plan-file bytes h =
    let e = in_front bytes in
    let says = told (length bytes) (zeros 3976 ++ bytes) in
    planned (elf_file bytes) bytes h (length-file bytes) (behind-file bytes)
    (rw (e, says.segment, number-le 8 (length bytes) h) refl) (rw e says.magic) (rw e says.entry)
    (rw e says.headers_at) (rw e says.headers)

-- ---- the parts as they are written

after : (r : Result Unit AllocError) (new old part whole : List ℕ) → new ≡ (if is_ok r then old ++ part else old)
    → old ++ part ≡ whole → OnOk r (new ≡ whole)
after (Ok x) new old part whole is e = is ∙ e
after (Err x) new old part whole is e = tt

abbrev segment_start : List ℕ
segment_start = le 4 1 ++ le 4 7 ++ le 8 4096 ++ le 8 0 ++ le 8 0

pub put-program_header : (size : ℕ) (r : Result Unit AllocError) (old one two three four bytes : List ℕ)
    → bytes ≡ le 8 size → one ≡ old ++ segment_start → two ≡ one ++ bytes → three ≡ two ++ bytes
    → four ≡ (if is_ok r then three ++ le 8 4096 else three) → OnOk r (four ≡ old ++ program_header size)
unfolding program_header
put-program_header size r old one two three four bytes is e1 e2 e3 e4 =
    after r four three (le 8 4096) (old ++ program_header size) e4
    (rw (e3, e2, e1, is) (simp append_assoc refl))

pub written : (bytes fresh one two three four : List ℕ) (len : ℕ) → fresh ≡ [] → one ≡ fresh ++ elf_header
    → two ≡ one ++ program_header (length bytes) → len ≡ length two
    → three ≡ take 4096 two ++ replicate (4096 - len) 0 → four ≡ three ++ bytes → four ≡ elf_file bytes
unfolding elf_file zeros
written bytes fresh one two three four len e e1 e2 n e3 e4 =
    let is : two ≡ front (length bytes) = rw (e2, e1, e) refl in
    let count : length two ≡ 120 = ap length is ∙ length-front (length bytes) in
    let short : length two ≤ 4096 = omega (arith, count) in
    let left : 4096 - len ≡ 3976 = omega (arith, count, n) in
    rw (e4, e3, take_all 4096 two short, left, is) refl
