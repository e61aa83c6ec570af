-- The program that is loaded, by what the headers say.
use Rattle.std.proofs.Common.{ap, ap₂, refl, ◌∙◌, ◌≡◌, ℕ, zero, suc, ◌+◌, ◌-◌, ◌*◌, ◌/◌, ◌%◌, ◌^◌, ◌<◌, ◌≤◌, ◌&&◌, Bool}
use Rattle.std.proofs.Common.{true, false, List, length, take, drop, None, Option, Some, Ok, Err, Result, nat_eq}
use Rattle.std.proofs.Common.{nat_le, nat_lt, arith, [], ◌∷◌, sym, ◌≢◌}
use Rattle.std.specs.Prelude.{if◌then◌else◌, not, option_and_then}
use Rattle.std.proofs.lemmas.Bool.Decides.{nat_tests}
use Rattle.std.proofs.lemmas.List.{drop-drop, drop-take, take-take}
use Rattle.elf.specs.declared.ElfFault.{ElfFault}
use Rattle.elf.specs.declared.ElfFault.TheVariants.{Align, Magic, Overlap, Short, Sizes}
use Rattle.elf.specs.declared.FileHeader.{FileHeader}
use Rattle.elf.specs.declared.LoadSegment.{LoadSegment}
use Rattle.elf.specs.Headers.{header_in, header_of, is_within, segment_if, segment_of, segment_shown, wrong}
use Rattle.unixmodel.specs.Numbers.{number, number_at}
use Rattle.unixmodel.specs.Plan.{Loaded, Segment, has_bytes, load_segment, load_segments, loaded_of, may_follow}
use Rattle.unixmodel.specs.Plan.{nothing_loaded, segment_at, with_segment}
use Rattle.std.proofs.lemmas.Slice.{between_to_end}
use Rattle.byteorder.specs.Endian.{little_from, little_number}
use Rattle.byteorder.specs.Numbers.{little_from-cons}
use Rattle.std.proofs.Math.Nat.{div-one}

-- a number in a part of a file
number_at-part : (k i at count : ℕ) (file : List ℕ) → i + k ≤ count
    → number_at k i (take count (drop at file)) ≡ number_at k (at + i) file
number_at-part k i at count file h =
    let cut : count ≡ i + (count - i) = omega arith in
    let same : i + k - i ≡ at + i + k - (at + i) = omega arith in
    ap number
    (ap (λ n. take (i + k - i) (drop i (take n (drop at file)))) cut
    ∙ ap (take (i + k - i)) (drop-take i (count - i) (drop at file))
    ∙ take-take (i + k - i) (count - i) (drop i (drop at file)) (omega arith)
    ∙ ap₂ take same (drop-drop i at file))

-- ---- a program header

-- its 56 bytes describe the segment
pub segment_at-part : (file : List ℕ) (at : ℕ) → segment_at (take 56 (drop at file)) 0 ≡ segment_at file at
unfolding segment_at
segment_at-part file at =
    let here : at + 0 ≡ at = omega arith in
    let part = λ (k i : ℕ) (h : i + k ≤ 56). number_at-part k i at 56 file h in
    rw (
      part 4 0 (omega arith)
          ∙ ap (λ p. number_at 4 p file) here,
      part 4 4 (omega arith),
      part 8 8 (omega arith),
      part 8 16 (omega arith),
      part 8 32 (omega arith),
      part 8 40 (omega arith),
    ) refl

-- what loading goes on with after this result of `segment`
abbrev pub loaded_by : List ℕ → Loaded → Segment → Result (Option LoadSegment) ElfFault → Option Loaded
loaded_by file l g (Err fault) = None
loaded_by file l g (Ok None) = Some l
loaded_by file l g (Ok (Some shown)) = Some (with_segment file l g)

module _ (file : List ℕ) (l : Loaded) (g : Segment) where
  follows : (a b c d past e : Bool) → (c ≡ true → d ≡ not past)
      → (if a && b && c && d && e then Some (with_segment file l g) else None)
      ≡ loaded_by file l g (segment_if (segment_shown g)
      (if not (a && b) then Some Sizes else if not c then Some Align else if past then Some Overlap else if not e
      then Some Short else None))
  follows false b c d past e h = refl
  follows true false c d past e h = refl
  follows true true false d past e h = refl
  follows true true true d true e h = rw (h refl) refl
  follows true true true d false true h = rw (h refl) refl
  follows true true true d false false h = rw (h refl) refl

  whole-pages : nat_eq (g.address % 4096) 0 ≡ true
      → nat_le (4096 * ((l.end + 4095) / 4096)) g.address ≡ not (nat_lt g.address l.end)
  whole-pages h = grind (arith, nat_tests, h)

  by-kind : (b : Bool) → (if b then (if may_follow file l.end g then Some (with_segment file l g) else None)
      else Some l)
      ≡ loaded_by file l g (if b then segment_if (segment_shown g) (wrong (segment_shown g) l.end (length file))
      else Ok None)
  by-kind true = follows (nat_le g.file_size g.size) (nat_lt (g.address + g.size) (2 ^ 64))
      (nat_eq (g.address % 4096) 0) _ (nat_lt g.address l.end) (has_bytes file g) whole-pages
  by-kind false = refl

-- one program header is loaded, skipped or refused as `segment` says
pub loads-segment : (file : List ℕ) (l : Loaded) (at : ℕ)
    → load_segment file l (segment_at file at)
    ≡ loaded_by file l (segment_at file at) (segment_of (take 56 (drop at file)) l.end (length file))
loads-segment file l at =
    rw (segment_at-part file at) (by-kind file l (segment_at file at) (nat_eq (segment_at file at).kind 1))

-- ---- the header of a file

none-then : (b : Bool) (f : Loaded → Option Loaded) → ((l : Loaded) → f l ≡ None) → (o : Option Loaded)
    → (if b then option_and_then f o else None) ≡ None
none-then true f none (Some l) = none l
none-then true f none None = refl
none-then false f none o = refl

-- program headers that end past the file
short-headers : (n : ℕ) (file : List ℕ) (at : ℕ) (l : Loaded) → length file < at + 56 * suc n
    → load_segments file (suc n) at l ≡ None
unfolding load_segments
short-headers zero file at l h = let past : nat_le (at + 56) (length file) ≡ false =
    grind (arith, nat_tests, h) in rw past refl
short-headers (suc n) file at l h =
    none-then (nat_le (at + 56) (length file)) (λ next. load_segments file (suc n) (at + 56) next)
    (λ next. short-headers n file (at + 56) next (omega (arith, h))) (load_segment file l (segment_at file at))

past-end : (n : ℕ) (file : List ℕ) (at : ℕ) → is_within at (56 * n) (length file) ≡ false
    → load_segments file n at nothing_loaded ≡ None
past-end zero file at h = absurd (cc)
past-end (suc n) file at h = short-headers n file at nothing_loaded (grind (arith, nat_tests, h))

-- what loading begins with after this result of `header`
abbrev pub headers_by : List ℕ → Result FileHeader ElfFault → Option Loaded
headers_by file (Err fault) = None
headers_by file (Ok h) = load_segments file h.count h.program_headers nothing_loaded

module _ (file : List ℕ) where
  part : (k i : ℕ) → i + k ≤ 64 → number_at k i (take 64 file) ≡ number_at k i file
  part k i h = let here : 0 + i ≡ i = omega arith in number_at-part k i 0 64 file h ∙ ap (λ p. number_at k p file) here

  pub header_in-part : header_in (take 64 file) ≡ header_in file
  header_in-part = rw (part 8 24 (omega arith), part 8 32 (omega arith), part 2 56 (omega arith)) refl

  by-tests : (a m w : Bool)
      → (w ≡ false → load_segments file (number_at 2 56 file) (number_at 8 32 file) nothing_loaded ≡ None)
      → (if a && m then load_segments file (number_at 2 56 file) (number_at 8 32 file) nothing_loaded else None)
      ≡ headers_by file (if m then (if a && w then Ok (header_in file) else Err Short) else Err Magic)
  by-tests false true w h = refl
  by-tests false false w h = refl
  by-tests true false w h = refl
  by-tests true true true h = refl
  by-tests true true false h = h refl

  -- loading begins, or is refused, as `header` says
  pub loads-header : loaded_of file ≡ headers_by file (header_of (take 64 file) (length file))
  loads-header =
      rw (header_in-part, part 4 0 (omega arith), part 8 32 (omega arith), part 2 56 (omega arith))
      (by-tests (nat_le 64 (length file)) (nat_eq (number_at 4 0 file) 0x464C457F)
      (is_within (number_at 8 32 file) (56 * number_at 2 56 file) (length file))
      (past-end (number_at 2 56 file) file (number_at 8 32 file)))

-- ---- numbers that are read from bytes are those that the bytes have

little_from-nil : (i n : ℕ) → little_from i n [] ≡ 0
little_from-nil i zero = refl
little_from-nil i (suc n) = rw (little_from-nil (suc i) n) refl

number-take : (n : ℕ) (bytes : List ℕ) → little_number n bytes ≡ number (take n bytes)
number-take zero xs = refl
number-take (suc n) [] = little_from-nil 0 (suc n)
number-take (suc n) (x ∷ xs) = ap (λ k. x + 256 * k) (little_from-cons 0 n x xs ∙ number-take n xs)

pub number-first : (n : ℕ) (bytes : List ℕ) → little_number n bytes ≡ number_at n 0 bytes
number-first n bytes = let count : n ≡ 0 + n - 0 = omega arith in number-take n bytes
    ∙ ap (λ k. number (take k bytes)) count

-- of the m bytes, those from an offset on
pub number-from : (n at m : ℕ) (bytes : List ℕ) → length bytes ≤ m
    → little_number n (take (m - at) (drop at bytes)) ≡ number_at n at bytes
number-from n at m bytes h =
    let count : n ≡ at + n - at = omega arith in
    ap (little_number n) (between_to_end bytes at m h) ∙ number-take n (drop at bytes)
    ∙ ap (λ k. number (take k (drop at bytes))) count

-- ---- what the headers say, of the numbers that were read

pub segment-read : (bytes : List ℕ) (flags offset address file_size size : ℕ)
    → flags ≡ number_at 4 4 bytes → offset ≡ number_at 8 8 bytes → address ≡ number_at 8 16 bytes
    → file_size ≡ number_at 8 32 bytes → size ≡ number_at 8 40 bytes
    → ◌≡◌ {A = LoadSegment}
    (record {
      writable = nat_eq (flags / 2 % 2) 1;
      executable = nat_eq (flags % 2) 1;
      offset = offset;
      address = address;
      file_size = file_size;
      size = size;
    })
    (segment_shown (segment_at bytes 0))
unfolding segment_at
segment-read bytes flags offset address file_size size f o a n s =
    rw (f, o, a, n, s, div-one (number_at 4 4 bytes)) refl

-- ---- what `segment` returns

module _ (bytes : List ℕ) (end len kind : ℕ) (told : kind ≡ number_at 4 0 bytes) where
  pub segment-other : kind ≢ 1 → Ok None ≡ segment_of bytes end len
  unfolding segment_at
  segment-other other = let no : nat_eq (number_at 4 0 bytes) 1 ≡ false =
      grind (arith, nat_tests, told, other) in rw no refl

  pub segment-loaded : (fault : Option ElfFault) (g : LoadSegment) → kind ≡ 1 → g ≡ segment_shown (segment_at bytes 0)
      → fault ≡ wrong g end len → segment_if g fault ≡ segment_of bytes end len
  unfolding segment_at
  segment-loaded fault g load shown is =
      let yes : nat_eq (number_at 4 0 bytes) 1 ≡ true = grind (arith, nat_tests, told, load) in
      rw (yes, is, shown) refl

-- ---- what `header` returns

pub header-read : (bytes : List ℕ) (len entry at count : ℕ) → number_at 4 0 bytes ≡ 0x464C457F
    → entry ≡ number_at 8 24 bytes → at ≡ number_at 8 32 bytes → count ≡ number_at 2 56 bytes
    → 64 ≤ len → is_within at (56 * count) len ≡ true
    → Ok (record { entry = entry / 4 * 4; program_headers = at; count = count }) ≡ header_of bytes len
header-read bytes len entry at count magic entry-is at-is count-is enough within =
    let yes : nat_eq (number_at 4 0 bytes) 0x464C457F ≡ true = grind (arith, nat_tests, magic) in
    let long : nat_le 64 len ≡ true = grind (arith, nat_tests, enough) in
    let fits : is_within (number_at 8 32 bytes) (56 * number_at 2 56 bytes) len ≡ true =
    rw (sym at-is, sym count-is) within in
    rw (yes, long, fits, entry-is, at-is, count-is) refl
