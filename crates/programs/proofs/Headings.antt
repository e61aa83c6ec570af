-- What the headers of a program file say, as they are read one after the other.
use Rattle.programs.proofs.Common.{◌-◌, ap, arith, Err, false, le_trans, length, List, Ok, refl, Result, Some, subst}
use Rattle.programs.proofs.Common.{sym, ℕ, ◌∙◌, ◌≡◌, ◌≤◌, DeviceFault, InodeStat, FileTree, Serves, IsFile, Files, Node}
use Rattle.programs.proofs.Common.{slot, file_at, ◌%◌, ◌&&◌, ◌*◌, ◌+◌, ◌/◌, ◌<◌, ◌^◌, Bool, length-append, None, Option}
use Rattle.programs.proofs.Common.{replicate, suc, take, true, zero, ◌≢◌, le-leb, nat_tests, length-replicate}
use Rattle.programs.proofs.Common.{none-some, same_Some, ◌==◌, if◌then◌else◌, nat_le, option_and_then, option_map}
use Rattle.programs.proofs.Common.{slice_range, header_in-part, headers_by, loaded_by, loads-header, loads-segment}
use Rattle.programs.proofs.Common.{segment_at-part, header_in, header_of, is_within, segment_if, segment_shown}
use Rattle.programs.proofs.Common.{ElfFault, Magic, Short, FileHeader, File, Perm, zero_page, pages_of, ceil_div}
use Rattle.programs.proofs.Common.{number_at, load_segment, Loaded, loaded_of, may_follow, nothing_loaded, Segment}
use Rattle.programs.proofs.Common.{segment_marks, with_segment, load_segments, segment_at, segment_pages, file_bytes}
use Rattle.programs.proofs.Common.{bytes_or_none, end_behind, end_by, end_of, headed, IsRead, program_in, TellsProgram}
use Rattle.programs.proofs.Common.{unless_refused, Program}
use Rattle.programs.proofs.Reading.{HasSeen, IsKept, kept-file, kept-is-file, kept-more, kept-none, kept-one, lost-then}
use Rattle.programs.proofs.Reading.{program-serves, read-serves}
pub use Rattle.file_transfers.proofs.Fits.{serves-told}
use Rattle.tree.specs.Telling as telling
use Rattle.programs.specs.Headed.{Tells}

-- ---- the header

-- what is in a header that isn't refused
pub record IsHeaded (file : List ℕ) (header : FileHeader) : Type 0 where
  pub is : header_of (take 64 file) (length file) ≡ Ok header
  pub read : header ≡ header_in file
  pub within : is_within header.program_headers (56 * header.count) (length file) ≡ true

accepted : (m a w : Bool) {h header : FileHeader}
    → (if m then (if a && w then Ok h else Err Short) else Err Magic) ≡ Ok header → (h ≡ header) × (w ≡ true)
accepted true true true e = (cc, refl)
accepted m a w e = absurd (cc)

ok-of : (r : Result FileHeader ElfFault) {header : FileHeader} → unless_refused r ≡ Some header → r ≡ Ok header
ok-of (Ok h) {header} e = ap Ok (same_Some h header e)
ok-of (Err fault) {header} e = absurd (none-some header e)

pub is-headed : (file : List ℕ) (header : FileHeader) → headed file ≡ Some header → IsHeaded file header
is-headed file header e =
    let front = take 64 file in
    let ok = ok-of (header_of front (length file)) e in
    let parts = accepted (number_at 4 0 front == 0x464C457F) (nat_le 64 (length file))
    (is_within (number_at 8 32 front) (56 * number_at 2 56 front) (length file)) ok in
    record {
      is = ok;
      read = sym parts.0 ∙ header_in-part file;
      within = subst (λ (h : FileHeader). is_within h.program_headers (56 * h.count) (length file) ≡ true) parts.0
          parts.1;
    }

none-headed : (file : List ℕ) (r : Result FileHeader ElfFault) → unless_refused r ≡ None → headers_by file r ≡ None
none-headed file (Ok h) e = absurd (none-some h (sym e))
none-headed file (Err fault) e = refl

-- ---- the program headers

-- where what was loaded ends
abbrev end_in : Option Loaded → Option ℕ
end_in o = option_map (λ (l : Loaded). l.end) o

-- the program that it is
abbrev program_by : List ℕ → Option Loaded → Option Program
program_by file o = option_map (λ (l : Loaded). record { header = header_in file; pages = length l.pages }) o

by-kind : (file : List ℕ) (l : Loaded) (g : Segment) (b : Bool) (o : Option ElfFault)
    → end_in (loaded_by file l g (if b then segment_if (segment_shown g) o else Ok None))
    ≡ end_by l.end (if b then segment_if (segment_shown g) o else Ok None)
by-kind file l g true None = refl
by-kind file l g b o = refl

-- one program header moves the end as the definitions do
end-moves : (file : List ℕ) (l : Loaded) (at : ℕ)
    → end_in (load_segment file l (segment_at file at)) ≡ end_behind file at l.end
end-moves file l at =
    ap end_in (loads-segment _ l at)
    ∙ rw (segment_at-part file at) (by-kind _ l _ _ _)

some-of : (o : Option Loaded) {end : ℕ} → end_in o ≡ Some end → (l : Loaded) × (o ≡ Some l) × (l.end ≡ end)
some-of None {end} e = absurd (none-some end e)
some-of (Some l) {end} e = (l, refl, same_Some l.end end e)

pub none-of : {A : Type 0} (f : Loaded → A) (o : Option Loaded) → option_map f o ≡ None → o ≡ None
none-of f None e = refl
none-of f (Some l) e = absurd (none-some (f l) (sym e))

-- the first of several program headers, and what is loaded of the rest after it
pub record HasNext (file : List ℕ) (n at : ℕ) (l last : Loaded) : Type 0 where
  pub next : Loaded
  pub loads : load_segment file l (segment_at file at) ≡ Some next
  pub rest : load_segments file n (at + 56) next ≡ Some last

pub has-next : {file : List ℕ} {n at : ℕ} {l last : Loaded} → load_segments file (suc n) at l ≡ Some last
    → HasNext file n at l last
unfolding load_segments
has-next {file} {n} {at} {l} {last} all =
    go (nat_le (at + 56) (length file)) (load_segment file l (segment_at file at)) refl all where
      go : (b : Bool) (o : Option Loaded) → load_segment file l (segment_at file at) ≡ o
          → (if b then option_and_then (λ next. load_segments file n (at + 56) next) o else None) ≡ Some last
          → HasNext file n at l last
      go true (Some next) loads rest = record { next = next; loads = loads; rest = rest }
      go b o loads rest = absurd (none-some last rest)

-- a program header that is within the file with all others
header-within : (at : ℕ) {count i len : ℕ} → is_within at (56 * count) len ≡ true → i < count → at + 56 * i + 56 ≤ len
header-within at within more = grind (arith, nat_tests, within, more)

-- the program headers so far were read
pub record HasLoaded (old now : FileTree) (file : List ℕ) (count at i end : ℕ) : Type 0 where
  pub kept : IsKept old now
  pub loaded : Loaded
  pub ends : loaded.end ≡ end
  pub rest : load_segments file count at nothing_loaded ≡ load_segments file (count - i) (at + 56 * i) loaded

abbrev pub none-loaded : (tree : FileTree) (file : List ℕ) (count at : ℕ) → tree.failed ≡ false
    → HasLoaded tree tree file count at 0 0
none-loaded tree file count at up =
    record {
      kept = kept-none tree up;
      loaded = nothing_loaded;
      ends = refl;
      rest = let n : count - 0 ≡ count = omega arith in let a : at + 56 * 0 ≡ at = omega arith in rw (n, a) refl;
    }

module _ {old now : FileTree} {file : List ℕ} {count at i end : ℕ} (has : HasLoaded old now file count at i end)
    (more : i < count) where
  pub rest-next : load_segments file count at nothing_loaded
      ≡ load_segments file (suc (count - (i + 1))) (at + 56 * i) has.loaded
  rest-next = let left : count - i ≡ suc (count - (i + 1)) = omega (arith, more) in has.rest
      ∙ ap (λ n. load_segments file n (at + 56 * i) has.loaded) left

  module _ (fits : is_within at (56 * count) (length file) ≡ true) where
    pub rest-is : (o : Option Loaded) → load_segment file has.loaded (segment_at file (at + 56 * i)) ≡ o
        → load_segments file count at nothing_loaded
        ≡ option_and_then (λ next. load_segments file (count - (i + 1)) (at + 56 * (i + 1)) next) o
    unfolding load_segments
    rest-is o e =
        let yes : nat_le (at + 56 * i + 56) (length file) ≡ true =
        le-leb (at + 56 * i + 56) (length file) (header-within at fits more) in
        let behind : at + 56 * i + 56 ≡ at + 56 * (i + 1) = omega arith in
        rest-next ∙ rw (yes, e, behind) refl

    -- one more is loaded
    abbrev pub loaded-next : {next : FileTree} {n : ℕ} (l : Loaded) → IsKept old next
        → load_segment file has.loaded (segment_at file (at + 56 * i)) ≡ Some l → l.end ≡ n
        → HasLoaded old next file count at (i + 1) n
    loaded-next l kept loads ends = record { kept = kept; loaded = l; ends = ends; rest = rest-is (Some l) loads }

module _ {old now next : FileTree} {count at i end place : ℕ} {told : Option ℕ} (number : ℕ)
    (has : HasLoaded old now (file_at old.files number) count at i end) (more : i < count) (is : place ≡ at + 56 * i)
    (fits : is_within at (56 * count) (length (file_at old.files number)) ≡ true)
    (serves : Serves now next (Ok told) (Tells now next (end_behind (file_at now.files number) place end))) where
  abbrev bytes : List ℕ
  bytes = file_at old.files number

  kept-next : IsKept old next
  kept-next = kept-more has.kept serves.told.same serves

  moves : end_in (load_segment bytes has.loaded (segment_at bytes (at + 56 * i))) ≡ told
  moves = end-moves _ _ _ ∙ sym (serves.told.value ∙ rw (kept-file has.kept number, is, sym has.ends) refl)

  pub refused-more : told ≡ None
      → Serves old next (Ok None) (λ t. IsRead old next t (end_in (load_segments bytes count at nothing_loaded)))
  refused-more none = read-serves kept-next (sym (ap end_in (rest-is has more fits None (none-of _ _ (moves ∙ none)))))

  pub loaded-more : (n : ℕ) → told ≡ Some n → HasLoaded old next bytes count at (i + 1) n
  loaded-more n some = let loads =
      some-of _ (moves ∙ some) in loaded-next has more fits loads.0 kept-next loads.1 loads.2

-- all of them are
pub all-loads : {old now : FileTree} {file : List ℕ} {count at i end : ℕ} (has : HasLoaded old now file count at i end)
    → count ≤ i → load_segments file count at nothing_loaded ≡ Some has.loaded
unfolding load_segments
all-loads {count = count} {i = i} has all = let none : count - i ≡ 0 = omega (arith, all) in has.rest ∙ rw none refl

pub all-loaded : {old now : FileTree} {file : List ℕ} {count at i end : ℕ} → HasLoaded old now file count at i end
    → count ≤ i
    → Serves old now (Ok (Some end)) (λ t. IsRead old now t (end_in (load_segments file count at nothing_loaded)))
all-loaded has all = read-serves has.kept (sym (ap end_in (all-loads has all) ∙ ap Some has.ends))

-- ---- the pages of what is loaded

abbrev IsWhole : Loaded → Type 0
IsWhole l = length l.pages ≡ ceil_div l.end 4096

pub length-pages : (marks : Perm) (n : ℕ) (front : List ℕ) → length (pages_of marks n front) ≡ n
unfolding pages_of
length-pages marks zero front = refl
length-pages marks (suc n) front = ap suc (length-pages _ n _)

length-segment : (file : List ℕ) (count : ℕ) (g : Segment)
    → length (segment_pages file count g) ≡ g.address / 4096 - count + ceil_div g.size 4096
unfolding segment_pages
length-segment file count g =
    length-append (replicate (g.address / 4096 - count) (zero_page (segment_marks g)))
    (pages_of (segment_marks g) (ceil_div g.size 4096) (slice_range file g.offset (g.offset + g.file_size)))
    ∙ omega (
      arith,
      length-replicate (g.address / 4096 - count) (zero_page (segment_marks g)),
      length-pages (segment_marks g) (ceil_div g.size 4096) (slice_range file g.offset (g.offset + g.file_size)),
    )

pub whole-more : (file : List ℕ) (l : Loaded) (g : Segment) → IsWhole l → g.address % 4096 ≡ 0
    → 4096 * ceil_div l.end 4096 ≤ g.address → IsWhole (with_segment file l g)
whole-more file l g whole aligned after =
    length-append l.pages (segment_pages file (length l.pages) g)
    ∙ omega (arith, length-segment file (length l.pages) g, whole, aligned, after)

-- whole pages stay whole, and no page goes
abbrev pub Grows : Loaded → Loaded → Type 0
Grows l m = (IsWhole l → IsWhole m) × (length l.pages ≤ length m.pages)

pub grows-one : (file : List ℕ) (l : Loaded) {next : Loaded} (g : Segment) → load_segment file l g ≡ Some next
    → Grows l next
grows-one file l {next} g loads = go (g.kind == 1) (may_follow file l.end g) refl loads where
  go : (kind may : Bool) → may_follow file l.end g ≡ may
      → (if kind then (if may then Some (with_segment file l g) else None) else Some l) ≡ Some next → Grows l next
  go true true may is =
      subst (Grows l) (same_Some (with_segment file l g) next is) (
        λ whole. whole-more _ l g whole (grind (arith, nat_tests, may)) (grind (arith, nat_tests, may)),
        omega (arith, length-append l.pages (segment_pages file (length l.pages) g)),
      )
  go true false may is = absurd (none-some next is)
  go false b may is = subst (Grows l) (same_Some l next is) (λ whole. whole, omega arith)

pub grows : (file : List ℕ) (n at : ℕ) (l : Loaded) {last : Loaded} → load_segments file n at l ≡ Some last
    → Grows l last
unfolding load_segments
grows file zero at l {last} is = subst (Grows l) (same_Some l last is) (λ whole. whole, omega arith)
grows file (suc n) at l {last} is =
    let next = has-next is in
    let first = grows-one file l (segment_at file at) next.loads in
    let rest = grows _ n _ _ next.rest in
    (λ whole. rest.0 (first.0 whole), le_trans first.1 rest.1)

-- ---- the program

program-refused : (file : List ℕ) → headed file ≡ None → program_in file ≡ None
program-refused file e = ap (program_by file) (loads-header file ∙ none-headed _ _ e)

module _ (file : List ℕ) (header : FileHeader) (head : headed file ≡ Some header) where
  abbrev loads : Option Loaded
  loads = load_segments file header.count header.program_headers nothing_loaded

  loads-is : loaded_of file ≡ loads
  loads-is = loads-header file ∙ ap (headers_by file) ((is-headed file header head).is)

  segments-refused : end_in loads ≡ None → program_in file ≡ None
  segments-refused none = ap (program_by file) (loads-is ∙ none-of _ loads none)

  program-is : {end pages : ℕ} → end_in loads ≡ Some end → pages ≡ ceil_div end 4096
      → Some (record { header = header; pages = pages }) ≡ program_in file
  program-is {end} {pages} some count =
      let last = some-of loads some in
      let whole : IsWhole last.0 = (grows _ _ _ _ last.1).0 refl in
      let same : pages ≡ length last.0.pages = count ∙ ap (λ n. ceil_div n 4096) (sym last.2) ∙ sym whole in
      ap (λ n. Some (let p : Program = record { header = header; pages = n } in p)) same
      ∙ ap (λ h. Some (let p : Program = record { header = h; pages = length last.0.pages } in p))
      ((is-headed file header head).read)
      ∙ sym (ap (program_by file) (loads-is ∙ last.1))

-- ---- the steps of `read_headers`

module _ {old mid : FileTree} (number : ℕ) {head : Option FileHeader}
    (first : Serves old mid (Ok head) (Tells old mid (headed (file_at old.files number)))) where
  abbrev whole_file : List ℕ
  whole_file = file_at old.files number

  pub head-kept : IsKept old mid
  head-kept = kept-one first.told.same first

  -- the header is refused
  pub head-refused : head ≡ None → Serves old mid (Ok None) (TellsProgram old mid (program_in whole_file))
  head-refused none = program-serves head-kept (sym (program-refused whole_file (sym first.told.value ∙ none))) tt

  module _ {header : FileHeader} (some : head ≡ Some header) where
    headed-is : headed whole_file ≡ Some header
    headed-is = sym first.told.value ∙ some

    -- its program headers are in the file
    pub header-fits : {len : ℕ} → len ≡ length whole_file
        → is_within header.program_headers (56 * header.count) len ≡ true
    header-fits long = ap (is_within header.program_headers (56 * header.count)) long
        ∙ (is-headed whole_file header headed-is).within

    module _ {new : FileTree} {told : Option ℕ}
        (second : Serves mid new (Ok told) (Tells mid new (end_of (file_at mid.files number) header))) where
      ends-is : end_of whole_file header ≡ told
      ends-is = sym (second.told.value ∙ ap (λ file. end_of file header) (kept-file head-kept _))

      kept-both : IsKept old new
      kept-both = kept-more head-kept second.told.same second

      -- a segment is refused
      pub ends-refused : told ≡ None → Serves old new (Ok None) (TellsProgram old new (program_in whole_file))
      ends-refused none = program-serves kept-both
          (sym (segments-refused whole_file header headed-is (ends-is ∙ none))) tt

      pub program-told : {end : ℕ} (pages : ℕ) → told ≡ Some end → end < 2 ^ 64 → pages ≡ ceil_div end 4096
          → Serves old new (Ok (Some (record { header = header; pages = pages })))
          (TellsProgram old new (program_in whole_file))
      program-told {end} pages at fits count =
          program-serves kept-both (program-is whole_file header headed-is (ends-is ∙ at) count)
          (omega (arith, count, fits))

-- ---- the steps of `read_program`

-- a node that is no file
no-file : (s : InodeStat) {o : Option Node} (node : Node) → o ≡ Some node → telling.Tells s node → s.kind ≢ 2
    → file_bytes o ≡ None
no-file s (File links held) here tells other = absurd (other tells.0)
no-file s node here tells other = ap file_bytes here

is-file : (s : InodeStat) {files : Files} {n : ℕ} (node : Node) → slot files n ≡ Some node → telling.Tells s node
    → s.kind ≡ 2 → IsFile files n × (s.size ≡ length (file_at files n))
    × (file_bytes (slot files n) ≡ Some (file_at files n))
is-file s (File links held) here tells kind = (
  record { links = links; bytes = held; here = here },
  tells.2
      ∙ ap (λ o. length (bytes_or_none o)) (sym here),
  ap file_bytes here
      ∙ ap (λ o. Some (bytes_or_none o)) (sym here),
)
is-file s node here tells kind = absurd (omega (arith, tells.0, kind))

module _ {old mid : FileTree} (number : ℕ) {s : InodeStat} (node : (n : Node) × (slot old.files number ≡ Some n))
    (first : Serves old mid (Ok s) (HasSeen old mid number)) where
  seen-kept : IsKept old mid
  seen-kept = kept-one first.told.0 first

  pub other-refused : s.kind ≢ 2
      → Serves old mid (Ok None)
      (TellsProgram old mid (option_and_then program_in (file_bytes (slot old.files number))))
  other-refused other = program-serves seen-kept
      (sym (ap (option_and_then program_in) (no-file s node.0 node.1 (first.told.1 node.0 node.1) other))) tt

  module _ (kind : s.kind ≡ 2) where
    was : IsFile old.files number × (s.size ≡ length (file_at old.files number))
        × (file_bytes (slot old.files number) ≡ Some (file_at old.files number))
    was = is-file s node.0 node.1 (first.told.1 node.0 node.1) kind

    pub file-stands : IsFile mid.files number
    file-stands = kept-is-file seen-kept was.0

    pub file-long : s.size ≡ length (file_at mid.files number)
    file-long = was.1 ∙ ap length (sym (kept-file seen-kept _))

    pub program-served : {new : FileTree} (r : Result (Option Program) DeviceFault)
        → Serves mid new r (TellsProgram mid new (program_in (file_at mid.files number)))
        → Serves old new r (TellsProgram old new (option_and_then program_in (file_bytes (slot old.files number))))
    program-served (Ok told) second =
        program-serves (kept-more seen-kept second.told.0.same second)
        (second.told.0.value ∙ ap program_in (kept-file seen-kept _) ∙ sym (ap (option_and_then program_in) was.2))
        second.told.1
    program-served (Err fault) second = lost-then seen-kept second
