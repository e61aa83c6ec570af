-- The program headers of a file, as their segments are loaded.
use Rattle.programs.proofs.Common.{◌%◌, ◌&&◌, ◌*◌, ◌+◌, ◌++◌, ◌-◌, ◌<◌, ◌^◌, ap, arith, Bool, drop, Err, false, length}
use Rattle.std.specs.Result.{is_ok}
use Rattle.programs.proofs.Common.{List, None, Ok, Option, refl, Result, Some, subst, sym, take, true, ℕ, ◌∙◌, ◌≡◌, ◌≤◌}
use Rattle.programs.proofs.Common.{nat_tests, none-some, same_Some, ◌==◌, if◌then◌else◌, nat_le, nat_lt, not, loaded_by}
use Rattle.programs.proofs.Common.{loads-segment, segment_at-part, is_within, segment_if, segment_shown, wrong}
use Rattle.programs.proofs.Common.{ElfFault, Align, Overlap, Short, Sizes, LoadSegment, self-held, has_space, no_pages}
use Rattle.programs.proofs.Common.{Spaces, SpaceView, view_at, with_view, FileTree, Serves, Memory, ceil_div}
use Rattle.programs.proofs.Common.{load_segment, Loaded, nothing_loaded, with_segment, load_segments, segment_at}
use Rattle.programs.proofs.Common.{segment_pages, file_at, segment_behind, Follows, HasRoom, IsPaged, Leaves}
use Rattle.programs.proofs.Common.{LoadsSegment, next_in, paged}
use Rattle.programs.proofs.Headings.{HasLoaded, HasNext, all-loads, grows, grows-one, has-next, loaded-next}
use Rattle.programs.proofs.Headings.{none-loaded, rest-next, whole-more}
use Rattle.programs.proofs.Reading.{IsKept, kept-file, kept-more}
use Rattle.programs.proofs.Places.{has-held, held-twice, is-held, paged-held, room-held}

-- ---- a segment that isn't refused

all-right : (a b c d e : Bool)
    → (if not (a && b) then Some Sizes else if not c then Some Align else if d then Some Overlap else if not e
    then Some Short else None) ≡ None → (a ≡ true) × (b ≡ true) × (c ≡ true) × (d ≡ false) × (e ≡ true)
all-right true true true false true is = (refl, refl, refl, refl, refl)
all-right a b c d e is = absurd (cc)

follows-right : (g : LoadSegment) (end len count : ℕ) → wrong g end len ≡ None → count ≡ ceil_div end 4096
    → Follows len count g
follows-right g end len count right is =
    let tests = all-right (nat_le g.file_size g.size) (nat_lt (g.address + g.size) (2 ^ 64)) (g.address % 4096 == 0)
    (nat_lt g.address end) (is_within g.offset g.file_size len) right in
    let aligned : g.address % 4096 ≡ 0 = grind (arith, nat_tests, tests.2) in
    let over : end ≤ g.address = grind (arith, nat_tests, tests.3) in
    record {
      less = grind (arith, nat_tests, tests.0);
      ends = grind (arith, nat_tests, tests.1);
      aligned = aligned;
      after = omega (arith, aligned, over, is);
      within = tests.4;
    }

taken-of : (b : Bool) {shown : LoadSegment} (g : LoadSegment) (o : Option ElfFault)
    → (if b then segment_if shown o else Ok None) ≡ Ok (Some g) → (shown ≡ g) × (o ≡ None)
taken-of true g None is = (cc, refl)
taken-of b g o is = absurd (cc)

-- what is loaded next, by a segment that isn't refused
pub record IsNext (file : List ℕ) (place : ℕ) (h : SpaceView) (end : ℕ) (g : LoadSegment) (next : Loaded) : Type 0 where
  pub shown : g ≡ segment_shown (segment_at file place)
  pub is : next ≡ with_segment file (record { pages = h.memory; end = end }) (segment_at file place)
  pub follows : Follows (length file) (length h.memory) g
  pub count : length next.pages ≡ ceil_div (g.address + g.size) 4096

module _ (file : List ℕ) (place : ℕ) (h : SpaceView) (end : ℕ) {told : Result (Option LoadSegment) ElfFault}
    (read : told ≡ segment_behind file place end) (next : Loaded) (some : next_in file place h end ≡ Some next) where
  abbrev here : Loaded
  here = record { pages = h.memory; end = end }

  next-by : {r : Result (Option LoadSegment) ElfFault} → told ≡ r
      → loaded_by file here (segment_at file place) r ≡ Some next
  next-by is = ap (loaded_by file here (segment_at file place)) (sym is ∙ read) ∙ sym (loads-segment _ _ _) ∙ some

  pub never-refused : is_ok told ≡ true
  never-refused = go told refl where
    go : (r : Result (Option LoadSegment) ElfFault) → told ≡ r → is_ok r ≡ true
    go (Ok o) is = refl
    go (Err fault) is = absurd (none-some next (next-by is))

  -- it is skipped
  pub skipped-next : {o : Option LoadSegment} → told ≡ Ok o → o ≡ None → here ≡ next
  skipped-next ok none = same_Some here next (next-by (ok ∙ ap Ok none))

  pub is-next : {o : Option LoadSegment} {g : LoadSegment} → told ≡ Ok o → o ≡ Some g
      → length h.memory ≡ ceil_div end 4096 → IsNext file place h end g next
  is-next {g = g} ok there whole =
      let is : told ≡ Ok (Some g) = ok ∙ ap Ok there in
      let part = take 56 (drop place file) in
      let parts = taken-of ((segment_at part 0).kind == 1) {shown = segment_shown (segment_at part 0)} g
      (wrong (segment_shown (segment_at part 0)) end (length file)) (sym read ∙ is) in
      let shown : g ≡ segment_shown (segment_at file place) = sym parts.0
      ∙ ap segment_shown (segment_at-part file place) in
      let follows = follows-right g end (length file) (length h.memory)
      (ap (λ (x : LoadSegment). wrong x end (length file)) (sym parts.0) ∙ parts.1) whole in
      let made : next ≡ with_segment file here (segment_at file place) =
      sym (same_Some (with_segment file here (segment_at file place)) next (next-by {r = Ok (Some g)} is)) in
      let stands : Follows (length file) (length h.memory) (segment_shown (segment_at file place)) =
      subst (Follows (length file) (length h.memory)) shown follows in
      record {
        shown = shown;
        is = made;
        follows = follows;
        count = ap (λ (l : Loaded). length l.pages) made
            ∙ whole-more file here (segment_at file place) whole stands.aligned
            (subst (λ n. 4096 * n ≤ (segment_at file place).address) whole stands.after)
            ∙ ap (λ (x : LoadSegment). ceil_div (x.address + x.size) 4096) (sym shown);
      }

-- ---- what `load_next` reads

module _ {old mid : FileTree} (s : Spaces) (at number place end : ℕ) (kept : IsKept old mid) (next : Loaded) where
  -- nothing is loaded
  pub nothing-more : has_space s at ≡ true → IsPaged (view_at s at)
      → ◌≡◌ {A = Loaded} (record { pages = (view_at s at).memory; end = end }) next
      → (end ≡ next.end) × (s ≡ with_view s at (paged next.pages))
  nothing-more has paged-so is = (
    ap (λ (l : Loaded). l.end) is,
    self-held s at has
        ∙ ap (λ n. with_view s at (let h : SpaceView = record { memory = (view_at s at).memory; size = n } in h))
        paged-so
        ∙ ap (λ (l : Loaded). with_view s at (paged l.pages)) is,
  )

  module _ {g : LoadSegment} (is : IsNext (file_at old.files number) place (view_at s at) end g next) where
    -- it may be loaded
    pub fits-next : length next.pages < 2 ^ 32 → HasRoom s at (length next.pages)
        → Follows (length (file_at mid.files number)) (length (view_at s at).memory) g
        × (ceil_div (g.address + g.size) 4096 < 2 ^ 32) × HasRoom s at (ceil_div (g.address + g.size) 4096)
    fits-next few room = rw (kept-file kept number, sym is.count) (is.follows, few, room)

    pub segment-next : {new : Spaces} → LoadsSegment (file_at mid.files number) s new at g
        → (g.address + g.size ≡ next.end) × (new ≡ with_view s at (paged next.pages))
    segment-next put = (
      ap (λ (x : LoadSegment). x.address + x.size) is.shown ∙ ap (λ (l : Loaded). l.end) (sym is.is),
      put (segment_at (file_at old.files number) place) is.shown
          ∙ ap (λ file. with_view s
          at (paged ((view_at s at).memory
          ++ segment_pages file (length (view_at s at).memory) (segment_at (file_at old.files number) place))))
          (kept-file kept _)
          ∙ ap (λ (l : Loaded). with_view s at (paged l.pages)) (sym is.is),
    )

-- ---- all of them

-- a file has each of its program headers
header-fits : (place : ℕ) {count len i : ℕ} → is_within place (56 * count) len ≡ true → i < count
    → place + 56 * i + 56 ≤ len
header-fits place fits more = grind (arith, nat_tests, fits, more)

-- the program headers so far are loaded
pub record IsLoading (old now : FileTree) (before after : Spaces) (at number count place i end : ℕ) : Type 0 where
  pub loads : HasLoaded old now (file_at old.files number) count place i end
  pub pages : after ≡ with_view before at (paged loads.loaded.pages)
  pub whole : length loads.loaded.pages ≡ ceil_div end 4096

pub none-loading : {tree : FileTree} {s : Spaces} {at : ℕ} (number count place : ℕ) → tree.failed ≡ false
    → has_space s at ≡ true → view_at s at ≡ no_pages → IsLoading tree tree s s at number count place 0 0
none-loading {tree} {s} {at} number count place up has empty = record {
  loads = none-loaded tree (file_at tree.files number) count place up;
  pages = self-held s at has ∙ ap (λ (h : SpaceView). with_view s at h) empty;
  whole = refl;
}

-- what all of them load, for which there is room
abbrev pub Last : Spaces → ℕ → List ℕ → ℕ → ℕ → Type 0
Last s at file count place = (last : Loaded) × (load_segments file count place nothing_loaded ≡ Some last)
    × (length last.pages < 2 ^ 32) × HasRoom s at (length last.pages)

same-loaded : {p p' : Memory} {e e' : ℕ} → p ≡ p' → e ≡ e'
    → ◌≡◌ {A = Loaded} (record { pages = p; end = e }) (record { pages = p'; end = e' })
same-loaded p q = λ i. record { pages = p i; end = q i }

module _ {old now : FileTree} {before after : Spaces} {at number count place i end : ℕ}
    (has : IsLoading old now before after at number count place i end) (space : has_space before at ≡ true) where
  abbrev file : List ℕ
  file = file_at old.files number

  held-now : view_at after at ≡ paged has.loads.loaded.pages
  held-now = is-held _ at has.pages space

  pub file-long : {len : ℕ} → len ≡ length file → len ≡ length (file_at now.files number)
  file-long is = is ∙ ap length (sym (kept-file has.loads.kept _))

  pub has-now : has_space after at ≡ true
  has-now = has-held _ at _ has.pages space

  pub paged-now : IsPaged (view_at after at)
  paged-now = paged-held _ at _ has.pages space

  pub whole-now : length (view_at after at).memory ≡ ceil_div end 4096
  whole-now = ap (λ (h : SpaceView). length h.memory) held-now ∙ has.whole

  pub loading-all : count ≤ i → {last : Loaded} → load_segments file count place nothing_loaded ≡ Some last
      → after ≡ with_view before at (paged last.pages)
  loading-all all {last} is = has.pages
      ∙ ap (λ (l : Loaded). with_view before at (paged l.pages))
      (same_Some has.loads.loaded last (sym (all-loads has.loads all) ∙ is))

  module _ (more : i < count) (fits : is_within place (56 * count) (length file) ≡ true)
      (last : Last before at file count place) where
    then-next : HasNext file (count - (i + 1)) (place + 56 * i) has.loads.loaded last.0
    then-next = has-next (sym (rest-next has.loads more) ∙ last.1)

    next-is : {p : ℕ} → p ≡ place + 56 * i
        → next_in (file_at now.files number) p (view_at after at) end ≡ Some then-next.next
    next-is is =
        let here = same-loaded (ap (λ (h : SpaceView). h.memory) held-now) (sym has.loads.ends) in
        rw (kept-file has.loads.kept number, is)
        (ap (λ l. load_segment file l (segment_at file (place + 56 * i))) here ∙ then-next.loads)

    pub within-now : {p : ℕ} → p ≡ place + 56 * i → p + 56 ≤ length (file_at now.files number)
    within-now is =
        let same = ap length (kept-file has.loads.kept number) in
        omega (arith, header-fits place fits more, is, same)

    pub next-now : {p : ℕ} → p ≡ place + 56 * i
        → (next : Loaded) × (next_in (file_at now.files number) p (view_at after at) end ≡ Some next)
        × (length next.pages < 2 ^ 32) × HasRoom after at (length next.pages)
    next-now is =
        let low = (grows _ _ _ _ then-next.rest).1 in
        (then-next.next, next-is is, omega (arith, low, last.2), room-held _ at _ has.pages low last.3)

    pub loading-more : {next : FileTree} {put : Spaces} {told p : ℕ} → p ≡ place + 56 * i
        → Serves now next (Ok told) (Leaves now next)
        → ((l : Loaded) → next_in (file_at now.files number) p (view_at after at) end ≡ Some l
        → (told ≡ l.end) × (put ≡ with_view after at (paged l.pages)))
        → IsLoading old next before put at number count place (i + 1) told
    loading-more is serves loaded =
        let next = then-next.next in
        let done = loaded next (next-is is) in
        let whole = (grows-one file has.loads.loaded (segment_at file (place + 56 * i)) then-next.loads).0
        (has.whole ∙ ap (λ n. ceil_div n 4096) (sym has.loads.ends)) in
        record {
          loads = loaded-next has.loads more fits next (kept-more has.loads.kept serves.told serves) then-next.loads
              (sym done.0);
          pages = done.1 ∙ ap (λ (s : Spaces). with_view s at (paged next.pages)) has.pages ∙ held-twice _ at _ _;
          whole = whole ∙ ap (λ n. ceil_div n 4096) (sym done.0);
        }
