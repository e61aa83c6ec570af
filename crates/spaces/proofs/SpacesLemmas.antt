-- Lemmas on the values of address spaces.
use Rattle.spaces.proofs.Common.{Space, Pipe, ◌≡◌, ◌≢◌, ℕ, zero, suc, ◌+◌, ◌-◌, ◌<◌, ◌≤◌, true, false, List, [], ◌∷◌}
use Rattle.spaces.proofs.Common.{◌++◌, length, length-set, get_or, map, replicate, slice_set, take, Option, Some, None}
use Rattle.spaces.proofs.Common.{refl, sym, ap, ◌∙◌, arith, append-nil, get_or-set_other, get_or-set_same, refill}
use Rattle.spaces.proofs.Common.{is_some, sum_by, unwrap_or, length-map, take_all, sum_by-cons, SpaceView, Spaces}
use Rattle.spaces.proofs.Common.{forked, frames_in, grown, has_space, view_at, no_pages, shrunk, taken_frames}
use Rattle.spaces.proofs.Common.{with_view, with_pipe, with_place, page_frames, slot, taken, Memory, shared_page}
use Rattle.spaces.proofs.Common.{zero_page, ceil_div, ◌%◌, ◌/◌, drop, Err, subst, take-append-drop, length-append}
use Rattle.spaces.proofs.Common.{IfNone, IfSome, Advances, Does, Traps, computed, cycle, Trap, Change, Computed, Bytes}
use Rattle.spaces.proofs.Common.{Nothing, Page, write_bytes, write_from, memory_after, Executes, All, if◌then◌else◌}
use Rattle.spaces.proofs.Common.{nat_le, option_map, Bool, before_nul, path_at, reach, short_path, string_at, Load}
use Rattle.spaces.proofs.Common.{short_string, string_in, Result, Ok, OnFalse, OnTrue, ◌↔◌, IsErrOf, OnErr, OnOk, is_ok}
use Rattle.spaces.proofs.Common.{VmFault, cases_lt, inl, inr, EndsAt, IsBehind, IsPast, is_stop}
use Rattle.arrayvec.proofs.ArrayVecLemmas.{items-with_items}
use Rattle.unixmodel.specs.Plan.{stack_marks}
use Rattle.unixmodel.specs.ProcessCalls.{with_pages}
use Rattle.std.proofs.lemmas.List.Elements.{All-cons, All-nil}
use Rattle.vm.specs.declared.VmFault.TheVariants.{BadAddress}

-- the slots for pipes
abbrev pub Pipes : Type 0
Pipes = List (Option Pipe)

-- the slots for spaces
abbrev pub Places : Type 0
Places = List (Option Space)

pub within : {X : Type 0} (xs : List (Option X)) (i : ℕ) (x : X) → get_or xs i None ≡ Some x → i < length xs
within [] i x e = absurd (cc)
within (y ∷ xs) zero x e = omega arith
within (y ∷ xs) (suc i) x e = let h = within xs i x e in omega (arith, h)

-- a write of one slot through the slice of all
pub refilled : {X : Type 0} {xs ys : List (Option X)} {y z : Option X} (at : ℕ) → ys ≡ xs → z ≡ y
    → refill (length xs) xs (slice_set ys at z) ≡ slice_set xs at y
refilled {xs = xs} {ys} {z = z} at same new =
    items-with_items (record { items = xs }) (slice_set ys at z) (length-set ys at z ∙ ap length same)
    ∙ ap (λ l. slice_set l at z) same
    ∙ ap (slice_set xs at) new

-- what slots show where all of them, or all except one, show what they showed
pub map-same : {X Y : Type 0} (g h : Option X → Option Y) (xs : List (Option X))
    → ((j : ℕ) → h (get_or xs j None) ≡ g (get_or xs j None)) → map h xs ≡ map g xs
map-same g h [] same = refl
map-same g h (x ∷ xs) same = ap (λ o. o ∷ map h xs) (same 0) ∙ ap (λ l. g x ∷ l) (map-same g h xs (λ j. same (suc j)))

pub map-placed : {X Y : Type 0} (g h : Option X → Option Y) (xs : List (Option X)) (i : ℕ) (y : Option X)
    → ((j : ℕ) → j ≢ i → h (get_or xs j None) ≡ g (get_or xs j None))
    → map h (slice_set xs i y) ≡ slice_set (map g xs) i (h y)
map-placed g h [] i y same = refl
map-placed g h (x ∷ xs) zero y same = ap (λ l. h y ∷ l) (map-same g h xs (λ j. same (suc j) (omega arith)))
map-placed g h (x ∷ xs) (suc i) y same =
    ap (λ o. o ∷ map h (slice_set xs i y)) (same 0 (omega arith))
    ∙ ap (λ l. g x ∷ l) (map-placed g h xs i y (λ j ne. same (suc j) (λ e. ne (omega (arith, e)))))

pub none-of : {X : Type 0} (o : Option X) → is_some o ≡ false → o ≡ None
none-of None e = refl
none-of (Some x) e = absurd (cc)

pub place-free : (s : Spaces) (at : ℕ) → has_space s at ≡ false → slot s.places at ≡ None
place-free s at free = none-of (slot s.places at) free

sum-placed : (xs : List (Option SpaceView)) (i : ℕ) (y : Option SpaceView) → i < length xs
    → sum_by frames_in (slice_set xs i y) + frames_in (get_or xs i None) ≡ sum_by frames_in xs + frames_in y
sum-placed [] i y h = absurd (omega (arith, h))
sum-placed (x ∷ xs) zero y h = omega (arith, sum_by-cons frames_in y xs, sum_by-cons frames_in x xs)
sum-placed (x ∷ xs) (suc i) y h =
    omega (
      arith,
      sum_by-cons frames_in x (slice_set xs i y),
      sum_by-cons frames_in x xs,
      sum-placed xs i y (omega (arith, h)),
    )

-- all slots take more frames by what one of them takes more
pub taken-placed : (s : Spaces) (at : ℕ) (y : Option SpaceView) → at < length s.places
    → taken_frames (with_place s at y) + frames_in (slot s.places at) ≡ taken_frames s + frames_in y
taken-placed s at y h = omega (arith, sum-placed s.places at y h)

-- a fork takes as many frames as a slot with the same pages does
pub taken-forked : (s : Spaces) (from to : ℕ) (h : SpaceView) → slot s.places from ≡ Some h → has_space s to ≡ false
    → to < length s.places → taken_frames (with_view (with_view s from (forked h)) to (forked h))
    ≡ taken_frames (with_view s to h)
taken-forked s from to h at free low =
    let none = place-free s to free in
    let apart : to ≢ from = λ (e : to ≡ from). let bad : None ≡ Some h = sym none ∙ ap (slot s.places) e ∙ at in cc in
    let same : frames_in (Some (forked h)) ≡ frames_in (Some h) =
    ap (λ n. 4 + page_frames n) (length-map h.memory shared_page) in
    let middle = with_view s from (forked h) in
    omega (
      arith,
      same,
      taken-placed s from (Some (forked h)) (within s.places from h at),
      ap frames_in at,
      taken-placed middle to (Some (forked h)) (omega (arith, low, length-set s.places from (Some (forked h)))),
      ap frames_in (get_or-set_other s.places from to (Some (forked h)) None apart ∙ none),
      taken-placed s to (Some h) low,
      ap frames_in none,
    )

-- ---- a slot after a change of one

pub held-same : (s : Spaces) (at : ℕ) (h : SpaceView) → at < length s.places → view_at (with_view s at h) at ≡ h
held-same s at h within = ap (λ o. unwrap_or o no_pages) (get_or-set_same s.places at (Some h) None within)

-- ---- other sizes, as the abstract Unix has them

grown-pages : (mem : Memory) (n more : ℕ) → length mem ≡ n → n ≤ more
    → mem ++ replicate (more - n) (zero_page (stack_marks true)) ≡ with_pages mem more
unfolding with_pages
grown-pages mem n more is less = rw (take_all more mem (omega (arith, is)), is) refl

shrunk-pages : (mem : Memory) (fewer : ℕ) → fewer ≤ length mem → take fewer mem ≡ with_pages mem fewer
unfolding with_pages
shrunk-pages mem fewer less =
    let none : fewer - length mem ≡ 0 = omega arith in
    rw none (sym (append-nil (take fewer mem)))

-- what `pages` says of a space, `whole`, is what both ask
pub grown-with_pages : (h : SpaceView) (bytes : ℕ) → length h.memory ≡ ceil_div h.size 4096
    → (grown h bytes (stack_marks true)).memory ≡ with_pages h.memory (ceil_div (h.size + bytes) 4096)
grown-with_pages h bytes whole =
    grown-pages h.memory (ceil_div h.size 4096) (ceil_div (h.size + bytes) 4096) whole (omega arith)

pub shrunk-with_pages : (h : SpaceView) (bytes : ℕ) → length h.memory ≡ ceil_div h.size 4096
    → (shrunk h bytes).memory ≡ with_pages h.memory (ceil_div (h.size - bytes) 4096)
shrunk-with_pages h bytes whole = shrunk-pages h.memory (ceil_div (h.size - bytes) 4096) (omega (arith, whole))

-- ---- pipes

taken-put : {X : Type 0} (xs : List (Option X)) (i : ℕ) (x : X) → i < length xs → get_or xs i None ≡ None
    → length (taken (slice_set xs i (Some x))) ≡ length (taken xs) + 1
taken-put [] i x h none = absurd (omega (arith, h))
taken-put (o ∷ xs) zero x h none = rw none (omega arith)
taken-put (None ∷ xs) (suc i) x h none = taken-put xs i x (omega (arith, h)) none
taken-put (Some y ∷ xs) (suc i) x h none = omega (arith, taken-put xs i x (omega (arith, h)) none)

-- a new pipe takes a frame
pub taken-piped : (s : Spaces) (q : ℕ) (bytes : List ℕ) → q < length s.pipes → slot s.pipes q ≡ None
    → taken_frames (with_pipe s q (Some bytes)) ≡ taken_frames s + 1
taken-piped s q bytes h none = omega (arith, taken-put s.pipes q bytes h none)

pub some-pipe : (o : Option (List ℕ)) → is_some o ≡ true → o ≡ Some (unwrap_or o [])
some-pipe None e = absurd (cc)
some-pipe (Some bytes) e = refl

-- ---- instructions, one after the other

pub advances-none : (stops : List ℕ) (s : Spaces) (at : ℕ) → Advances stops 0 s at s
unfolding Advances
advances-none stops s at = refl

pub advances-same : (stops : List ℕ) (s : Spaces) (at : ℕ) (new : Spaces) → Advances stops 0 s at new → new ≡ s
unfolding Advances
advances-same stops s at new same = same

pub advances-more : (stops : List ℕ) (n : ℕ) (old mid new : Spaces) (at : ℕ) → Advances stops n old at mid
    → Does mid at new → IsPast stops n mid.pc → Advances stops (suc n) old at new
unfolding Advances
advances-more stops n old mid new at first does past = (mid, first, does, past)

pub advances-last : (stops : List ℕ) (n : ℕ) (old new : Spaces) (at : ℕ) → Advances stops (suc n) old at new
    → (mid : Spaces) × Advances stops n old at mid × Does mid at new × IsPast stops n mid.pc
unfolding Advances
advances-last stops n old new at all = all

-- for the process of the active slot
abbrev pub AdvancesTo : List ℕ → ℕ → Option ℕ → Spaces → Spaces → Type 0
AdvancesTo stops n o old now = IfSome o (λ at. Advances stops n old at now)

pub begins : (stops : List ℕ) (s : Spaces) (o : Option ℕ) → AdvancesTo stops 0 o s s
begins stops s None = tt
begins stops s (Some at) = advances-none stops s at

-- one more instruction
pub goes-on : (stops : List ℕ) (n : ℕ) (old mid new : Spaces) (o : Option ℕ) (result : Option Trap) → is_some o ≡ true
    → mid.active ≡ o → AdvancesTo stops n o old mid → IsPast stops n mid.pc → result ≡ None
    → IfNone result (IfSome mid.active (Executes mid new)) → (new.active ≡ o) × AdvancesTo stops (n + 1) o old new
goes-on stops n old mid new o (Some t) some active first past none done = absurd (cc)
goes-on stops n old mid new None None some active first past none done = absurd (cc)
goes-on stops n old mid new (Some at) None some active first past none done =
    let one : suc n ≡ n + 1 = omega arith in
    let does = subst (λ (a : Option ℕ). IfSome a (Executes mid new)) active done in
    let all = advances-more stops n old mid new
    at first (record { done = does.0; means = does.1; leaves = does.2 }) past in
    (ap (λ (s : Spaces). s.active) does.2 ∙ active, subst (λ (k : ℕ). Advances stops k old at new) one all)

-- ---- the frames

length-from : (ps : List Page) (at : ℕ) (new : List ℕ) → length (write_from ps at new) ≡ length ps
length-from [] at new = refl
length-from (p ∷ ps) at [] = refl
length-from (p ∷ ps) at (b ∷ bs) = ap suc (length-from ps 0 (drop (4096 - at) (b ∷ bs)))

length-write : (mem : Memory) (at : ℕ) (new : List ℕ) → length (write_bytes mem at new) ≡ length mem
unfolding write_bytes
length-write mem at new =
    let k = at / 4096 in
    length-append (take k mem) (write_from (drop k mem) (at % 4096) new)
    ∙ ap (λ (n : ℕ). length (take k mem) + n) (length-from (drop k mem) (at % 4096) new)
    ∙ sym (length-append (take k mem) (drop k mem))
    ∙ ap length (take-append-drop k mem)

length-after : (mem : Memory) (c : Change) → length (memory_after mem c) ≡ length mem
length-after mem Nothing = refl
length-after mem (Bytes address bytes) = length-write mem address bytes

-- an instruction takes no frame
pub computed-frames : (s : Spaces) (at : ℕ) (d : Computed) (h : SpaceView) → slot s.places at ≡ Some h
    → taken_frames (computed s at d) ≡ taken_frames s
computed-frames s at d h there =
    let new : SpaceView = record (view_at s at) { memory = memory_after (view_at s at).memory d.change } in
    let seen : view_at s at ≡ h = ap (λ o. unwrap_or o no_pages) there in
    let same : frames_in (slot s.places at) ≡ frames_in (Some new) =
    ap frames_in there ∙ ap (λ (x : SpaceView). 4 + page_frames (length x.memory)) (sym seen)
    ∙ sym (ap (λ (n : ℕ). 4 + page_frames n) (length-after (view_at s at).memory d.change)) in
    omega (
      arith,
      taken-placed (record s { registers = d.regs; pc = d.pc }) at (Some new) (within s.places at h there),
      same,
    )

-- ---- a run after a run

-- after a run of a instructions and one of b
past-sum : (stops : List ℕ) (a b : ℕ) (mid new : Spaces) (at : ℕ) → Advances stops b mid at new → IsPast stops a mid.pc
    → IsPast stops b new.pc → IsPast stops (a + b) new.pc
past-sum stops a b mid new at all before past more = elim (cases_lt 0 b) [
  | inl some ↦ past some
  | inr least ↦
      let none : b ≡ 0 = omega (arith, least) in
      let same = advances-same stops mid at new (subst (λ n. Advances stops n mid at new) none all) in
      rw same (before (omega (arith, more, none)))
]

advances-sum : (stops : List ℕ) (a b c : ℕ) (old mid new : Spaces) (at : ℕ) → a + b ≡ c → IsPast stops a mid.pc
    → Advances stops a old at mid → Advances stops b mid at new → Advances stops c old at new
unfolding Advances
advances-sum stops a zero c old mid new at sum past first same =
    let all : a ≡ c = omega (arith, sum) in
    rw (same, ← all) first
advances-sum stops a (suc b) c old mid new at sum past first (last, before, does, behind) =
    let all : suc (a + b) ≡ c = omega (arith, sum) in
    rw (← all) (
      last,
      advances-sum stops a b (a + b) old mid last at refl past first before,
      does,
      past-sum stops a b mid last at before past behind,
    )

-- after a run the pc is at no stop
pub behind-past : (stops : List ℕ) {done old new : ℕ} → IsBehind stops done old new → IsPast stops done new
behind-past stops (inl go) more = go.1
behind-past stops (inr none) more = absurd (let e = none.0 in omega (arith, e, more))

pub still-past : (stops : List ℕ) {done old new : ℕ} → is_stop stops old ≡ false → IsBehind stops done old new
    → is_stop stops new ≡ false
still-past stops not (inl go) = go.1
still-past stops not (inr none) = rw none.1 not

pub advances-on : (stops : List ℕ) (a b c : ℕ) (o : Option ℕ) (old mid new : Spaces) → a + b ≡ c → mid.active ≡ o
    → IsPast stops a mid.pc → AdvancesTo stops a o old mid → AdvancesTo stops b mid.active mid new
    → AdvancesTo stops c o old new
advances-on stops a b c None old mid new sum active past first last = tt
advances-on stops a b c (Some at) old mid new sum active past first last =
    let there = subst (λ (o : Option ℕ). AdvancesTo stops b o mid new) active last in
    advances-sum stops a b c old mid new at sum past first there

-- a trap: no further instruction is done
pub stops-at : (stops : List ℕ) (n : ℕ) (o : Option ℕ) (old mid new : Spaces) (t : Trap) → is_some o ≡ true
    → mid.active ≡ o → AdvancesTo stops n o old mid → IfSome mid.active (λ at. Traps mid new at t)
    → AdvancesTo stops n o old new × IfSome o (λ at. cycle new.registers new.pc (view_at new at).memory ≡ Err t)
stops-at stops n None old mid new t some active first traps = absurd (cc)
stops-at stops n (Some at) old mid new t some active first traps =
    let here = subst (λ (o : Option ℕ). IfSome o (λ at. Traps mid new at t)) active traps in
    rw here.1 (first, here.0)

-- ---- how a run ended

-- how the rest of a run ended is how all of it ended
pub ends-behind : (stops : List ℕ) (done more count pc : ℕ) → done ≤ count → EndsAt stops (count - done) more pc
    → EndsAt stops count (done + more) pc
ends-behind stops done more count pc within (inl all) = inl (omega (arith, within, all))
ends-behind stops done more count pc within (inr at) = inr (let some = at.0 in omega (arith, some), at.1)

pub all-behind : (stops : List ℕ) (o : Option Trap) (done more count pc : ℕ) → done ≤ count
    → IfNone o (EndsAt stops (count - done) more pc) → IfNone o (EndsAt stops count (done + more) pc)
all-behind stops None done more count pc within all = ends-behind stops done more count pc within all
all-behind stops (Some t) done more count pc within all = tt

pub trap-behind : (o : Option Trap) (done more count : ℕ) (a b : Option ℕ) (P : Trap → ℕ → Type 0) → b ≡ a
    → IfSome o (λ t. (more < count - done) × IfSome b (P t)) → IfSome o (λ t. (done + more < count) × IfSome a (P t))
trap-behind None done more count a b P same traps = tt
trap-behind (Some t) done more count a b P same traps = let few =
    traps.0 in (omega (arith, few), subst (λ o. IfSome o (P t)) same traps.1)

-- ---- a copied string has no 0

-- no byte of it is 0
abbrev pub IsPlain : List ℕ → Type 0
IsPlain bytes = All (λ b. b ≢ 0) bytes

plain-more : (b : ℕ) (o : Option (List ℕ)) → IfSome o IsPlain → IfSome (option_map (λ rest. suc b ∷ rest) o) IsPlain
plain-more b None rest = tt
plain-more b (Some s) rest = All-cons (λ c. c ≢ 0) (suc b) s (λ z. omega (arith, z)) rest

plain-before : (bytes : List ℕ) → IfSome (before_nul bytes) IsPlain
plain-before [] = tt
plain-before (zero ∷ bs) = All-nil (λ b. b ≢ 0)
plain-before (suc b ∷ bs) = plain-more b (before_nul bs) (plain-before bs)

plain-kept : (fits : Bool) (s : List ℕ) → IsPlain s → IfSome (if fits then Some s else None) IsPlain
plain-kept true s plain = plain
plain-kept false s plain = tt

plain-short : (most : ℕ) (o : Option (List ℕ)) → IfSome o IsPlain → IfSome (short_string most o) IsPlain
plain-short most None plain = tt
plain-short most (Some s) plain = plain-kept (nat_le (length s) most) s plain

plain-string : (most : ℕ) (memory : Memory) (address : ℕ)
    → IfSome (short_string most (string_at memory address)) IsPlain
unfolding string_at
plain-string most memory address =
    plain-short most (string_at memory address) (plain-before (reach Load memory address))

if-copied : (o : Option ℕ) (buffer : List ℕ) → IfSome (string_in buffer o) IsPlain
    → IfSome o (λ n. IsPlain (take n buffer))
if-copied None buffer plain = tt
if-copied (Some n) buffer plain = plain

pub plain-copied : (o : Option ℕ) (buffer : List ℕ) (most : ℕ) (memory : Memory) (address : ℕ)
    → string_in buffer o ≡ short_string most (string_at memory address) → IfSome o (λ n. IsPlain (take n buffer))
plain-copied o buffer most memory address copied =
    if-copied o buffer (subst (λ s. IfSome s IsPlain) (sym copied) (plain-string most memory address))

short-is : (o : Option (List ℕ)) → short_string 127 o ≡ short_path o
short-is None = refl
short-is (Some s) = refl

-- a path is a string of at most 127 bytes
pub path-is : (most : ℕ) (memory : Memory) (address : ℕ) → most ≡ 127
    → short_string most (string_at memory address) ≡ path_at memory address
unfolding path_at
path-is most memory address full = ap (λ n. short_string n (string_at memory address)) full
    ∙ short-is (string_at memory address)

-- ---- what is known of a result, by whether it is one

pub ok-true : {X E : Type 0} (r : Result X E) (b : Bool) (A B P : Type 0) → b ≡ is_ok r → OnOk r A → OnOk r B
    → (A → B → P) → OnTrue b P
ok-true (Ok x) b A B P e one two both = rw e (both one two)
ok-true (Err x) b A B P e one two both = rw e tt

pub err-false : {X E : Type 0} (r : Result X E) (b : Bool) (A B P : Type 0) → b ≡ is_ok r → OnErr r A → OnErr r B
    → (A → B → P) → OnFalse b P
err-false (Ok x) b A B P e one two both = rw e tt
err-false (Err x) b A B P e one two both = rw e (both one two)

pub read-can : (r : Result (Unit {0}) VmFault) (o : Option (List ℕ)) (bytes : List ℕ) (b : Bool) → b ≡ is_ok r
    → OnOk r (o ≡ Some bytes) → (IsErrOf r BadAddress ↔ (o ≡ None)) → OnErr r (IsErrOf r BadAddress) → b ≡ is_some o
read-can (Ok u) o bytes b e read bad only = rw (e, read) refl
read-can (Err f) o bytes b e read bad only = rw (e, bad.0 only) refl
