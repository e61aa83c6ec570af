-- Lemmas on what `specs/Pipes` defines.
use Rattle.files.proofs.Common.{none-some, Bool, List, None, Option, Some, [], false, is_some, length, suc, true, zero}
use Rattle.files.proofs.Common.{ℕ, ◌<◌, ◌≡◌, ◌≢◌, ◌||◌, ◌∷◌, list_any, ap, arith, get_or-set_other, inl, inr}
use Rattle.files.proofs.Common.{length-set, refl, sym, ◌∙◌, cases_eq, eq-eqb, ne_eqb, has_pipe, clear, put, slot, taken}
use Rattle.files.proofs.Common.{End, is_pipe, kept, without_pipes, State, cond, count_by, is_none, not, ◌+◌, prefix_len}
use Rattle.files.proofs.Common.{sum_by-cons, sum_by-set, le-ltb, lt-ltb, file_of, Counted, free_count, opens_of}
use Rattle.files.proofs.Common.{free_slot, IfSome, map, option_map, replicate, slice_set, refill, length-map, map-set}
use Rattle.files.proofs.Common.{get_or-map, is_slot_end, is_slot_pipe, IsTable, count_in, counted_of, has_end, moved}
use Rattle.files.proofs.Common.{moved_in, holds}
use Rattle.files.proofs.Whole.{Table, all-set, kept-each, kept_in, any-told, free_slot-told}
use Rattle.unixmodel.specs.OpenFiles.{OpenFile}
use Rattle.unixmodel.specs.OpenFiles.Target.{OnNode, OnPipe}
use Rattle.files.specs.Pipes.{IsPiped}
use Rattle.std.proofs.lemmas.List.Quantifiers.{position-Some}
use Rattle.arrayvec.proofs.ArrayVecLemmas.{items-with_items}
use Rattle.files.specs.declared.table.Slot.{Slot}
use Rattle.files.specs.declared.table.Files.TheInside.{Inside}
use Rattle.files.specs.Sound.{IsSound}

-- the bytes of each pipe
abbrev pub Pipes : Type 0
Pipes = List (Option (List ℕ))

-- the slots that a table shows
abbrev pub Slots : Type 0
Slots = List (Option Slot)

-- the open files of a state
abbrev pub Opens : Type 0
Opens = List (Option OpenFile)

-- ---- open files that are opened and closed

or-swap : (a b c : Bool) → (a || (b || c)) ≡ (b || (a || c))
or-swap true true c = refl
or-swap true false c = refl
or-swap false b c = refl

module _ {X : Type 0} (test : X → Bool) where
  -- x takes a free slot
  pub any-put : (xs : List (Option X)) (i : ℕ) (x : X) → i < length xs → slot xs i ≡ None
      → list_any test (taken (put xs i x)) ≡ (test x || list_any test (taken xs))
  any-put [] i x h free = absurd (omega (arith, h))
  any-put (o ∷ xs) zero x h free = rw free refl
  any-put (None ∷ xs) (suc i) x h free = any-put xs i x (omega (arith, h)) free
  any-put (Some y ∷ xs) (suc i) x h free = rw (any-put xs i x (omega (arith, h)) free) (or-swap (test y) (test x) _)

  -- x loses its slot
  pub any-clear : (xs : List (Option X)) (i : ℕ) {x : X} → slot xs i ≡ Some x
      → list_any test (taken xs) ≡ (test x || list_any test (taken (clear xs i)))
  any-clear [] i {x} at = absurd (none-some x at)
  any-clear (o ∷ xs) zero at = rw at refl
  any-clear (None ∷ xs) (suc i) {x} at = any-clear xs i at
  any-clear (Some y ∷ xs) (suc i) {x} at = rw (any-clear xs i at) (or-swap (test y) (test x) _)

pub has_pipe-put : (opens : Opens) (k : ℕ) (f : OpenFile) (q : ℕ) → k < length opens → slot opens k ≡ None
    → has_pipe (put opens k f) q ≡ (is_pipe q f.target || has_pipe opens q)
has_pipe-put opens k f q h free = any-put (λ (g : OpenFile). is_pipe q g.target) _ k f h free

pub has_pipe-clear : (opens : Opens) (k : ℕ) (f : OpenFile) (q : ℕ) → slot opens k ≡ Some f
    → has_pipe opens q ≡ (is_pipe q f.target || has_pipe (clear opens k) q)
has_pipe-clear opens k f q at = any-clear (λ (g : OpenFile). is_pipe q g.target) _ k at

-- an end of another pipe goes
pub other-pipe : (opens : Opens) (k : ℕ) {q r : ℕ} {f : OpenFile} {e : End} → slot opens k ≡ Some f
    → f.target ≡ OnPipe q e → r ≢ q → has_pipe (clear opens k) r ≡ has_pipe opens r
other-pipe opens k {q} {r} {f} {e} at on other =
    sym (has_pipe-clear _ k f r at ∙ rw (on, ne_eqb q r (λ e. other (sym e))) refl)

-- a node goes
pub piped-node : (pipes : Pipes) (opens : Opens) (k n offset : ℕ) (f : OpenFile) → IsPiped pipes opens
    → slot opens k ≡ Some f → f.target ≡ OnNode n offset → IsPiped pipes (clear opens k)
piped-node pipes opens k n offset f is at on q = is q ∙ has_pipe-clear _ k f q at ∙ rw on refl

-- an end goes, and another one of the pipe stays
pub piped-end : (pipes : Pipes) (opens : Opens) (k q : ℕ) (f : OpenFile) (e : End) → IsPiped pipes opens
    → slot opens k ≡ Some f → f.target ≡ OnPipe q e → has_pipe (clear opens k) q ≡ true → IsPiped pipes (clear opens k)
piped-end pipes opens k q f e is at on stays r = elim (cases_eq r q) [
  | inl same ↦ rw (same, is q, has_pipe-clear opens k f q at, stays, on, eq-eqb q q refl) refl
  | inr other ↦ is r ∙ sym (other-pipe _ k at on other)
]

slot-clear : {X : Type 0} (xs : List (Option X)) (i : ℕ) → slot (clear xs i) i ≡ None
slot-clear [] i = refl
slot-clear (x ∷ xs) zero = refl
slot-clear (x ∷ xs) (suc i) = slot-clear xs i

-- the last end of a pipe goes, and the pipe with it
pub piped-last : (pipes : Pipes) (opens : Opens) (k q : ℕ) (f : OpenFile) (e : End) → IsPiped pipes opens
    → slot opens k ≡ Some f → f.target ≡ OnPipe q e → has_pipe (clear opens k) q ≡ false
    → IsPiped (clear pipes q) (clear opens k)
piped-last pipes opens k q f e is at on gone r = elim (cases_eq r q) [
  | inl same ↦ rw (same, slot-clear pipes q, gone) refl
  | inr other ↦ rw (get_or-set_other pipes q r None None other) (is r ∙ sym (other-pipe _ k at on other))
]

-- ---- what reaping leaves

-- pipes that are left are as they were
pub record IsLeftOf (old new : Pipes) : Type 0 where
  pub all : length new ≡ length old
  pub each : (q : ℕ) (bytes : List ℕ) → slot new q ≡ Some bytes → slot old q ≡ Some bytes

pub pipes-same : (pipes : Pipes) → IsLeftOf pipes pipes
pipes-same pipes = record { all = refl; each = λ q bytes at. at }

pub pipes-clear : (old new : Pipes) (q : ℕ) → IsLeftOf old new → IsLeftOf old (clear new q)
pipes-clear old new q left = record {
  all = length-set new q None ∙ left.all;
  each = all-set (λ r o. (bytes : List ℕ) → o ≡ Some bytes → slot old r ≡ Some bytes) new q None
      (λ bytes at. absurd (let bad : None ≡ Some bytes = at in cc)) left.each;
}

abbrev piped : Opens → ℕ → List ℕ → Bool
piped opens q pipe = has_pipe opens q

pipe-none : (opens : Opens) (q : ℕ) (old : Option (List ℕ)) → has_pipe opens q ≡ false
    → kept_in (piped opens) q old ≡ None
pipe-none opens q None fails = refl
pipe-none opens q (Some bytes) fails = rw fails refl

kept-pipe : (opens : Opens) (q : ℕ) (old new : Option (List ℕ)) → is_some new ≡ has_pipe opens q
    → ((bytes : List ℕ) → new ≡ Some bytes → old ≡ Some bytes) → kept_in (piped opens) q old ≡ new
kept-pipe opens q old None is same = pipe-none opens q old (sym is)
kept-pipe opens q old (Some bytes) is same = rw (same bytes refl, ← is) refl

-- of the pipes of these open files those are kept that exist
pub pipes-left : (opens : Opens) (old new : Pipes) → IsPiped new opens → IsLeftOf old new
    → kept (piped opens) 0 old ≡ new
pipes-left opens old new is left =
    kept-each _ _ new 0 left.all
    (λ i j e.
    let same : j ≡ i = omega (arith, e) in
    rw same (kept-pipe opens i (slot old i) (slot new i) (is i) (left.each i)))

pub without_pipes-left : (s : State) (old new : Pipes) → IsPiped new s.opens → IsLeftOf old new
    → without_pipes (record s { pipes = old }) ≡ record s { pipes = new }
unfolding without_pipes
without_pipes-left s old new is left = ap (λ pipes. record s { pipes = pipes }) (pipes-left s.opens old new is left)

pub without_pipes-same : (s : State) → IsPiped s.pipes s.opens → without_pipes s ≡ s
without_pipes-same s is = without_pipes-left s _ _ is (pipes-same _)

-- ---- how many slots are free, and that two are taken one after the other

abbrev one_free : {X : Type 0} → Option X → ℕ
one_free o = cond (is_none o) 1 0

abbrev taken_first : {X : Type 0} → List (Option X) → ℕ
taken_first xs = prefix_len (λ o. not (is_none o)) xs

free-cons : {X : Type 0} (o : Option X) (xs : List (Option X))
    → count_by is_none (o ∷ xs) ≡ one_free o + count_by is_none xs
free-cons o xs = sum_by-cons one_free o xs

none-free : {X : Type 0} (xs : List (Option X)) → count_by is_none xs ≡ 0 → taken_first xs ≡ length xs
none-free [] h = refl
none-free (None ∷ xs) h = absurd (omega (arith, h, free-cons None xs))
none-free (Some x ∷ xs) h = omega (arith, none-free xs (omega (arith, h, free-cons (Some x) xs)))

some-free : {X : Type 0} (xs : List (Option X)) → 0 < count_by is_none xs → taken_first xs < length xs
some-free [] h = absurd (omega (arith, h))
some-free (None ∷ xs) h = omega arith
some-free (Some x ∷ xs) h = omega (arith, some-free xs (omega (arith, h, free-cons (Some x) xs)))

-- no slot is free
pub free-None : {X : Type 0} (xs : List (Option X)) → count_by is_none xs ≡ 0 → free_slot xs ≡ None
free-None xs h = rw (le-ltb (taken_first xs) (length xs) (omega (arith, none-free xs h))) refl

-- the lowest free slot
pub free-Some : {X : Type 0} (xs : List (Option X)) → 0 < count_by is_none xs → free_slot xs ≡ Some (taken_first xs)
free-Some xs h = rw (lt-ltb (taken_first xs) (length xs) (some-free xs h)) refl

is-None : {X : Type 0} (o : Option X) → is_none o ≡ true → o ≡ None
is-None None h = refl
is-None (Some x) h = cc

-- a free slot that was found is free
pub free-place : {X : Type 0} (xs : List (Option X)) (i : ℕ) → free_slot xs ≡ Some i
    → (i < length xs) × (slot xs i ≡ None)
free-place xs i h = let at = position-Some _ xs i _ h in (at.0, is-None (slot xs i) at.1)

-- a slot that is taken is one fewer
pub free-put : {X : Type 0} (xs : List (Option X)) (i : ℕ) (x : X) → i < length xs → slot xs i ≡ None
    → count_by is_none (put xs i x) + 1 ≡ count_by is_none xs
free-put xs i x h free =
    let sums = sum_by-set one_free xs i (Some x) None h in
    let one : one_free (slot xs i) ≡ 1 = rw free refl in
    omega (arith, sums, one)

-- the open files have as many free slots as the table
pub free-opens : (t : Table) → count_by is_none (opens_of t) ≡ free_count t
free-opens [] = refl
free-opens (None ∷ t) = rw (free-cons None (opens_of t), free-cons None t, free-opens t) refl
free-opens (Some c ∷ t) = rw (free-cons (Some (file_of c.file)) (opens_of t), free-cons (Some c) t, free-opens t) refl

-- ---- what a table shows of its slots

abbrev pub shown : Slots → Table
shown xs = map (option_map counted_of) xs

-- some descriptor names each open file
abbrev pub AreNamed : Slots → Type 0
AreNamed xs = (i : ℕ) (s : Slot) → slot xs i ≡ Some s → 0 < s.references

-- ---- no open files

pub slot-free : {X : Type 0} (n i : ℕ) → slot (replicate {A = Option X} n None) i ≡ None
slot-free zero i = refl
slot-free (suc n) zero = refl
slot-free (suc n) (suc i) = slot-free n i

pub named-free : (n : ℕ) → AreNamed (replicate n None)
named-free n i s at = absurd (none-some s (sym (slot-free n i) ∙ at))

-- ---- one slot

pub within-named : (xs : Slots) {i : ℕ} (o : Option Slot) → length xs ≡ 100 → AreNamed xs → i < length xs
    → o ≡ slot xs i → IfSome o (λ s. (i < 100) × (0 < s.references))
within-named xs None all named hi at = tt
within-named xs {i} (Some s) all named hi at = (omega (arith, all, hi), named i s (sym at))

-- a write of one slot through the slice of all
pub refilled : {xs ys : Slots} (i : ℕ) (o : Option Slot) → ys ≡ xs
    → refill (length xs) xs (slice_set ys i o) ≡ slice_set xs i o
refilled {xs} {ys} i o same = items-with_items _ _ (length-set ys i o ∙ ap length same) ∙ ap (λ l. slice_set l i o) same

pub shown-refilled : {xs ys : Slots} (i : ℕ) (o : Option Slot) → ys ≡ xs
    → shown (refill (length xs) xs (slice_set ys i o)) ≡ slice_set (shown xs) i (option_map counted_of o)
shown-refilled {xs} {ys} i o same = ap shown (refilled i o same) ∙ map-set (option_map counted_of) xs i o

-- ---- what an open file is open on, written in its slot

named-moved : (offset : ℕ) (q u : Option Slot)
    → option_map counted_of u ≡ option_map (moved_in offset) (option_map counted_of q)
    → ((s : Slot) → q ≡ Some s → 0 < s.references) → (s : Slot) → u ≡ Some s → 0 < s.references
named-moved offset None u told each s at = absurd (none-some (counted_of s) (sym told ∙ ap (option_map counted_of) at))
named-moved offset (Some v) u told each s at =
    let count : s.references ≡ v.references = ap count_in (sym (ap (option_map counted_of) at) ∙ told) in
    omega (arith, each v refl)

-- a slot that was lent, with what was left there: an open file at its new offset, where there is one
module _ {t : Inside} (is : IsSound t) {ys : Slots} (same : ys ≡ t.slots.items) (i offset : ℕ) (o : Option Slot)
    (here : option_map counted_of o ≡ option_map (moved_in offset) (option_map counted_of (slot ys i))) where
  pub moved-shown : shown (refill (length t.slots.items) t.slots.items (slice_set ys i o))
      ≡ moved (shown t.slots.items) i offset
  moved-shown = shown-refilled i o same ∙ rw (here, same, get_or-map (option_map counted_of) t.slots.items i None) refl

  pub sound-moved : IsSound
      (record { slots = record { items = refill (length t.slots.items) t.slots.items (slice_set ys i o) } })
  sound-moved =
      let now = refilled i o same in
      record {
        all = ap length now ∙ length-set t.slots.items i o ∙ is.all;
        named = rw now (all-set (λ k x. (s : Slot) → x ≡ Some s → 0 < s.references) t.slots.items i o
            (named-moved offset (slot ys i) o here (rw same (is.named i))) is.named);
      }

-- ---- the whole table

table-named : (o : Option Slot) (c : Counted) → ((s : Slot) → o ≡ Some s → 0 < s.references)
    → option_map counted_of o ≡ Some c → 0 < c.count
table-named None c here at = absurd (none-some c at)
table-named (Some s) c here at = let count : s.references ≡ c.count = ap count_in at in omega (arith, here s refl)

pub table-shown : (xs : Slots) → length xs ≡ 100 → AreNamed xs → IsTable (shown xs)
table-shown xs all named = record {
  all = length-map xs (option_map counted_of) ∙ all;
  named = λ i c at. table-named (slot xs i) c (named i) (sym (get_or-map (option_map counted_of) xs i None) ∙ at);
}

-- the open files
pub opens-shown : (xs : Slots) → opens_of (shown xs) ≡ map (option_map (λ (s : Slot). file_of s.file)) xs
opens-shown [] = refl
opens-shown (None ∷ xs) = ap (λ os. None ∷ os) (opens-shown xs)
opens-shown (Some s ∷ xs) = ap (λ os. Some (file_of s.file) ∷ os) (opens-shown xs)

pub free_slot-shown : (xs : Slots) → free_slot (opens_of (shown xs)) ≡ free_slot xs
free_slot-shown xs = ap free_slot (opens-shown xs) ∙ free_slot-told (λ (s : Slot). file_of s.file) xs

pub has_end-shown : (xs : Slots) (q : ℕ) (e : End)
    → has_end (opens_of (shown xs)) q e ≡ list_any (holds (is_slot_end q e)) xs
has_end-shown xs q e = ap (λ os. has_end os q e) (opens-shown xs) ∙ any-told (λ (s : Slot). file_of s.file) _ xs

pub has_pipe-shown : (xs : Slots) (q : ℕ) → has_pipe (opens_of (shown xs)) q ≡ list_any (holds (is_slot_pipe q)) xs
has_pipe-shown xs q = ap (λ os. has_pipe os q) (opens-shown xs) ∙ any-told (λ (s : Slot). file_of s.file) _ xs
