-- A cache between the look-up of a block and the end of the call.
use Rattle.cache.proofs.Common.{IsValid, ◌≡◌, ◌≢◌, ℕ, ◌-◌, ◌<◌, ◌≤◌, Bool, false, ◌||◌, Bor, List, [], ◌∷◌, length, set}
use Rattle.cache.proofs.Common.{take, slice_get, Result, Ok, Err, OnOk, Option, Some, None, nat_eq, refl, sym, ap}
use Rattle.cache.proofs.Common.{subst, ◌∙◌, arith, inl, inr, Blocks, option_map, lookup, nat_eq_equiv, cases_eq}
use Rattle.cache.proofs.Common.{or_parts, lookup_from_place, get_or-set_same, LruCache, put_entries, last_entry}
use Rattle.cache.proofs.Common.{block_at, Slot, AreKept, IsKept, IsLastSafe, kept_or, overlay, ◌+◌, drop, true, MutBor}
use Rattle.cache.proofs.Common.{OnErr, UnwrapsOrElse, option_copied, option_copied_mut, set_value, lru_cache, promoted}
use Rattle.cache.proofs.Common.{part, splice, length-splice, put_mid-splice, Disk, IsErrAnd, is_err, is_ok, set-get_or}
use Rattle.cache.proofs.Common.{DeviceFault, Goes, Reads, Steps, Rises, HasCause, with_block}
use Rattle.cache.proofs.Common.{AreBlocks, ◌++◌}
use Rattle.std.proofs.Common.{append-nil}
use Rattle.std.proofs.lemmas.List.{drop_all}
use Rattle.std.specs.Map.Iter.{deref_pair}
use Rattle.cache.proofs.Overlays.{Entries, bytes_or, lookup-cut, lookup-here, lookup-later, put-is, held-some}
use Rattle.cache.proofs.Overlays.{held-none, overlay-put, lookup-promoted, AreKept-promoted, AreKept-set, at-overlay}
use Rattle.cache.proofs.Overlays.{length-overlay, overlay-other, overlay-promoted, overlay-set, sizes-overlay}
use Rattle.std.specs.Prelude.{IfOk, MatchResult}
use borrow.Rule.Slice.PartMut.{put_mid}
use Rattle.std.proofs.lemmas.Result.{err_from_is_err_and}

-- ---- a block comes into the cache, and another leaves

-- the block that leaves is the last entry
module _ (c : LruCache ℕ Slot) {r : Option (Bor ℕ × Bor Slot)} {x : Bor ℕ × Bor Slot} (valid : IsValid nat_eq c)
    (told : option_map deref_pair r ≡ last_entry c.entries) (is : r ≡ Some x) where
  abbrev number : ℕ
  number = x.0.now

  abbrev slot : Slot
  slot = x.1.now

  last_is : last_entry c.entries ≡ Some (number, slot)
  last_is = sym told ∙ ap (option_map deref_pair) is

  pub last-lookup : lookup (nat_eq number) c.entries ≡ Some slot
  last-lookup = lookup_from_place nat_eq_equiv c.entries (length c.entries - 1) number slot valid.0 last_is

  safe-one : (d : Blocks) → slot.bytes ≡ block_at d number → IsLastSafe c d
  safe-one d same = record {
    fits = valid.1;
    last = λ j t _ e.
        let equal : Some (number, slot) ≡ Some (j, t) = sym last_is ∙ e in
        let pair : (number, slot) ≡ (j, t) = cc in
        ap (λ (p : ℕ × Slot). p.1.bytes) (sym pair) ∙ same ∙ ap (λ (p : ℕ × Slot). block_at d p.0) pair;
  }

  -- it is as the device has it
  pub safe-clean : (d : Blocks) (b : Bool) → AreKept c.entries d b → (slot.changed || b) ≡ false → IsLastSafe c d
  unfolding AreKept
  safe-clean d b held clean =
      safe-one d ((held number slot last-lookup).clean (or_parts slot.changed b clean).1
      (or_parts slot.changed b clean).0)

  -- it is written
  pub low-last : (d : Blocks) (b : Bool) → AreKept c.entries d b → number < length d
  unfolding AreKept
  low-last d b held = (held number slot last-lookup).inside

  pub safe-tried : {E : Type 0} (d new : Blocks) (r : Result Unit E) → number < length d
      → OnOk r (new ≡ set d number slot.bytes) → OnOk r (IsLastSafe c new)
  safe-tried d new (Ok y) low e =
      safe-one new (sym (ap (λ l. block_at l number) e ∙ get_or-set_same d number slot.bytes [] low))
  safe-tried d new (Err y) low e = e

module _ (c : LruCache ℕ Slot) (n : ℕ) (v : Slot) (absent : lookup (nat_eq n) c.entries ≡ None) where
  abbrev after : Entries
  after = (n, v) ∷ take (c.cap - 1) c.entries

  held-after : (d : Blocks) (b : Bool) → length c.entries ≤ c.cap → AreKept c.entries d b → IsKept d b n v
      → AreKept after d b
  unfolding AreKept
  held-after d b fits held new k s e = elim (cases_eq k n) [
    | inl is ↦ let same : Some v ≡ Some s = sym (lookup-here (n, v) (take (c.cap - 1) c.entries) k is) ∙ e in
        let value : v ≡ s = cc in subst (λ i. IsKept d b i s) (sym is) (subst (λ t. IsKept d b n t) value new)
    | inr not ↦ let rest : lookup (nat_eq k) (take (c.cap - 1) c.entries) ≡ Some s =
        sym (lookup-later (n, v) (take (c.cap - 1) c.entries) k not) ∙ e in
        (elim (lookup-cut (c.cap - 1) c.entries k (omega arith)) [
          | inl same ↦ held k s (sym same ∙ rest)
          | inr gone ↦ let wrong : None ≡ Some s = sym gone.0 ∙ rest in absurd cc
        ])
  ]

  others : (d : Blocks) → IsLastSafe c d → (k : ℕ) → k ≢ n → kept_or after d k ≡ kept_or c.entries d k
  others d safe k not =
      ap (λ o. bytes_or o (block_at d k)) (lookup-later (n, v) (take (c.cap - 1) c.entries) k not)
      ∙ (elim (lookup-cut (c.cap - 1) c.entries k (omega (arith, safe.fits))) [
        | inl same ↦ ap (λ o. bytes_or o (block_at d k)) same
        | inr gone ↦
            let cut = gone.1 in
            let full : length c.entries ≡ c.cap = omega (arith, safe.fits, cut.1) in
            let place : slice_get c.entries (length c.entries - 1) ≡ Some (k, cut.0) =
            ap (λ i. slice_get c.entries (i - 1)) full ∙ cut.2 in
            held-none (take (c.cap - 1) c.entries) d k gone.0 ∙ sym (safe.last k cut.0 full place)
            ∙ sym (held-some c.entries d k cut.0 cut.3)
      ])

  pub AreKept-put : (d : Blocks) (b : Bool) → IsLastSafe c d → AreKept c.entries d b → IsKept d b n v
      → AreKept (put_entries nat_eq c n v) d b
  AreKept-put d b safe held new =
      subst (λ es. AreKept es d b) (sym (put-is c n v absent)) (held-after d b safe.fits held new)

  -- it comes in
  pub overlay-came : (d : Blocks) → IsLastSafe c d → n < length d
      → overlay (put_entries nat_eq c n v) d ≡ set (overlay c.entries d) n v.bytes
  overlay-came d safe low = ap (λ es. overlay es d) (put-is c n v absent)
      ∙ overlay-put c.entries after d d n v.bytes refl low (λ k _ not. others d safe k not)
      (held-some after d n v (lookup-here (n, v) (take (c.cap - 1) c.entries) n refl))

pub blocks-are : {D : Type 0} {x y : Disk D} → x ≡ y → x.blocks ≡ y.blocks
blocks-are {D} e = ap (λ (d : Disk D). d.blocks) e

-- a cache shows the blocks, of which n is one
pub record IsUsed (l : LruCache ℕ Slot) (c : Blocks) (b : Bool) (blocks : Blocks) (n : ℕ) : Type 0 where
  pub held : AreKept l.entries c b
  pub shows : overlay l.entries c ≡ blocks
  pub low : n < length c

-- a block that is shown is the device's
pub low-shown : (es : Entries) (c : Blocks) {blocks : Blocks} {n : ℕ} → overlay es c ≡ blocks → n < length blocks
    → n < length c
low-shown es c shows low = omega (arith, ap length shows, length-overlay es c)

pub used : (old : LruCache ℕ Slot) {new : LruCache ℕ Slot} {c : Blocks} {b : Bool} {blocks : Blocks} {n : ℕ}
    → new ≡ lru_cache (promoted (nat_eq n) old.entries) old.cap → AreKept old.entries c b
    → overlay old.entries c ≡ blocks → n < length blocks → IsUsed new c b blocks n
used old {c = c} {b} {n = n} is held shows low = record {
  held = subst (λ (l : LruCache ℕ Slot). AreKept l.entries c b) (sym is) (AreKept-promoted old.entries c b n held);
  shows = ap (λ (l : LruCache ℕ Slot). overlay l.entries c) is ∙ overlay-promoted old.entries c n ∙ shows;
  low = low-shown old.entries c shows low;
}

pub unkept : (old new : LruCache ℕ Slot) (r : Option (Bor Slot)) (n : ℕ)
    → new ≡ lru_cache (promoted (nat_eq n) old.entries) old.cap → option_copied r ≡ lookup (nat_eq n) old.entries
    → r ≡ None → lookup (nat_eq n) new.entries ≡ None
unkept old new r n is told none = ap (λ (l : LruCache ℕ Slot). lookup (nat_eq n) l.entries) is
    ∙ lookup-promoted old.entries n n ∙ sym told ∙ ap option_copied none

-- the device was read
pub moved : {l : LruCache ℕ Slot} {c d : Blocks} {b : Bool} {blocks : Blocks} {n : ℕ} → IsUsed l c b blocks n → d ≡ c
    → IsUsed l d b blocks n
moved {l} {b = b} {blocks} {n} u same = subst (λ x. IsUsed l x b blocks n) (sym same) u

-- the block that leaves was written
pub roomed : {l : LruCache ℕ Slot} {c d : Blocks} {b e : Bool} {blocks : Blocks} {n : ℕ} → IsUsed l c b blocks n
    → length d ≡ length c → AreKept l.entries d e → overlay l.entries d ≡ overlay l.entries c → IsUsed l d e blocks n
roomed {n = n} u count held same =
    record { held = held; shows = same ∙ u.shows; low = subst (λ k. n < k) (sym count) u.low }

-- what is shown of a block that isn't held
pub shown : {l : LruCache ℕ Slot} {c : Blocks} {b : Bool} {blocks : Blocks} {n : ℕ} → IsUsed l c b blocks n
    → lookup (nat_eq n) l.entries ≡ None → block_at c n ≡ block_at blocks n
shown {l} {c} {n = n} u none = sym (held-none l.entries c n none) ∙ sym (at-overlay l.entries c n u.low)
    ∙ ap (λ x. block_at x n) u.shows

-- a block comes in, if there is memory
abbrev CameIn : {X E : Type 0} → LruCache ℕ Slot → LruCache ℕ Slot → ℕ → Slot → Result X E → Type 0
CameIn l new n s r = OnOk r (new ≡ lru_cache (put_entries nat_eq l n s) l.cap) × OnErr r (new ≡ l)

pub came-refused : {X E : Type 0} (l new : LruCache ℕ Slot) (n : ℕ) (s : Slot) (r : Result X E) → CameIn l new n s r
    → is_ok r ≡ false → new ≡ l
came-refused l new n s (Ok x) came refused = absurd cc
came-refused l new n s (Err x) came refused = came.1

module _ {X E : Type 0} {l : LruCache ℕ Slot} {c : Blocks} {n : ℕ} (s : Slot) (new : LruCache ℕ Slot) (r : Result X E)
    (low : n < length c) (safe : IsLastSafe l c) (none : lookup (nat_eq n) l.entries ≡ None)
    (came : CameIn l new n s r) where
  pub came-held : {b : Bool} → AreKept l.entries c b → IsKept c b n s → AreKept new.entries c b
  came-held {b} kept new_one = held r came where
    held : (r : Result X E) → CameIn l new n s r → AreKept new.entries c b
    held (Ok x) came = subst (λ (m : LruCache ℕ Slot). AreKept m.entries c b) (sym came.0)
        (AreKept-put l n s none c b safe kept new_one)
    held (Err x) came = subst (λ (m : LruCache ℕ Slot). AreKept m.entries c b) (sym came.1) kept

  pub came-shows : overlay new.entries c ≡ with_block (is_ok r) (overlay l.entries c) n s.bytes
  came-shows = shows r came where
    shows : (r : Result X E) → CameIn l new n s r
        → overlay new.entries c ≡ with_block (is_ok r) (overlay l.entries c) n s.bytes
    shows (Ok x) came =
        ap (λ (m : LruCache ℕ Slot). overlay m.entries c) came.0 ∙ overlay-came l n s none c safe low
    shows (Err x) came = ap (λ (m : LruCache ℕ Slot). overlay m.entries c) came.1

-- a block comes in as it is shown
with-same : (is_in : Bool) (blocks : Blocks) (n : ℕ) {block : List ℕ} → block ≡ block_at blocks n
    → with_block is_in blocks n block ≡ blocks
with-same true blocks n same = ap (set blocks n) same ∙ set-get_or blocks n []
with-same false blocks n same = refl

pub read-shows : {l : LruCache ℕ Slot} {c : Blocks} {b : Bool} {blocks new : Blocks} {n : ℕ} {block : List ℕ}
    → IsUsed l c b blocks n → (is_in : Bool) → new ≡ with_block is_in (overlay l.entries c) n block
    → block ≡ block_at blocks n → new ≡ blocks
read-shows {n = n} {block} u is_in came same =
    came ∙ ap (λ xs. with_block is_in xs n block) u.shows ∙ with-same is_in _ n same

-- of a block that isn't held, what is shown is what the device has
pub unheld-same : (es : Entries) (c d : Blocks) (n : ℕ) → lookup (nat_eq n) es ≡ None → length d ≡ length c
    → n < length c → overlay es d ≡ overlay es c → block_at d n ≡ block_at c n
unheld-same es c d n none count low same =
    sym (held-none es d n none) ∙ sym (at-overlay es d n (omega arith)) ∙ ap (λ x. block_at x n) same
    ∙ at-overlay es c n low ∙ held-none es c n none

-- what a changed block has needs not be the device's
pub changed-kept : (c : Blocks) (b : Bool) (n : ℕ) (bytes : List ℕ) → n < length c → length bytes ≡ 1024
    → IsKept c b n (record { bytes = bytes; changed = true })
changed-kept c b n bytes low size = record { inside = low; size = size; clean = λ _ clean. absurd cc }

-- what becomes of a cache as a block comes in that it doesn't hold
pub came-in : {E : Type 0} (l new : LruCache ℕ Slot) (n : ℕ) (s : Slot) (r : Result (Bor Slot) E)
    → lookup (nat_eq n) l.entries ≡ None
    → MatchResult r (λ x. new ≡ lru_cache (put_entries nat_eq l n x.now) l.cap) (λ _. new ≡ l)
    → IfOk r (λ x. UnwrapsOrElse (lookup (nat_eq n) l.entries) (λ t. t ≡ s) x.now) → CameIn l new n s r
came-in l new n s (Ok x) none did value =
    let is : x.now ≡ s = subst (λ (o : Option Slot). UnwrapsOrElse o (λ t. t ≡ s) x.now) none value in
    (did ∙ ap (λ t. lru_cache (put_entries nat_eq l n t) l.cap) is, tt)
came-in l new n s (Err e) none did value = (tt, did)

-- what a held block shows
pub hit : (old : LruCache ℕ Slot) (c blocks : Blocks) (n : ℕ) (s : Slot) → overlay old.entries c ≡ blocks
    → n < length blocks → lookup (nat_eq n) old.entries ≡ Some s → s.bytes ≡ block_at blocks n
hit old c blocks n s shows low is = sym (held-some old.entries c n s is)
    ∙ sym (at-overlay old.entries c n (low-shown old.entries c shows low)) ∙ ap (λ b. block_at b n) shows

pub hit-is : (es : Entries) (r : Option (Bor Slot)) (x : Bor Slot) (n : ℕ) → option_copied r ≡ lookup (nat_eq n) es
    → r ≡ Some x → lookup (nat_eq n) es ≡ Some x.now
hit-is es r x n told is = sym told ∙ ap option_copied is

-- what a look-up for a change gave
pub got-mut : (es : Entries) (n : ℕ) {r o : Option (MutBor Slot)} → option_copied_mut r ≡ lookup (nat_eq n) es → r ≡ o
    → lookup (nat_eq n) es ≡ option_copied_mut o
got-mut es n told is = sym told ∙ ap option_copied_mut is

-- bytes that are copied out of a block
pub parted : (at k : ℕ) (out block same : List ℕ) → out ≡ take (at + k - at) (drop at block) → block ≡ same
    → out ≡ part at k same
parted at k out block same copied is =
    let long : at + k - at ≡ k = omega arith in
    copied ∙ ap (λ j. take j (drop at block)) long ∙ ap (part at k) is

-- bytes are written into a held block
module _ (old : LruCache ℕ Slot) (c : Blocks) (b : Bool) (blocks : Blocks) (n : ℕ) (s t : Slot) (at : ℕ)
    (bytes : List ℕ) where
  pub hit-held : AreKept old.entries c b → overlay old.entries c ≡ blocks → n < length blocks
      → lookup (nat_eq n) old.entries ≡ Some s → t ≡ record { bytes = splice at bytes s.bytes; changed = true }
      → at + length bytes ≤ 1024 → AreKept (set_value (nat_eq n) (promoted (nat_eq n) old.entries) t) c b
  unfolding AreKept
  hit-held held shows low is now fits =
      let long : length s.bytes ≡ 1024 = (held n s is).size in
      AreKept-set (promoted (nat_eq n) old.entries) c b n s t (lookup-promoted old.entries n n ∙ is)
      (AreKept-promoted old.entries c b n held) (record {
        inside = low-shown old.entries c shows low;
        size = ap (λ (x : Slot). length x.bytes) now ∙ length-splice at bytes s.bytes (omega (arith, long, fits))
            ∙ long;
        clean = λ _ clean. let wrong : true ≡ false = sym (ap (λ (x : Slot). x.changed) now) ∙ clean in absurd cc;
      })

  pub hit-shows : overlay old.entries c ≡ blocks → n < length blocks → lookup (nat_eq n) old.entries ≡ Some s
      → t ≡ record { bytes = splice at bytes s.bytes; changed = true }
      → overlay (set_value (nat_eq n) (promoted (nat_eq n) old.entries) t) c
      ≡ set blocks n (splice at bytes (block_at blocks n))
  hit-shows shows low is now =
      overlay-set (promoted (nat_eq n) old.entries) c n s t (lookup-promoted old.entries n n ∙ is)
      (low-shown old.entries c shows low)
      ∙ ap (λ l. set l n t.bytes) (overlay-promoted old.entries c n ∙ shows)
      ∙ ap (set blocks n) (ap (λ (x : Slot). x.bytes) now ∙ ap (splice at bytes) (hit old c blocks n s shows low is))

-- a block that isn't held is written to the device
pub unheld-shows : {E : Type 0} (es : Entries) (c : Blocks) {blocks : Blocks} (n : ℕ) (block new : List ℕ) (d : Blocks)
    (r : Result Unit E) → overlay es c ≡ blocks → n < length c → lookup (nat_eq n) es ≡ None → block ≡ new
    → OnOk r (d ≡ set c n block) → OnOk r (overlay es d ≡ set blocks n new)
unheld-shows es c n block new d (Ok x) shows low none same written =
    ap (overlay es) (written ∙ ap (set c n) same) ∙ overlay-other es c n new none low ∙ ap (λ x. set x n new) shows
unheld-shows es c n block new d (Err x) shows low none same written = written

-- bytes are written into it
module _ (l : LruCache ℕ Slot) (c : Blocks) (blocks : Blocks) (n at k : ℕ) (block bytes new : List ℕ)
    (shows : overlay l.entries c ≡ blocks) (low : n < length blocks) (none : lookup (nat_eq n) l.entries ≡ None) where
  pub refused-shows : {E : Type 0} (d : Blocks) (r : Result Unit E) → block ≡ block_at blocks n → new ≡ bytes
      → k ≡ length bytes → OnOk r (d ≡ set c n (put_mid at k block new))
      → OnOk r (overlay l.entries d ≡ set blocks n (splice at bytes (block_at blocks n)))
  refused-shows d r read after count written =
      unheld-shows l.entries c n _ _ d r shows (low-shown l.entries c shows low) none
      (put_mid-splice at k block new bytes after count ∙ ap (splice at bytes) read) written

-- it is written whole
splice-whole : (at : ℕ) (bytes old : List ℕ) → length bytes ≡ 1024 → at + length bytes ≤ 1024 → length old ≡ 1024
    → splice at bytes old ≡ bytes
splice-whole at bytes old long fits size =
    let front : at ≡ 0 = omega arith in
    rw front (ap (λ rest. bytes ++ rest) (drop_all (0 + length bytes) old (omega arith)) ∙ append-nil bytes)

pub whole-shows : {E : Type 0} (es : Entries) (c : Blocks) (d : Bool) {blocks : Blocks} (new : Blocks) (n at : ℕ)
    (bytes : List ℕ) (r : Result Unit E) → AreKept es c d → AreBlocks c → overlay es c ≡ blocks → n < length blocks
    → length bytes ≡ 1024 → at + length bytes ≤ 1024 → OnOk r (new ≡ set (overlay es c) n bytes)
    → OnOk r (new ≡ set blocks n (splice at bytes (block_at blocks n)))
whole-shows es c d {blocks} new n at bytes (Ok x) kept sizes shows low long fits written =
    let size : length (block_at blocks n) ≡ 1024 = subst AreBlocks shows (sizes-overlay es c d kept sizes) n low in
    written ∙ ap (λ x. set x n bytes) shows
    ∙ ap (set blocks n) (sym (splice-whole at bytes (block_at blocks n) long fits size))
whole-shows es c d new n at bytes (Err x) kept sizes shows low long fits written = written

-- ---- how steps on a disk follow one another, and how a call of several ends

pub rises-before : {a b c : ℕ} → a ≤ b → Rises b c → Rises a c
rises-before {a} {b} {c} h f = omega arith

module _ {D : Type 0} {identity : D → List ℕ} where
  pub goes-stays : {d : Disk D} → Goes identity d d
  goes-stays = record { count = refl; same_device = refl; later = omega arith }

  pub goes-after : {a b c : Disk D} → Goes identity a b → Goes identity b c → Goes identity a c
  goes-after one two = record {
    count = two.count ∙ one.count;
    same_device = two.same_device ∙ one.same_device;
    later = omega (arith, one.later, two.later);
  }

  pub goes-twice : {a b c d : Disk D} → Goes identity a b → Goes identity b c → Goes identity c d → Goes identity a d
  goes-twice one two three = goes-after (goes-after one two) three

  -- ---- the ends of a call, after steps that were good

  module _ {old new : Disk D} {T : Type 0} {Done : T → Type 0} where
    -- it is done
    pub step-done : {x : T} → Goes identity old new → Done x → Steps identity old new (Ok x) Done
    step-done goes done = record { done = done; goes = goes; failed = λ e. cc }

    -- a fault is returned
    pub step-lost : {s : Result T DeviceFault} {f : DeviceFault} → Goes identity old new
        → Rises old.failures new.failures → IsErrAnd s (λ x. x ≡ f) → Steps identity old new s Done
    step-lost {s} goes rises told =
        record { done = rw (err_from_is_err_and s told).1 tt; goes = goes; failed = λ _. rises }

    module _ {mid : Disk D} {U : Type 0} {Was : U → Type 0} (goes : Goes identity old mid) where
      -- the last step failed
      pub step-failed : {r : Result U DeviceFault} {e f : DeviceFault} {s : Result T DeviceFault}
          → Steps identity mid new r Was → r ≡ Err e → IsErrAnd s (λ x. x ≡ f) → Steps identity old new s Done
      step-failed step was told =
          step-lost (goes-after goes step.goes) (rises-before goes.later (step.failed (ap is_err was))) told

  -- the last step's result is that of the whole
  pub step-last : {old mid new : Disk D} {T : Type 0} {Was Done : T → Type 0} {r : Result T DeviceFault}
      → Goes identity old mid → ((x : T) → Was x → Done x) → Steps identity mid new r Was
      → Steps identity old new r Done
  step-last {r = Ok x} goes so step =
      record { done = so x step.done; goes = goes-after goes step.goes; failed = λ e. cc }
  step-last {r = Err e} goes so step =
      record { done = tt; goes = goes-after goes step.goes; failed = λ e. rises-before goes.later (step.failed e) }

  -- what was read before the last step
  pub read-done : {old new : Disk D} {T : Type 0} {Told : T → Type 0} {x : T} → Goes identity old new
      → new.blocks ≡ old.blocks → Told x → Reads identity old new (Ok x) Told
  read-done goes same told = step-done goes (record { told = told; same = same })

-- ---- what is seen of a cache, before and after accesses of its device

module _ {D : Type 0} (content : D → Blocks) (failures : D → ℕ) where
  abbrev pub seen : Entries → D → Disk D
  seen es device = record { blocks = overlay es (content device); device = device; failures = failures device }

  module _ (es : Entries) (a : D) (old : Disk D) (is : seen es a ≡ old) where
    pub content-seen : content a ≡ content old.device
    content-seen = ap (λ (d : Disk D). content d.device) is

    pub failures-seen : old.failures ≤ failures a
    failures-seen = subst (λ (d : Disk D). d.failures ≤ failures a) is (omega arith)

    pub device-seen : (identity : D → List ℕ) → identity a ≡ identity old.device
    device-seen identity = ap (λ (d : Disk D). identity d.device) is

    module _ {identity : D → List ℕ} (fs : Entries) (b : D) (count : length (content b) ≡ length (content a))
        (same : identity b ≡ identity a) where
      pub goes-seen : failures a ≤ failures b → Goes identity old (seen fs b)
      goes-seen later = subst (λ (d : Disk D). Goes identity d (seen fs b)) is
          (record {
            count = length-overlay fs (content b) ∙ count ∙ sym (length-overlay es (content a));
            same_device = same;
            later = later;
          })

      -- an access failed
      pub lost-seen : {T U : Type 0} {Done : T → Type 0} {before : ℕ} {r : Result U DeviceFault} {e f : DeviceFault}
          {s : Result T DeviceFault} → failures a ≤ before → HasCause before (failures b) r → r ≡ Err e
          → IsErrAnd s (λ x. x ≡ f) → Steps identity old (seen fs b) s Done
      lost-seen later cause was told =
          let rises : Rises old.failures (failures b) =
          rises-before failures-seen (rises-before later (cause.failed (ap is_err was))) in
          step-lost (goes-seen (omega (arith, cause.later))) rises told

      -- the last access's result is that of the whole
      pub last-seen : {Done : Type 0} {before : ℕ} (r : Result Unit DeviceFault) → failures a ≤ before
          → HasCause before (failures b) r → OnOk r Done → Steps identity old (seen fs b) r (λ _. Done)
      last-seen (Ok x) later cause done =
          record { done = done; goes = goes-seen (omega (arith, cause.later)); failed = λ e. cc }
      last-seen (Err x) later cause done =
          record {
            done = tt;
            goes = goes-seen (omega (arith, cause.later));
            failed = λ e. rises-before failures-seen (rises-before later (cause.failed e));
          }
