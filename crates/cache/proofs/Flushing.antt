-- What a cache holds goes into another one, or into its device.
use Rattle.cache.proofs.Common.{◌≡◌, ◌⊎◌, ℕ, ◌-◌, ◌≤◌, cond, [], ◌∷◌, length, Option, Some, None, nat_eq, ap, sym, ◌∙◌}
use Rattle.cache.proofs.Common.{refl, arith, inl, inr, lookup, set_value, Blocks, cases_eq, put_entries, LruCache, ◌<◌}
use Rattle.cache.proofs.Common.{Bool, true, get_or, set, subst, length-set, get_or-set_same, get_or-set_other, block_at}
use Rattle.cache.proofs.Common.{Slot, AreKept, overlay, ◌++◌, IsDistinct, keys_of, nat_eq_equiv, append_assoc}
use Rattle.cache.proofs.Common.{length-append, take_all, none_past_head, IsValid, lru_cache, false, ◌&&◌, ◌||◌, min}
use Rattle.cache.proofs.Common.{nat_le, cases_lt, and_from, and_parts, false_from_ne_true, le-leb, leb-true, is_due}
use Rattle.cache.proofs.Common.{lower, next_of, scan, ◌+◌, ◌^◌, Fits, w64, or_parts, AreFlushed, cleaned}
use Rattle.cache.proofs.Overlays.{AreKept-doubt, AreKept-set, AreKept-written, Entries, bytes_or, held-as, held-some}
use Rattle.cache.proofs.Overlays.{length-overlay, lookup-here, lookup-later, lookup-set_other, lookup-set_same}
use Rattle.cache.proofs.Overlays.{overlay-is, overlay-nil, overlay-put, overlay-same, put-is}
use Rattle.cache.specs.Overlay.{AreInside}
use Rattle.std.proofs.Common.{append-nil}
use Rattle.std.proofs.lemmas.Map.{lookup-none}
use Rattle.std.proofs.lemmas.Map.Keys.{IsDistinct-tail}

-- ---- the blocks of a cache are put into another one, from the last used to the first

-- the blocks of held that come before rest are those of copy
pub record IsHalf (held copy : LruCache ℕ Slot) (rest : Entries) : Type 0 where
  pub joined : rest ++ copy.entries ≡ held.entries
  pub cap : copy.cap ≡ held.cap

absent : (rest done : Entries) (n : ℕ) (s : Slot) → IsDistinct nat_eq (keys_of (rest ++ (n, s) ∷ done))
    → lookup (nat_eq n) done ≡ None
absent [] done n s d = lookup-none (nat_eq n) done (none_past_head nat_eq_equiv n (n, s) done d (nat_eq_equiv.refl n))
absent (e ∷ rest) done n s d = absent rest done n s (IsDistinct-tail nat_eq e.0 (keys_of (rest ++ (n, s) ∷ done)) d)

-- one more
pub more : (held copy new : LruCache ℕ Slot) (rest left : Entries) (n : ℕ) (s : Slot) → IsValid nat_eq held
    → IsHalf held copy rest → rest ≡ left ++ (n, s) ∷ []
    → new ≡ record { entries = put_entries nat_eq copy n s; cap = copy.cap } → IsHalf held new left
more held copy new rest left n s valid half is put =
    let whole : left ++ (n, s) ∷ copy.entries ≡ held.entries =
    sym (append_assoc left ((n, s) ∷ []) copy.entries) ∙ ap (λ l. l ++ copy.entries) (sym is) ∙ half.joined in
    let apart = absent left copy.entries n s (subst (λ l. IsDistinct nat_eq (keys_of l)) (sym whole) valid.0) in
    let room : length copy.entries ≤ copy.cap - 1 =
    omega (arith, half.cap, valid.1, ap length whole, length-append left ((n, s) ∷ copy.entries)) in
    record {
      joined = ap (λ (c : LruCache ℕ Slot). left ++ c.entries) put
          ∙ ap (λ l. left ++ l) (put-is copy n s apart
          ∙ ap (λ l. (n, s) ∷ l) (take_all (copy.cap - 1) copy.entries room)) ∙ whole;
      cap = ap (λ (c : LruCache ℕ Slot). c.cap) put ∙ half.cap;
    }

-- all of them
pub all : (held copy : LruCache ℕ Slot) (rest : Entries) → IsHalf held copy rest → rest ≡ [] → copy ≡ held
all held copy rest half is =
    let same : copy.entries ≡ held.entries = ap (λ l. l ++ copy.entries) (sym is) ∙ half.joined in
    ap (λ es. lru_cache es copy.cap) same ∙ ap (lru_cache held.entries) half.cap

-- ---- what is held goes into a device, from the last used to the first

-- the device has the blocks of done, those that come after rest
pub record IsSetFrom (held : Entries) (stored now : Blocks) (rest : Entries) : Type 0 where
  pub done : Entries
  pub joined : rest ++ done ≡ held
  pub blocks : now ≡ overlay done stored

pub set-none : (held : Entries) (stored : Blocks) (rest : Entries) → rest ≡ held → IsSetFrom held stored stored rest
set-none held stored rest all =
    record { done = []; joined = append-nil rest ∙ all; blocks = sym (overlay-nil stored) }

-- an entry on the front is a block that is set
overlay-front : (es : Entries) (c : Blocks) (n : ℕ) (s : Slot) → n < length c
    → overlay ((n, s) ∷ es) c ≡ set (overlay es c) n s.bytes
overlay-front es c n s low =
    overlay-put es ((n, s) ∷ es) c c n s.bytes refl low
    (λ k h apart. ap (λ o. bytes_or o (block_at c k)) (lookup-later (n, s) es k apart))
    (held-some ((n, s) ∷ es) c n s (lookup-here (n, s) es n refl))

-- each entry is found by its number
found-behind : (rest es : Entries) (n : ℕ) (s : Slot)
    → (t : Slot) × (lookup (nat_eq n) (rest ++ (n, s) ∷ es) ≡ Some t)
found-behind [] es n s = (s, lookup-here (n, s) es n refl)
found-behind (e ∷ rest) es n s = elim (cases_eq n e.0) [
  | inl here ↦ (e.1, lookup-here e (rest ++ (n, s) ∷ es) n here)
  | inr other ↦ (let later = found-behind rest es n s in
      (later.0, lookup-later e (rest ++ (n, s) ∷ es) n other ∙ later.1))
]

module _ {held : Entries} {stored now : Blocks} {rest : Entries} (left : Entries) (n : ℕ) (s : Slot)
    (inside : AreInside held (length stored)) (half : IsSetFrom held stored now rest)
    (is : rest ≡ left ++ (n, s) ∷ []) where
  whole-set : left ++ (n, s) ∷ half.done ≡ held
  whole-set = sym (append_assoc left ((n, s) ∷ []) half.done) ∙ ap (λ l. l ++ half.done) (sym is) ∙ half.joined

  within-set : n < length stored
  unfolding AreInside
  within-set =
      let here = found-behind left half.done n s in
      inside n here.0 (ap (λ es. lookup (nat_eq n) es) (sym whole-set) ∙ here.1)

  pub set-within : n < length now
  set-within =
      let long : length now ≡ length stored = ap length half.blocks ∙ length-overlay half.done stored in
      omega (arith, long, within-set)

  pub set-more : {new : Blocks} → new ≡ set now n s.bytes → IsSetFrom held stored new left
  set-more put = record {
    done = (n, s) ∷ half.done;
    joined = whole-set;
    blocks = put ∙ ap (λ bs. set bs n s.bytes) half.blocks ∙ sym (overlay-front half.done stored n s within-set);
  }

pub set-all : {held : Entries} {stored now : Blocks} (rest : Entries) → IsSetFrom held stored now rest → rest ≡ []
    → now ≡ overlay held stored
set-all {held} {stored} rest half is =
    half.blocks ∙ ap (λ es. overlay es stored) (ap (λ l. l ++ half.done) (sym is) ∙ half.joined)

-- what is held is the device's to have
pub inside-kept : (es : Entries) (c : Blocks) (d : Bool) → AreKept es c d → AreInside es (length c)
unfolding AreKept AreInside
inside-kept es c d held k s at = (held k s at).inside

-- ---- what the search for the next block to write finds

-- a number is there, and not above k
abbrev pub IsAtMost : Option ℕ → ℕ → Type 0
IsAtMost None k = ⊥
IsAtMost (Some n) k = n ≤ k

lower-at : (o : Option ℕ) (n : ℕ) → IsAtMost (lower o n) n
lower-at None n = omega arith
lower-at (Some m) n = omega arith

step-keeps : (b : Bool) (o : Option ℕ) (n k : ℕ) → IsAtMost o k → IsAtMost (cond b (lower o n) o) k
step-keeps false o n k h = h
step-keeps true None n k h = absurd h
step-keeps true (Some m) n k h = omega arith

module _ (from : ℕ) (doubt : Bool) where
  scan-keeps : (o : Option ℕ) (es : Entries) (k : ℕ) → IsAtMost o k → IsAtMost (scan from doubt o es) k
  unfolding scan
  scan-keeps o [] k h = h
  scan-keeps o (e ∷ es) k h =
      scan-keeps (cond (is_due from doubt e) (lower o e.0) o) es k (step-keeps (is_due from doubt e) o e.0 k h)

  -- a block that is due bounds the result
  pub scan-bounds : (o : Option ℕ) (es : Entries) (k : ℕ) (s : Slot) → lookup (nat_eq k) es ≡ Some s
      → is_due from doubt (k, s) ≡ true → IsAtMost (scan from doubt o es) k
  unfolding scan
  scan-bounds o [] k s h due = absurd cc
  scan-bounds o (e ∷ es) k s h due = elim (cases_eq k e.0) [
    | inl is ↦ let one : Some e.1 ≡ Some s = sym (lookup-here e es k is) ∙ h in
        let value : s ≡ e.1 = cc in
        let now : is_due from doubt e ≡ true = ap (λ t. is_due from doubt (e.0, t)) (sym value)
        ∙ ap (λ i. is_due from doubt (i, s)) (sym is) ∙ due in
        scan-keeps (cond (is_due from doubt e) (lower o e.0) o) es k
        (rw now (subst (IsAtMost (lower o e.0)) (sym is) (lower-at o e.0)))
    | inr not ↦ scan-bounds (cond (is_due from doubt e) (lower o e.0) o) es k s (sym (lookup-later e es k not) ∙ h) due
  ]

  abbrev pub IsFound : Entries → ℕ → Type 0
  IsFound es n = (from ≤ n) × ((s : Slot) × (lookup (nat_eq n) es ≡ Some s))

  due-from : (b c : Bool) (m : ℕ) → (nat_le from m && b) ≡ true → from ≤ m
  due-from b c m h = leb-true from m (and_parts (nat_le from m) b h).0

  step-found : (b : Bool) (o : Option ℕ) (m n : ℕ) → cond b (lower o m) o ≡ Some n
      → (o ≡ Some n) ⊎ ((b ≡ true) × (m ≡ n))
  step-found false o m n h = inl h
  step-found true None m n h = inr (refl, cc)
  step-found true (Some j) m n h = let same : min j m ≡ n = cc in elim (cases_lt j m) [
    | inl low ↦ inl (ap Some (omega arith))
    | inr high ↦ inr (refl, omega arith)
  ]

  -- the result is a held block's number
  pub scan-found : (o : Option ℕ) (es : Entries) (n : ℕ) → scan from doubt o es ≡ Some n → (o ≡ Some n) ⊎ IsFound es n
  unfolding scan
  scan-found o [] n h = inl h
  scan-found o (e ∷ es) n h = elim (scan-found (cond (is_due from doubt e) (lower o e.0) o) es n h) [
    | inl step ↦ (elim (step-found (is_due from doubt e) o e.0 n step) [
      | inl before ↦ inl before
      | inr now ↦ inr (
        subst (λ i. from ≤ i) now.1 (due-from (e.1.changed || doubt) true e.0 now.0),
        (e.1, lookup-here e es n (sym now.1)),
      )
    ])
    | inr later ↦ inr (
      later.0,
      (elim (cases_eq n e.0) [
        | inl is ↦ (e.1, lookup-here e es n is)
        | inr not ↦
            (later.1.0, lookup-later e es n not ∙ later.1.1)
      ]),
    )
  ]

pub found-of : (from : ℕ) (doubt : Bool) (es : Entries) (n : ℕ) → next_of from doubt es ≡ Some n
    → IsFound from doubt es n
found-of from doubt es n h = elim (scan-found from doubt None es n h) [ inl wrong ↦ absurd cc | inr found ↦ found ]

-- the device has a block that the search passed over
pub settled : (from : ℕ) (doubt : Bool) (es : Entries) (k : ℕ) (s : Slot) → lookup (nat_eq k) es ≡ Some s → from ≤ k
    → (IsAtMost (next_of from doubt es) k → ⊥) → (s.changed || doubt) ≡ false
settled from doubt es k s h late passed =
    false_from_ne_true (s.changed || doubt)
    (λ due. passed (scan-bounds from doubt None es k s h
    (and_from (nat_le from k) (s.changed || doubt) (le-leb from k late) due)))

-- ---- the held blocks are written in rising order of number

-- the blocks stay as they were, and the device has those below a number
pub record IsFlushing (es : Entries) (c : Blocks) (b : Bool) (blocks stored : Blocks) (to : ℕ) : Type 0 where
  pub held : AreKept es c b
  pub shows : overlay es c ≡ blocks
  pub done : AreFlushed es c to
  pub count : length c ≡ length stored

pub flush-begins : {es : Entries} {c : Blocks} {b : Bool} {blocks stored : Blocks} → AreKept es c b
    → overlay es c ≡ blocks → c ≡ stored → IsFlushing es c b blocks stored 0
unfolding AreFlushed
flush-begins held shows is =
    record { held = held; shows = shows; done = λ k s h low. absurd (omega arith); count = ap length is }

-- block n, which holds s, was written
module _ (es : Entries) (c : Blocks) (b : Bool) (n : ℕ) (s : Slot) (h : lookup (nat_eq n) es ≡ Some s)
    (low : n < length c) where
  abbrev es' : Entries
  es' = set_value (nat_eq n) es (cleaned s)

  abbrev c' : Blocks
  c' = set c n s.bytes

  here : lookup (nat_eq n) es' ≡ Some (cleaned s)
  here = lookup-set_same es n s (cleaned s) h

  wrote-held : AreKept es c b → AreKept es' c' b
  unfolding AreKept
  wrote-held held = AreKept-set es c' b n s (cleaned s) h (AreKept-written es c b n s.bytes (held-as es n s h) held)
      (record {
        inside = subst (λ k. n < k) (sym (length-set c n s.bytes)) low;
        size = (held n s h).size;
        clean = λ _ _. sym (get_or-set_same c n s.bytes [] low);
      })

  wrote-shows : overlay es' c' ≡ overlay es c
  wrote-shows = overlay-same es es' c c' (length-set c n s.bytes) (λ k _. elim (cases_eq k n) [
    | inl is ↦ held-some es' c' k (cleaned s) (ap (λ i. lookup (nat_eq i) es') is ∙ here)
        ∙ sym (held-some es c k s (ap (λ i. lookup (nat_eq i) es) is ∙ h))
    | inr not ↦ ap (λ o. bytes_or o (block_at c' k)) (lookup-set_other es n k (cleaned s) not)
        ∙ ap (λ x. bytes_or (lookup (nat_eq k) es) x) (get_or-set_other c n k s.bytes [] not)
  ])

  wrote-done : (from : ℕ) → AreKept es c b → AreFlushed es c from → next_of from b es ≡ Some n
      → AreFlushed es' c' (n + 1)
  unfolding AreFlushed AreKept
  wrote-done from held done next k t e below = elim (cases_eq k n) [
    | inl is ↦ let one : Some t ≡ Some (cleaned s) = sym e ∙ ap (λ i. lookup (nat_eq i) es') is ∙ here in
        let value : t ≡ cleaned s = cc in
        ap (λ (x : Slot). x.bytes) value ∙ sym (get_or-set_same c n s.bytes [] low) ∙ ap (λ i. get_or c' i []) (sym is)
    | inr not ↦
        let was : lookup (nat_eq k) es ≡ Some t = sym (lookup-set_other es n k (cleaned s) not) ∙ e in
        (elim (cases_lt k from) [
          | inl early ↦ done k t was early
          | inr late ↦
              let still : (t.changed || b) ≡ false =
              settled from b es k t was late
              (λ most. let m : n ≤ k = subst (λ o. IsAtMost o k) next most in not (omega arith)) in
              (held k t was).clean (or_parts t.changed b still).1 (or_parts t.changed b still).0
        ])
        ∙ sym (get_or-set_other c n k s.bytes [] not)
  ]

module _ {es : Entries} {c : Blocks} {b : Bool} {blocks stored : Blocks} {from : ℕ}
    (f : IsFlushing es c b blocks stored from) where
  module _ {n : ℕ} (next : next_of from b es ≡ Some n) where
    pub low-next : n < length c
    unfolding AreKept
    low-next = let found = found-of from b es n next in (f.held n found.1.0 found.1.1).inside

    pub flush-goes-on : {new : Entries} {d : Blocks} {e : Bool}
        → ((s : Slot) → lookup (nat_eq n) es ≡ Some s → d ≡ set c n s.bytes)
        → ((s : Slot) → lookup (nat_eq n) es ≡ Some s → new ≡ set_value (nat_eq n) es (cleaned s)) → e ≡ b
        → IsFlushing new d e blocks stored (n + 1)
    flush-goes-on wrote cleans kept =
        let found = found-of from b es n next in
        let s : Slot = found.1.0 in
        let h : lookup (nat_eq n) es ≡ Some s = found.1.1 in
        rw (kept, wrote s h, cleans s h) (record {
          held = wrote-held es c b n s h low-next f.held;
          shows = wrote-shows es c b n s h low-next ∙ f.shows;
          done = wrote-done es c b n s h low-next from f.held f.done next;
          count = length-set c n s.bytes ∙ f.count;
        })

    -- the number after the next one's
    pub next-fits : length stored < 2 ^ 64 → Fits w64 (n + 1)
    next-fits bound = omega (arith, low-next, f.count)

    pub next-smaller : length stored - (n + 1) < length stored - from
    next-smaller = omega (arith, low-next, (found-of from b es n next).0, f.count)

  module _ (next : next_of from b es ≡ None) where
    -- no block is left that the device may lack
    all-flushed : (k : ℕ) (s : Slot) → lookup (nat_eq k) es ≡ Some s → s.bytes ≡ block_at c k
    unfolding AreFlushed AreKept
    all-flushed k t h = elim (cases_lt k from) [
      | inl early ↦ f.done k t h early
      | inr late ↦
          let still : (t.changed || b) ≡ false =
          settled from b es k t h late (λ most. subst (λ o. IsAtMost o k) next most) in
          (f.held k t h).clean (or_parts t.changed b still).1 (or_parts t.changed b still).0
    ]

    pub flushed-is : c ≡ blocks
    flushed-is = sym (overlay-is es c all-flushed) ∙ f.shows

    pub flushed-held : AreKept es c false
    unfolding AreKept
    flushed-held k s h = let was =
        f.held k s h in record { inside = was.inside; size = was.size; clean = λ _ _. all-flushed k s h }

  pub flush-count : (fs : Entries) (d : Blocks) → length d ≡ length c → length (overlay fs d) ≡ length blocks
  flush-count fs d count = length-overlay fs d ∙ count ∙ sym (length-overlay es c) ∙ ap length f.shows

-- a write failed
pub flush-fails : (l : LruCache ℕ Slot) {m : LruCache ℕ Slot} (c d : Blocks) {b : Bool} (e : Bool)
    {blocks stored : Blocks} {from : ℕ} → IsFlushing l.entries c b blocks stored from → m ≡ l → e ≡ true
    → length d ≡ length c → AreKept m.entries d e
flush-fails l c d {b} e f same doubt count =
    subst (λ (x : LruCache ℕ Slot). AreKept x.entries d e) (sym same)
    (subst (AreKept l.entries d) (sym doubt) (AreKept-doubt l.entries c b d count f.held))

pub up : {a b c : ℕ} → a ≤ b → b ≤ c → a ≤ c
up h k = omega arith
