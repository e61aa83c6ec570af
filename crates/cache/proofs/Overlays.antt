-- Equations on what a device and the blocks over it show.
use Rattle.cache.proofs.Common.{◌≡◌, ◌≢◌, ◌⊎◌, ℕ, zero, suc, ◌-◌, ◌≤◌, cond, List, [], ◌∷◌, length, take, slice_get}
use Rattle.cache.proofs.Common.{Option, Some, None, nat_eq, ap, sym, ◌∙◌, refl, arith, inl, inr, lookup, lookup_entry}
use Rattle.cache.proofs.Common.{remove_entry, set_value, Blocks, option_map_or, cases_eq, eq-eqb, ne_eqb, promoted}
use Rattle.cache.proofs.Common.{put_entries, LruCache, ◌<◌, Bool, true, get_or, set, Result, Ok, Err, OnOk, OnErr}
use Rattle.cache.proofs.Common.{none-some, same_Some, subst, length-set, get_or-set_same, get_or-set_other, ext_get_or}
use Rattle.cache.proofs.Common.{AreBlocks, block_at, Slot, AreKept, IsKept, kept_or, overlay}
use Rattle.std.proofs.lemmas.List.FromFn.{length-map-range_with_len, get_or-map-range_with_len}

-- what a map holds, by numbers; and the bytes of a block that may be held
abbrev pub Entries : Type 0
Entries = List (ℕ × Slot)

abbrev pub bytes_or : Option Slot → List ℕ → List ℕ
bytes_or o block = option_map_or (λ (s : Slot). s.bytes) o block

-- ---- what a look-up finds in the entries of a map after a use, a new value and a new entry

module _ {V : Type 0} where
  pub lookup-here : (e : ℕ × V) (es : List (ℕ × V)) (k : ℕ) → k ≡ e.0 → lookup (nat_eq k) (e ∷ es) ≡ Some e.1
  lookup-here e es k h = ap (λ b. cond b (Some e.1) (lookup (nat_eq k) es)) (eq-eqb k e.0 h)

  pub lookup-later : (e : ℕ × V) (es : List (ℕ × V)) (k : ℕ) → k ≢ e.0
      → lookup (nat_eq k) (e ∷ es) ≡ lookup (nat_eq k) es
  lookup-later e es k h = ap (λ b. cond b (Some e.1) (lookup (nat_eq k) es)) (ne_eqb k e.0 h)

  lookup-remove : (es : List (ℕ × V)) (n k : ℕ) → k ≢ n
      → lookup (nat_eq k) (remove_entry (nat_eq n) es) ≡ lookup (nat_eq k) es
  lookup-remove [] n k h = refl
  lookup-remove (e ∷ es) n k h = elim (cases_eq n e.0) [
    | inl here ↦ rw (eq-eqb n e.0 here, ne_eqb k e.0 (λ z. h (z ∙ sym here))) refl
    | inr other ↦ rw (ne_eqb n e.0 other) (ap (cond (nat_eq k e.0) (Some e.1)) (lookup-remove es n k h))
  ]

  found : (es : List (ℕ × V)) (n : ℕ) (e : ℕ × V) → lookup_entry (nat_eq n) es ≡ Some e
      → (n ≡ e.0) × (lookup (nat_eq n) es ≡ Some e.1)
  found [] n e h = absurd cc
  found (d ∷ es) n e h = elim (cases_eq n d.0) [
    | inl here ↦
        let first : Some d ≡ Some e = sym (ap (λ b. cond b (Some d) (lookup_entry (nat_eq n) es)) (eq-eqb n d.0 here))
        ∙ h in
        let same : d ≡ e = cc in
        (here ∙ ap (λ (x : ℕ × V). x.0) same, lookup-here d es n here ∙ ap (λ (x : ℕ × V). Some x.1) same)
    | inr other ↦
        let rest = found es n e (sym (ap (λ b. cond b (Some d) (lookup_entry (nat_eq n) es)) (ne_eqb n d.0 other)) ∙ h)
        in
        (rest.0, lookup-later d es n other ∙ rest.1)
  ]

  -- a use changes the order alone
  pub lookup-promoted : (es : List (ℕ × V)) (n k : ℕ)
      → lookup (nat_eq k) (promoted (nat_eq n) es) ≡ lookup (nat_eq k) es
  lookup-promoted es n k = go (lookup_entry (nat_eq n) es) refl where
    go : (o : Option (ℕ × V)) → lookup_entry (nat_eq n) es ≡ o
        → lookup (nat_eq k) (option_map_or (λ e. e ∷ remove_entry (nat_eq n) es) o es) ≡ lookup (nat_eq k) es
    go None h = refl
    go (Some e) h = let f = found es n e h in elim (cases_eq k n) [
      | inl same ↦ ap (λ b. cond b (Some e.1) (lookup (nat_eq k) (remove_entry (nat_eq n) es)))
          (eq-eqb k e.0 (same ∙ f.0)) ∙ sym f.1 ∙ ap (λ q. lookup (nat_eq q) es) (sym same)
      | inr other ↦ rw (ne_eqb k e.0 (λ z. other (z ∙ sym f.0))) (lookup-remove es n k other)
    ]

  -- a new value at n
  pub lookup-set_same : (es : List (ℕ × V)) (n : ℕ) (v w : V) → lookup (nat_eq n) es ≡ Some v
      → lookup (nat_eq n) (set_value (nat_eq n) es w) ≡ Some w
  lookup-set_same [] n v w h = absurd cc
  lookup-set_same (e ∷ es) n v w h = elim (cases_eq n e.0) [
    | inl here ↦ rw (eq-eqb n e.0 here) (lookup-here (e.0, w) es n here)
    | inr other ↦ rw (ne_eqb n e.0 other)
        (lookup-later e (set_value (nat_eq n) es w) n other
        ∙ lookup-set_same es n v w (sym (lookup-later e es n other) ∙ h))
  ]

  pub lookup-set_other : (es : List (ℕ × V)) (n k : ℕ) (w : V) → k ≢ n
      → lookup (nat_eq k) (set_value (nat_eq n) es w) ≡ lookup (nat_eq k) es
  lookup-set_other [] n k w h = refl
  lookup-set_other (e ∷ es) n k w h = elim (cases_eq n e.0) [
    | inl here ↦ rw (eq-eqb n e.0 here, ne_eqb k e.0 (λ z. h (z ∙ sym here))) refl
    | inr other ↦ rw (ne_eqb n e.0 other) (ap (cond (nat_eq k e.0) (Some e.1)) (lookup-set_other es n k w h))
  ]

  entry-none : (es : List (ℕ × V)) (n : ℕ) → lookup (nat_eq n) es ≡ None → lookup_entry (nat_eq n) es ≡ None
  entry-none [] n h = refl
  entry-none (e ∷ es) n h = elim (cases_eq n e.0) [
    | inl here ↦ let wrong : Some e.1 ≡ None = sym (lookup-here e es n here) ∙ h in absurd cc
    | inr other ↦ rw (ne_eqb n e.0 other) (entry-none es n (sym (lookup-later e es n other) ∙ h))
  ]

  -- the last entry of a list, which has the number q, is cut off
  abbrev pub IsCut : ℕ → List (ℕ × V) → ℕ → Type 0
  IsCut n es q = (s : V) × (length es ≡ suc n) × (slice_get es n ≡ Some (q, s)) × (lookup (nat_eq q) es ≡ Some s)

  pub lookup-cut : (n : ℕ) (es : List (ℕ × V)) (q : ℕ) → length es ≤ suc n
      → (lookup (nat_eq q) (take n es) ≡ lookup (nat_eq q) es) ⊎ ((lookup (nat_eq q) (take n es) ≡ None) × IsCut n es q)
  lookup-cut zero [] q h = inl refl
  lookup-cut (suc n) [] q h = inl refl
  lookup-cut zero (e ∷ []) q h = elim (cases_eq q e.0) [
    | inl here ↦ inr (refl, (e.1, refl, ap (λ k. Some (k, e.1)) (sym here), lookup-here e [] q here))
    | inr other ↦ inl (sym (lookup-later e [] q other))
  ]
  lookup-cut zero (e ∷ f ∷ es) q h = absurd (omega arith)
  lookup-cut (suc n) (e ∷ es) q h = elim (cases_eq q e.0) [
    | inl here ↦ inl (lookup-here e (take n es) q here ∙ sym (lookup-here e es q here))
    | inr other ↦ (elim (lookup-cut n es q (omega arith)) [
      | inl same ↦ inl (lookup-later e (take n es) q other ∙ same ∙ sym (lookup-later e es q other))
      | inr gone ↦ inr (
        lookup-later e (take n es) q other
            ∙ gone.0,
        (gone.1.0, ap suc gone.1.1, gone.1.2, lookup-later e es q other ∙ gone.1.3),
      )
    ])
  ]

  -- a new entry goes to the front
  pub put-is : (c : LruCache ℕ V) (n : ℕ) (v : V) → lookup (nat_eq n) c.entries ≡ None
      → put_entries nat_eq c n v ≡ (n, v) ∷ take (c.cap - 1) c.entries
  put-is c n v h = ap (λ o. option_map_or (λ e. (e.0, v) ∷ remove_entry (nat_eq n) c.entries) o
      ((n, v) ∷ take (c.cap - 1) c.entries)) (entry-none c.entries n h)

pub held-some : (es : Entries) (c : Blocks) (k : ℕ) (s : Slot) → lookup (nat_eq k) es ≡ Some s
    → kept_or es c k ≡ s.bytes
held-some es c k s h = ap (λ o. bytes_or o (block_at c k)) h

pub held-none : (es : Entries) (c : Blocks) (k : ℕ) → lookup (nat_eq k) es ≡ None → kept_or es c k ≡ block_at c k
held-none es c k h = ap (λ o. bytes_or o (block_at c k)) h

pub length-overlay : (es : Entries) (c : Blocks) → length (overlay es c) ≡ length c
unfolding overlay
length-overlay es c = length-map-range_with_len (kept_or es c) 0 (length c)

pub at-overlay : (es : Entries) (c : Blocks) (k : ℕ) → k < length c → block_at (overlay es c) k ≡ kept_or es c k
unfolding overlay
at-overlay es c k h = get_or-map-range_with_len (kept_or es c) 0 (length c) k k [] h (omega arith)

pub overlay-same : (es fs : Entries) (c d : Blocks) → length d ≡ length c
    → ((k : ℕ) → k < length c → kept_or fs d k ≡ kept_or es c k) → overlay fs d ≡ overlay es c
overlay-same es fs c d e same =
    ext_get_or [] (overlay fs d) (overlay es c) (length-overlay fs d ∙ e ∙ sym (length-overlay es c)) (λ k h.
    let low : k < length d = omega (arith, length-overlay fs d) in
    let low' : k < length c = omega arith in
    at-overlay fs d k low ∙ same k low' ∙ sym (at-overlay es c k low'))

pub overlay-put : (es fs : Entries) (c d : Blocks) (n : ℕ) (b : List ℕ) → length d ≡ length c → n < length c
    → ((k : ℕ) → k < length c → k ≢ n → kept_or fs d k ≡ kept_or es c k) → kept_or fs d n ≡ b
    → overlay fs d ≡ set (overlay es c) n b
overlay-put es fs c d n b e m same here =
    ext_get_or [] (overlay fs d) (set (overlay es c) n b)
    (length-overlay fs d ∙ e ∙ sym (length-overlay es c) ∙ sym (length-set (overlay es c) n b)) (λ k h.
    let low : k < length d = omega (arith, length-overlay fs d) in
    let low' : k < length c = omega arith in
    let top : n < length (overlay es c) = omega (arith, length-overlay es c) in
    at-overlay fs d k low ∙ (elim (cases_eq k n) [
      | inl is ↦ ap (kept_or fs d) is ∙ here ∙ sym (get_or-set_same (overlay es c) n b [] top)
          ∙ ap (λ i. get_or (set (overlay es c) n b) i []) (sym is)
      | inr not ↦ same k low' not ∙ sym (get_or-set_other (overlay es c) n k b [] not ∙ at-overlay es c k low')
    ]))

-- what is held is the device's
pub overlay-is : (es : Entries) (c : Blocks)
    → ((k : ℕ) (s : Slot) → lookup (nat_eq k) es ≡ Some s → s.bytes ≡ block_at c k) → overlay es c ≡ c
overlay-is es c same =
    ext_get_or [] (overlay es c) c (length-overlay es c) (λ k h.
    at-overlay es c k (omega (arith, length-overlay es c)) ∙ go k (lookup (nat_eq k) es) refl) where
      go : (k : ℕ) (o : Option Slot) → lookup (nat_eq k) es ≡ o → bytes_or o (block_at c k) ≡ block_at c k
      go k None h = refl
      go k (Some s) h = same k s h

pub overlay-nil : (c : Blocks) → overlay [] c ≡ c
overlay-nil c = overlay-is [] c (λ k s h. absurd cc)

pub AreKept-nil : (c : Blocks) (d : Bool) → AreKept [] c d
unfolding AreKept
AreKept-nil c d k s h = absurd cc

pub sizes-overlay : (es : Entries) (c : Blocks) (d : Bool) → AreKept es c d → AreBlocks c → AreBlocks (overlay es c)
unfolding AreKept
sizes-overlay es c d held sizes n h = ap length (at-overlay es c n low) ∙ go (lookup (nat_eq n) es) refl where
  low : n < length c
  low = omega (arith, length-overlay es c)

  go : (o : Option Slot) → lookup (nat_eq n) es ≡ o → length (bytes_or o (block_at c n)) ≡ 1024
  go None e = sizes n low
  go (Some s) e = (held n s e).size

-- a use
pub overlay-promoted : (es : Entries) (c : Blocks) (n : ℕ) → overlay (promoted (nat_eq n) es) c ≡ overlay es c
overlay-promoted es c n =
    overlay-same es (promoted (nat_eq n) es) c c refl
    (λ k h. ap (λ o. bytes_or o (block_at c k)) (lookup-promoted es n k))

pub AreKept-promoted : (es : Entries) (c : Blocks) (d : Bool) (n : ℕ) → AreKept es c d
    → AreKept (promoted (nat_eq n) es) c d
unfolding AreKept
AreKept-promoted es c d n held k s h = held k s (sym (lookup-promoted es n k) ∙ h)

-- a new value at n
pub overlay-set : (es : Entries) (c : Blocks) (n : ℕ) (v w : Slot) → lookup (nat_eq n) es ≡ Some v → n < length c
    → overlay (set_value (nat_eq n) es w) c ≡ set (overlay es c) n w.bytes
overlay-set es c n v w h low = overlay-put es (set_value (nat_eq n) es w) c c n w.bytes refl low
    (λ k _ other. ap (λ o. bytes_or o (block_at c k)) (lookup-set_other es n k w other))
    (held-some (set_value (nat_eq n) es w) c n w (lookup-set_same es n v w h))

pub AreKept-set : (es : Entries) (c : Blocks) (d : Bool) (n : ℕ) (v w : Slot) → lookup (nat_eq n) es ≡ Some v
    → AreKept es c d → IsKept c d n w → AreKept (set_value (nat_eq n) es w) c d
unfolding AreKept
AreKept-set es c d n v w h held new k s e = elim (cases_eq k n) [
  | inl is ↦ let same : Some w ≡ Some s = sym (lookup-set_same es n v w h)
      ∙ ap (λ i. lookup (nat_eq i) (set_value (nat_eq n) es w)) (sym is) ∙ e in
      let value : w ≡ s = cc in subst (λ i. IsKept c d i s) (sym is) (subst (λ t. IsKept c d n t) value new)
  | inr not ↦ held k s (sym (lookup-set_other es n k w not) ∙ e)
]

-- a held block is written to the device
pub overlay-written : (es : Entries) (c : Blocks) (n : ℕ) (s : Slot) → lookup (nat_eq n) es ≡ Some s
    → overlay es (set c n s.bytes) ≡ overlay es c
overlay-written es c n s h =
    overlay-same es es c (set c n s.bytes) (length-set c n s.bytes) (λ k low. elim (cases_eq k n) [
      | inl is ↦ let found : lookup (nat_eq k) es ≡ Some s = ap (λ i. lookup (nat_eq i) es) is ∙ h in
          held-some es (set c n s.bytes) k s found ∙ sym (held-some es c k s found)
      | inr not ↦ ap (λ b. bytes_or (lookup (nat_eq k) es) b) (get_or-set_other c n k s.bytes [] not)
    ])

-- what is held at n, if anything is, is b
abbrev pub IsHeldAs : Entries → ℕ → List ℕ → Type 0
IsHeldAs es n b = (s : Slot) → lookup (nat_eq n) es ≡ Some s → s.bytes ≡ b

pub held-as : (es : Entries) (n : ℕ) (s : Slot) → lookup (nat_eq n) es ≡ Some s → IsHeldAs es n s.bytes
held-as es n s h t e = ap (λ (x : Slot). x.bytes) (same_Some t s (sym e ∙ h))

pub unheld-as : (es : Entries) (n : ℕ) (b : List ℕ) → lookup (nat_eq n) es ≡ None → IsHeldAs es n b
unheld-as es n b h t e = absurd (none-some t (sym h ∙ e))

-- it is written to the device
pub AreKept-written : (es : Entries) (c : Blocks) (d : Bool) (n : ℕ) (b : List ℕ) → IsHeldAs es n b → AreKept es c d
    → AreKept es (set c n b) d
unfolding AreKept
AreKept-written es c d n b told held k t e =
    let was = held k t e in
    record {
      inside = omega (arith, length-set c n b, was.inside);
      size = was.size;
      clean = λ sure same. elim (cases_eq k n) [
        | inl is ↦ told t (ap (λ i. lookup (nat_eq i) es) (sym is) ∙ e)
            ∙ sym (get_or-set_same c n b [] (subst (λ i. i < length c) is was.inside))
            ∙ ap (λ i. get_or (set c n b) i []) (sym is)
        | inr not ↦ was.clean sure same ∙ sym (get_or-set_other c n k b [] not)
      ];
    }

-- a write failed
pub AreKept-doubt : (es : Entries) (c : Blocks) (d : Bool) (new : Blocks) → length new ≡ length c → AreKept es c d
    → AreKept es new true
unfolding AreKept
AreKept-doubt es c d new e held k s h =
    let was = held k s h in
    record { inside = omega (arith, was.inside); size = was.size; clean = λ sure _. absurd cc }

-- what the write of a held block leaves, whether it was done or not
pub AreKept-tried : {E : Type 0} (es : Entries) (c new : Blocks) (d e : Bool) (n : ℕ) (b : List ℕ) (r : Result Unit E)
    → IsHeldAs es n b → AreKept es c d → length new ≡ length c
    → OnOk r (new ≡ set c n b) → OnOk r (e ≡ d) → OnErr r (e ≡ true) → AreKept es new e
AreKept-tried es c new d e n b (Ok x) told held count written kept doubt =
    subst (λ l. AreKept es l e) (sym written)
    (subst (AreKept es (set c n b)) (sym kept) (AreKept-written es c d n b told held))
AreKept-tried es c new d e n b (Err x) told held count written kept doubt =
    subst (AreKept es new) (sym doubt) (AreKept-doubt es c d new count held)

pub overlay-tried : {E : Type 0} (es : Entries) (c new : Blocks) (n : ℕ) (s : Slot) (r : Result Unit E)
    → lookup (nat_eq n) es ≡ Some s → OnOk r (new ≡ set c n s.bytes) → OnOk r (overlay es new ≡ overlay es c)
overlay-tried es c new n s (Ok x) h written = ap (overlay es) written ∙ overlay-written es c n s h
overlay-tried es c new n s (Err x) h written = written

-- a block that isn't held is written to the device
pub overlay-other : (es : Entries) (c : Blocks) (n : ℕ) (b : List ℕ) → lookup (nat_eq n) es ≡ None → n < length c
    → overlay es (set c n b) ≡ set (overlay es c) n b
overlay-other es c n b none low = overlay-put es es c (set c n b) n b (length-set c n b) low
    (λ k _ not. ap (λ x. bytes_or (lookup (nat_eq k) es) x) (get_or-set_other c n k b [] not))
    (held-none es (set c n b) n none ∙ get_or-set_same c n b [] low)
