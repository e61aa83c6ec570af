-- Lemmas on a console's bytes in its ring.
use Rattle.console.proofs.Common.{◌≡◌, ◌<◌, ℕ, zero, suc, ◌+◌, ◌++◌, ◌-◌, ◌%◌, List, [], get_or, length, drop, set}
use Rattle.console.proofs.Common.{refl, sym, ap, ap₂, ◌∙◌, arith, commit, with_byte, line_of, without_last, ring}
use Rattle.console.proofs.Common.{length-ring, take-ring, ring-append, ring-around, ring-set_behind, ring-push, ◌≢◌}
use Rattle.console.proofs.Common.{◌≤◌, Bool, true, false, ◌∷◌, None, Some, slice_get, append_assoc, append-nil, ne_eqb}
use Rattle.console.proofs.Common.{Taken, take_line, behind, Option, flat_map, Appends-trans, Appends, rub_out, rub_outs}
use Rattle.console.proofs.Common.{min, Console, erase_byte, erase_line, keyed_by}
use Rattle.console.specs.Output.{AppendsBeginning}
use Rattle.console.specs.declared.input.Change.TheVariants.{Erase}

pub line-push : (xs : List ℕ) {k : ℕ} (c e b : ℕ) → length xs ≡ 128 → k < 128 → c + e < 128
    → line_of (set xs ((k + c + e) % 128) b) k c (e + 1) ≡ with_byte (line_of xs k c e) b
line-push xs {k} c e b full start fits =
    ap₂ (λ l m. record { committed = l; edited = m })
    (ring-set_behind _ xs k c _ b (omega arith) (omega arith) (omega arith))
    (ring-push _ xs _ e _ b (omega arith) refl (omega arith) (omega arith))

pub line-commit : (xs : List ℕ) (k c e : ℕ) → line_of xs k (c + e) 0 ≡ commit (line_of xs k c e)
unfolding ring
line-commit xs k c e = ap (λ l. record { committed = l; edited = [] }) (ring-append _ xs k c e _ refl)

pub line-erase : (xs : List ℕ) (k c e n m : ℕ) → m ≡ e - n → line_of xs k c m ≡ without_last n (line_of xs k c e)
line-erase xs k c e n m h =
    rw (length-ring, ← h) (ap (λ l. record { committed = ring 128 xs k c; edited = l })
    (sym (take-ring _ xs _ m e (omega arith))))

pub line-drop_first : (xs : List ℕ) (k c e : ℕ) → 0 < c
    → line_of xs ((k + 1) % 128) (c - 1) e ≡ record (line_of xs k c e) { committed = drop 1 (ring 128 xs k c) }
unfolding ring
line-drop_first xs k zero e h = absurd (omega arith)
line-drop_first xs k (suc c) e h =
    let a : suc c - 1 ≡ c = omega arith in
    let b : k + 1 + c ≡ k + suc c = omega arith in
    let z : (k + 1) % 128 ≡ (k + 1) % 128 + 0 = omega arith in
    let y : k + 1 + 0 ≡ k + 1 = omega arith in
    ap (λ i. line_of xs ((k + 1) % 128) i e) a
    ∙ ap₂ (λ l m. record { committed = l; edited = m })
    (ap (λ i. ring 128 xs i c) z ∙ ring-around _ xs _ 0 c ∙ ap (λ i. ring 128 xs i c) y)
    (ring-around _ xs _ c e ∙ ap (λ i. ring 128 xs i e) b)

-- the byte at an index of a ring
byte-ring : (xs : List ℕ) (k n i : ℕ) → i < n → get_or (ring 128 xs k n) i 0 ≡ get_or xs ((k + i) % 128) 0
unfolding ring
byte-ring xs k zero i h = absurd (omega arith)
byte-ring xs k (suc n) zero h =
    let a : k ≡ k + 0 = omega arith in
    ap (λ j. get_or xs (j % 128) 0) a
byte-ring xs k (suc n) (suc i) h =
    let a : k + 1 + i ≡ k + suc i = omega arith in
    byte-ring xs (k + 1) n i (omega arith) ∙ ap (λ j. get_or xs (j % 128) 0) a

pub line-byte : (xs : List ℕ) (k c e : ℕ) {i : ℕ} → i < c + e
    → get_or xs ((k + i) % 128) 0 ≡ get_or (ring 128 xs k c ++ ring 128 xs (k + c) e) i 0
line-byte xs k c e {i} h = sym (byte-ring xs k (c + e) i h) ∙ ap (λ l. get_or l i 0) (ring-append _ xs k c e _ refl)

-- ---- the steps of a read

-- the first byte, and those after it
first-is : (bs : List ℕ) {b : ℕ} → Some b ≡ slice_get bs 0 → bs ≡ b ∷ drop 1 bs
first-is [] e = cc
first-is (x ∷ bs) {b} e = (let same : x ≡ b = cc in rw same refl)

pub first-some : (bs : List ℕ) {b : ℕ} → Some b ≡ slice_get bs 0 → 0 < length bs
first-some bs {b} e = omega (arith, ap length (first-is bs e))

none-is : (bs : List ℕ) → None ≡ slice_get bs 0 → bs ≡ []
none-is [] e = refl
none-is (x ∷ bs) e = cc

-- what a read takes in the end, t, after the bytes xs
module _ (xs bs : List ℕ) (h : Bool) (n i : ℕ) (t : Taken) (same : behind xs (take_line h (n - i) bs) ≡ t) where
  pub read-over : n ≤ i → t ≡ record { bytes = xs; rest = bs; over = true }
  unfolding take_line
  read-over high = let none : n - i ≡ 0 = omega arith in sym same ∙ rw (none, append-nil) refl

  module _ (low : i < n) where
    pub read-none : None ≡ slice_get bs 0 → t ≡ record { bytes = xs; rest = bs; over = false }
    unfolding take_line
    read-none e = let one : n - i ≡ suc (n - (i + 1)) = omega arith in sym same
        ∙ rw (none-is bs e, one, append-nil) refl

    module _ (b : ℕ) (first' : Some b ≡ slice_get bs 0) where
      begins : t ≡ behind xs (take_line h (suc (n - (i + 1))) (b ∷ drop 1 bs))
      begins = let one : n - i ≡ suc (n - (i + 1)) = omega arith in rw (← one, ← first-is bs first') (sym same)

      pub read-kept : b ≡ 4 → h ≡ true → t ≡ record { bytes = xs; rest = bs; over = true }
      unfolding take_line
      read-kept is some = begins ∙ rw (first-is bs first', is, some, append-nil) refl

      pub read-end : b ≡ 4 → h ≡ false → t ≡ record { bytes = xs; rest = drop 1 bs; over = true }
      unfolding take_line
      read-end is none = begins ∙ rw (is, none, append-nil) refl

      pub read-last : b ≡ 10 → t ≡ record { bytes = xs ++ b ∷ []; rest = drop 1 bs; over = true }
      unfolding take_line
      read-last is = begins ∙ rw is refl

      pub read-more : b ≢ 4 → b ≢ 10 → behind (xs ++ b ∷ []) (take_line true (n - (i + 1)) (drop 1 bs)) ≡ t
      unfolding take_line
      read-more ne nl = sym (begins ∙ rw (ne_eqb b 4 ne, ne_eqb b 10 nl, append_assoc) refl)

pub read-begin : (bs : List ℕ) (h : Bool) (n : ℕ) → behind [] (take_line h (n - 0) bs) ≡ take_line h n bs
read-begin bs h n = let all : n - 0 ≡ n = omega arith in rw all refl

-- ---- lemmas on what takes bytes off the screen

pub rub_outs-split : (n m t : ℕ) → t ≡ n + suc m → rub_outs t ≡ rub_outs n ++ (rub_out ++ rub_outs m)
unfolding rub_outs
rub_outs-split zero m t h = let same : t ≡ suc m = omega arith in rw same refl
rub_outs-split (suc n) m zero h = absurd (omega arith)
rub_outs-split (suc n) m (suc t) h = ap (λ l. rub_out ++ l) (rub_outs-split n m t (omega arith))
    ∙ sym (append_assoc rub_out (rub_outs n) (rub_out ++ rub_outs m))

pub rub_outs-more : (n : ℕ) → rub_outs (n + 1) ≡ rub_outs n ++ rub_out
unfolding rub_outs
rub_outs-more n = rub_outs-split n 0 (n + 1) (omega arith)

-- a byte of a line is taken off after another
pub rub_outs-line : (xs : List ℕ) → rub_outs (length xs) ≡ flat_map (λ _. rub_out) xs
unfolding rub_outs
rub_outs-line [] = refl
rub_outs-line (x ∷ xs) = ap (λ l. rub_out ++ l) (rub_outs-line xs)

-- a whole, and then a beginning of what follows it
pub begins_more : (before mid after : Option (List ℕ)) (xs ys zs all : List ℕ) → Appends before mid xs
    → AppendsBeginning mid after ys → (xs ++ ys) ++ zs ≡ all → AppendsBeginning before after all
begins_more before mid after xs ys zs all first p e = record {
  front = xs ++ p.front;
  rest = p.rest ++ zs;
  parts = append_assoc xs p.front (p.rest ++ zs)
      ∙ ap (λ l. xs ++ l) (sym (append_assoc p.front p.rest zs) ∙ ap (λ l. l ++ zs) p.parts)
      ∙ sym (append_assoc xs ys zs) ∙ e;
  took = Appends-trans _ _ _ xs _ first p.took;
}

-- ---- the keys that take bytes back

pub erases-line : (c : Console) {n : ℕ} → n ≡ length c.edited → keyed_by c (Erase n) ≡ erase_line c
erases-line c {n} h = let none : length c.edited - n ≡ 0 = omega arith in rw (none, h, rub_outs-line) refl

pub erases-byte : (c : Console) {n : ℕ} → n ≡ min (length c.edited) 1 → keyed_by c (Erase n) ≡ erase_byte c
unfolding rub_outs
erases-byte c {n} h = go _ n h where
  go : (es : List ℕ) (n : ℕ) → n ≡ min (length es) 1
      → keyed_by (record c { edited = es }) (Erase n) ≡ erase_byte (record c { edited = es })
  go [] n h = let none : n ≡ 0 = omega arith in rw none refl
  go (x ∷ xs) n h =
      let one : n ≡ 1 = omega arith in
      let more : suc (length xs) ≢ 0 = omega arith in
      rw (one, ne_eqb (suc (length xs)) 0 more) refl
