-- Lemmas on trap frames: registers are saved there, and loaded from there.
use Rattle.vm.proofs.Common.{Ram, [], ap, arith, cases_eq, count_of-first, ext_get_or, frame_of, get_or}
use Rattle.vm.proofs.Common.{get_or-set_other, get_or-set_same, inl, inr, IsMapped, IsOnce, length, length-set, List}
use Rattle.vm.proofs.Common.{lookup-sound, pages_in, pages_of, refl, slice_set, Space, Stands, sym, ℕ, ◌<◌, ◌∙◌, ◌≡◌}
use Rattle.vm.proofs.Common.{◌≤◌, get_or-map-range_with_len, IsMemory, length-map-range_with_len, put, put_bytes}
use Rattle.vm.proofs.Common.{registers_of, suc, trap_page, word_bytes, word_of, zero, ◌*◌, ◌+◌, ◌^◌, ◌⊎◌}
use Rattle.vm.proofs.StoreLemmas.{Stands-twice, Writes-trap, pages-kept, private-set, stands}
use Rattle.ram.proofs.MemoryLemmas.{frame_of-put_same, get_or-put_bytes_above, get_or-put_bytes_below}
use Rattle.ram.proofs.MemoryLemmas.{length-word_bytes, word_of-put_beside, word_of-put_same}
use Rattle.vm.specs.TrapFrame.{IsSpare, saved_pc, saved_register, saved_registers}

-- ---- lemmas on trap frames

-- the registers, one by one
pub length-saved : (m : Ram) (s : Space) → length (saved_registers m s) ≡ 32
unfolding saved_registers
length-saved m s = ap suc (length-map-range_with_len (saved_register m s) 1 31)

module _ (m : Ram) (s : Space) (xs : List ℕ) (len : length xs ≡ 32) (none : get_or xs 0 0 ≡ 0)
    (same : (i : ℕ) → 0 < i → i < 32 → saved_register m s i ≡ get_or xs i 0) where
  each : (i : ℕ) → i < 32 → get_or (saved_registers m s) i 0 ≡ get_or xs i 0
  unfolding saved_registers
  each zero h = sym none
  each (suc i) h = get_or-map-range_with_len (saved_register m s) 1 31 i (suc i) 0 (omega arith) (omega arith)
      ∙ same (suc i) (omega arith) h

  pub saved-is : saved_registers m s ≡ xs
  saved-is = ext_get_or 0 (saved_registers m s) xs (length-saved m s ∙ sym len)
      (λ i h. each i (omega (arith, length-saved m s)))

-- a store into the trap frame leaves the pages
pub trap-stored : (m k : Ram) (s : Space) (o x : ℕ) → IsMapped m s → IsOnce m s → k ≡ put m s.trap.0 o (word_bytes 8 x)
    → Stands m k s × (pages_of k s ≡ pages_of m s)
unfolding put
trap-stored m k s o x is once e =
    let w = put_bytes (frame_of m s.trap.0) o (word_bytes 8 x) in
    let writes = Writes-trap m k s.root.0 s.trap.0 (pages_in s.size) w e in (
      stands m k s is once writes
          (λ free h. private-set m k free s.trap.0 w
          (h.own s.trap.0 (omega (arith, count_of-first s.trap.0 s.trap.0 [] refl))) e),
      pages-kept m k s w is once e,
    )

-- and the bytes beside it
pub beside-stored : (m k : Ram) (s : Space) (o x at : ℕ) → s.trap.0 < length m → length (frame_of m s.trap.0) ≡ 4096
    → o + 8 ≤ 4096 → (at < o) ⊎ (o + 8 ≤ at) → k ≡ put m s.trap.0 o (word_bytes 8 x)
    → get_or (registers_of k s) at 0 ≡ get_or (registers_of m s) at 0
beside-stored m k s o x at inside whole fits (inl low) e =
    rw (e, frame_of-put_same m s.trap.0 o (word_bytes 8 x) inside)
    (get_or-put_bytes_below (frame_of m s.trap.0) o (word_bytes 8 x)
    at 0 (omega (arith, length-word_bytes 8 x)) low)
beside-stored m k s o x at inside whole fits (inr high) e =
    rw (e, frame_of-put_same m s.trap.0 o (word_bytes 8 x) inside)
    (get_or-put_bytes_above (frame_of m s.trap.0) o (word_bytes 8 x)
    at 0 (omega (arith, length-word_bytes 8 x)) (omega (arith, length-word_bytes 8 x)))

pub trap-inside : (m : Ram) (s : Space) → IsMapped m s → s.trap.0 < length m
trap-inside m s is = (lookup-sound is.tree trap_page is.trap).0

-- the program counter and the registers below i are in the trap frame, and all else is as it was
pub record Saves (m k : Ram) (s : Space) (xs : List ℕ) (pc i : ℕ) : Type 0 where
  pub stands : Stands m k s
  pub pages : pages_of k s ≡ pages_of m s
  pub counter : saved_pc k s ≡ pc
  pub saved : (j : ℕ) → 0 < j → j < i → saved_register k s j ≡ get_or xs j 0
  pub spare : (at : ℕ) → IsSpare at → get_or (registers_of k s) at 0 ≡ get_or (registers_of m s) at 0

pub saves-start : {m k : Ram} {s : Space} {xs : List ℕ} {pc : ℕ} → IsMemory m → IsMapped m s → IsOnce m s → pc < 2 ^ 64
    → k ≡ put m s.trap.0 24 (word_bytes 8 pc) → Saves m k s xs pc 1
saves-start {m} {k} {s} {pc} memory is once small e =
    let inside = trap-inside m s is in
    let both = trap-stored m k s 24 pc is once e in
    record {
      stands = both.0;
      pages = both.1;
      counter = ap (λ n. word_of n s.trap.0 24 8) e
          ∙ word_of-put_same m s.trap.0 24 8 pc memory inside (omega arith) small;
      saved = λ j low high. absurd (omega arith);
      spare = λ at free. beside-stored m k s 24 pc
          at inside (memory.sized s.trap.0 inside) (omega arith)
          (elim free [ inl a ↦ inl a | inr b ↦ elim b [ inl x ↦ inr (omega arith) | inr y ↦ inr (omega arith) ] ]) e;
    }

module _ {m k : Ram} {s : Space} {xs : List ℕ} {pc i : ℕ} (memory : IsMemory k) (was : Saves m k s xs pc i) where
  pub saves-next : {l : Ram} {x : ℕ} → 0 < i → i < 32 → x < 2 ^ 64 → x ≡ get_or xs i 0
      → l ≡ put k s.trap.0 (32 + 8 * i) (word_bytes 8 x) → Saves m l s xs pc (i + 1)
  saves-next {l} {x} low high small is e =
      let t = s.trap.0 in
      let o = 32 + 8 * i in
      let inside = trap-inside k s was.stands.mapped in
      let size = length-word_bytes 8 x in
      let both = trap-stored k l s o x was.stands.mapped was.stands.once e in
      record {
        stands = Stands-twice m k l s was.stands both.0;
        pages = both.1 ∙ was.pages;
        counter = ap (λ n. word_of n t 24 8) e
            ∙ word_of-put_beside k t o (word_bytes 8 x) 24 8 memory inside (omega arith) (inl (omega arith))
            ∙ was.counter;
        saved = λ j lo hi. elim (cases_eq j i) [
          | inl same ↦ ap (λ q. word_of l t (32 + 8 * q) 8) same ∙ ap (λ n. word_of n t o 8) e
              ∙ word_of-put_same k t o 8 x memory inside (omega arith) small ∙ is ∙ ap (λ q. get_or xs q 0) (sym same)
          | inr ne ↦ ap (λ n. word_of n t (32 + 8 * j) 8) e
              ∙ word_of-put_beside k t o (word_bytes 8 x) (32 + 8 * j) 8 memory inside (omega arith)
              (inl (omega arith)) ∙ was.saved j lo (omega arith)
        ];
        spare = λ at free. beside-stored k l s o x
            at inside (memory.sized t inside) (omega arith)
            (elim free [
              | inl a ↦ inl (omega arith)
              | inr b ↦ elim b
                  [ inl x ↦ inl (omega arith) | inr y ↦ inr (omega arith) ]
            ]) e ∙ was.spare at free;
      }

-- the registers below i of a list are those of the trap frame
pub record Loads (m : Ram) (s : Space) (xs : List ℕ) (i : ℕ) : Type 0 where
  pub count : length xs ≡ 32
  pub first : get_or xs 0 0 ≡ 0
  pub loaded : (j : ℕ) → 0 < j → j < i → saved_register m s j ≡ get_or xs j 0

pub loads-start : (m : Ram) (s : Space) (xs : List ℕ) → length xs ≡ 32 → Loads m s (slice_set xs 0 0) 1
loads-start m s xs len =
    record {
      count = length-set xs 0 0 ∙ len;
      first = get_or-set_same xs 0 0 0 (omega arith);
      loaded = λ j low high. absurd (omega arith);
    }

pub loads-next : {m : Ram} {s : Space} {xs : List ℕ} {i x : ℕ} → Loads m s xs i → 0 < i → i < 32
    → x ≡ saved_register m s i → Loads m s (slice_set xs i x) (i + 1)
loads-next {m} {s} {xs} {i} {x} was low high is = record {
  count = length-set xs i x ∙ was.count;
  first = get_or-set_other xs i 0 x 0 (omega arith) ∙ was.first;
  loaded = λ j lo hi. elim (cases_eq j i) [
    | inl same ↦ ap (saved_register m s) same ∙ sym is
        ∙ sym (ap (λ k. get_or (slice_set xs i x) k 0) same ∙ get_or-set_same xs i x 0 (omega arith))
    | inr ne ↦ was.loaded j lo (omega arith) ∙ sym (get_or-set_other xs i j x 0 ne)
  ];
}
