-- What the calls on frames do, as trades.
use Rattle.ram.proofs.MemoryLemmas.{Ram}
use Rattle.std.proofs.Common.{◌≡◌, ℕ, ◌+◌, ◌<◌, inl, inr, List, [], ◌∷◌, length, refl, ap, ◌∙◌, arith, eq-eqb, ltb}
use Rattle.std.proofs.Common.{get_or, slice_set}
use Rattle.std.proofs.lemmas.Bool.{cases_eq, ne_eqb}
use Rattle.ram.specs.Memory.{frame_of}
use Rattle.frames.specs.declared.Frames.{Frames}
use Rattle.frames.specs.Free.{counted, free_of, further_at, extra_of, IsFreeList, SameBut}
use Rattle.frames.proofs.FreeLemmas.{further-count}
use Rattle.frames.proofs.HolderLemmas.{count_of-first, count_of-other, free-holders, held-inside, holders-free}
use Rattle.frames.proofs.HolderLemmas.{not-free-held}
use Rattle.frames.specs.Holders.{one_if, count_of, holders_of, Gains, Loses, Trades}

pub Trades-none : (m : Ram) (s : Frames) (old : List ℕ) → Trades m m s s old old
Trades-none m s old = record
    { count = refl; moved = λ f. refl; others = λ f h. refl; fresh = λ f none some. absurd (omega arith) }

module _ {m k l : Ram} {s n q : Frames} {old mid new : List ℕ} (a : Trades m k s n old mid)
    (b : Trades k l n q mid new) where
  -- one trade after another
  pub Trades-twice : Trades m l s q old new
  Trades-twice = record {
    count = b.count ∙ a.count;
    moved = λ f. omega arith;
    others = λ f h. b.others f (omega arith) ∙ a.others f h;
    fresh = λ f none some. elim (cases_eq (count_of f mid) 0) [
      | inl gone ↦ omega (arith, b.fresh f gone some)
      | inr there ↦ a.fresh f none (omega arith)
    ];
  }

-- ---- what the calls on frames do, as trades

module _ {m k : Ram} {s n : Frames} (is : IsFreeList m s) (after : IsFreeList k n) where
  -- the holders where the free list is another and the table the same
  pub holders-table : length k ≡ length m → extra_of n ≡ extra_of s → (f : ℕ)
      → holders_of k n f + count_of f (free_of k n) ≡ holders_of m s f + count_of f (free_of m s)
  holders-table len same f =
      omega (
        arith,
        holders-free is f,
        holders-free after f,
        ap (λ l. one_if (ltb f l)) len,
        ap (λ (t : List ℕ × ℕ). get_or t.0 f 0) same,
      )

  -- a frame comes into the list, from its last holder
  pub holders-list : (f : ℕ) → length k ≡ length m → free_of k n ≡ f ∷ free_of m s → extra_of n ≡ extra_of s
      → Loses m k s n (f ∷ [])
  holders-list f len e same g = omega (arith, holders-table len same g, ap (count_of g) e)

pub Trades-take : (m : Ram) (s n : Frames) (f : ℕ) → IsFreeList m s → IsFreeList m n → free_of m s ≡ f ∷ free_of m n
    → extra_of n ≡ extra_of s → Trades m m s n [] (f ∷ [])
Trades-take m s n f is after e same = record {
  count = refl;
  moved = λ g. omega (arith, holders-table is after refl same g, ap (count_of g) e);
  others = λ g h. refl;
  fresh = λ g none some. elim (cases_eq g f) [
    | inl here ↦ free-holders is g (rw (e, here) (rw (eq-eqb f f refl) refl))
    | inr other ↦ absurd (omega (arith, count_of-other g f [] other))
  ];
}

-- a frame that is given back, by its last holder or by another
pub Trades-give : (m k : Ram) (s n : Frames) (f : ℕ) → IsFreeList m s → Loses m k s n (f ∷ []) → SameBut (f ∷ []) m k
    → (0 < further_at s f → k ≡ m) → 0 < holders_of m s f → Trades m k s n (f ∷ []) []
Trades-give m k s n f is moved same stays held = record {
  count = same.count;
  moved = λ g. omega (arith, moved g);
  others = λ g h. elim (cases_eq g f) [
    | inl here ↦
        let in_memory = held-inside m s f is held in
        let more : 0 < further_at s f =
        omega (
          arith,
          count_of-first g f [] here,
          ap (holders_of m s) here,
          not-free-held is f in_memory.0 in_memory.1,
        ) in
        ap (λ x. frame_of x g) (stays more)
    | inr other ↦ same.others g (rw (ne_eqb g f other) refl)
  ];
  fresh = λ g none some. absurd (omega arith);
}

module _ {m : Ram} {s t : Frames} (is : IsFreeList m s) (after : IsFreeList m t) where
  pub holders-more : (f x : ℕ) → free_of m t ≡ free_of m s → f < length m → 0 < counted s f
      → t.holders.items ≡ slice_set s.holders.items f x → x ≡ counted s f + 1 → Gains m m s t (f ∷ [])
  holders-more f x e low some items more g =
      elim (further-count s t f x g (omega arith) items) [
        | inl here ↦ omega (
          arith,
          holders-free is g,
          holders-free after g,
          ap (count_of g) e,
          count_of-first g f [] here.0,
        )
        | inr other ↦ omega (
          arith,
          holders-free is g,
          holders-free after g,
          ap (count_of g) e,
          count_of-other g f [] other.0,
        )
      ]

  pub holders-fewer : (f x : ℕ) → free_of m t ≡ free_of m s → f < length m
      → t.holders.items ≡ slice_set s.holders.items f x → x + 1 ≡ counted s f → 0 < x → Loses m m s t (f ∷ [])
  holders-fewer f x e low items fewer some g =
      elim (further-count s t f x g (omega arith) items) [
        | inl here ↦ omega (
          arith,
          holders-free is g,
          holders-free after g,
          ap (count_of g) e,
          count_of-first g f [] here.0,
        )
        | inr other ↦ omega (
          arith,
          holders-free is g,
          holders-free after g,
          ap (count_of g) e,
          count_of-other g f [] other.0,
        )
      ]
