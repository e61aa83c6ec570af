-- Lemmas on what `specs/Splice` defines.
use Rattle.std.specs.Prelude.{◌≡◌, ℕ, ◌+◌, ◌-◌, ◌<◌, ◌≤◌, ◌⊎◌, List, ◌++◌, length, take, drop, get_or}
use Rattle.std.proofs.Common.{◌∙◌, sym, ap, arith, inl, inr, ◌≡◌, ℕ, ◌+◌, ◌*◌, ◌/◌, ◌<◌, ◌≤◌, List, [], length, get_or}
use Rattle.std.proofs.Common.{set}
use Rattle.std.proofs.lemmas.List.{length-append, length-take-le, length-drop, get_or_append_left, get_or-append_right}
use Rattle.std.proofs.lemmas.List.{get_or-take, get_or-drop, drop-drop, ext_get_or, length-set, get_or-set_same}
use Rattle.std.proofs.lemmas.List.{get_or-set_other}
use borrow.Rule.Slice.PartMut.{put_mid}
use Rattle.blockdev.specs.Splice.{part, splice}
use Rattle.std.proofs.lemmas.Bool.{cases_eq, cases_lt}
use Rattle.blockdev.specs.Blocks.{block_of, blocks_of}
use Rattle.blockdev.specs.Sizes.{length-blocks_of, block_at-blocks_of}

-- the blocks of a disk
abbrev pub Blocks : Type 0
Blocks = List (List ℕ)

pub length-part : {X : Type 0} (p m : ℕ) (xs : List X) → p + m ≤ length xs → length (part p m xs) ≡ m
length-part p m xs h = length-take-le m (drop p xs) (omega (arith, length-drop p xs))

pub get_or-part : {X : Type 0} (p m : ℕ) (xs : List X) (j : ℕ) (d : X) → j < m
    → get_or (part p m xs) j d ≡ get_or xs (p + j) d
get_or-part p m xs j d h = get_or-take m (drop p xs) j d h ∙ get_or-drop p xs j d

pub length-splice : {X : Type 0} (at : ℕ) (new old : List X) → at + length new ≤ length old
    → length (splice at new old) ≡ length old
length-splice at new old h =
    omega (
      arith,
      length-append (take at old) (new ++ drop (at + length new) old),
      length-append new (drop (at + length new) old),
      length-drop (at + length new) old,
      length-take-le at old (omega arith),
    )

pub get_or-splice_before : {X : Type 0} (at : ℕ) (new old : List X) (j : ℕ) (d : X) → at + length new ≤ length old
    → j < at → get_or (splice at new old) j d ≡ get_or old j d
get_or-splice_before at new old j d h k =
    get_or_append_left (take at old) (new ++ drop (at + length new) old) d j
    (omega (arith, length-take-le at old (omega arith)))
    ∙ get_or-take at old j d k

pub get_or-splice_inside : {X : Type 0} (at : ℕ) (new old : List X) (j : ℕ) (d : X) → at + length new ≤ length old
    → at ≤ j → j < at + length new → get_or (splice at new old) j d ≡ get_or new (j - at) d
get_or-splice_inside at new old j d h k l =
    get_or-append_right (take at old) (new ++ drop (at + length new) old) at j d (length-take-le at old (omega arith)) k
    ∙ get_or_append_left new (drop (at + length new) old) d (j - at) (omega arith)

pub get_or-splice_after : {X : Type 0} (at : ℕ) (new old : List X) (j : ℕ) (d : X) → at + length new ≤ length old
    → at + length new ≤ j → get_or (splice at new old) j d ≡ get_or old j d
get_or-splice_after at new old j d h k =
    let e : at + length new + (j - at - length new) ≡ j = omega arith in
    get_or-append_right (take at old) (new ++ drop (at + length new) old)
    at j d (length-take-le at old (omega arith)) (omega arith)
    ∙ get_or-append_right new (drop (at + length new) old) (length new) (j - at) d (omega arith) (omega arith)
    ∙ get_or-drop (at + length new) old (j - at - length new) d
    ∙ ap (λ i. get_or old i d) e

-- a part of numbers that the write doesn't meet
pub part-splice_apart : (p m at : ℕ) (new old : List ℕ) → at + length new ≤ length old → p + m ≤ length old
    → (p + m ≤ at) ⊎ (at + length new ≤ p) → part p m (splice at new old) ≡ part p m old
part-splice_apart p m at new old h k apart =
    let same : length (splice at new old) ≡ length old = length-splice at new old h in
    let long : p + m ≤ length (splice at new old) = omega arith in
    ext_get_or 0 (part p m (splice at new old)) (part p m old)
    (length-part p m (splice at new old) long ∙ sym (length-part p m old k)) (λ i l.
    let i_in : i < m = omega (arith, length-part p m (splice at new old) long) in
    get_or-part p m (splice at new old) i 0 i_in
    ∙ (elim apart [
      | inl before ↦ get_or-splice_before
          at new old (p + i) 0 h (omega arith)
      | inr after ↦ get_or-splice_after at new old (p + i) 0 h (omega arith)
    ])
    ∙ sym (get_or-part p m old i 0 i_in))

-- the part that was written
pub part-splice_same : (at m : ℕ) (new old : List ℕ) → m ≡ length new → at + length new ≤ length old
    → part at m (splice at new old) ≡ new
part-splice_same at m new old e h =
    let same : length (splice at new old) ≡ length old = length-splice at new old h in
    let long : at + m ≤ length (splice at new old) = omega arith in
    ext_get_or 0 (part at m (splice at new old)) new (length-part at m (splice at new old) long ∙ e) (λ i l.
    let i_in : i < m = omega (arith, length-part at m (splice at new old) long) in
    get_or-part at m (splice at new old) i 0 i_in
    ∙ get_or-splice_inside at new old (at + i) 0 h (omega arith) (omega arith)
    ∙ ap (λ j. get_or new j 0) (omega arith))

-- what a write to a part of a slice leaves
pub put_mid-splice : {X : Type 0} (a k : ℕ) (xs ys zs : List X) → ys ≡ zs → k ≡ length zs
    → put_mid a k xs ys ≡ splice a zs xs
put_mid-splice a k xs ys zs e h = ap (λ r. take a xs ++ (r ++ drop k (drop a xs))) e
    ∙ ap (λ r. take a xs ++ (zs ++ r)) (drop-drop k a xs ∙ ap (λ n. drop (a + n) xs) h)

-- ---- a block written into the bytes is a block set in the list of blocks

pub blocks_of-splice : (n : ℕ) (xs ys : List ℕ) → length ys ≡ 1024 → n < length xs / 1024
    → blocks_of (splice (1024 * n) ys xs) ≡ set (blocks_of xs) n ys
blocks_of-splice n xs ys e h =
    let new : List ℕ = splice (1024 * n) ys xs in
    let fits : 1024 * n + length ys ≤ length xs = omega arith in
    let same : length (splice (1024 * n) ys xs) ≡ length xs = length-splice (1024 * n) ys xs fits in
    let long : length (blocks_of (splice (1024 * n) ys xs)) ≡ length xs / 1024 =
    length-blocks_of (splice (1024 * n) ys xs) ∙ ap (λ k. k / 1024) same in
    ext_get_or [] (blocks_of (splice (1024 * n) ys xs)) (set (blocks_of xs) n ys)
    (long ∙ sym (length-blocks_of xs) ∙ sym (length-set (blocks_of xs) n ys))
    (λ i l.
    let i_in : i < length xs / 1024 = omega arith in
    block_at-blocks_of (splice (1024 * n) ys xs) i (omega arith)
    ∙ (elim (cases_eq i n) [
      | inl here ↦ ap (block_of (splice (1024 * n) ys xs)) here ∙ part-splice_same (1024 * n) 1024 ys xs (sym e) fits
          ∙ sym (get_or-set_same (blocks_of xs) n ys [] (omega (arith, length-blocks_of xs)))
          ∙ ap (λ k. get_or (set (blocks_of xs) n ys) k []) (sym here)
      | inr other ↦ part-splice_apart (1024 * i) 1024 (1024 * n) ys xs fits (omega arith)
          (elim (cases_lt i n) [ inl below ↦ inl (omega arith) | inr above ↦ inr (omega arith) ])
          ∙ sym (get_or-set_other (blocks_of xs) n i ys [] other ∙ block_at-blocks_of xs i i_in)
    ]))
