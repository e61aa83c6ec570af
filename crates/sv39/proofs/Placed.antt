-- What slots keep after one of them was filled or emptied.
use Rattle.ram.proofs.MemoryLemmas.{Ram}
use Rattle.std.proofs.Common.{◌≡◌, ◌≢◌, ℕ, zero, suc, ◌%◌, ◌^◌, ◌<◌, inl, inr, List, [], ◌∷◌, length, Some, refl, ap}
use Rattle.std.proofs.Common.{◌∙◌, arith, ◌/◌, sym}
use Rattle.std.proofs.lemmas.Bool.{cases_eq}
use Rattle.std.specs.Prelude.{slice_get, slice_set, ◌⊎◌, option_map}
use Rattle.unixmodel.specs.declared.trap.Access.{Access}
use Rattle.unixmodel.specs.declared.trap.Access.TheVariants.{Fetch, Load, Store}
use Rattle.unixmodel.specs.Translation.{Translation, walk_page, place_in, Held, IsKept, HoldsNothing}
use Rattle.ram.specs.declared.FrameNo.{FrameNo}
use Rattle.sv39.specs.Lookaside.{HasSlot, IsPlaced, Keeps, Kept, Table, filled, for_access, of_page}
use Rattle.sv39.specs.Lookaside.{set_for}
use Rattle.sv39.specs.Mapping.{IsCoherent, Mapped, Shows, WalksTo}

-- ---- one list

get-set : {X : Type 0} (xs : List X) (i : ℕ) (y : X) → i < length xs → slice_get (slice_set xs i y) i ≡ Some y
get-set [] i y h = absurd (omega arith)
get-set (x ∷ xs) zero y h = refl
get-set (x ∷ xs) (suc i) y h = get-set xs i y (omega arith)

get-other : {X : Type 0} (xs : List X) (i j : ℕ) (y : X) → j ≢ i → slice_get (slice_set xs i y) j ≡ slice_get xs j
get-other [] i j y h = refl
get-other (x ∷ xs) zero zero y h = absurd (h refl)
get-other (x ∷ xs) zero (suc j) y h = refl
get-other (x ∷ xs) (suc i) zero y h = refl
get-other (x ∷ xs) (suc i) (suc j) y h = get-other xs i j y (λ e. h (ap suc e))

get-same : {X : Type 0} (xs : List X) (i : ℕ) (y z : X) → slice_get (slice_set xs i y) i ≡ Some z → y ≡ z
get-same [] i y z h = absurd (cc)
get-same (x ∷ xs) zero y z h = cc
get-same (x ∷ xs) (suc i) y z h = get-same xs i y z h

-- ---- the slots for an access

placed-joins : (n : ℕ) (table : Table) (root page frame : ℕ) → HasSlot table (page % n) → page < 2 ^ 52
    → IsPlaced n (filled table (page % n) root page frame) root page frame
placed-joins n table root page frame inside bounded = record {
  at_page = get-set table.pages (page % n) page inside.0;
  at_root = get-set table.roots (page % n) (record { 0 = root }) inside.1;
  at_frame = get-set table.frames (page % n) (record { 0 = frame }) inside.2;
  bounded = bounded;
}

-- an empty slot keeps nothing
pub forgotten : (n at : ℕ) (table : Table) (root page frame : ℕ)
    → IsPlaced n (record table { pages = slice_set table.pages at 18446744073709551615 }) root page frame
    → IsPlaced n table root page frame × (page % n ≢ at)
forgotten n at table root page frame is =
    let other : page % n ≢ at = λ e.
    (let none = get-same table.pages at 18446744073709551615 page (rw e at is.at_page) in
    let bounded = is.bounded in omega (arith, none, bounded)) in (
      record {
        at_page = sym (get-other table.pages at (page % n) 18446744073709551615 other) ∙ is.at_page;
        at_root = is.at_root;
        at_frame = is.at_frame;
        bounded = is.bounded;
      },
      other,
    )

-- ---- a slot for an access is filled

pub set-joins : (n : ℕ) (kept : Kept) (access : Access) (root page frame : ℕ)
    → HasSlot (for_access kept access) (page % n) → page < 2 ^ 52
    → IsPlaced n (for_access (set_for kept access (page % n) root page frame) access) root page frame
set-joins n kept Fetch root page frame = placed-joins n kept.fetches root page frame
set-joins n kept Load root page frame = placed-joins n kept.loads root page frame
set-joins n kept Store root page frame = placed-joins n kept.stores root page frame

module _ (n at r p f root page frame : ℕ) where
  abbrev IsSame : Type 0
  IsSame = (r ≡ root) × (p ≡ page) × (f ≡ frame)

  placed-stays : (table : Table) → page % n ≢ at → IsPlaced n table root page frame
      → IsPlaced n (filled table at r p f) root page frame
  placed-stays table other is = record {
    at_page = get-other table.pages at (page % n) p other ∙ is.at_page;
    at_root = get-other table.roots at (page % n) (record { 0 = r }) other ∙ is.at_root;
    at_frame = get-other table.frames at (page % n) (record { 0 = f }) other ∙ is.at_frame;
    bounded = is.bounded;
  }

  placed-only : (table : Table) → IsPlaced n (filled table at r p f) root page frame
      → IsPlaced n table root page frame ⊎ IsSame
  placed-only table is = elim (cases_eq (page % n) at) [
    | inl here ↦ inr (
      ap (λ (x : FrameNo). x.0) (get-same table.roots at (record { 0 = r }) (record { 0 = root })
          (rw here at is.at_root)),
      get-same table.pages at p page (rw here at is.at_page),
      ap (λ (x : FrameNo). x.0) (get-same table.frames at (record { 0 = f }) (record { 0 = frame })
          (rw here at is.at_frame)),
    )
    | inr other ↦ inl (record {
      at_page = sym (get-other table.pages at (page % n) p other) ∙ is.at_page;
      at_root = sym (get-other table.roots at (page % n) (record { 0 = r }) other) ∙ is.at_root;
      at_frame = sym (get-other table.frames at (page % n) (record { 0 = f }) other) ∙ is.at_frame;
      bounded = is.bounded;
    })
  ]

  stays-for : (kept : Kept) (access a : Access) → page % n ≢ at → IsPlaced n (for_access kept a) root page frame
      → IsPlaced n (for_access (set_for kept access at r p f) a) root page frame
  stays-for kept Fetch Fetch other is = placed-stays kept.fetches other is
  stays-for kept Load Load other is = placed-stays kept.loads other is
  stays-for kept Store Store other is = placed-stays kept.stores other is
  stays-for kept access a other is = is

  only-for : (kept : Kept) (access a : Access)
      → IsPlaced n (for_access (set_for kept access at r p f) a) root page frame
      → IsPlaced n (for_access kept a) root page frame ⊎ ((a ≡ access) × IsSame)
  only-for kept Fetch Fetch is = elim (placed-only kept.fetches is) [ inl was ↦ inl was | inr now ↦ inr (refl, now) ]
  only-for kept Load Load is = elim (placed-only kept.loads is) [ inl was ↦ inl was | inr now ↦ inr (refl, now) ]
  only-for kept Store Store is = elim (placed-only kept.stores is) [ inl was ↦ inl was | inr now ↦ inr (refl, now) ]
  only-for kept access a is = inl is

pub set-stays : (n : ℕ) (kept : Kept) (access : Access) (at root page frame : ℕ) (t : Translation)
    → t.page % n ≢ at → IsPlaced n (for_access kept t.access) t.root t.page t.frame
    → IsPlaced n (for_access (set_for kept access at root page frame) t.access) t.root t.page t.frame
set-stays n kept access at root page frame t =
    stays-for n at root page frame t.root t.page t.frame kept access t.access

pub set-only : (n : ℕ) (kept : Kept) (access : Access) (root page frame : ℕ) (t : Translation)
    → IsPlaced n (for_access (set_for kept access (page % n) root page frame) t.access) t.root t.page t.frame
    → Keeps n kept t ⊎ (t ≡ of_page root page access frame)
set-only n kept access root page frame t is =
    elim (only-for n (page % n) root page frame t.root t.page t.frame kept access t.access is) [
      | inl was ↦ inl was
      | inr now ↦ inr (rw (now.0, now.1.0, now.1.1, now.1.2) refl)
    ]

-- ---- translators that hold only what a mapping has

-- a translator that holds only what the mapping has shows it
pub shows-coherent : (held : Held) (ram : Ram) (root : ℕ) (mapping : List Mapped) → WalksTo ram root mapping
    → IsCoherent held root mapping → Shows held ram root mapping
shows-coherent held ram root mapping tables coherent va access answer (inl walked) =
    walked ∙ ap (option_map (place_in va)) (tables.walks (va / 4096) access)
shows-coherent held ram root mapping tables coherent va access answer (inr kept) =
    let t : Translation = record { root = root; page = va / 4096; access = access; frame = kept.0 } in
    kept.2 ∙ ap (option_map (place_in va)) (sym (coherent.walks t kept.1 refl))

-- what a translator adds by walking the mapping's tables is the mapping's
pub coherent-kept : (old new : Held) (ram : Ram) (root : ℕ) (mapping : List Mapped) → WalksTo ram root mapping
    → IsCoherent old root mapping → IsKept old new ram root → IsCoherent new root mapping
coherent-kept old new ram root mapping tables coherent kept = record {
  walks = λ t h same.
      elim (kept t h) [
        | inl was ↦ coherent.walks t was same
        | inr now ↦ sym (tables.walks t.page t.access) ∙ ap (λ r. (walk_page ram r t.page t.access).frame) (sym now.0)
            ∙ now.1
      ];
}

-- after a fence a translator holds nothing that any mapping lacks
pub coherent-nothing : (held : Held) (root : ℕ) (mapping : List Mapped) → HoldsNothing held
    → IsCoherent held root mapping
coherent-nothing held root mapping empty = record { walks = λ t h same. absurd (empty t h) }
