-- Pairs that come one after the other, and what fits by them.
use Rattle.std.proofs.Common.{ap, arith, below_more, Bool, false, inl, inr, length, List, None, not, Option, refl}
use Rattle.std.proofs.Common.{replicate, Some, suc, sym, true, zero, ℕ, ◌+◌, ◌<◌, ◌≤◌, ◌∙◌, ◌≡◌, ◌⊎◌}
use Rattle.std.proofs.lemmas.Bool.{cases_lt, OnTrue_at, OnTrue_from}
use Rattle.std.proofs.lemmas.List.{get_or_past}
use Rattle.std.specs.Bool.{OnTrue}
use Rattle.std.specs.Prelude.{is_some, option_and_then, option_map}
use Rattle.likeness.specs.declared.pairs.Pairs as code
use Rattle.likeness.specs.Pairing.{FitsAt, Grows, IsSame, pairs_of}
use Rattle.renumbering.specs.Pairs.{ArePairs, BothFit, EachFits, FilesFit, IsPair, Pairs, ProcessesFit, TablesFit}
use Rattle.renumbering.specs.Pairs.{TargetsFit}
use Rattle.unixmodel.specs.Files.{slot}
use Rattle.unixmodel.specs.OpenFiles.{OpenFile, Target}
use Rattle.unixmodel.specs.OpenFiles.Target.{OnNode, OnPipe}
use Rattle.unixmodel.specs.Process.{Process}

-- ---- pairs

slot-free : {X : Type 0} (n i : ℕ) → slot (replicate {A = Option X} n None) i ≡ None
slot-free zero i = refl
slot-free (suc n) zero = refl
slot-free (suc n) (suc i) = slot-free n i

no-slot : (n k l : ℕ) → slot (replicate {A = Option ℕ} n None) k ≡ Some l → ⊥
no-slot n k l at = let none : None ≡ Some l = sym (slot-free {X = ℕ} n k) ∙ at in cc

pub no-pairs : (n limit : ℕ) → ArePairs (record { there = replicate n None; back = replicate n None }) limit
no-pairs n limit = record {
  first = λ k l at. absurd (no-slot n k l at);
  second = λ k l at. absurd (no-slot n k l at);
  forth = λ k l at. absurd (no-slot n k l at);
  back = λ k l at. absurd (no-slot n l k at);
}

pub grows-none : (p : code.Pairs) → Grows p p
grows-none p = record { stay = λ k l at. at; paired = λ paired. paired }

pub grows-on : {old mid new : code.Pairs} → Grows old mid → Grows mid new → Grows old new
grows-on before after = record {
  stay = λ k l at. after.stay k l (before.stay k l at);
  paired = λ paired. after.paired (before.paired paired);
}

-- ---- what fits by pairs fits by more pairs

both-fit : {X : Type 0} {Fits More : X → X → Type 0} → ((x y : X) → Fits x y → More x y) → (o u : Option X)
    → BothFit Fits o u → BothFit More o u
both-fit so None None fits = fits
both-fit so (Some x) (Some y) fits = so x y fits
both-fit so None (Some y) fits = absurd fits
both-fit so (Some x) None fits = absurd fits

targets-fit : {old new : code.Pairs} → Grows old new → (t u : Target) → TargetsFit (pairs_of old) t u
    → TargetsFit (pairs_of new) t u
targets-fit grows (OnNode n offset) u fits = fits
targets-fit grows (OnPipe q end) u fits = (fits.0, grows.stay q fits.0 fits.1, fits.2)

files-fit : {old new : code.Pairs} → Grows old new → (f g : OpenFile) → FilesFit (pairs_of old) f g
    → FilesFit (pairs_of new) f g
files-fit grows f g fits = record { target = targets-fit grows f.target g.target fits.target; rest = fits.rest }

pub each-fits : {X : Type 0} {Fits More : X → X → Type 0} {xs ys : List (Option X)}
    → ((x y : X) → Fits x y → More x y) → EachFits Fits xs ys → EachFits More xs ys
each-fits {xs = xs} {ys = ys} so each =
    record { size = each.size; fits = λ i. both-fit so (slot xs i) (slot ys i) (each.fits i) }

processes-fit : {old new : code.Pairs} → Grows old new → (p q : Process) → ProcessesFit (pairs_of old) p q
    → ProcessesFit (pairs_of new) p q
processes-fit grows p q fits =
    record { descriptors = each-fits (λ k l. grows.stay k l) fits.descriptors; rest = fits.rest }

-- ---- loops over numbers

-- below n each number fits so far
pub record SoFit (P : Pairs → ℕ → Type 0) (old new : code.Pairs) (n : ℕ) : Type 0 where
  pub grows : Grows old new
  pub fits : (k : ℕ) → k < n → P (pairs_of new) k

pub so-none : {P : Pairs → ℕ → Type 0} (p : code.Pairs) → SoFit P p p 0
so-none p = record { grows = grows-none p; fits = λ k low. absurd (omega arith) }

so-next : {P : Pairs → ℕ → Type 0} {old mid new : code.Pairs} (n : ℕ)
    → ((k : ℕ) → P (pairs_of mid) k → P (pairs_of new) k) → SoFit P old mid n → Grows mid new → P (pairs_of new) n
    → SoFit P old new (n + 1)
so-next {P} {new = new} n keeps before grows fits = record {
  grows = grows-on before.grows grows;
  fits = below_more (P (pairs_of new)) n (λ k low. keeps k (before.fits k low)) fits;
}

-- slots that fit one by one, by what holds of pairs
abbrev pub SlotsFit : {X : Type 0} → (Pairs → X → X → Type 0) → List (Option X) → List (Option X) → Pairs → ℕ → Type 0
SlotsFit Fits xs ys pairs k = BothFit (Fits pairs) (slot xs k) (slot ys k)

pub descriptor-next : {old mid new : code.Pairs} (xs ys : List (Option ℕ)) (n : ℕ)
    → SoFit (SlotsFit IsPair xs ys) old mid n → Grows mid new → BothFit (IsPair (pairs_of new)) (slot xs n) (slot ys n)
    → SoFit (SlotsFit IsPair xs ys) old new (n + 1)
descriptor-next xs ys n before grows fits =
    so-next n (λ k. both-fit (λ x y. grows.stay x y) (slot xs k) (slot ys k)) before grows fits

pub place-next : {old mid new : code.Pairs} (xs ys : List (Option Process)) (n : ℕ)
    → SoFit (SlotsFit ProcessesFit xs ys) old mid n → Grows mid new
    → BothFit (ProcessesFit (pairs_of new)) (slot xs n) (slot ys n)
    → SoFit (SlotsFit ProcessesFit xs ys) old new (n + 1)
place-next xs ys n before grows fits =
    so-next n (λ k. both-fit (processes-fit grows) (slot xs k) (slot ys k)) before grows fits

-- an open file beside the one with its other number
abbrev pub OpensFit : Pairs → List (Option OpenFile) → List (Option OpenFile) → Pairs → ℕ → Type 0
OpensFit files xs ys pipes k = FitsAt files (FilesFit pipes) xs ys k

pub open-next : {old mid new : code.Pairs} (files : Pairs) (xs ys : List (Option OpenFile)) (n : ℕ)
    → SoFit (OpensFit files xs ys) old mid n → Grows mid new → FitsAt files (FilesFit (pairs_of new)) xs ys n
    → SoFit (OpensFit files xs ys) old new (n + 1)
open-next files xs ys n before grows fits =
    so-next n
    (λ k. both-fit (files-fit grows) (slot xs k) (option_and_then (slot ys) (slot files.there k))) before grows fits

-- ---- after the loops

pub slots-fit : {X : Type 0} {Fits : X → X → Type 0} (xs ys : List (Option X)) → length ys ≡ length xs
    → ((k : ℕ) → k < length xs → BothFit Fits (slot xs k) (slot ys k)) → EachFits Fits xs ys
slots-fit {X} {Fits} xs ys long each = record { size = long; fits = λ k. by k (cases_lt k (length xs)) }
  where
    free : (k : ℕ) → length xs ≤ k → BothFit Fits (slot xs k) (slot ys k)
    free k high =
        rw (get_or_past xs k None high, get_or_past ys k None (omega (arith, long, high))) tt

    by : (k : ℕ) → (k < length xs) ⊎ (length xs ≤ k) → BothFit Fits (slot xs k) (slot ys k)
    by k (inl low) = each k low
    by k (inr high) = free k high

-- tables fit whose numbers were all looked at
pub table-fits : {X : Type 0} {Fits : X → X → Type 0} (pairs : Pairs) (xs ys : List (Option X)) → length xs ≡ 100
    → length ys ≡ 100 → ArePairs pairs 100 → ((k : ℕ) → k < 100 → FitsAt pairs Fits xs ys k)
    → ((l : ℕ) → l < 100 → slot pairs.back l ≡ None → slot ys l ≡ None) → TablesFit pairs Fits xs ys
table-fits {X} {Fits} pairs xs ys long other_long paired each free = record {
  size = other_long ∙ sym long;
  paired = rw long paired;
  fits = λ k l at. both k l at (each k (paired.first k l at));
  here = λ k at. here k at (cases_lt k 100);
  there = λ l at. there l at (cases_lt l 100);
}
  where
    both : (k l : ℕ) → slot pairs.there k ≡ Some l → FitsAt pairs Fits xs ys k → BothFit Fits (slot xs k) (slot ys l)
    both k l at fits = rw at at fits

    alone : (o : Option X) → BothFit Fits o None → o ≡ None
    alone None fits = refl
    alone (Some x) fits = absurd fits

    here : (k : ℕ) → slot pairs.there k ≡ None → (k < 100) ⊎ (100 ≤ k) → slot xs k ≡ None
    here k at (inl low) = let fits = each k low in alone (slot xs k) (rw at at fits)
    here k at (inr high) = get_or_past xs k None (omega (arith, long, high))

    there : (l : ℕ) → slot pairs.back l ≡ None → (l < 100) ⊎ (100 ≤ l) → slot ys l ≡ None
    there l at (inl low) = free l low at
    there l at (inr high) = get_or_past ys l None (omega (arith, other_long, high))

-- ---- slots, as they are read

module _ {X : Type 0} (Fits : X → X → Type 0) (pairs : Pairs) (xs ys : List (Option X)) (k : ℕ) where
  -- a number in no pair, and whether nothing has it
  pub alone-at : {Y : Type 0} (f : Y → X) (free : Bool) (o : Option Y) → None ≡ slot pairs.there k
      → option_map f o ≡ slot xs k → is_some o ≡ not free → OnTrue free (FitsAt pairs Fits xs ys k)
  alone-at f free None none here is = OnTrue_from free _ (λ agreed. rw (sym none, sym here) tt)
  alone-at f free (Some y) none here is =
      OnTrue_from free _ (λ agreed. absurd (let both : true ≡ false = is ∙ ap not agreed in cc))

  -- a number in a pair
  pub paired-at : (fit : Bool) (l : ℕ) → Some l ≡ slot pairs.there k
      → OnTrue fit (BothFit Fits (slot xs k) (slot ys l)) → OnTrue fit (FitsAt pairs Fits xs ys k)
  paired-at fit l pair told = OnTrue_from fit _ (λ agreed. rw (sym pair) (OnTrue_at agreed told))

-- nothing is there, and whether nothing is in the other table
pub both-free : {X Y : Type 0} (Fits : X → X → Type 0) (f : Y → X) (o u : Option X) (free : Bool) (r : Option Y)
    → None ≡ o → option_map f r ≡ u → is_some r ≡ not free → OnTrue free (BothFit Fits o u)
both-free Fits f o u free None none there is = OnTrue_from free _ (λ agreed. rw (sym none, sym there) tt)
both-free Fits f o u free (Some y) none there is =
    OnTrue_from free _ (λ agreed. absurd (let both : true ≡ false = is ∙ ap not agreed in cc))

pub both-there : {X : Type 0} (Fits : X → X → Type 0) (fit : Bool) (o u : Option X) (x y : X) → Some x ≡ o → Some y ≡ u
    → OnTrue fit (Fits x y) → OnTrue fit (BothFit Fits o u)
both-there Fits fit o u x y here there told =
    OnTrue_from fit _ (λ agreed. rw (sym here, sym there) (OnTrue_at agreed told))

some-same : (x y : List ℕ) → Some x ≡ Some y → y ≡ x
some-same x y same = cc

-- slots that are equal
pub same-fit : (o u : Option (List ℕ)) → o ≡ u → BothFit IsSame o u
same-fit None None same = tt
same-fit (Some x) (Some y) same = some-same x y same
same-fit None (Some y) same = absurd cc
same-fit (Some x) None same = absurd cc
