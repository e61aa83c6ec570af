-- Pairs of numbers are some of a renumbering.
use Rattle.std.proofs.Common.{[], ap, arith, length, List, map, nat_lt, None, Option, refl, Some, suc, sym}
use Rattle.std.proofs.Common.{zero, ℕ, ◌+◌, ◌<◌, ◌∙◌, ◌∷◌, ◌≡◌}
use Rattle.std.proofs.lemmas.Bool.{lt-ltb}
use Rattle.std.specs.Prelude.{option_map}
use Rattle.renumbering.proofs.Slots.{same-some}
use Rattle.renumbering.proofs.Tables.{same_numbers, sent, sent-there, swapped-else, swapped-same, there-same}
use Rattle.renumbering.specs.Pairs.{ArePairs, BothFit, EachFits, FilesFit, FittingStatesAreRenumbered, IsPair, Pairs}
use Rattle.renumbering.specs.Pairs.{ProcessesFit, TablesFit, TargetsFit}
use Rattle.renumbering.specs.Renumbered.{IsMoved, Renumbering, file_moved, process_moved}
use Rattle.renumbering.specs.Renumbered.{target_moved}
use Rattle.unixmodel.specs.Files.{slot}
use Rattle.unixmodel.specs.OpenFiles.{OpenFile, Target}
use Rattle.unixmodel.specs.OpenFiles.Target.{OnNode, OnPipe}
use Rattle.unixmodel.specs.Process.{Process}

-- ---- a renumbering that sends each number of a list, from n on, to the one in its slot

abbrev Keeps : ℕ → Renumbering → Type 0
Keeps limit r = (k : ℕ) → nat_lt (r.there k) limit ≡ nat_lt k limit

-- those below n go where r sends them, unless something else goes there
record Extends (limit n : ℕ) (xs : List (Option ℕ)) (r : Renumbering) : Type 0 where
  numbers : Renumbering
  keeps : Keeps limit numbers
  sends : (i l : ℕ) → slot xs i ≡ Some l → numbers.there (n + i) ≡ l
  stays : (j : ℕ) → j < n → ((i l : ℕ) → slot xs i ≡ Some l → r.there j ≡ l → ⊥) → numbers.there j ≡ r.there j

extends-none : {limit n : ℕ} {xs : List (Option ℕ)} {r : Renumbering} → Extends limit (n + 1) xs r
    → Extends limit n (None ∷ xs) r
extends-none {limit} {n} {xs} {r} rest = record {
  numbers = rest.numbers;
  keeps = rest.keeps;
  sends = by;
  stays = λ j less apart. rest.stays j (omega (arith, less)) (λ i l at. apart (suc i) l at);
}
  where
    by : (i l : ℕ) → slot (None ∷ xs) i ≡ Some l → rest.numbers.there (n + i) ≡ l
    by zero l at = absurd cc
    by (suc i) l at = ap rest.numbers.there (omega arith) ∙ rest.sends i l at

extends-some : {limit n : ℕ} {xs : List (Option ℕ)} {r : Renumbering} (m : ℕ)
    → ((i l : ℕ) → slot xs i ≡ Some l → m ≡ l → ⊥) → Extends limit (n + 1) xs (sent r n m)
    → Extends limit n (Some m ∷ xs) r
extends-some {limit} {n} {xs} {r} m other rest = record {
  numbers = rest.numbers;
  keeps = rest.keeps;
  sends = by;
  stays = λ j less apart.
      let still = swapped-else (r.there n) m (r.there j)
      (λ same. absurd (let here = there-same r j n same in omega (arith, here, less)))
      (λ same. apart 0 m refl same) in
      rest.stays j (omega (arith, less)) (λ i l at same. apart (suc i) l at (sym still ∙ same)) ∙ still;
}
  where
    here : rest.numbers.there n ≡ m
    here = rest.stays n (omega arith) (λ i l at same. other i l at (sym (sent-there r n m) ∙ same))
        ∙ sent-there r n m

    by : (i l : ℕ) → slot (Some m ∷ xs) i ≡ Some l → rest.numbers.there (n + i) ≡ l
    by zero l at = ap rest.numbers.there (omega arith) ∙ here ∙ same-some m l at
    by (suc i) l at = ap rest.numbers.there (omega arith) ∙ rest.sends i l at

extended : (limit : ℕ) (xs : List (Option ℕ)) (n : ℕ) (r : Renumbering)
    → ((i j l : ℕ) → slot xs i ≡ Some l → slot xs j ≡ Some l → i ≡ j)
    → ((i l : ℕ) → slot xs i ≡ Some l → (n + i < limit) × (l < limit)) → Keeps limit r
    → Extends limit n xs r
extended limit [] n r apart below keeps = record {
  numbers = r;
  keeps = keeps;
  sends = λ i l at. absurd cc;
  stays = λ j less apart. refl;
}
extended limit (None ∷ xs) n r apart below keeps = extends-none (extended limit xs (n + 1) r
    (λ i j l at there. (let same = apart (suc i) (suc j) l at there in omega (arith, same)))
    (λ i l at. (let less = below (suc i) l at in (omega (arith, less.0), less.1))) keeps)
extended limit (Some m ∷ xs) n r apart below keeps =
    let less = below 0 m refl in
    let first : n < limit = omega (arith, less.0) in
    extends-some m
    (λ i l at same. absurd (let none = apart 0 (suc i) m refl (at ∙ ap Some (sym same)) in omega (arith, none)))
    (extended limit xs (n + 1) (sent r n m)
    (λ i j l at there. (let same = apart (suc i) (suc j) l at there in omega (arith, same)))
    (λ i l at. (let less = below (suc i) l at in (omega (arith, less.0), less.1)))
    (λ k. swapped-same (λ n. nat_lt n limit) (r.there n) m
    (keeps n ∙ lt-ltb n limit first ∙ sym (lt-ltb m limit less.1)) (r.there k) ∙ keeps k))

-- ---- the renumbering of pairs

same-number : {limit : ℕ} {pairs : Pairs} → ArePairs pairs limit → (i j l : ℕ) → IsPair pairs i l → IsPair pairs j l
    → i ≡ j
same-number paired i j l at there = same-some i j (sym (paired.forth i l at) ∙ paired.forth j l there)

pairs-extended : {limit : ℕ} {pairs : Pairs} → ArePairs pairs limit → Extends limit 0 pairs.there same_numbers
pairs-extended {limit} {pairs} paired = extended limit pairs.there 0 same_numbers (same-number paired)
    (λ i l at. (let less = paired.first i l at in omega (arith, less), paired.second i l at)) (λ k. refl)

-- both slots are free, or what the one holds is made of what the other does
both-made : {X : Type 0} {Fits : X → X → Type 0} (made : X → X) → ((x y : X) → Fits x y → y ≡ made x)
    → (o u : Option X) → BothFit Fits o u → u ≡ option_map made o
both-made made same None None fits = refl
both-made made same (Some x) (Some y) fits = ap Some (same x y fits)
both-made made same None (Some y) fits = absurd fits
both-made made same (Some x) None fits = absurd fits

module _ {limit : ℕ} {pairs : Pairs} (paired : ArePairs pairs limit) where
  abbrev numbers : Renumbering
  numbers = (pairs-extended paired).numbers

  sends : (k l : ℕ) → IsPair pairs k l → numbers.there k ≡ l
  sends k l at = ap numbers.there (omega arith) ∙ (pairs-extended paired).sends k l at

-- tables that fit
module _ {X : Type 0} {pairs : Pairs} {Fits : X → X → Type 0} {xs ys : List (Option X)}
    (fit : TablesFit pairs Fits xs ys) (made : X → X) (same : (x y : X) → Fits x y → y ≡ made x) where
  free-there : (k : ℕ) → slot pairs.there k ≡ None → slot ys ((numbers fit.paired).there k) ≡ None
  free-there k free = by (slot pairs.back ((numbers fit.paired).there k)) refl
    where
      by : (o : Option ℕ) → slot pairs.back ((numbers fit.paired).there k) ≡ o
          → slot ys ((numbers fit.paired).there k) ≡ None
      by None at = fit.there ((numbers fit.paired).there k) at
      by (Some j) at = absurd (
          let pair = fit.paired.back j ((numbers fit.paired).there k) at in
          let here = there-same (numbers fit.paired) j k (sends fit.paired j ((numbers fit.paired).there k) pair) in
          let none : None ≡ Some ((numbers fit.paired).there k) =
          sym free ∙ ap (slot pairs.there) (sym here) ∙ pair in
          cc)

  table-moved : IsMoved (numbers fit.paired) made xs ys
  table-moved = record {
    holds = λ k. by k (slot pairs.there k) refl;
    slots = λ k. ap (nat_lt ((numbers fit.paired).there k)) fit.size ∙ (pairs-extended fit.paired).keeps k;
  }
    where
      by : (k : ℕ) (o : Option ℕ) → slot pairs.there k ≡ o
          → slot ys ((numbers fit.paired).there k) ≡ option_map made (slot xs k)
      by k None at = free-there k at ∙ ap (option_map made) (sym (fit.here k at))
      by k (Some l) at = ap (slot ys) (sends fit.paired k l at)
          ∙ both-made made same (slot xs k) (slot ys l) (fit.fits k l at)

-- ---- states that fit

lists-made : {X : Type 0} (made : X → X) (xs ys : List (Option X)) → length ys ≡ length xs
    → ((i : ℕ) → slot ys i ≡ option_map made (slot xs i)) → ys ≡ map (option_map made) xs
lists-made made [] [] size same = refl
lists-made made [] (y ∷ ys) size same = absurd cc
lists-made made (x ∷ xs) [] size same = absurd cc
lists-made made (x ∷ xs) (y ∷ ys) size same =
    ap (λ u. u ∷ ys) (same 0)
    ∙ ap (λ us. option_map made x ∷ us) (lists-made made xs ys (omega (arith, size)) (λ i. same (suc i)))

each-made : {X : Type 0} {Fits : X → X → Type 0} {xs ys : List (Option X)} (made : X → X)
    → ((x y : X) → Fits x y → y ≡ made x) → EachFits Fits xs ys → ys ≡ map (option_map made) xs
each-made {xs = xs} {ys = ys} made same each =
    lists-made made xs ys each.size (λ i. both-made made same (slot xs i) (slot ys i) (each.fits i))

target-made : {limit : ℕ} {pipes : Pairs} (paired : ArePairs pipes limit) (t u : Target) → TargetsFit pipes t u
    → u ≡ target_moved (numbers paired) t
target-made paired (OnNode n offset) u fits = fits
target-made paired (OnPipe q end) u fits = fits.2 ∙ ap (λ n. OnPipe n end) (sym (sends paired q fits.0 fits.1))

file-made : {limit : ℕ} {pipes : Pairs} (paired : ArePairs pipes limit) (f g : OpenFile) → FilesFit pipes f g
    → g ≡ file_moved (numbers paired) f
file-made paired f g fits = fits.rest
    ∙ ap (λ (t : Target). record f { target = t }) (target-made paired f.target g.target fits.target)

process-made : {limit : ℕ} {files : Pairs} (paired : ArePairs files limit) (p q : Process) → ProcessesFit files p q
    → q ≡ process_moved (numbers paired) p
process-made paired p q fits = fits.rest
    ∙ ap (λ (ds : List (Option ℕ)). record p { descriptors = ds })
    (each-made (numbers paired).there (λ k l pair. sym (sends paired k l pair)) fits.descriptors)

pub fitting-renumbered : FittingStatesAreRenumbered
fitting-renumbered s t fit = record {
  files = numbers fit.open_files.paired;
  pipes = numbers fit.held.paired;
  opens_moved = table-moved fit.open_files (file_moved (numbers fit.held.paired)) (file-made fit.held.paired);
  pipes_moved = table-moved fit.held (λ bytes. bytes) (λ bytes more same. same);
  rest = fit.rest
      ∙ ap (λ (ps : List (Option Process)). record s { places = ps; opens = t.opens; pipes = t.pipes })
      (each-made (process_moved (numbers fit.open_files.paired)) (process-made fit.open_files.paired) fit.places);
}
