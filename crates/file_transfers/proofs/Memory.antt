-- Bytes that are written into a program's memory in two parts.
use Rattle.file_transfers.proofs.Common.{◌≡◌, ℕ, zero, suc, ◌+◌, ◌-◌, ◌*◌, ◌/◌, ◌%◌, ◌<◌, ◌≤◌, inl, inr, Bool, true}
use Rattle.file_transfers.proofs.Common.{false, List, [], ◌∷◌, ◌++◌, length, take, drop, map, None, Some, is_some}
use Rattle.file_transfers.proofs.Common.{unwrap_or, refl, ap, sym, ◌∙◌, arith, append_assoc, append-nil, cond}
use Rattle.file_transfers.proofs.Common.{if◌then◌else◌, nat_le, slice_get, drop-append-add, take-append-add, cases_lt}
use Rattle.file_transfers.proofs.Common.{le-leb, leb-true, drop-append-le, drop-drop, drop_all, length-append}
use Rattle.file_transfers.proofs.Common.{length-drop, length-take, length-take-le, take-append-drop, take-append-le}
use Rattle.file_transfers.proofs.Common.{take_all, take_at, drop-map, map-append, Load, Store, Perm, Memory, Page}
use Rattle.file_transfers.proofs.Common.{can_write, overwrite, permits, reach, read_bytes, write_bytes, write_from}
use Rattle.file_transfers.proofs.Common.{IsSized, run_of, length-reach, reach-drop, write-none}
use Rattle.std.specs.List.{prefix_len}
use Rattle.unixmodel.specs.declared.trap.Access.{Access}
use Rattle.vm.specs.Reach as vm

-- ---- bytes of a list

pub overwrite-none : {bytes : List ℕ} (at : ℕ) → overwrite bytes at [] ≡ bytes
overwrite-none {bytes} at =
    let e : at + 0 ≡ at = omega arith in
    ap (λ n. (take at bytes ++ []) ++ drop n bytes) e ∙ ap (λ l. l ++ drop at bytes) (append-nil (take at bytes))
    ∙ take-append-drop at bytes

pub length-overwrite : (bytes : List ℕ) (at : ℕ) (new : List ℕ) → at ≤ length bytes
    → length (overwrite bytes at new) ≡ at + length new + (length bytes - (at + length new))
length-overwrite bytes at new low =
    omega (
      arith,
      length-append (take at bytes ++ new) (drop (at + length new) bytes),
      length-append (take at bytes) new,
      length-drop (at + length new) bytes,
      length-take-le at bytes low,
    )

-- bytes that follow others
pub overwrite-twice : (bytes : List ℕ) {at : ℕ} (xs ys : List ℕ) → at ≤ length bytes
    → overwrite (overwrite bytes at xs) (at + length xs) ys ≡ overwrite bytes at (xs ++ ys)
overwrite-twice bytes {at} xs ys low =
    let front = take at bytes ++ xs in
    let rest = drop (at + length xs) bytes in
    let long : length front ≡ at + length xs =
    omega (arith, length-append (take at bytes) xs, length-take-le at bytes low) in
    let begin : take (at + length xs) (front ++ rest) ≡ front = take_at front rest (at + length xs) long in
    let after : at + length xs + length ys ≡ length front + length ys = omega (arith, long) in
    let sum : at + length xs + length ys ≡ at + length (xs ++ ys) = omega (arith, length-append xs ys) in
    let end : drop (at + length xs + length ys) (front ++ rest) ≡ drop (at + length (xs ++ ys)) bytes =
    ap (λ n. drop n (front ++ rest)) after ∙ drop-append-add front rest (length ys)
    ∙ drop-drop (length ys) (at + length xs) bytes ∙ ap (λ n. drop n bytes) sum in
    rw (begin, end) (ap (λ l. l ++ drop (at + length (xs ++ ys)) bytes) (append_assoc (take at bytes) xs ys))

-- ---- bytes that are read

-- bytes that can be read are the first that are reached
pub readable-count : (mem : Memory) (at n : ℕ) → is_some (read_bytes mem at n) ≡ true
    → (n ≤ length (reach Load mem at)) × (unwrap_or (read_bytes mem at n) [] ≡ take n (reach Load mem at))
readable-count mem at n can = go (nat_le n (length (reach Load mem at))) refl can where
  go : (b : Bool) → nat_le n (length (reach Load mem at)) ≡ b
      → is_some (if b then Some (take n (reach Load mem at)) else None) ≡ true
      → (n ≤ length (reach Load mem at))
      × (unwrap_or (if b then Some (take n (reach Load mem at)) else None) [] ≡ take n (reach Load mem at))
  go true fits can = (leb-true n (length (reach Load mem at)) fits, refl)
  go false fits can = absurd (cc)

-- ---- pages

write-empty : (at : ℕ) (new : List ℕ) → write_bytes [] at new ≡ []
unfolding write_bytes
write-empty at new = go (at / 4096) where
  go : (n : ℕ) → take {A = Page} n [] ++ write_from (drop n []) (at % 4096) new ≡ []
  go zero = refl
  go (suc n) = refl

-- a page that lies before the address
write-later : (p : Page) (ps : List Page) (at : ℕ) (new : List ℕ)
    → 4096 ≤ at → write_bytes (p ∷ ps) at new ≡ p ∷ write_bytes ps (at - 4096) new
unfolding write_bytes
write-later p ps at new later =
    let page : at / 4096 ≡ suc ((at - 4096) / 4096) = omega (arith, later) in
    let place : at % 4096 ≡ (at - 4096) % 4096 = omega (arith, later) in
    rw (page, place) refl

-- the page of the address
write-here : (p : Page) (ps : List Page) {at : ℕ} (new : List ℕ) → at < 4096
    → write_bytes (p ∷ ps) at new ≡ vm.written p at (take (4096 - at) new) ∷ write_bytes ps 0 (drop (4096 - at) new)
unfolding write_bytes
write-here p ps {at} new here = go new where
  page : at / 4096 ≡ 0
  page = omega (arith, here)

  place : at % 4096 ≡ at
  place = omega (arith, here)

  go : (bs : List ℕ) → take (at / 4096) (p ∷ ps)
      ++ write_from (drop (at / 4096) (p ∷ ps)) (at % 4096) bs ≡ vm.written p at (take (4096 - at) bs)
      ∷ write_bytes ps 0 (drop (4096 - at) bs)
  go [] =
      let none : take {A = ℕ} (4096 - at) [] ≡ [] = take_all (4096 - at) [] (omega arith) in
      let rest : drop {A = ℕ} (4096 - at) [] ≡ [] = drop_all _ [] (omega arith) in
      rw (page, none, rest, write-none ps 0)
      (ap (λ (bytes : List ℕ). record { bytes = bytes; marks = p.marks } ∷ ps) (sym (overwrite-none at)))
  go (b ∷ bs) = rw (page, place) refl

sized-tail : {p : Page} (ps : List Page) → IsSized (p ∷ ps) → IsSized ps
sized-tail ps sized = λ i q at. sized (suc i) q at

sized-more : (p : Page) (ps : List Page) → length p.bytes ≡ 4096 → IsSized ps → IsSized (p ∷ ps)
sized-more p ps whole sized = λ i q at. go i q at where
  go : (i : ℕ) (q : Page) → slice_get (p ∷ ps) i ≡ Some q → length q.bytes ≡ 4096
  go zero q at = let same : p ≡ q = cc in ap (λ (x : Page). length x.bytes) (sym same) ∙ whole
  go (suc i) q at = sized i q at

-- pages stay as long as they were
pub written-sized : (mem : Memory) (at : ℕ) (new : List ℕ) → IsSized mem → IsSized (write_bytes mem at new)
written-sized [] at new sized = rw (write-empty at new) sized
written-sized (p ∷ ps) at new sized = elim (cases_lt at 4096) [
  | inl here ↦
      let size : length p.bytes ≡ 4096 = sized 0 p refl in
      rw (write-here p ps new here)
      (sized-more _ _
      (omega (
        arith,
        here,
        size,
        length-take (4096 - at) new,
        length-overwrite p.bytes at (take (4096 - at) new) (omega (arith, here, size)),
      ))
      (written-sized ps 0 _ (sized-tail ps sized)))
  | inr later ↦ rw (write-later p ps at new later)
      (sized-more p _ (sized 0 p refl) (written-sized ps _ _ (sized-tail ps sized)))
]

-- bytes that are written after others
pub written-twice : (mem : Memory) (at : ℕ) (xs ys : List ℕ) → IsSized mem
    → write_bytes (write_bytes mem at xs) (at + length xs) ys ≡ write_bytes mem at (xs ++ ys)
written-twice [] at xs ys sized = ap (λ (m : Memory). write_bytes m (at + length xs) ys) (write-empty at xs)
    ∙ write-empty _ ys ∙ sym (write-empty at _)
written-twice (p ∷ ps) at xs ys sized = elim (cases_lt at 4096) [
  | inr later ↦
      let n : at + length xs - 4096 ≡ at - 4096 + length xs = omega (arith, later) in
      rw (
        write-later p ps at xs later,
        write-later p (write_bytes ps (at - 4096) xs) (at + length xs) ys (omega (arith, later)),
        n,
        write-later p ps at (xs ++ ys) later,
      )
      (ap (λ (m : Memory). p ∷ m) (written-twice ps _ xs ys (sized-tail ps sized)))
  | inl here ↦ rw (write-here p ps xs here, write-here p ps (xs ++ ys) here) (elim (cases_lt (at + length xs) 4096) [
    | inl short ↦
        let size : length p.bytes ≡ 4096 = sized 0 p refl in
        let all : take (4096 - at) xs ≡ xs = take_all (4096 - at) xs (omega (arith, short)) in
        let none : drop (4096 - at) xs ≡ [] = drop_all _ xs (omega (arith, short)) in
        let left : 4096 - at ≡ length xs + (4096 - (at + length xs)) = omega (arith, short) in
        let front : take (4096 - at) (xs ++ ys) ≡ xs ++ take (4096 - (at + length xs)) ys =
        ap (λ k. take k (xs ++ ys)) left ∙ take-append-add xs ys (4096 - (at + length xs)) in
        let back : drop (4096 - at) (xs ++ ys) ≡ drop (4096 - (at + length xs)) ys = ap (λ k. drop k (xs ++ ys)) left
        ∙ drop-append-add xs ys (4096 - (at + length xs)) in
        rw (none, write-none ps 0, all, write-here (vm.written p at xs) ps ys short, front, back)
        (ap (λ (l : List ℕ). record { bytes = l; marks = p.marks }
        ∷ write_bytes ps 0 (drop (4096 - (at + length xs)) ys))
        (overwrite-twice _ xs _ (omega (arith, here, size))))
    | inr long ↦
        let w = vm.written p at (take (4096 - at) xs) in
        let n : at + length xs - 4096 ≡ 0 + length (drop (4096 - at) xs) =
        omega (arith, long, here, length-drop (4096 - at) xs) in
        let front : take (4096 - at) (xs ++ ys) ≡ take (4096 - at) xs =
        take-append-le (4096 - at) xs ys (omega (arith, long, here)) in
        let back : drop (4096 - at) (xs ++ ys) ≡ drop (4096 - at) xs ++ ys =
        drop-append-le (4096 - at) xs ys (omega (arith, long, here)) in
        rw (
          write-later w (write_bytes ps 0 (drop (4096 - at) xs)) (at + length xs) ys long,
          n,
          written-twice ps 0 (drop (4096 - at) xs) ys (sized-tail ps sized),
          front,
          back,
        ) refl
  ])
]

-- ---- what may be written

marks-write : (ps : List Page) (at : ℕ) (new : List ℕ)
    → map (λ (p : Page). p.marks) (write_from ps at new) ≡ map (λ (p : Page). p.marks) ps
marks-write [] at new = refl
marks-write (p ∷ ps) at [] = refl
marks-write (p ∷ ps) at (b ∷ bs) = ap (λ (ms : List Perm). p.marks ∷ ms) (marks-write ps 0 _)

pub marks-written : (mem : Memory) (at : ℕ) (new : List ℕ)
    → map (λ (p : Page). p.marks) (write_bytes mem at new) ≡ map (λ (p : Page). p.marks) mem
unfolding write_bytes
marks-written mem at new =
    map-append (λ (p : Page). p.marks) (take (at / 4096) mem) (write_from (drop (at / 4096) mem) (at % 4096) new)
    ∙ ap (λ (ms : List Perm). map (λ (p : Page). p.marks) (take (at / 4096) mem) ++ ms) (marks-write _ _ _)
    ∙ sym (map-append (λ (p : Page). p.marks) (take (at / 4096) mem) (drop (at / 4096) mem))
    ∙ ap (map (λ (p : Page). p.marks)) (take-append-drop (at / 4096) mem)

prefix-marks : (a : Access) (ps : List Page)
    → prefix_len (λ (p : Page). permits a p.marks) ps ≡ prefix_len (permits a) (map (λ (p : Page). p.marks) ps)
prefix-marks a [] = refl
prefix-marks a (p ∷ ps) = ap (λ (n : ℕ). cond (permits a p.marks) (1 + n) 0) (prefix-marks a ps)

run-marks : (a : Access) (mem : Memory) (n : ℕ)
    → run_of a mem n ≡ prefix_len (permits a) (drop n (map (λ (p : Page). p.marks) mem))
unfolding run_of
run-marks a mem n = prefix-marks a _ ∙ ap (prefix_len (permits a)) (sym (drop-map (λ (p : Page). p.marks) n _))

run-written : (a : Access) (mem : Memory) (at n : ℕ) (new : List ℕ)
    → run_of a (write_bytes mem at new) n ≡ run_of a mem n
run-written a mem at n new =
    run-marks a _ n
    ∙ ap (λ (ms : List Perm). prefix_len (permits a) (drop n ms)) (marks-written _ at _)
    ∙ sym (run-marks a _ n)

pub reach-written : (a : Access) (mem : Memory) (at b : ℕ) (new : List ℕ) → IsSized mem
    → length (reach a (write_bytes mem b new) at) ≡ length (reach a mem at)
reach-written a mem at b new sized =
    length-reach a _ at (written-sized mem b _ sized)
    ∙ ap (λ (n : ℕ). 4096 * n - at % 4096) (run-written a _ b _ _)
    ∙ sym (length-reach a _ at sized)

-- the rest of a buffer may be written
pub rest-writes : (mem : Memory) (at d l c : ℕ) → IsSized mem → can_write mem at c ≡ true → d + l ≤ c
    → can_write mem (at + d) l ≡ true
rest-writes mem at d l c sized can fits =
    let whole : c ≤ length (reach Store mem at) = leb-true c (length (reach Store mem at)) can in
    let rest : length (reach Store mem (at + d)) ≡ length (reach Store mem at) - d =
    ap length (reach-drop _ _ at d sized (omega (arith, whole, fits))) ∙ length-drop d (reach Store mem at) in
    le-leb l (length (reach Store mem (at + d))) (omega (arith, whole, fits, rest))

-- whatever was written before
pub writes-rest : (mem : Memory) (at b d l : ℕ) {c : ℕ} (new : List ℕ) → IsSized mem → can_write mem at c ≡ true
    → d + l ≤ c → can_write (write_bytes mem b new) (at + d) l ≡ true
writes-rest mem at b d l {c} new sized can fits = ap (nat_le l) (reach-written _ _ _ b _ sized)
    ∙ rest-writes _ at d l c sized can fits
