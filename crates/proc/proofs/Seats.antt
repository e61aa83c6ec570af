-- The seat of a new process, and its pid.
use Rattle.proc.proofs.Common.{Bool, List, [], arith, false, inl, inr, length, refl, true, ℕ, ◌+◌, ◌<◌, ◌∷◌, ◌≡◌, ◌≤◌}
use Rattle.proc.proofs.Common.{cases_lt, None, Ok, Option, Some, ap, sym, ◌∙◌, nat_le, leb-true, Places, seat_at}
use Rattle.proc.proofs.Common.{seat_of, Process, free_slot, slot, holds, take, cond, is_some, position, ◌==◌, ◌||◌}
use Rattle.proc.proofs.Common.{list_any, eq-eqb, le-ltb, lt-ltb, ne_eqb, take_all, IsNextOf, lesser, has_pid}
use Rattle.proc.proofs.Common.{place_where}
use Rattle.proc.proofs.Waiting.{Processes}
use Rattle.proc.specs.declared.table.Seat.{Seat}
use Rattle.unixmodel.specs.Process.{last_pid}
use Rattle.std.proofs.Math.Bool.{or-false}
use Rattle.std.proofs.lemmas.Bool.{or_right}
use Rattle.std.proofs.lemmas.Iterator.Adapters.{position_from-zero}
use Rattle.std.proofs.lemmas.List.Folds.{list_any_more}
use Rattle.std.specs.List.{position_from}

-- the seat of a new process
pub record IsSeat (t : Places) (seat : Seat) : Type 0 where
  pub free : free_slot t.places ≡ Some seat.place
  pub pid : seat.pid ≡ t.next_pid
  pub left : nat_le t.next_pid last_pid ≡ true

pub seat-is : (t : Places) (seat : Seat) → seat_of t ≡ Ok seat → IsSeat t seat
seat-is t seat is = go _ _ refl refl is where
  go : (o : Option ℕ) (b : Bool) → free_slot t.places ≡ o → nat_le t.next_pid last_pid ≡ b
      → seat_at t.next_pid o ≡ Ok seat → IsSeat t seat
  go None b free left is = absurd (cc)
  go (Some i) false free left is = let e = rw left at is in absurd (cc)
  go (Some i) true free left is =
      let e = rw left at is in
      let made : Seat = record { place = i; pid = t.next_pid } in
      let same : made ≡ seat = cc in
      record {
        free = free ∙ ap (λ (s : Seat). Some s.place) same;
        pid = sym (ap (λ (s : Seat). s.pid) same);
        left = left;
      }

-- its pid is a valid one
pub seat-pid : (t : Places) (seat : Seat) → seat_of t ≡ Ok seat → t.next_pid ≤ 2147483647
seat-pid t seat is = leb-true t.next_pid last_pid (seat-is t seat is).left

-- ---- the least pid above another, found by a walk over the slots

-- ---- pids

-- the same pids are there
pub next-same : (there others : ℕ → Bool) (after : ℕ) (result : Option ℕ) → ((q : ℕ) → there q ≡ others q)
    → IsNextOf there after result → IsNextOf others after result
next-same there others after None same is = λ q high. sym (same q) ∙ is q high
next-same there others after (Some pid) same is =
    record {
      above = is.above;
      stands = sym (same pid) ∙ is.stands;
      between = λ q high low. sym (same q)
          ∙ is.between q high low;
    }

-- with one more pid
module _ (there more : ℕ → Bool) (after pid : ℕ) (one : (q : ℕ) → more q ≡ (there q || (pid == q))) where
  still-none : {q : ℕ} → there q ≡ false → (pid ≡ q → ⊥) → more q ≡ false
  still-none {q} none other = one q ∙ rw (none, ne_eqb pid q other) refl

  still-there : (q : ℕ) → there q ≡ true → more q ≡ true
  still-there q is = one q ∙ rw is refl

  now-there : more pid ≡ true
  now-there = one pid ∙ or_right _ _ (eq-eqb pid pid refl)

  pub next-more : (found : Option ℕ) → IsNextOf there after found → IsNextOf more after (lesser found after pid)
  next-more None is = elim (cases_lt after pid) [
    | inl above ↦ rw (lt-ltb after pid above)
        (record {
          above = above;
          stands = now-there;
          between = λ q high low. still-none (is q high) (λ e. omega arith);
        })
    | inr below ↦ rw (le-ltb after pid below) (λ q high. still-none (is q high) (λ e. omega arith))
  ]
  next-more (Some least) is = elim (cases_lt least pid) [
    | inl less ↦ rw (lt-ltb least pid less)
        (record {
          above = is.above;
          stands = still-there _ is.stands;
          between = λ q high low. still-none (is.between q high low) (λ e. omega arith);
        })
    | inr more' ↦ elim (cases_lt after pid) [
      | inl above ↦ rw (le-ltb least pid more', lt-ltb after pid above)
          (record {
            above = above;
            stands = now-there;
            between = λ q high low. still-none (is.between q high (omega arith)) (λ e. omega arith);
          })
      | inr below ↦ rw (le-ltb least pid more', le-ltb after pid below)
          (record {
            above = is.above;
            stands = still-there _ is.stands;
            between = λ q high low. still-none (is.between q high low) (λ e. omega arith);
          })
    ]
  ]

-- ---- slots

found-from : {X : Type 0} (test : X → Bool) (n : ℕ) (xs : List X) → is_some (position_from test n xs) ≡ list_any test xs
found-from test n [] = refl
found-from test n (x ∷ xs) =
    elim (test x) as (λ b. is_some (cond b (Some n) (position_from test (n + 1) xs)) ≡ (b || list_any test xs))
    [ true ↦ refl | false ↦ found-from test (n + 1) xs ]

-- a search finds a slot exactly where one passes
pub found-any : {X : Type 0} (test : X → Bool) (xs : List X) → is_some (position test xs) ≡ list_any test xs
found-any test xs = ap is_some (position_from-zero _ xs) ∙ found-from _ 0 xs

-- whether a pid is that of a process in the first n slots
abbrev pub is_among : Processes → ℕ → ℕ → Bool
is_among places n pid = list_any (holds (has_pid pid)) (take n places)

pub among-none : (places : Processes) {after : ℕ} → IsNextOf (is_among places 0) after None
among-none places = λ q high. refl

module _ (places : Processes) (after i : ℕ) (low : i < length places) (found : Option ℕ)
    (is : IsNextOf (is_among places i) after found) where
  one-more : {o : Option Process} → slot places i ≡ o → (q : ℕ)
      → is_among places (i + 1) q ≡ (is_among places i q || holds (has_pid q) o)
  one-more here q = list_any_more (holds (has_pid q)) _ i _ low
      ∙ ap (λ x. is_among places i q || holds (has_pid q) x) here

  pub among-free : slot places i ≡ None → IsNextOf (is_among places (i + 1)) after found
  among-free here = next-same _ _ _ _ (λ q. sym (one-more here q ∙ or-false (is_among places i q))) is

  pub among-more : {p : Process} → slot places i ≡ Some p
      → IsNextOf (is_among places (i + 1)) after (lesser found after p.pid)
  among-more {p} here = next-more (is_among places i) (is_among places (i + 1)) after p.pid (one-more here) found is

-- past the last slot
pub among-all : (places : Processes) (after : ℕ) {i : ℕ} (found : Option ℕ) → length places ≤ i
    → IsNextOf (is_among places i) after found
    → IsNextOf (λ pid. is_some (place_where places (has_pid pid))) after found
among-all places after {i} found all is =
    next-same (is_among places i) _ after found
    (λ q. ap (list_any (holds (has_pid q))) (take_all i places all) ∙ sym (found-any (holds (has_pid q)) places)) is
