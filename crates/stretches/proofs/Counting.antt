-- Where an event is in its stretch.
use Rattle.std.proofs.Common.{ap, append-nil, arith, drop, get_or, length, length-append, List, refl, replicate, sym}
use Rattle.std.proofs.Common.{take, take-append-drop, ℕ, ◌+◌, ◌++◌, ◌-◌, ◌<◌, ◌∙◌, ◌∷◌, ◌≡◌, ◌≤◌, []}
use Rattle.std.proofs.lemmas.List.{drop-append-le, drop-drop, drop-replicate, drop_at, length-replicate, take_more}
use Rattle.std.proofs.lemmas.List.Concat.{flat_map-append}
use Rattle.stretches.specs.declared.Stretch.{Stretch}
use Rattle.stretches.specs.Stretches.{IsAhead, IsIn, spelled}
use Rattle.unixmodel.specs.declared.event.Event.{Event}

abbrev pub repeated : Stretch → List Event
repeated s = replicate s.times s.event

-- ---- an event after n others, of which some are in front of its stretch

-- what follows it there
drop-inside : (front rest : List Event) (times at : ℕ) (e : Event) → length front ≤ at → at ≤ length front + times
    → drop at ((front ++ replicate times e) ++ rest) ≡ replicate (length front + times - at) e ++ rest
drop-inside front rest times at e least most =
    let whole : length (front ++ replicate times e) ≡ length front + times = length-append front (replicate times e)
    ∙ ap (λ n. length front + n) (length-replicate times e) in
    let back : length front + (at - length front) ≡ at = omega (arith, least) in
    let left : times - (at - length front) ≡ length front + times - at = omega (arith, least) in
    drop-append-le at (front ++ replicate times e) rest (rw whole most)
    ∙ ap (λ xs. xs ++ rest)
    (ap (λ n. drop n (front ++ replicate times e)) (sym back)
    ∙ sym (drop-drop (at - length front) (length front) (front ++ replicate times e))
    ∙ ap (drop (at - length front)) (drop_at front (replicate times e) (length front) refl)
    ∙ drop-replicate (at - length front) times e
    ∙ ap (λ n. replicate n e) left)

-- what follows the stretch
drop-past : (front rest : List Event) (times : ℕ) (e : Event)
    → drop (length front + times) ((front ++ replicate times e) ++ rest) ≡ rest
drop-past front rest times e =
    drop_at (front ++ replicate times e) rest (length front + times)
    (length-append front (replicate times e) ∙ ap (λ n. length front + n) (length-replicate times e))

-- ---- one of many stretches

module _ (xs : List Stretch) (i : ℕ) (s : Stretch) (within : i < length xs) (is : s ≡ get_or xs i s) where
  front-more : spelled (take (i + 1) xs) ≡ spelled (take i xs) ++ repeated s
  front-more =
      ap spelled (take_more xs i s within ∙ ap (λ x. take i xs ++ x ∷ []) (sym is))
      ∙ flat_map-append repeated (take i xs) (s ∷ [])
      ∙ ap (λ es. spelled (take i xs) ++ es) (append-nil (repeated s))

  whole : spelled xs ≡ (spelled (take i xs) ++ repeated s) ++ spelled (drop (i + 1) xs)
  whole =
      ap spelled (sym (take-append-drop (i + 1) xs)) ∙ flat_map-append repeated (take (i + 1) xs) (drop (i + 1) xs)
      ∙ ap (λ es. es ++ spelled (drop (i + 1) xs)) front-more

  -- its end
  pub ends-at : length (spelled (take (i + 1) xs)) ≡ length (spelled (take i xs)) + s.times
  ends-at = ap length front-more ∙ length-append (spelled (take i xs)) (repeated s)
      ∙ ap (λ n. length (spelled (take i xs)) + n) (length-replicate s.times s.event)

  ends-within : length (spelled (take i xs)) + s.times ≤ length (spelled xs)
  ends-within =
      let all : length (spelled xs) ≡ length (spelled (take i xs)) + s.times + length (spelled (drop (i + 1) xs)) =
      ap length whole ∙ length-append (spelled (take i xs) ++ repeated s) (spelled (drop (i + 1) xs))
      ∙ ap (λ n. n + length (spelled (drop (i + 1) xs))) (sym (ap length front-more) ∙ ends-at) in
      omega (arith, all)

  -- how many are left of it
  pub left-within : (at : ℕ) → IsIn xs at i → s.end ≡ length (spelled (take (i + 1) xs)) → s.end - at ≤ s.times
  left-within at e ends = let first = e.begun in omega (arith, first, ends, ends-at)

  pub is-ahead : (at : ℕ) → IsIn xs at i → s.end ≡ length (spelled (take (i + 1) xs))
      → IsAhead (spelled xs) at (s.event, s.end - at)
  is-ahead at e ends =
      let first = e.begun in
      let more = e.more in
      let total : s.end ≡ length (spelled (take i xs)) + s.times = ends ∙ ends-at in
      let back : at + (s.end - at) ≡ s.end = omega (arith, more, ends) in
      record {
        some = omega (arith, more, ends);
        within = let most = ends-within in omega (arith, most, total, more, ends);
        next =
            ap (drop at) whole
            ∙ drop-inside (spelled (take i xs)) (spelled (drop (i + 1) xs)) s.times at s.event first
            (omega (arith, more, ends-at))
            ∙ ap (λ n. replicate (n - at) s.event ++ spelled (drop (i + 1) xs)) (sym total)
            ∙ ap (λ es. replicate (s.end - at) s.event ++ es)
            (sym (ap (λ n. drop n (spelled xs)) (back ∙ total)
            ∙ ap (drop (length (spelled (take i xs)) + s.times)) whole
            ∙ drop-past (spelled (take i xs)) (spelled (drop (i + 1) xs)) s.times s.event));
      }
