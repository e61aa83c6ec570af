-- Where a byte is in a text.
use Rattle.std.proofs.Common.{◌≡◌, ◌+◌, ◌<◌, ◌≤◌, ◌==◌, ℕ, [], Bool, List, None, Some, ap, cond, drop, drop-cons, false}
use Rattle.std.proofs.Common.{get_or, length, refl, suc, take, true}
use native.Mathlib.Omega.{arith}
use Rattle.std.specs.Prelude.{nat_lt, not}
use Rattle.std.specs.List.{prefix_len}
use Rattle.std.proofs.Math.ListN.{drop_of_length-le}
use Rattle.std.proofs.lemmas.Bool.{le-ltb, lt-ltb}
use Rattle.gdbwire.specs.Packets.{cut}

-- another byte
abbrev pub other : ℕ → ℕ → Bool
other at b = not (b == at)

next : (at : ℕ) (text : List ℕ) (i : ℕ) → i < length text
    → prefix_len (other at) (drop i text)
    ≡ cond (other at (get_or text i 0)) (1 + prefix_len (other at) (drop (suc i) text)) 0
next at text i within = ap (prefix_len (other at)) (drop-cons text i 0 within)

-- the byte is not at i
pub onward : (at : ℕ) (text : List ℕ) (i : ℕ) → i < length text → (get_or text i 0 == at) ≡ false
    → prefix_len (other at) (drop i text) ≡ 1 + prefix_len (other at) (drop (i + 1) text)
onward at text i within differs =
    let one : suc i ≡ i + 1 = omega arith in
    rw (next at text i within, differs, one) refl

-- it does
pub found : (at : ℕ) (text : List ℕ) (i : ℕ) → i < length text → (get_or text i 0 == at) ≡ true
    → prefix_len (other at) text ≡ i + prefix_len (other at) (drop i text)
    → cut at text ≡ Some (take i text, drop (i + 1) text)
unfolding cut
found at text i within same so_far =
    let none : prefix_len (other at) (drop i text) ≡ 0 = rw (next at text i within, same) refl in
    let place : prefix_len (other at) text ≡ i = omega (arith, so_far, none) in
    let less : nat_lt i (length text) ≡ true = lt-ltb i (length text) within in
    rw (place, less) refl

-- it is nowhere in the text
pub missing : (at : ℕ) (text : List ℕ) (i : ℕ) → length text ≤ i
    → prefix_len (other at) text ≡ i + prefix_len (other at) (drop i text) → cut at text ≡ None
unfolding cut
missing at text i end so_far =
    let all : drop i text ≡ [] = drop_of_length-le text end in
    let none : prefix_len (other at) (drop i text) ≡ 0 = rw all refl in
    let place : prefix_len (other at) text ≡ i = omega (arith, so_far, none) in
    rw (place, le-ltb i (length text) end) refl
