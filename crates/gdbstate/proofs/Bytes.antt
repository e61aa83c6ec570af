-- The bytes of a process, one after the other.
use Rattle.std.proofs.Common.{None, Option, Some, ap, append-nil, append_assoc, arith, refl, suc, sym, zero, ℕ, [], ◌+◌}
use Rattle.std.proofs.Common.{List, ◌++◌, ◌-◌, ◌<◌, ◌∙◌, ◌∷◌, ◌≡◌}
use Rattle.gdbstate.specs.Looks.{byte_from, bytes_shown, followed}
use Rattle.unixmodel.specs.State.{State}

-- there is no more where a byte is not there
pub ended : (s : State) (pid address n : ℕ) → None ≡ byte_from s pid address → bytes_shown s pid address n ≡ []
unfolding bytes_shown
ended s pid address zero none = refl
ended s pid address (suc n) none =
    ap (λ byte. followed byte (bytes_shown s pid (address + 1) n)) (sym none)

-- a byte that is there comes before the others
pub begun : (s : State) (pid address n byte : ℕ) → Some byte ≡ byte_from s pid address
    → bytes_shown s pid address (suc n) ≡ byte ∷ bytes_shown s pid (address + 1) n
unfolding bytes_shown
begun s pid address n byte some = ap (λ b. followed b (bytes_shown s pid (address + 1) n)) (sym some)

-- where a byte is not there the bytes so far are all
pub stops-here : (s : State) (pid address i n : ℕ) (bytes : List ℕ)
    → bytes_shown s pid address n ≡ bytes ++ bytes_shown s pid (address + i) (n - i)
    → None ≡ byte_from s pid (address + i) → bytes ≡ bytes_shown s pid address n
stops-here s pid address i n bytes so none =
    sym (so ∙ ap (λ more. bytes ++ more) (ended s pid (address + i) (n - i) none) ∙ append-nil bytes)

-- so are they where there were to be no more
pub whole : (s : State) (pid address i n : ℕ) (bytes : List ℕ)
    → bytes_shown s pid address n ≡ bytes ++ bytes_shown s pid (address + i) (n - i) → n - i ≡ 0
    → bytes ≡ bytes_shown s pid address n
unfolding bytes_shown
whole s pid address i n bytes so no-more =
    sym (so ∙ ap (λ k. bytes ++ bytes_shown s pid (address + i) k) no-more ∙ append-nil bytes)

-- after i bytes of n
pub reaches : (s : State) (pid address i n byte : ℕ) (bytes : List ℕ) → i < n
    → bytes_shown s pid address n ≡ bytes ++ bytes_shown s pid (address + i) (n - i)
    → Some byte ≡ byte_from s pid (address + i)
    → bytes_shown s pid address n ≡ (bytes ++ byte ∷ []) ++ bytes_shown s pid (address + (i + 1)) (n - (i + 1))
reaches s pid address i n byte bytes less so some =
    let count : n - i ≡ suc (n - (i + 1)) = omega (arith, less) in
    let next : address + i + 1 ≡ address + (i + 1) = omega arith in
    so ∙ ap (λ k. bytes ++ bytes_shown s pid (address + i) k) count
    ∙ ap (λ more. bytes ++ more) (begun s pid (address + i) (n - (i + 1)) byte some)
    ∙ ap (λ a. bytes ++ byte ∷ bytes_shown s pid a (n - (i + 1))) next
    ∙ sym (append_assoc bytes (byte ∷ []) (bytes_shown s pid (address + (i + 1)) (n - (i + 1))))
