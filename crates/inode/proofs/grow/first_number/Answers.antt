use Rattle.inode.proofs.Common.{◌≡◌, ℕ, ◌+◌, ◌-◌, ◌*◌, ◌≤◌, List, ◌++◌, length, get_or, drop, ap, ◌∙◌, arith}
use Rattle.inode.proofs.Common.{get_or-append_right, get_or-drop, number_at}
use Rattle.inode.proofs.grow.first_number.Goals as goal

number_zero : (bytes : List ℕ) (k : ℕ) → 1 ≤ k → ((i : ℕ) → 4 ≤ i → get_or bytes i 0 ≡ 0) → number_at bytes k ≡ 0
number_zero bytes k h zero = omega (arith, at 0, at 1, at 2, at 3) where
  at : (i : ℕ) → get_or (drop (4 * k) bytes) i 0 ≡ 0
  at i = get_or-drop (4 * k) bytes i 0 ∙ zero (4 * k + i) (omega arith)

behind : (front block : List ℕ) (i : ℕ) → length front ≡ 4 → 4 ≤ i → ((j : ℕ) → get_or block j 0 ≡ 0)
    → get_or (front ++ drop 4 block) i 0 ≡ 0
behind front block i e h zero = get_or-append_right front (drop 4 block) 4 i 0 e h ∙ get_or-drop 4 block (i - 4) 0
    ∙ zero (4 + (i - 4))

pub returns-clause-others : goal.returns-clause-others
returns-clause-others c = λ k h. number_zero (c.copy_from_slice.new.self ++ drop 4 c.zeros-block.result) k h
    (λ i l. behind c.copy_from_slice.new.self c.zeros-block.result i
    (ap length c.copy_from_slice.ensures.after ∙ ap length c.number_bytes.ensures) l c.zeros-block.ensures)
