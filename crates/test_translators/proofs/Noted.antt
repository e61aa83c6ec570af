-- What a translator holds after several calls.
use Rattle.std.proofs.Common.{ℕ, List, inl, inr}
use Rattle.unixmodel.specs.Translation.{Held, IsKept}

-- what is kept over two calls for a root is kept over both
pub kept-then : (a b c : Held) (ram : List (List ℕ)) (root : ℕ) → IsKept a b ram root → IsKept b c ram root
    → IsKept a c ram root
kept-then a b c ram root first second t is = elim (second t is) [ inl was ↦ first t was | inr walked ↦ inr walked ]
