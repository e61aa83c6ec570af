-- What holds of an answer, joined.
use Rattle.std.proofs.Common.{Err, Ok, Result}
use Rattle.std.specs.Prelude.{IfOk}

pub if-both : {X F : Type 0} (P Q : X → Type 0) (answer : Result X F) → IfOk answer P → IfOk answer Q
    → IfOk answer (λ x. P x × Q x)
if-both P Q (Ok x) p q = (p, q)
if-both P Q (Err fault) p q = tt
