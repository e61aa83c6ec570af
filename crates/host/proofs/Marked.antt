-- A file that is read whole, whatever it begins with.
use Rattle.std.proofs.Common.{Err, List, None, Ok, Option, Result, Some, arith, length, refl, sym, ℕ, ◌+◌}
use Rattle.std.proofs.lemmas.List.{take_all}
use Rattle.std.specs.Prelude.{IfOk}
use Rattle.host.specs.Files.{Holds, HoldsMarked, HostFiles}

marked : (name mark bytes : List ℕ) (held : Option HostFiles) → Holds name bytes held → HoldsMarked name mark bytes held
marked name mark bytes None has = tt
marked name mark bytes (Some files) has = (
  bytes,
  has,
  record {
    whole = λ rest e. refl;
    count = length mark + length bytes;
    long = omega arith;
    front = sym (take_all (length mark + length bytes) bytes (omega arith));
  },
)

pub all-marked : {V E : Type 0} (bytes_of : V → List ℕ) (name mark : List ℕ) (held : Option HostFiles) (r : Result V E)
    → IfOk r (λ v. Holds name (bytes_of v) held) → IfOk r (λ v. HoldsMarked name mark (bytes_of v) held)
all-marked bytes_of name mark held (Ok v) has = marked name mark (bytes_of v) held has
all-marked bytes_of name mark held (Err e) has = tt
