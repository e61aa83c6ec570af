-- A walk is shown where there is such a process.
use Rattle.std.proofs.Common.{false, is_some, List, None, Option, Some, true, ℕ, ◌/◌, ◌≡◌}
use Rattle.std.proofs.lemmas.Bool.{false≢true, true≢false}
use Rattle.std.specs.Prelude.{IfSome}
use Rattle.unixmodel.specs.Process.{Process}
use Rattle.unixmodel.specs.Shown.{ShowsMemory}
use Rattle.walks.specs.Walks.{entries_read, walk_told}
use Rattle.walks.specs.declared.WalkTold.{WalkTold}
use Rattle.xv6_c.specs.Walked.{ShowsWalk}

pub no-walk : (p : Option Process) (address : ℕ) → false ≡ is_some p → ShowsWalk p address None
no-walk None address none = tt
no-walk (Some p) address none = absurd (false≢true none)

pub some-walk : (p : Option Process) (address : ℕ) (ram : List (List ℕ)) (root : ℕ) (told : WalkTold)
    → true ≡ is_some p → IfSome p (λ p. ShowsMemory ram root p.memory)
    → told ≡ walk_told (entries_read ram root (address / 4096)) → ShowsWalk p address (Some told)
some-walk None address ram root told some shows is = absurd (true≢false some)
some-walk (Some p) address ram root told some shows is = record { ram = ram; root = root; shows = shows; is = is }
