use Rattle.vm.proofs.Common.{ℕ, ◌-◌, ◌≢◌, Option, Some, None, ◌≡◌, arith}
use Rattle.vm.proofs.Removed.{last-zero}
use Rattle.vm.proofs.Tables.{for-before}
use Rattle.vm.proofs.BesideLemmas.{OwnsFrames-paged}
use Rattle.vm.proofs.Space.unmap_page.Goals as goal

some-lookup : (A : Type 0) (o : Option A) (a : A) → o ≡ Some a → o ≢ None
some-lookup A o a e z = cc

pub unmap-requires-clause-paged : goal.unmap-requires-clause-paged
unmap-requires-clause-paged c = OwnsFrames-paged c.requires.held

pub unmap-requires-clause-mapped : goal.unmap-requires-clause-mapped
unmap-requires-clause-mapped c = some-lookup (ℕ × ℕ) _ _ (c.requires.held.dense.pages c.args.n (omega arith))

pub unmap_last-requires-clause-paged : goal.unmap_last-requires-clause-paged
unmap_last-requires-clause-paged c = OwnsFrames-paged c.requires.held

pub unmap_last-requires-clause-mapped : goal.unmap_last-requires-clause-mapped
unmap_last-requires-clause-mapped c = some-lookup (ℕ × ℕ) _ _ (c.requires.held.dense.pages c.args.n (omega arith))

pub unmap_last-requires-clause-last : goal.unmap_last-requires-clause-last
unmap_last-requires-clause-last c = last-zero c.if-n-eq0.true c.requires.held.dense

pub unmap_in-requires-clause-paged : goal.unmap_in-requires-clause-paged
unmap_in-requires-clause-paged c = OwnsFrames-paged c.requires.held

pub unmap_in-requires-clause-mapped : goal.unmap_in-requires-clause-mapped
unmap_in-requires-clause-mapped c = some-lookup (ℕ × ℕ) _ _ (c.requires.held.dense.pages c.args.n (omega arith))

pub unmap_in-requires-clause-before : goal.unmap_in-requires-clause-before
unmap_in-requires-clause-before c =
    some-lookup (ℕ × ℕ) _ _ (c.requires.held.dense.pages (c.args.n - 1) (omega arith))

pub returns-in-Some-clause-low : goal.returns-in-Some-clause-low
returns-in-Some-clause-low c =
    for-before _ _ _ c.args.n c.args.low c.unmap_in.ensures.rewrites.tables c.requires.inner c.requires.low
