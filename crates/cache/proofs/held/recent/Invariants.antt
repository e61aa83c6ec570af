use Rattle.cache.proofs.Common.{◌≡◌, ◌<◌, nat_eq, lookup}
use Rattle.cache.proofs.held.recent.Given as goal

-- the blocks that were looked at have other numbers
abbrev pub invariant-slot : goal.invariant-slot
invariant-slot g l = record {
  some : 0 < l.left;
  others : lookup (nat_eq l.n) l.m-iterator ≡ lookup (nat_eq l.n) l.held.entries;
}
