use Rattle.imagecheck.proofs.Common.{iff_false, super-is}
use Rattle.imagecheck.proofs.rules.test_inodes.Goals as goal

pub returns-then-not-has_kinds-clause-judged : goal.returns-then-not-has_kinds-clause-judged
returns-then-not-has_kinds-clause-judged c =
    (super-is c.requires, iff_false c.has_kinds.ensures c.if-not-has_kinds.true)

pub returns-then-not-has_sizes-clause-judged : goal.returns-then-not-has_sizes-clause-judged
returns-then-not-has_sizes-clause-judged c = (
  super-is c.requires,
  c.has_kinds.ensures.0 c.if-not-has_kinds.false,
  iff_false c.has_sizes.ensures c.if-not-has_sizes.true,
)

pub returns-then-not-has_addresses-clause-judged : goal.returns-then-not-has_addresses-clause-judged
returns-then-not-has_addresses-clause-judged c = (
  record {
    super = super-is c.requires;
    kinds = c.has_kinds.ensures.0 c.if-not-has_kinds.false;
    sizes = c.has_sizes.ensures.0 c.if-not-has_sizes.false;
  },
  iff_false c.has_addresses.ensures c.if-not-has_addresses.true,
)

pub returns-clause-judged : goal.returns-clause-judged
returns-clause-judged c = (
  record {
    super = super-is c.requires;
    kinds = c.has_kinds.ensures.0 c.if-not-has_kinds.false;
    sizes = c.has_sizes.ensures.0 c.if-not-has_sizes.false;
  },
  c.has_addresses.ensures.0 c.if-not-has_addresses.false,
)

pub has_sizes-requires-clause-kinds : goal.has_sizes-requires-clause-kinds
has_sizes-requires-clause-kinds c = c.has_kinds.ensures.0 c.if-not-has_kinds.false

pub has_addresses-requires-clause-sizes : goal.has_addresses-requires-clause-sizes
has_addresses-requires-clause-sizes c = c.has_sizes.ensures.0 c.if-not-has_sizes.false
