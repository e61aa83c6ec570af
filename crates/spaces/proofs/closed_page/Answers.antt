use Rattle.spaces.proofs.Common.{refl, sym, mapped_as, right_marks, pages_in, mapping-within}
use Rattle.spaces.proofs.closed_page.Goals as goal

pub returns-in-Some-clause-some : goal.returns-in-Some-clause-some
returns-in-Some-clause-some c = (
  c.in-StorePageFault.is,
  refl,
  mapping-within right_marks c.args.ram.now c.args.space.now.root.0 (pages_in c.args.space.now.size) _
      (mapped_as c.in-Some.field-0-0.0 c.in-Some.marks) (sym c.in-Some.ensures.found),
)
