use Rattle.std.proofs.Common.{sym, ◌∙◌}
use Rattle.gdbstate.proofs.Passing.{empty-of}
use Rattle.gdbstate.proofs.reasons.Reasons.places.Goals as goal

pub returns-in-empty : goal.returns-in-empty
returns-in-empty c = (
  c.deref.ensures.value,
  sym c.as_slice.ensures.value ∙ empty-of c.as_slice.result.now c.in-empty.len_below,
)
