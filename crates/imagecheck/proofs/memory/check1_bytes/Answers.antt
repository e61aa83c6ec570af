use Rattle.unixmodel.specs.Formats.{small}
use Rattle.imagecheck.proofs.Sounding.{Finds-told, Tells-not, err-told}
use Rattle.imagecheck.proofs.memory.check1_bytes.Goals as goal

pub returns-in_err-geometry-clause-refused : goal.returns-in_err-geometry-clause-refused
returns-in_err-geometry-clause-refused g c =
    rw (err-told c.from_residual.ensures.1) (Tells-not small _ _ c.in_err-geometry.ensures.judged)

pub returns-in_err-summary_of-clause-fault : goal.returns-in_err-summary_of-clause-fault
returns-in_err-summary_of-clause-fault g c =
    rw (err-told c.from_residual-in_err-summary_of.ensures.1)
    (Finds-told small _ c.in_ok-geometry.ensures.judged.magic c.in_err-summary_of.field-0.0
    c.in_err-summary_of.ensures)

pub returns-in_err-summary_of-clause-refused : goal.returns-in_err-summary_of-clause-refused
returns-in_err-summary_of-clause-refused g c =
    rw (err-told c.from_residual-in_err-summary_of.ensures.1)
    (Tells-not small _ _ (Finds-told small _ c.in_ok-geometry.ensures.judged.magic c.in_err-summary_of.field-0.0
    c.in_err-summary_of.ensures))
