use Rattle.events.proofs.ManifestLemmas.{no-device, no-file}
use Rattle.events.proofs.manifest.line_of.Goals as goal

pub returns-in_err-path : goal.returns-in_err-path
returns-in_err-path c = rw c.from_residual-in_err-path.ensures
    (no-file c.args.line.now c.in-Some-after.rest.now c.in-Some-after.ensures (rw c.in_err-path.was at c.file.ensures))

pub returns-in_err-path-2 : goal.returns-in_err-path-2
returns-in_err-path-2 c =
    rw c.from_residual-in_err-path-2.ensures
    (no-device c.args.line.now c.in_ok-after.field-0.now c.in_ok-after.ensures
    (rw c.in_err-path-2.was at c.device.ensures))
