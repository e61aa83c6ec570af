use Rattle.std.proofs.Common.{sym}
use Rattle.events.proofs.ManifestLemmas.{device-majors, no-path, no-second}
use Rattle.events.proofs.manifest.device.Goals as goal

pub returns-in_err-path : goal.returns-in_err-path
returns-in_err-path c = rw c.from_residual.ensures
    (no-path c.args.rest.now (sym (rw c.in_err-path.was at c.split_field.ensures)))

pub returns-in_err-first : goal.returns-in_err-first
returns-in_err-first c =
    rw c.from_residual-in_err-first.ensures
    (no-second c.args.rest.now c.in_ok-path.path.now c.in_ok-path.numbers.now
    (sym (rw c.in_ok-path.was at c.split_field.ensures)) (sym (rw c.in_err-first.was at c.split_field-2.ensures)))

pub returns-in_err-major : goal.returns-in_err-major
returns-in_err-major c =
    let here = sym (rw c.in_ok-path.was at c.split_field.ensures) in
    let there = sym (rw c.in_ok-first.was at c.split_field-2.ensures) in
    rw c.from_residual-in_err-major.ensures (λ p first second h.
    c.in_err-major.ensures first
    (device-majors c.args.rest.now c.in_ok-path.path.now c.in_ok-path.numbers.now here c.in_ok-first.first.now
    c.in_ok-first.second.now there p first second h).0)

pub returns-in_err-major-2 : goal.returns-in_err-major-2
returns-in_err-major-2 c =
    let here = sym (rw c.in_ok-path.was at c.split_field.ensures) in
    let there = sym (rw c.in_ok-first.was at c.split_field-2.ensures) in
    rw c.from_residual-in_err-major-2.ensures (λ p first second h.
    c.in_err-major-2.ensures second
    (device-majors c.args.rest.now c.in_ok-path.path.now c.in_ok-path.numbers.now here c.in_ok-first.first.now
    c.in_ok-first.second.now there p first second h).1)

pub returns : goal.returns
returns c = (
  c.in_ok-path.numbers.now,
  c.in_ok-first.first.now,
  c.in_ok-first.second.now,
  sym (rw c.in_ok-path.was at c.split_field.ensures),
  sym (rw c.in_ok-first.was at c.split_field-2.ensures),
  c.in_ok-major.ensures,
  c.in_ok-major-2.ensures,
)
