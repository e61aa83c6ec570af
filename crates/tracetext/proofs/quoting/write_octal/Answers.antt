use Rattle.std.proofs.Common.{false, rules, ◌∙◌, sym}
use Rattle.std.specs.Fmt.{digits}
use Rattle.tracetext.proofs.TextLemmas.{three_digits}
use Rattle.tracetext.proofs.quoting.write_octal.Goals as goal

pub returns-then-is_octal_digit : goal.returns-then-is_octal_digit
returns-then-is_octal_digit g c =
    rw (sym c.is_octal_digit.ensures ∙ c.if-is_octal_digit.true, ← three_digits (digits 8 false c.args.byte))
    (search rules)
