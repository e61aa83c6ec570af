use Rattle.std.proofs.Common.{append-nil, append_assoc, sym, [], ◌∷◌, ◌-◌, ◌/◌, ◌%◌}
use Rattle.gdbwire.specs.Hex.{hex_digit, hex_up_to}
use Rattle.gdbwire.proofs.Numbers.{long, short, when-ok}
use Rattle.gdbwire.proofs.hex.+push_up_to.Goals as goal

pub returns-then-most-eq0 : goal.returns-then-most-eq0
unfolding hex_up_to
returns-then-most-eq0 t c = rw c.if-most-eq0.true (sym (append-nil c.args.out.now.items))

pub returns-then-number-lt16 : goal.returns-then-number-lt16
returns-then-number-lt16 t c =
    rw (short c.args.most c.args.number c.if-most-eq0.false c.if-number-lt16.true, ← c.digit.ensures)
    (when-ok c.extend_from_slice.result _ _ c.extend_from_slice.ensures.items)

pub returns : goal.returns
returns t c =
    let all = append_assoc c.args.out.now.items (hex_up_to (c.args.most - 1) (c.args.number / 16))
    (hex_digit (c.args.number % 16) ∷ []) in
    rw (
      long c.args.most c.args.number c.if-most-eq0.false c.if-number-lt16.false,
      ← all,
      ← c.in_ok-push_up_to.ensures,
      ← c.digit-2.ensures,
    ) (when-ok c.extend_from_slice-2.result _ _ c.extend_from_slice-2.ensures.items)
