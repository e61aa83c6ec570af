use Rattle.imagecheck.proofs.Common.{◌≡◌, ap, drop, length, sym, ◌∙◌, arith, between_to_end, length-drop, little_number}
use Rattle.imagecheck.proofs.Common.{number, number_at-drop, place-taken}
use Rattle.std.proofs.Common.{take_all}
use Rattle.imagecheck.proofs.Entering.{name_bytes-spelled}
use Rattle.imagecheck.proofs.names.add_name.Goals as goal

pub returns : goal.returns
returns g c =
    let place = c.args.place.now in
    let long = length-drop 2 place in
    let read : c.read_uint128.result ≡ number (drop 2 place) =
    c.read_uint128.ensures ∙ ap (little_number 14) (between_to_end place 2 (length place) (omega arith))
    ∙ number_at-drop 14 2 place (omega arith) ∙ ap number (take_all 14 (drop 2 place) (omega arith)) in
    rw (
      place-taken place (sym c.is_free.ensures ∙ c.if-is_free.false),
      name_bytes-spelled (drop 2 place) (omega arith),
      ← read,
    ) c.in_ok-push.ensures.items
