use Rattle.std.proofs.Common.{Some, ap, drop, option_map, rules, sym, take, ◌+◌, ◌∙◌}
use Rattle.std.proofs.lemmas.List.{take_rest}
use Rattle.events.proofs.manifest.split_field.Goals as goal

pub returns-in_err-at : goal.returns-in_err-at
returns-in_err-at c = rw (sym c.first_blank.ensures.place, c.in_err-at.was) (search rules)

pub returns : goal.returns
returns c =
    let bytes = c.args.bytes.now in
    ap (λ rest. Some (take c.in_ok-at.at bytes, rest)) (take_rest bytes (c.in_ok-at.at + 1))
    ∙ ap (option_map (λ at. (take at bytes, drop (at + 1) bytes))) (sym c.in_ok-at.was ∙ c.first_blank.ensures.place)
