use Rattle.kernel.proofs.Common.{◌<◌, ap, arith, free-opens, free-Some, place_from, sym, subst, ◌∙◌, is_none, is_some}
use Rattle.kernel.proofs.Common.{option_copied, descriptors_in, count_by}
use Rattle.std.specs.Result.{is_ok}
use Rattle.kernel.proofs.descriptors.open_as.Goals as goal

pub unwrap-free-requires : goal.unwrap-free-requires
unwrap-free-requires c =
    let there = sym c.process.ensures.process ∙ ap option_copied c.unwrap-process.ensures in
    let found = free-Some _ (subst (λ o. 0 < count_by is_none (descriptors_in o)) there c.requires.free) in
    ap is_some (c.free_descriptor.ensures.place ∙ found)

pub unwrap-id-requires : goal.unwrap-id-requires
unwrap-id-requires c =
    let place = c.requires.place in
    let found = free-Some _ (omega (arith, place, free-opens c.args.files.now)) in
    ap is_ok (c.open.ensures.place ∙ ap place_from found)
