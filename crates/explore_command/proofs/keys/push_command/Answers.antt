use Rattle.std.proofs.Common.{sym, ◌∙◌}
use Rattle.explore_command.proofs.Typed.{all-in-keys, extended, line-extended, none-typed}
use Rattle.explore_command.proofs.keys.push_command.Goals as goal

pub returns-in-Step : goal.returns-in-Step
returns-in-Step c = none-typed c.args.command.now c.args.keys.now.items c.in-Step.is

pub returns-in-Step-2 : goal.returns-in-Step-2
returns-in-Step-2 c = none-typed c.args.command.now c.args.keys.now.items c.in-Step.is

pub returns-in-Keys : goal.returns-in-Keys
returns-in-Keys c =
    rw c.in-Keys.is
    (extended c.extend_from_slice.result _ _ _ _ c.extend_from_slice.ensures.items
    (c.as_slice.ensures.value ∙ sym (all-in-keys c.in-Keys.typed.items)))

pub returns-in_ok-extend_from_slice-in-Type : goal.returns-in_ok-extend_from_slice-in-Type
returns-in_ok-extend_from_slice-in-Type c =
    line-extended c.args.command.now c.extend_from_slice-in-Type-2.result _ _ _ c.in-Type.text c.in-Type.is
    c.in_ok-extend_from_slice-in-Type.ensures.items c.extend_from_slice-in-Type-2.ensures.items
