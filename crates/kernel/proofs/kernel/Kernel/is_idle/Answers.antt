use Rattle.std.proofs.Common.{sym, ◌∙◌}
use Rattle.kernel.proofs.Readies.{busy-state, idle-turn, none-not-some}
use Rattle.kernel.proofs.kernel.Kernel.is_idle.Goals as goal

pub returns-in-Some : goal.returns-in-Some
returns-in-Some g c = busy-state _ c.is_sound.ensures.sound _ (sym c.in-Some.ensures)

pub returns-in-None : goal.returns-in-None
returns-in-None g c =
    none-not-some _ _ c.is_none.ensures c.next_turn.ensures
    ∙ idle-turn _ c.is_sound.ensures.sound (sym c.in-None.ensures)
