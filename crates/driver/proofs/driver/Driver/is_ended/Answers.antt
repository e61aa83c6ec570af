use Rattle.std.proofs.Common.{inl}
use Rattle.driver.proofs.Reaching.{match-no, match-stuck, match-yes}
use Rattle.driver.proofs.driver.Driver.is_ended.Goals as goal

pub returns-then-is_reached : goal.returns-then-is_reached
returns-then-is_reached g c = inl (match-yes _ _ _ c.is_reached.ensures c.if-is_reached.true)

pub returns : goal.returns
returns g c =
    match-stuck _ _ _ _ _ _ (match-no _ _ _ c.is_reached.ensures c.if-is_reached.false) c.requires.goes
    c.is_stuck.ensures
