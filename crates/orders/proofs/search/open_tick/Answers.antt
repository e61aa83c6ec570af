use Rattle.std.proofs.Common.{sym}
use Rattle.orders.proofs.Opening.{none-some}
use Rattle.orders.proofs.search.open_tick.Goals as goal

pub open_busy_tick-requires : goal.open_busy_tick-requires
open_busy_tick-requires g c = record { reached = c.requires; runs = sym c.if-is_running.ensures }

pub open_idle_tick-requires : goal.open_idle_tick-requires
open_idle_tick-requires g c = record { reached = c.requires; idle = none-some _ (sym c.if-is_running.ensures) }

pub returns-then-is_running : goal.returns-then-is_running
returns-then-is_running g c = c.open_busy_tick.ensures

pub returns-else-is_running : goal.returns-else-is_running
returns-else-is_running g c = c.open_idle_tick.ensures c.args.bounds.now
