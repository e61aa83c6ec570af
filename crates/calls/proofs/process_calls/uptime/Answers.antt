use Rattle.calls.proofs.Common.{here-of, ◌∙◌}
use Rattle.calls.proofs.Acts.{uptimes}
use Rattle.calls.proofs.process_calls.uptime.Goals as goal

pub returns : goal.returns
returns g c = uptimes (here-of c.requires) c.from.result (c.from.ensures ∙ c.ticks.ensures)
