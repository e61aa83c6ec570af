use Rattle.std.proofs.Common.{map, take, ◌++◌, ◌≡◌}
use Rattle.unixmodel.specs.declared.event.Event.TheVariants.{Key}
use Rattle.gdbruns.proofs.script_events.push_keys.Given as goal

-- the keys so far are at the end
abbrev pub invariant-loop-key : goal.invariant-loop-key
invariant-loop-key l = l.events ≡ l.fn.events ++ take l.key-index (map Key l.keys)
