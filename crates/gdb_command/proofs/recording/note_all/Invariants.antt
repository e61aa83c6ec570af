use Rattle.std.proofs.Common.{length, take, ◌≤◌}
use Rattle.events.specs.Records.{Records}
use Rattle.gdb_command.proofs.recording.note_all.Given as goal

-- the events up to a time are noted, one or more in each turn
abbrev pub invariant-turn : goal.invariant-turn
invariant-turn g l = record {
  noted : Records (g.R.Record.kept l.fn.record) (g.R.Record.kept l.record) (take l.at l.timeline.events);
  within : l.at ≤ length l.timeline.events;
  turns : l._turn ≤ l.at;
}
