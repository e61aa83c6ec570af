use Rattle.std.proofs.Common.{arith, ◌+◌, ◌≡◌}
use Rattle.events.proofs.Recording.{records-none}
use Rattle.gdb_command.proofs.Noting.{noted-all, noted-on}
use Rattle.gdb_command.proofs.recording.note_all.Goals as goal

pub turn-init : goal.turn-init
turn-init g c = record {
  noted = records-none (g.R.Record.kept c.args.record.now);
  within = omega arith;
  turns = omega arith;
}

pub returns-in_default : goal.returns-in_default
returns-in_default g c =
    noted-all c.args.timeline.now.events c.turn.at _ _ c.in_default.ensures.none c.turn.invariant.noted

pub turn-preserved : goal.turn-preserved
turn-preserved g c =
    let ahead = c.in-Some.ensures.some in
    let before = c.turn.invariant in
    let noted = c.note.ensures in
    let next : c.saturating_add-at.result ≡ c.turn.at + c.note.result =
    omega (
      arith,
      c.saturating_add-at.ensures,
      c.from.ensures,
      c.count-turn-end.ensures,
      c.count-turn-end.type_inv,
      ahead.within,
      noted.some,
    ) in
    record {
      noted = noted-on c.args.timeline.now.events c.turn.at _ c.note.result c.in-Some.times c.in-Some.event _ _ _ ahead
          noted.some.1 next before.noted noted.noted;
      within = omega (arith, next, ahead.within, noted.some);
      turns = omega (arith, next, before.turns, noted.some);
    }

pub returns : goal.returns
returns g c =
    let before = c.turn.invariant in
    noted-all c.args.timeline.now.events c.turn.at _ _
    (omega (arith, c.turn-test.false, c.count-turn-end.ensures, before.turns)) before.noted
