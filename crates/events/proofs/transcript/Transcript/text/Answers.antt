use Rattle.std.proofs.Common.{refl, rules, ◌≡◌}
use Rattle.events.proofs.RowsRead.{text-read}
use Rattle.events.specs.Rows.{rows_text}
use Rattle.events.proofs.transcript.Transcript.text.Goals as goal

pub returns-clause-events : goal.returns-clause-events
returns-clause-events c =
    let written : c.put_rows.new.text.bytes.items ≡ rows_text c.self.inside.rows.items = search rules in
    rw (← c.self.view_is)
    (text-read c.self.inside.is_lost c.self.inside.rows.items c.self.inside.last _ _ c.if-self.false
    c.self.invariant.0 c.self.invariant.1 written c.in_ok-put_unless_empty.ensures)

pub returns-clause-known : goal.returns-clause-known
returns-clause-known c = rw (← c.self.view_is, c.if-self.false) refl
