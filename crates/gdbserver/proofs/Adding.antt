-- What is done one after the other only adds events.
use Rattle.std.proofs.Common.{List, [], ◌++◌, ◌≡◌, ◌∙◌, ap, append_assoc, refl, sym}
use Rattle.std.proofs.lemmas.List.{append-nil}
use Rattle.gdbserver.specs.Debugging.{OnlyAdds}
use Rattle.timeline.specs.Line.{Line}
use Rattle.unixmodel.specs.declared.event.Event.{Event}

pub adds_pushed : (old new : Line) (more : List Event) → new ≡ record old { events = old.events ++ more }
    → OnlyAdds old new
adds_pushed old new more e = record {
  start = ap (λ (l : Line). l.start) e;
  events = (more, ap (λ (l : Line). l.events) e);
}

pub adds_moved : (old new : Line) → new ≡ record old { at = new.at } → OnlyAdds old new
adds_moved old new e = record {
  start = ap (λ (l : Line). l.start) e;
  events = ([], ap (λ (l : Line). l.events) e ∙ sym (append-nil old.events));
}

pub adds_same : (old : Line) → OnlyAdds old old
adds_same old = record { start = refl; events = ([], sym (append-nil old.events)) }

pub adds_then : (old mid new : Line) → OnlyAdds old mid → OnlyAdds mid new → OnlyAdds old new
adds_then old mid new p q = record {
  start = q.start ∙ p.start;
  events = (
    p.events.0 ++ q.events.0,
    q.events.1 ∙ (ap (λ es. es ++ q.events.0) p.events.1 ∙ append_assoc old.events p.events.0 q.events.0),
  );
}

pub ruleset adding = (adds_pushed, adds_moved, adds_same, adds_then)
