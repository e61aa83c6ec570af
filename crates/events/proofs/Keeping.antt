-- What a transcript holds after more events.
use Rattle.std.proofs.Common.{◌≡◌, ◌∙◌, ◌+◌, ◌++◌, ℕ, List, [], ◌∷◌, Bool, true, false, ap, append-nil, append_assoc}
use Rattle.std.proofs.Common.{refl, replicate, sym}
use Rattle.std.proofs.lemmas.Grind.{flat_map-append}
use Rattle.std.proofs.lemmas.List.{replicate-append-replicate}
use Rattle.events.specs.Records.{Records}
use Rattle.events.specs.Rows.{row_events, rows_events}
use Rattle.events.specs.Transcripts.{events_in}
use Rattle.events.specs.declared.row.Row.{Row}
use Rattle.events.specs.declared.row.Row.TheVariants as row
use Rattle.unixmodel.specs.declared.event.Event.{Event}
use Rattle.unixmodel.specs.declared.event.Event.TheVariants as event

-- the events of rows and of the one that is still added to
pub with-last : (rows : List Row) (last : Row) → rows_events (rows ++ last ∷ []) ≡ rows_events rows ++ row_events last
with-last rows last =
    flat_map-append row_events rows (last ∷ []) ∙ ap (λ es. rows_events rows ++ es) (append-nil (row_events last))

-- a row that is added to
pub last-more : (is_lost : Bool) (rows : List Row) (old new : Row) (events : List Event)
    → row_events new ≡ row_events old ++ events
    → Records (events_in is_lost rows old) (events_in is_lost rows new) events
last-more true rows old new events more = tt
last-more false rows old new events more = (
  with-last rows new ∙ ap (λ es. rows_events rows ++ es) more
      ∙ sym (append_assoc (rows_events rows) (row_events old) events)
      ∙ ap (λ es. es ++ events) (sym (with-last rows old)),
  refl,
)

pub more-steps : (is_lost : Bool) (rows : List Row) (old : Row) (n count : ℕ) → old ≡ row.Steps n
    → Records (events_in is_lost rows old) (events_in is_lost rows (row.Steps (n + count))) (replicate count event.Step)
more-steps is_lost rows old n count is =
    rw is (last-more is_lost rows (row.Steps n) (row.Steps (n + count)) (replicate count event.Step)
    (sym (replicate-append-replicate n count event.Step)))

pub more-ticks : (is_lost : Bool) (rows : List Row) (old : Row) (n count : ℕ) → old ≡ row.Ticks n
    → Records (events_in is_lost rows old) (events_in is_lost rows (row.Ticks (n + count))) (replicate count event.Tick)
more-ticks is_lost rows old n count is =
    rw is (last-more is_lost rows (row.Ticks n) (row.Ticks (n + count)) (replicate count event.Tick)
    (sym (replicate-append-replicate n count event.Tick)))
