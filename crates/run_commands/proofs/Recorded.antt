-- What a script file keeps as events are recorded.
use Rattle.std.proofs.Common.{Bool, Err, List, None, Ok, Option, Result, Some, [], ap, append-nil, append_assoc, arith}
use Rattle.std.proofs.Common.{false, get_or, inl, inr, take}
use Rattle.std.proofs.Common.{length, refl, subst, sym, true, ℕ, ◌++◌, ◌+◌, ◌-◌, ◌<◌, ◌∙◌, ◌∷◌, ◌≡◌, ◌≤◌}
use Rattle.std.specs.Prelude.{IfSome, IsSome, OnOk, is_err, is_none, is_some, map, option_map, replicate}
use Rattle.std.specs.Prelude.{◌&&◌, ◌⊎◌}
use Rattle.std.specs.Borrow.{Bor}
use Rattle.std.specs.List.{All}
use Rattle.std.proofs.lemmas.Bool.{false≢true}
use Rattle.std.proofs.lemmas.Grind.{flat_map-append}
use Rattle.std.proofs.lemmas.List.{length-map, replicate-append-replicate, take_all}
use Rattle.std.proofs.lemmas.List.Elements.{All-nil, All-push}
use Rattle.std.proofs.lemmas.Slice.Eq.{bytes_eq-Decides}
use Rattle.std.specs.Str.{bytes_eq}
use Rattle.events.proofs.Keeping.{with-last}
use Rattle.events.proofs.Recording.{records-none, records-then}
use Rattle.events.proofs.RowsRead.{are-read, text-events}
use Rattle.events.proofs.Scripting.{press-next}
use Rattle.events.specs.Fields.{MOST}
use Rattle.events.specs.Records.{Records}
use Rattle.events.specs.Rows.{IsRow, row_events, row_text, rows_text}
use Rattle.events.specs.Scripts.{IsScriptOf}
use Rattle.events.specs.Transcripts.{text_events}
use Rattle.events.specs.declared.row.Row.{Row}
use Rattle.events.specs.declared.row.Row.TheVariants as row
use Rattle.host.specs.Files.{HostFiles, Writes, with_end, with_file}
use Rattle.host.specs.declared.report.Failure.{Failure}
use Rattle.run_commands.specs.ScriptFiles.{AreLines, HoldsScript, IsAllWritten, IsEmptyIn, IsSound, IsSoundOf}
use Rattle.run_commands.specs.ScriptFiles.{IsWrittenOut, Puts, Recorder, Takes, kept_in, kept_of, lines_at, new_in}
use Rattle.run_commands.specs.ScriptFiles.{stored}
use Rattle.run_commands.specs.declared.script_file.ScriptFile.{ScriptFile}
use Rattle.unixmodel.specs.declared.event.Event.{Event}
use Rattle.unixmodel.specs.declared.event.Event.TheVariants as event

-- ---- a row more

text-with-last : (rows : List Row) (last : Row) → rows_text (rows ++ last ∷ []) ≡ rows_text rows ++ row_text last
text-with-last rows last =
    flat_map-append row_text rows (last ∷ []) ∙ ap (λ xs. rows_text rows ++ xs) (append-nil (row_text last))

-- how lines grow by a row: a row of no events may be left out
abbrev Grow : List ℕ → List ℕ → Row → Type 0
Grow old new row = (new ≡ old ++ row_text row) ⊎ ((row_events row ≡ []) × (new ≡ old))

module _ {files : HostFiles} {name : List ℕ} {is_made : Bool} {old : List ℕ} {row : Row}
    (a : AreLines files name is_made old row) where
  with-row : (new : List ℕ) → new ≡ old ++ row_text row
      → lines_at files name is_made new ≡ rows_text (a.rows ++ row ∷ [])
  with-row new more =
      ap (λ xs. stored is_made (files name) ++ xs) more
      ∙ sym (append_assoc (stored is_made (files name)) old (row_text row))
      ∙ ap (λ xs. xs ++ row_text row) a.lines ∙ sym (text-with-last a.rows row)

  all-fit : All IsRow (a.rows ++ row ∷ [])
  all-fit = All-push IsRow a.rows row a.fit a.fits

  lines-grow : (new : List ℕ) (next : Row) → IsRow next → Grow old new row → AreLines files name is_made new next
  lines-grow new next fits (inl more) =
      record { there = a.there; rows = a.rows ++ row ∷ []; fit = all-fit; fits = fits; lines = with-row new more }
  lines-grow new next fits (inr none) = record {
    there = a.there;
    rows = a.rows;
    fit = a.fit;
    fits = fits;
    lines = ap (λ xs. lines_at files name is_made xs) none.1 ∙ a.lines;
  }

  events-grow : (new : List ℕ) → Grow old new row
      → text_events (lines_at files name is_made new)
      ≡ text_events (lines_at files name is_made old) ++ row_events row
  events-grow new (inl more) =
      ap text_events (with-row new more) ∙ text-events (a.rows ++ row ∷ []) all-fit ∙ with-last a.rows row
      ∙ ap (λ es. es ++ row_events row) (sym (ap text_events a.lines ∙ text-events a.rows a.fit))
  events-grow new (inr none) =
      ap (λ xs. text_events (lines_at files name is_made xs)) none.1
      ∙ sym (append-nil (text_events (lines_at files name is_made old)))
      ∙ ap (λ es. text_events (lines_at files name is_made old) ++ es) (sym none.0)

-- ---- no events

-- a file that isn't made is as one that is empty
pub new-sound : (held : Option HostFiles) (name : Option (Bor (List ℕ))) (is_made : Bool) (row : Row)
    → (is_made ≡ true → IsEmptyIn name held) → IsRow row → IsSoundOf held name None is_made [] row
new-sound None name is_made row empty fits = tt
new-sound (Some files) None is_made row empty fits = tt
new-sound (Some files) (Some name) true row empty fits = record {
  there = λ _. rw (empty refl) refl;
  rows = [];
  fit = All-nil IsRow;
  fits = fits;
  lines = rw (empty refl) refl;
}
new-sound (Some files) (Some name) false row empty fits = record {
  there = λ is. absurd (false≢true is);
  rows = [];
  fit = All-nil IsRow;
  fits = fits;
  lines = refl;
}

no-events : text_events [] ≡ []
no-events = text-events [] (All-nil IsRow)

pub new-kept : (held : Option HostFiles) (name : Option (Bor (List ℕ))) (is_made : Bool) (lines : List ℕ) (row : Row)
    → (is_made ≡ true → IsEmptyIn name held) → lines ≡ [] → row_events row ≡ []
    → kept_of held name None is_made lines row ≡ new_in held name
new-kept None name is_made lines row empty waits none = refl
new-kept (Some files) None is_made lines row empty waits none = refl
new-kept (Some files) (Some name) true lines row empty waits none = rw (empty refl, waits, no-events, none) refl
new-kept (Some files) (Some name) false lines row empty waits none = rw (waits, no-events, none) refl

-- ---- where nothing is known

failed-none : (held : Option HostFiles) (name : Option (Bor (List ℕ))) (why : Failure) (is_made : Bool)
    (lines : List ℕ) (row : Row) → kept_of held name (Some why) is_made lines row ≡ None
failed-none None name why is_made lines row = refl
failed-none (Some files) None why is_made lines row = refl
failed-none (Some files) (Some name) why is_made lines row = refl

failed-sound : (held : Option HostFiles) (name : Option (Bor (List ℕ))) (why : Failure) (is_made : Bool)
    (lines : List ℕ) (row : Row) → IsSoundOf held name (Some why) is_made lines row
failed-sound None name why is_made lines row = tt
failed-sound (Some files) None why is_made lines row = tt
failed-sound (Some files) (Some name) why is_made lines row = tt

may-lose : (held : Option HostFiles) (name : Option (Bor (List ℕ))) (failure : Option Failure) (is_made : Bool)
    (lines : List ℕ) (row : Row) (events : List Event)
    → Records (kept_of held name failure is_made lines row) None events
may-lose None name failure is_made lines row events = tt
may-lose (Some files) None failure is_made lines row events = tt
may-lose (Some files) (Some name) None is_made lines row events = refl
may-lose (Some files) (Some name) (Some why) is_made lines row events = tt

unkept-none : (held : Option HostFiles) (name : Option (Bor (List ℕ))) (failure : Option Failure) (is_made : Bool)
    (lines : List ℕ) (row : Row) → (is_some name && is_none failure) ≡ false
    → kept_of held name failure is_made lines row ≡ None
unkept-none None name failure is_made lines row not = refl
unkept-none (Some files) None failure is_made lines row not = refl
unkept-none (Some files) (Some name) None is_made lines row not = absurd (false≢true (sym not))
unkept-none (Some files) (Some name) (Some why) is_made lines row not = refl

some-none : {X : Type 0} (x : X) → Some x ≡ None → ⊥
some-none x is = false≢true (sym (ap is_some is))

-- ---- what is taken

-- a failure
pub fails : (held holds : Option HostFiles) (f g : ScriptFile) (why : Failure) (events : List Event)
    → g.failure ≡ Some why → g.name ≡ f.name → Takes held holds f g events
fails held holds f g why events is same = record {
  sound = λ _. rw is (failed-sound holds g.name why g.is_made g.lines.bytes.items g.row);
  records = λ _. rw (is, failed-none holds g.name why g.is_made g.lines.bytes.items g.row)
      (may-lose held f.name f.failure f.is_made f.lines.bytes.items f.row events);
  name = same;
  known = λ none. absurd (some-none why (sym is ∙ none));
}

-- nothing
pub takes-none : (held : Option HostFiles) (f : ScriptFile) → Takes held held f f []
takes-none held f = record {
  sound = λ s. s;
  records = λ s. records-none (kept_in held f);
  name = refl;
  known = λ none. (none, refl);
}

-- events that aren't kept
pub unkept : (held : Option HostFiles) (f : ScriptFile) (events : List Event)
    → (is_some f.name && is_none f.failure) ≡ false → Takes held held f f events
unkept held f events not = record {
  sound = λ s. s;
  records = λ s. rw (unkept-none held f.name f.failure f.is_made f.lines.bytes.items f.row not) tt;
  name = refl;
  known = λ none. (none, refl);
}

-- events, and more
pub takes-then : (a b c : Option HostFiles) (f g h : ScriptFile) (xs ys : List Event) → Takes a b f g xs
    → Takes b c g h ys → Takes a c f h (xs ++ ys)
takes-then a b c f g h xs ys one two = record {
  sound = λ s. two.sound (one.sound s);
  records = λ s. records-then (kept_in a f) (kept_in b g) (kept_in c h) xs ys (one.records s)
      (two.records (one.sound s));
  name = two.name ∙ one.name;
  known = λ none. let later = two.known none in let first = one.known later.0 in (first.0, later.1 ∙ first.1);
}

pub takes-last : (a b c : Option HostFiles) (f g h : ScriptFile) (xs : List Event) → Takes a b f g xs
    → Takes b c g h [] → Takes a c f h xs
takes-last a b c f g h xs one two =
    subst (λ es. Takes a c f h es) (append-nil xs) (takes-then a b c f g h xs [] one two)

-- the row that is added to
row-sound : (held : Option HostFiles) (name : Option (Bor (List ℕ))) (failure : Option Failure) (is_made : Bool)
    (lines : List ℕ) (old new : Row) → (IsRow old → IsRow new) → IsSoundOf held name failure is_made lines old
    → IsSoundOf held name failure is_made lines new
row-sound None name failure is_made lines old new fits s = tt
row-sound (Some files) None failure is_made lines old new fits s = tt
row-sound (Some files) (Some name) (Some why) is_made lines old new fits s = tt
row-sound (Some files) (Some name) None is_made lines old new fits s =
    record { there = s.there; rows = s.rows; fit = s.fit; fits = fits s.fits; lines = s.lines }

row-records : (held : Option HostFiles) (name : Option (Bor (List ℕ))) (failure : Option Failure) (is_made : Bool)
    (lines : List ℕ) (old new : Row) (events : List Event) → row_events new ≡ row_events old ++ events
    → Records (kept_of held name failure is_made lines old) (kept_of held name failure is_made lines new) events
row-records None name failure is_made lines old new events more = tt
row-records (Some files) None failure is_made lines old new events more = tt
row-records (Some files) (Some name) (Some why) is_made lines old new events more = tt
row-records (Some files) (Some name) None is_made lines old new events more = (
  ap (λ es. text_events (lines_at files name.now is_made lines) ++ es) more
      ∙ sym (append_assoc (text_events (lines_at files name.now is_made lines)) (row_events old) events),
  refl,
)

pub row-more : (held : Option HostFiles) (f g : ScriptFile) (row : Row) (events : List Event)
    → g ≡ record f { row = row } → row_events row ≡ row_events f.row ++ events → (IsRow f.row → IsRow row)
    → Takes held held f g events
row-more held f g row events is more fits = rw is (record {
  sound = row-sound held f.name f.failure f.is_made f.lines.bytes.items f.row row fits;
  records = λ s. row-records held f.name f.failure f.is_made f.lines.bytes.items f.row row events more;
  name = refl;
  known = λ none. (none, refl);
})

-- the row ends, and another begins
next-sound : (held : Option HostFiles) (name : Option (Bor (List ℕ))) (failure : Option Failure) (is_made : Bool)
    (old new : List ℕ) (row next : Row) → IsRow next → Grow old new row
    → IsSoundOf held name failure is_made old row → IsSoundOf held name failure is_made new next
next-sound None name failure is_made old new row next fits grow s = tt
next-sound (Some files) None failure is_made old new row next fits grow s = tt
next-sound (Some files) (Some name) (Some why) is_made old new row next fits grow s = tt
next-sound (Some files) (Some name) None is_made old new row next fits grow s = lines-grow s new next fits grow

next-records : (held : Option HostFiles) (name : Option (Bor (List ℕ))) (failure : Option Failure) (is_made : Bool)
    (old new : List ℕ) (row next : Row) → Grow old new row → IsSoundOf held name failure is_made old row
    → Records (kept_of held name failure is_made old row) (kept_of held name failure is_made new next)
    (row_events next)
next-records None name failure is_made old new row next grow s = tt
next-records (Some files) None failure is_made old new row next grow s = tt
next-records (Some files) (Some name) (Some why) is_made old new row next grow s = tt
next-records (Some files) (Some name) None is_made old new row next grow s =
    (ap (λ es. es ++ row_events next) (events-grow s new grow), refl)

pub row-ended : (held : Option HostFiles) (f g : ScriptFile) (next : Row) → IsRow next
    → g.name ≡ f.name → g.failure ≡ f.failure → g.is_made ≡ f.is_made → g.row ≡ next
    → Grow f.lines.bytes.items g.lines.bytes.items f.row → Takes held held f g (row_events next)
row-ended held f g next fits name failure made row grow = record {
  sound = λ s. rw (name, failure, made, row)
      (next-sound held f.name f.failure f.is_made f.lines.bytes.items g.lines.bytes.items f.row next fits grow s);
  records = λ s. rw (name, failure, made, row)
      (next-records held f.name f.failure f.is_made f.lines.bytes.items g.lines.bytes.items f.row next grow s);
  name = name;
  known = λ none. (sym failure ∙ none, refl);
}

-- ---- the lines are written

same-bytes : (name : List ℕ) → bytes_eq name name ≡ true
same-bytes name = (bytes_eq-Decides name name).1 refl

-- the script is as it was, and all of it is in the file
moved-sound : (files holds : HostFiles) (name : List ℕ) (is_made : Bool) (lines : List ℕ) (row : Row)
    → lines_at holds name true [] ≡ lines_at files name is_made lines → IsSome (holds name)
    → AreLines files name is_made lines row → AreLines holds name true [] row
moved-sound files holds name is_made lines row same some a =
    record { there = λ _. some; rows = a.rows; fit = a.fit; fits = a.fits; lines = same ∙ a.lines }

moved-records : (files holds : HostFiles) (name : Bor (List ℕ)) (is_made : Bool) (lines : List ℕ) (row : Row)
    → lines_at holds name.now true [] ≡ lines_at files name.now is_made lines
    → Records (kept_of (Some files) (Some name) None is_made lines row)
    (kept_of (Some holds) (Some name) None true [] row) []
moved-records files holds name is_made lines row same = (
  ap (λ text. text_events text ++ row_events row) same
      ∙ sym (append-nil (text_events (lines_at files name.now is_made lines) ++ row_events row)),
  refl,
)

-- what is in the file after it was made, and after lines were put at its end
made-there : (files : HostFiles) (name lines : List ℕ) → with_file files name lines name ≡ Some lines
made-there files name lines = rw (same-bytes name) refl

put-there : (files : HostFiles) (name lines : List ℕ)
    → with_end files name lines name ≡ option_map (λ old. old ++ lines) (files name)
put-there files name lines = rw (same-bytes name) refl

some-is : {X : Type 0} (o : Option X) → IsSome o → (x : X) × (o ≡ Some x)
some-is None some = absurd (false≢true some)
some-is (Some x) some = (x, refl)

made-lines : (files : HostFiles) (name lines : List ℕ)
    → lines_at (with_file files name lines) name true [] ≡ lines_at files name false lines
made-lines files name lines = rw (made-there files name lines) (append-nil lines)

put-lines : (files : HostFiles) (name lines bytes : List ℕ) → files name ≡ Some bytes
    → lines_at (with_end files name lines) name true [] ≡ lines_at files name true lines
put-lines files name lines bytes is = rw (put-there files name lines, is) (append-nil (bytes ++ lines))

module _ (name : Bor (List ℕ)) (lines : List ℕ) (row : Row) where
  all-written : (held holds : Option HostFiles) (is_made : Bool) → Puts is_made name.now lines held holds
      → IsSoundOf held (Some name) None is_made lines row
      → IsSoundOf holds (Some name) None true [] row
      × Records (kept_of held (Some name) None is_made lines row) (kept_of holds (Some name) None true [] row) []
  all-written None holds true put s = rw put (tt, tt)
  all-written None holds false put s = rw put (tt, tt)
  all-written (Some files) holds true put s =
      let there = some-is (files name.now) (s.there refl) in
      let same = put-lines files name.now lines there.0 there.1 in
      rw put (
        moved-sound files (with_end files name.now lines) name.now true lines row same
            (rw (put-there files name.now lines, there.1) refl) s,
        moved-records files (with_end files name.now lines) name true lines row same,
      )
  all-written (Some files) holds false put s =
      let same = made-lines files name.now lines in
      rw put (
        moved-sound files (with_file files name.now lines) name.now false lines row same
            (rw (made-there files name.now lines) refl) s,
        moved-records files (with_file files name.now lines) name false lines row same,
      )

  as-known : (held holds : Option HostFiles) (is_made : Bool) → Puts is_made name.now lines held holds
      → is_some holds ≡ is_some held
  as-known None holds true put = rw put refl
  as-known None holds false put = rw put refl
  as-known (Some files) holds true put = rw put refl
  as-known (Some files) holds false put = rw put refl

pub written : (held holds : Option HostFiles) (f g : ScriptFile) (name : Bor (List ℕ)) → f.name ≡ Some name
    → f.failure ≡ None → Puts f.is_made name.now f.lines.bytes.items held holds → g.name ≡ f.name
    → g.failure ≡ f.failure → g.is_made ≡ true → g.lines.bytes.items ≡ [] → g.row ≡ f.row → Takes held holds f g []
written held holds f g name named whole put same failure made empty row =
    let all = all-written name f.lines.bytes.items f.row held holds f.is_made put in
    record {
      sound = λ s. rw (same, failure, made, empty, row, named, whole)
          (all (rw (named, whole) at s)).0;
      records = λ s. rw (same, failure, made, empty, row, named, whole)
          (all (rw (named, whole) at s)).1;
      name = same;
      known = λ _. (whole, as-known name f.lines.bytes.items f.row held holds f.is_made put);
    }

-- ---- the end

one-script : (bytes : List ℕ) (es : List Event) (rows : List Row) → All IsRow rows → bytes ++ [] ≡ rows_text rows
    → es ≡ text_events (bytes ++ []) → IsScriptOf bytes es
one-script bytes es rows fit is same =
    rw (same ∙ ap text_events is ∙ text-events rows fit, sym (append-nil bytes) ∙ is) (are-read rows fit)

ends : (held holds : Option HostFiles) (name : Option (Bor (List ℕ))) (failure : Option Failure) (is_made : Bool)
    (lines : List ℕ) (row last : Row) → is_some holds ≡ is_some held → row_events last ≡ []
    → IsSoundOf holds name None true [] last
    → Records (kept_of held name failure is_made lines row) (kept_of holds name None true [] last) []
    → IfSome (kept_of held name failure is_made lines row) (λ kept. HoldsScript name holds kept.events)
ends None holds name failure is_made lines row last known none s r = tt
ends (Some files) holds None failure is_made lines row last known none s r = tt
ends (Some files) holds (Some name) (Some why) is_made lines row last known none s r = tt
ends (Some files) None (Some name) None is_made lines row last known none s r = absurd (false≢true known)
ends (Some files) (Some now) (Some name) None is_made lines row last known none s r =
    let there = some-is (now name.now) (s.there refl) in
    let stays : stored true (now name.now) ≡ there.0 = ap (stored true) there.1 in
    let es = text_events (lines_at files name.now is_made lines) ++ row_events row in
    let all : text_events (there.0 ++ []) ≡ es =
    ap (λ xs. text_events (xs ++ [])) (sym stays)
    ∙ sym (append-nil (text_events (lines_at now name.now true [])))
    ∙ ap (λ x. text_events (lines_at now name.now true []) ++ x) (sym none) ∙ r.0 ∙ append-nil es in
    record {
      name = name;
      is = refl;
      files = now;
      known = refl;
      text = there.0;
      there = there.1;
      script = one-script there.0 es s.rows s.fit (ap (λ xs. xs ++ []) (sym stays) ∙ s.lines) (sym all);
    }

ended : (held holds : Option HostFiles) (name : Option (Bor (List ℕ))) (failure failed : Option Failure)
    (is_made made : Bool) (lines last : List ℕ) (row end : Row) → failed ≡ None
    → (IsSome name → (made ≡ true) × (last ≡ []) × (row_events end ≡ [])) → is_some holds ≡ is_some held
    → IsSoundOf holds name failed made last end
    → Records (kept_of held name failure is_made lines row) (kept_of holds name failed made last end) []
    → IfSome (kept_of held name failure is_made lines row) (λ kept. HoldsScript name holds kept.events)
ended None holds None failure failed is_made made lines last row end whole all known s r = tt
ended (Some files) holds None failure failed is_made made lines last row end whole all known s r = tt
ended held holds (Some name) failure failed is_made made lines last row end whole all known s r =
    let a = all refl in
    ends held holds (Some name) failure is_made lines row end known a.2 (rw (whole, a.0, a.1) at s)
    (rw (whole, a.0, a.1) at r)

pub finished : (held holds : Option HostFiles) (f g : ScriptFile) → IsSound held f → Takes held holds f g []
    → g.failure ≡ None → (IsSome g.name → g.failure ≡ None → IsAllWritten g)
    → IfSome (kept_in held f) (λ kept. HoldsScript f.name holds kept.events)
finished held holds f g s takes whole all =
    ended held holds f.name f.failure g.failure f.is_made g.is_made f.lines.bytes.items g.lines.bytes.items f.row g.row
    whole (λ some. let a = all (rw takes.name some) whole in (a.made, a.none, a.empty)) (takes.known whole).1
    (rw takes.name at (takes.sound s)) (rw takes.name at (takes.records s))

-- ---- rows and keys

pub on-ok : {X E : Type 0} {P : Type 0} (r : Result X E) → is_err r ≡ false → OnOk r P → P
on-ok (Ok x) whole h = h
on-ok (Err e) whole h = absurd (false≢true (sym whole))

pub more-steps : (held : Option HostFiles) (f g : ScriptFile) (n count : ℕ) → f.row ≡ row.Steps n → count ≤ MOST - n
    → g ≡ record f { row = row.Steps (n + count) } → Takes held held f g (replicate count event.Step)
more-steps held f g n count is room same =
    row-more held f g (row.Steps (n + count)) (replicate count event.Step) same
    (rw is (sym (replicate-append-replicate n count event.Step)))
    (λ fits. let few : n ≤ MOST = rw is at fits in omega (arith, few, room))

pub more-ticks : (held : Option HostFiles) (f g : ScriptFile) (n count : ℕ) → f.row ≡ row.Ticks n → count ≤ MOST - n
    → g ≡ record f { row = row.Ticks (n + count) } → Takes held held f g (replicate count event.Tick)
more-ticks held f g n count is room same =
    row-more held f g (row.Ticks (n + count)) (replicate count event.Tick) same
    (rw is (sym (replicate-append-replicate n count event.Tick)))
    (λ fits. let few : n ≤ MOST = rw is at fits in omega (arith, few, room))

pub keys-more : (keys : List ℕ) (i : ℕ) {a b c : Option HostFiles} {f g h : ScriptFile} → i < length keys
    → Takes a b f g (take i (map event.Key keys)) → Takes b c g h (event.Key (get_or keys i 0) ∷ [])
    → Takes a c f h (take (i + 1) (map event.Key keys))
keys-more keys i {a} {b} {c} {f} {g} {h} within one two =
    rw (press-next keys i within) (takes-then a b c f g h _ _ one two)

pub keys-all : (keys : List ℕ) (i : ℕ) {a b : Option HostFiles} {f g : ScriptFile} → length keys ≤ i
    → Takes a b f g (take i (map event.Key keys)) → Takes a b f g (map event.Key keys)
keys-all keys i {a} {b} {f} {g} all taken =
    subst (λ es. Takes a b f g es) (take_all i (map event.Key keys) (rw (length-map keys event.Key) all)) taken

-- ---- what a scribe has

pub written_none : (r : Recorder) → IsWrittenOut r r
written_none r = record { records = records-none r.kept; name = refl; host = refl }

pub written_then : (a b c : Recorder) → IsWrittenOut a b → IsWrittenOut b c → IsWrittenOut a c
written_then a b c one two = record {
  records = records-then a.kept b.kept c.kept [] [] one.records two.records;
  name = two.name ∙ one.name;
  host = two.host ∙ one.host;
}

pub written_as : (a b c : Recorder) → IsWrittenOut a b → c ≡ b → IsWrittenOut a c
written_as a b c written same = rw same written

-- a file that was made of no bytes is empty
pub begun_empty : (name : Option (Bor (List ℕ))) (old new : Option HostFiles)
    → IfSome name (λ n. Writes n.now [] old new) → IsEmptyIn name new
begun_empty None old new made = tt
begun_empty (Some name) None new made = rw made tt
begun_empty (Some name) (Some files) new made = rw made (made-there files name.now [])
