-- What the rows of a transcript say, read as the lines of a script.
use Rattle.std.proofs.Common.{◌≡◌, ◌∙◌, ◌+◌, ◌*◌, ◌<◌, ◌≤◌, ◌++◌, ◌%◌, ◌/◌, ℕ, List, [], ◌∷◌, refl, length, map, subst}
use Rattle.std.proofs.Common.{sym, ap, arith, false, true, append_assoc, append-nil, get_or, drop, replicate, Some}
use Rattle.std.proofs.Common.{Bool, inl, inr}
use Rattle.std.specs.Prelude.{◌==◌, flat_map, slice_index, suc, zero, ⊤, IfSome, ◌⊎◌}
use Rattle.std.specs.Fmt.{decimal, digit_glyph}
use Rattle.std.specs.List.{All, slice_index_or}
use Rattle.std.specs.Str.Parse.{AllDigits, digits_value}
use Rattle.std.proofs.lemmas.Fmt.{decimal_is_IsNumeral}
use Rattle.std.proofs.lemmas.List.Splits.{slice_split_at}
use Rattle.std.proofs.lemmas.List.Elements.{All-cons, All-nil, All-push}
use Rattle.std.proofs.lemmas.Grind.{flat_map-append}
use Rattle.std.proofs.lemmas.Bool.{false≢true}
use Rattle.events.proofs.Keeping.{with-last}
use Rattle.std.proofs.lemmas.List.{ext_get_or}
use Rattle.std.proofs.lemmas.Bool.{ne_eqb}
use Rattle.std.proofs.lemmas.Bool.Decides.{nat_tests}
use Rattle.std.specs.Char.{digit_value}
use Rattle.std.specs.Global.{Vec}
use denote.RawPtr.{null_ptr}
use Rattle.events.specs.Rows.{IsRow, bytes_text, row_events, row_line, row_text, rows_events, rows_text}
use Rattle.events.specs.Scripts.{IsScriptOf, command_events, script_events}
use Rattle.events.specs.Transcripts.{TranscriptsAreRead, events_in, hex_bytes, line_events, or_zero, text_events}
use Rattle.events.specs.declared.row.Row.{Row}
use Rattle.events.specs.declared.row.Row.TheVariants as row
use Rattle.events.specs.Commands.{IsCommand}
use Rattle.events.specs.Lines.{AreSaid, IsFaultOf, lines_of}
use Rattle.events.specs.Fields.{IsCount, IsHexOf, MOST, hex_digit, hex_pair}
use Rattle.events.specs.declared.lines.TextFault.{TextFault}
use Rattle.events.specs.declared.lines.TextFault.TheVariants as fault
use Rattle.events.specs.declared.script.lines.Command.{Command}
use Rattle.events.specs.declared.script.lines.Command.TheVariants as command
use Rattle.unixmodel.specs.declared.event.Event.TheVariants as event

-- ---- bytes as digits

glyph-read : (d : ℕ) → d < 16 → hex_digit (digit_glyph false d) ≡ Some d
glyph-read d small = grind (arith, nat_tests)

pair-read : (b : ℕ) → b < 256 → hex_pair (digit_glyph false (b / 16)) (digit_glyph false (b % 16)) ≡ Some b
pair-read b small =
    let whole : 16 * (b / 16) + b % 16 ≡ b = omega arith in
    rw (glyph-read (b / 16) (omega (arith, small)), glyph-read (b % 16) (omega arith), whole) refl

text-length : (keys : List ℕ) → length (bytes_text keys) ≡ 2 * length keys
text-length [] = refl
text-length (b ∷ keys) = omega (arith, text-length keys)

text-pairs : (keys : List ℕ) (k : ℕ) → All (λ key. key < 256) keys → k < length keys
    → hex_pair (slice_index (bytes_text keys) (2 * k)) (slice_index (bytes_text keys) (2 * k + 1))
    ≡ Some (slice_index keys k)
text-pairs [] k bytes within = absurd (omega (arith, within))
text-pairs (b ∷ keys) zero bytes within = pair-read b (bytes 0 0 within)
text-pairs (b ∷ keys) (suc k) bytes within =
    let e : 2 * suc k ≡ suc (suc (2 * k)) = omega arith in
    let f : 2 * suc k + 1 ≡ suc (suc (2 * k + 1)) = omega arith in
    let text = bytes_text (b ∷ keys) in
    ap (λ j. hex_pair (slice_index text j) (slice_index text (2 * suc k + 1))) e
    ∙ ap (λ j. hex_pair (slice_index text (suc (suc (2 * k)))) (slice_index text j)) f
    ∙ text-pairs keys k (λ j d less. bytes (suc j) d (omega (arith, less))) (omega (arith, within))

keys-written : (keys : List ℕ) → All (λ key. key < 256) keys → IsHexOf (bytes_text keys) keys
keys-written keys bytes = record { pairs = text-length keys; each = λ k within. text-pairs keys k bytes within }

-- digits write one list of bytes
one-reading : (digits xs ys : List ℕ) → IsHexOf digits xs → IsHexOf digits ys → xs ≡ ys
one-reading digits xs ys a b =
    let long : length xs ≡ length ys = omega (arith, a.pairs, b.pairs) in
    ext_get_or 0 xs ys long (λ i less. ap or_zero (sym (a.each i less) ∙ b.each i (omega (arith, less, long))))

-- ---- a line says its row's events alone

-- the digits after a word are those
after-five : (a b c d e : ℕ) (xs ys : List ℕ) → a ∷ b ∷ c ∷ d ∷ e ∷ xs ≡ a ∷ b ∷ c ∷ d ∷ e ∷ ys → xs ≡ ys
after-five a b c d e xs ys h = ap (drop 5) h

first : (x y : ℕ) (xs ys : List ℕ) → x ∷ xs ≡ y ∷ ys → x ≡ y
first x y xs ys h = ap (λ zs. get_or zs 0 0) h

second : (v w x y : ℕ) (xs ys : List ℕ) → v ∷ x ∷ xs ≡ w ∷ y ∷ ys → x ≡ y
second v w x y xs ys h = ap (λ zs. get_or zs 1 0) h

one-count : (n m : ℕ) (digits : List ℕ) → n ≤ MOST → decimal n ≡ digits → IsCount digits m → m ≡ n
one-count n m digits within same c =
    let own = decimal_is_IsNumeral n (omega (arith, within)) in
    sym c.value ∙ ap (digits_value 10) (sym same) ∙ own.1

says-row : (r : Row) (c : Command) → IsRow r → IsCommand (row_line r) c → command_events c ≡ row_events r
says-row (row.Steps n) (command.Step m) within h =
    ap (λ k. replicate k event.Step) (one-count n m h.0 within (after-five _ _ _ _ _ (decimal n) h.0 h.1) h.2)
says-row (row.Steps n) (command.Tick m) within h = absurd (omega (arith, first _ _ _ _ h.1))
says-row (row.Steps n) (command.Keys keys) within h = absurd (omega (arith, first _ _ _ _ h.1))
says-row (row.Steps n) (command.Type text) within h = absurd (omega (arith, first _ _ _ _ h))
says-row (row.Ticks n) (command.Step m) within h = absurd (omega (arith, first _ _ _ _ h.1))
says-row (row.Ticks n) (command.Tick m) within h =
    ap (λ k. replicate k event.Tick) (one-count n m h.0 within (after-five _ _ _ _ _ (decimal n) h.0 h.1) h.2)
says-row (row.Ticks n) (command.Keys keys) within h = absurd (omega (arith, first _ _ _ _ h.1))
says-row (row.Ticks n) (command.Type text) within h = absurd (omega (arith, second _ _ _ _ _ _ h))
says-row (row.Keys keys) (command.Step m) within h = absurd (omega (arith, first _ _ _ _ h.1))
says-row (row.Keys keys) (command.Tick m) within h = absurd (omega (arith, first _ _ _ _ h.1))
says-row (row.Keys keys) (command.Keys typed) within h =
    let read = subst (λ digits. IsHexOf digits typed.items)
    (sym (after-five _ _ _ _ _ (bytes_text keys.items) h.0 h.1)) h.2 in
    ap (map event.Key) (one-reading (bytes_text keys.items) typed.items keys.items read
    (keys-written keys.items within.0))
says-row (row.Keys keys) (command.Type text) within h = absurd (omega (arith, first _ _ _ _ h))

-- ---- a line says something

-- a vector of these keys
abbrev vec-of : (keys : List ℕ) → length keys ≤ 64 → Vec ℕ
vec-of keys few =
    record {
      ptr = null_ptr;
      len = length keys;
      cap = length keys;
      alloc = record { memory = record { seal = tt } };
      items = keys;
      ok = (refl, omega arith);
      small = omega (arith, few);
    }

counted : (n : ℕ) → n ≤ MOST → IsCount (decimal n) n
counted n within =
    let own = decimal_is_IsNumeral n (omega (arith, within)) in
    record { numeral = own.0; value = own.1; bound = within }

pub row-says : (r : Row) → IsRow r → (c : Command) × IsCommand (row_line r) c
row-says (row.Steps n) within = (command.Step n, (decimal n, refl, counted n within))
row-says (row.Ticks n) within = (command.Tick n, (decimal n, refl, counted n within))
row-says (row.Keys keys) within =
    (command.Keys (vec-of keys.items within.1), (bytes_text keys.items, refl, keys-written keys.items within.0))

-- ---- the lines of a text

-- no line ends within it
abbrev NoEnd : List ℕ → Type 0
NoEnd [] = ⊤
NoEnd (x ∷ xs) = ((x == 10) ≡ false) × NoEnd xs

no-end-all : (xs : List ℕ) → NoEnd xs → All (λ x. (x == 10) ≡ false) xs
no-end-all [] h = All-nil (λ x. (x == 10) ≡ false)
no-end-all (x ∷ xs) h = All-cons (λ y. (y == 10) ≡ false) x xs h.0 (no-end-all xs h.1)

no-end-digits : (ds : List ℕ) → AllDigits 10 ds → NoEnd ds
no-end-digits [] h = tt
no-end-digits (d ∷ ds) h =
    (ne_eqb d 10 (λ e. absurd (omega (arith, subst (λ x. digit_value x < 10) e h.0))), no-end-digits ds h.1)

glyph-high : (d : ℕ) → 48 ≤ digit_glyph false d
glyph-high d = grind (arith, nat_tests)

no-end-bytes : (bytes : List ℕ) → NoEnd (bytes_text bytes)
no-end-bytes [] = tt
no-end-bytes (b ∷ bytes) = (
  ne_eqb (digit_glyph false (b / 16)) 10 (λ e. absurd (omega (arith, e, glyph-high (b / 16)))),
  (
    ne_eqb (digit_glyph false (b % 16)) 10 (λ e. absurd (omega (arith, e, glyph-high (b % 16)))),
    no-end-bytes bytes,
  ),
)

no-end-row : (r : Row) → IsRow r → NoEnd (row_line r)
no-end-row (row.Steps n) within =
    (refl, (refl, (refl, (refl, (refl, no-end-digits (decimal n) (counted n within).numeral.1)))))
no-end-row (row.Ticks n) within =
    (refl, (refl, (refl, (refl, (refl, no-end-digits (decimal n) (counted n within).numeral.1)))))
no-end-row (row.Keys keys) within = (refl, (refl, (refl, (refl, (refl, no-end-bytes keys.items)))))

lines-more : (r : Row) (rows : List Row) → IsRow r
    → lines_of (rows_text (r ∷ rows)) ≡ row_line r ∷ lines_of (rows_text rows)
lines-more r rows fits =
    ap lines_of (append_assoc (row_line r) (10 ∷ []) (rows_text rows))
    ∙ slice_split_at (λ byte. byte == 10) (row_line r) 10 (rows_text rows)
    (no-end-all (row_line r) (no-end-row r fits)) refl

-- ---- a text

tail-fits : (r : Row) (rows : List Row) → All IsRow (r ∷ rows) → All IsRow rows
tail-fits r rows h = λ k d less. h (suc k) d (omega (arith, less))

head-fits : (r : Row) (rows : List Row) → All IsRow (r ∷ rows) → IsRow r
head-fits r rows h = h 0 r (omega arith)

-- a line that isn't empty says the first of what is said
said-first : (line : List ℕ) (lines : List (List ℕ)) (said : List Command) → 0 < length line
    → AreSaid IsCommand (line ∷ lines) said
    → (c : Command) × (rest : List Command) × (said ≡ c ∷ rest) × IsCommand line c × AreSaid IsCommand lines rest
said-first [] lines said some h = absurd (omega (arith, some))
said-first (x ∷ xs) lines said some h = h

line-some : (r : Row) → 0 < length (row_line r)
line-some (row.Steps n) = omega arith
line-some (row.Ticks n) = omega arith
line-some (row.Keys keys) = omega arith

same-events : (rows : List Row) (said : List Command) → All IsRow rows
    → AreSaid IsCommand (lines_of (rows_text rows)) said → script_events said ≡ rows_events rows
same-events [] said fit h = rw h refl
same-events (r ∷ rows) said fit h =
    let fits = head-fits r rows fit in
    let more = said-first (row_line r) (lines_of (rows_text rows)) said (line-some r)
    (subst (λ lines. AreSaid IsCommand lines said) (lines-more r rows fits) h) in
    let one = says-row r more.0 fits more.3 in
    let rest = same-events rows more.1 (tail-fits r rows fit) more.4 in
    rw (more.2, one, rest) refl

-- each line that isn't empty says something
abbrev SpeaksAt : List (List ℕ) → ℕ → Type 0
SpeaksAt lines i =
    0 < length (slice_index_or lines i []) → (c : Command) × IsCommand (slice_index_or lines i []) c

speaks-on : (line : List ℕ) (lines : List (List ℕ)) → (c : Command) × IsCommand line c
    → ((i : ℕ) → SpeaksAt lines i) → (i : ℕ) → SpeaksAt (line ∷ lines) i
speaks-on line lines says rest zero = λ some. says
speaks-on line lines says rest (suc i) = rest i

speaks : (rows : List Row) (i : ℕ) → All IsRow rows → SpeaksAt (lines_of (rows_text rows)) i
speaks [] zero fit = λ some. absurd (omega (arith, some))
speaks [] (suc i) fit = λ some. absurd (omega (arith, some))
speaks (r ∷ rows) i fit =
    subst (λ lines. SpeaksAt lines i) (sym (lines-more r rows (head-fits r rows fit)))
    (speaks-on (row_line r) (lines_of (rows_text rows)) (row-says r (head-fits r rows fit))
    (λ k. speaks rows k (tail-fits r rows fit)) i)

no-fault : (rows : List Row) → All IsRow rows → (told : TextFault)
    → IsFaultOf IsCommand (lines_of (rows_text rows)) told
    → told ≡ fault.NoMemory
no-fault rows fit (fault.Line number) h =
    let one = speaks rows h.index fit h.spoken in
    absurd (h.none one.0 one.1)
no-fault rows fit fault.NoMemory h = refl

pub are-read : TranscriptsAreRead
are-read rows fit =
    record { same = λ said h. same-events rows said fit h; sound = λ told h. no-fault rows fit told h }

-- the text of all rows, where the last may be left out if it has no events
pub text-read : (is_lost : Bool) (rows : List Row) (last : Row) (old text : List ℕ) → is_lost ≡ false
    → All IsRow rows → IsRow last → old ≡ rows_text rows
    → (text ≡ old ++ row_text last) ⊎ ((row_events last ≡ []) × (text ≡ old))
    → IfSome (events_in is_lost rows last) (λ kept. IsScriptOf text kept.events)
text-read true rows last old text kept fit fits is (inl more) = absurd (false≢true (sym kept))
text-read true rows last old text kept fit fits is (inr none) = absurd (false≢true (sym kept))
text-read false rows last old text kept fit fits is (inl more) =
    let whole : text ≡ rows_text (rows ++ last ∷ []) =
    more ∙ ap (λ xs. xs ++ row_text last) is ∙ ap (λ xs. rows_text rows ++ xs) (sym (append-nil (row_text last)))
    ∙ sym (flat_map-append row_text rows (last ∷ [])) in
    rw whole (are-read (rows ++ last ∷ []) (All-push IsRow rows last fit fits))
text-read false rows last old text kept fit fits is (inr none) =
    let same : rows_events (rows ++ last ∷ []) ≡ rows_events rows =
    with-last rows last ∙ ap (λ es. rows_events rows ++ es) none.0 ∙ append-nil (rows_events rows) in
    rw (same, none.1, is) (are-read rows fit)

-- ---- the events of a text

bytes-again : (keys : List ℕ) → All (λ key. key < 256) keys → hex_bytes (bytes_text keys) ≡ keys
bytes-again [] small = refl
bytes-again (b ∷ keys) small =
    let rest = bytes-again keys (λ k d less. small (suc k) d (omega (arith, less))) in
    rw (pair-read b (small 0 b (omega arith)), rest) refl

row-again : (r : Row) → IsRow r → line_events (row_line r) ≡ row_events r
row-again (row.Steps n) within = ap (λ k. replicate k event.Step) (counted n within).value
row-again (row.Ticks n) within = ap (λ k. replicate k event.Tick) (counted n within).value
row-again (row.Keys keys) within = ap (map event.Key) (bytes-again keys.items within.0)

-- a text of rows has their events
pub text-events : (rows : List Row) → All IsRow rows → text_events (rows_text rows) ≡ rows_events rows
unfolding text_events
text-events [] fit = refl
text-events (r ∷ rows) fit =
    ap (flat_map line_events) (lines-more r rows (head-fits r rows fit))
    ∙ ap (λ es. es ++ text_events (rows_text rows)) (row-again r (head-fits r rows fit))
    ∙ ap (λ es. row_events r ++ es) (text-events rows (tail-fits r rows fit))
