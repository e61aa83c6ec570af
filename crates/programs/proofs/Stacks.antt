-- The stack of a program as its arguments are pushed.
use Rattle.programs.proofs.Common.{◌%◌, ◌*◌, ◌+◌, ◌++◌, ◌-◌, ◌/◌, ◌<◌, [], ap, append-nil, append_assoc, arith, Bool}
use Rattle.programs.proofs.Common.{drop, false, length, length-append, List, None, Option, refl, Some, subst, suc, sym}
use Rattle.programs.proofs.Common.{take, true, zero, ℕ, ◌∙◌, ◌∷◌, ◌≡◌, ◌≢◌, ◌≤◌, le-leb, lt-leb, nat_tests, drop-drop}
use Rattle.programs.proofs.Common.{drop-replicate, length-drop, length-take, take-replicate, take_all, take_at}
use Rattle.programs.proofs.Common.{none-some, flat_map, ◌==◌, if◌then◌else◌, nat_le, nat_lt, option_and_then}
use Rattle.programs.proofs.Common.{option_map, Memory, overwrite, Page, write_from, zero_page, reach, string_at}
use Rattle.programs.proofs.Common.{write_bytes, zeros, le, number_at, round_down, finished, Plan, Stack, stack_marks}
use Rattle.programs.proofs.Common.{push, push_pointers, push_strings, with_args, with_stack, and_then_strings}
use Rattle.programs.proofs.Common.{strings_at, args_at, words_before_zero, Load, IsSized, Finishes, HasPushed, Passes}
use Rattle.programs.proofs.Common.{plan_with, PushesString, stacked, word_in, Arguments, PassesOne}
use Rattle.std.proofs.Math.Seq.{take-append-add}
use Rattle.std.proofs.lemmas.Grind.{flat_map-append}
use Rattle.std.proofs.lemmas.List.Concat.{flat_map-cons}
use lib.Seq.{drop-append-add}
use Rattle.vm.proofs.ReachLemmas.{reach-drop}

-- ---- bytes in the page of a stack

guard : Page
guard = zero_page (stack_marks false)

abbrev bottom : List ℕ → Page
bottom page = record { bytes = page; marks = stack_marks true }

write-one : (page : List ℕ) (at : ℕ) (bytes : List ℕ) → 0 < length bytes → at + length bytes ≤ 4096
    → write_from (bottom page ∷ []) at bytes ≡ bottom (overwrite page at bytes) ∷ []
write-one page at [] some fits = absurd (omega (arith, some))
write-one page at (b ∷ bs) some fits =
    let all : take (4096 - at) (b ∷ bs) ≡ b ∷ bs = take_all (4096 - at) (b ∷ bs) (omega (arith, fits)) in
    ap (λ l. bottom (overwrite page at l) ∷ []) all

pub write-stack : (pages : Memory) (page : List ℕ) (at : ℕ) (bytes : List ℕ) → 0 < length bytes
    → at + length bytes ≤ 4096
    → write_bytes (stacked pages page) (4096 * (length pages + 1) + at) bytes ≡ stacked pages (overwrite page at bytes)
unfolding write_bytes
write-stack pages page at bytes some fits =
    let in_page : (4096 * (length pages + 1) + at) / 4096 ≡ length pages + 1 = omega (arith, some, fits) in
    let from : (4096 * (length pages + 1) + at) % 4096 ≡ at = omega (arith, some, fits) in
    let g = zero_page (stack_marks false) in
    let front : take (length pages + 1) (pages ++ g ∷ bottom page ∷ []) ≡ pages ++ g ∷ [] =
    take-append-add pages (g ∷ bottom page ∷ []) 1 in
    let back : drop (length pages + 1) (pages ++ g ∷ bottom page ∷ []) ≡ bottom page ∷ [] =
    drop-append-add pages (g ∷ bottom page ∷ []) 1 in
    rw (in_page, from, front, back, write-one page at bytes some fits)
    (append_assoc pages (g ∷ []) (bottom (overwrite page at bytes) ∷ []))

-- ---- pushing

-- a stack whose page has these bytes, down to offset `top`
abbrev pub stack_with : Memory → List ℕ → ℕ → List ℕ → Stack
stack_with pages page top pointers =
    record { memory = stacked pages page; sp = 4096 * (length pages + 1) + top; pointers = pointers }

pushed : (pages : Memory) {old new : List ℕ} {top : ℕ} (pointers : List ℕ) {bytes : List ℕ} {place : ℕ} → top ≤ 4096
    → 0 < length bytes → HasPushed old new top bytes place
    → push (stack_with pages old top pointers) bytes
    ≡ stack_with pages new place (pointers ++ (4096 * (length pages + 1) + place) ∷ [])
unfolding push
pushed pages {old} {top} pointers {bytes} {place} inside some has =
    let room = has.fits in
    let stands = has.stands in
    let sp : round_down (4096 * (length pages + 1) + top - length bytes) 16 ≡ 4096 * (length pages + 1) + place =
    omega (arith, room, stands) in
    rw (sp, write-stack pages old place bytes some (omega (arith, room, stands, inside)), ← has.page) refl

-- what is pushed lies lower
push-low : (s : Stack) (bytes : List ℕ) → (push s bytes).sp ≤ s.sp
unfolding push
push-low s bytes = omega arith

strings-low : (s : Stack) (args : List (List ℕ)) → (push_strings s args).sp ≤ s.sp
unfolding push_strings
strings-low s [] = omega arith
strings-low s (x ∷ xs) = omega (arith, push-low s (x ++ 0 ∷ []), strings-low (push s (x ++ 0 ∷ [])) xs)

pointers-low : (s : Stack) → (push_pointers s).sp ≤ s.sp
unfolding push_pointers
pointers-low s = push-low s _

-- without room it lies below the page
push-under : (pages : Memory) (page : List ℕ) {top : ℕ} (pointers bytes : List ℕ) → top < length bytes
    → (push (stack_with pages page top pointers) bytes).sp < 4096 * (length pages + 1)
unfolding push
push-under pages page pointers bytes over = omega (arith, over)

-- and what lies below is refused
refused-under : (pages : Memory) (pc argc : ℕ) (s : Stack) → s.sp < 4096 * (length pages + 1)
    → finished (4096 * (length pages + 2)) pc argc s ≡ None
refused-under pages pc argc s under =
    let no : nat_le (4096 * (length pages + 2) - 4096) s.sp ≡ false = lt-leb _ _ (omega (arith, under)) in
    rw no refl

-- the last push is done, or finds no room
finishes : (pages : Memory) (pc : ℕ) (page : List ℕ) (top : ℕ) (pointers : List ℕ) {bytes : List ℕ} {spelled : List ℕ}
    {n count base : ℕ} → top ≤ 4096 → 0 < length bytes → spelled ≡ bytes → n ≡ count → base ≡ 4096 * (length pages + 1)
    → (r : Option Arguments) → Finishes page top spelled count base r
    → finished (4096 * (length pages + 2)) pc n (push (stack_with pages page top pointers) bytes)
    ≡ option_map (plan_with pages pc) r
finishes pages pc page top pointers {bytes} {n = n} inside some same number is None over =
    refused-under pages pc n (push (stack_with pages page top pointers) bytes)
    (push-under pages page pointers bytes (omega (arith, over, ap length same)))
finishes pages pc page top pointers {bytes} {n = n} inside some same number is (Some a) made =
    let put : HasPushed page a.page top bytes made.0 = subst (λ l. HasPushed page a.page top l made.0) same made.1 in
    let yes : nat_le (4096 * (length pages + 2) - 4096) (4096 * (length pages + 1) + made.0) ≡ true =
    le-leb _ _ (omega arith) in
    let sp : 4096 * (length pages + 1) + made.0 ≡ a.sp = omega (arith, made.2, is) in
    let argc : n ≡ a.count = omega (arith, made.3, number) in
    rw (pushed pages pointers inside some put, yes, argc, sp) refl

-- ---- the words and the strings that are left

-- the plan from the rest of the arguments
abbrev pub ends : Memory → ℕ → ℕ → Stack → List (List ℕ) → Option Plan
ends pages pc i s args = finished (4096 * (length pages + 2)) pc (i + length args) (push_pointers (push_strings s args))

abbrev pub args_from : Memory → ℕ → List ℕ → Option (List (List ℕ))
args_from mem n bytes = option_and_then (strings_at mem) (words_before_zero n bytes)

none-under : (pages : Memory) (pc i : ℕ) (s : Stack) → s.sp < 4096 * (length pages + 1) → (o : Option (List (List ℕ)))
    → option_and_then (ends pages pc i s) o ≡ None
none-under pages pc i s under None = refl
none-under pages pc i s under (Some args) =
    refused-under pages pc (i + length args) (push_pointers (push_strings s args))
    (omega (arith, under, strings-low s args, pointers-low (push_strings s args)))

one-more : (pages : Memory) (pc i : ℕ) (s : Stack) (string : List ℕ) (args : List (List ℕ))
    → ends pages pc i s (string ∷ args) ≡ ends pages pc (i + 1) (push s (string ++ 0 ∷ [])) args
unfolding push_strings
one-more pages pc i s string args =
    let n : i + length (string ∷ args) ≡ i + 1 + length args = omega arith in
    ap (λ k. finished (4096 * (length pages + 2)) pc k (push_pointers (push_strings (push s (string ++ 0 ∷ [])) args)))
    n

string-more : (pages : Memory) (pc i : ℕ) (s : Stack) (string : List ℕ) (rest : Option (List (List ℕ)))
    → option_and_then (ends pages pc i s) (and_then_strings (Some string) rest)
    ≡ option_and_then (ends pages pc (i + 1) (push s (string ++ 0 ∷ []))) rest
string-more pages pc i s string None = refl
string-more pages pc i s string (Some args) = one-more _ pc i s _ _

strings-none : (o : Option (List ℕ)) → and_then_strings o None ≡ None
strings-none None = refl
strings-none (Some s) = refl

words-more : (mem : Memory) (w : ℕ) (o : Option (List ℕ))
    → option_and_then (strings_at mem) (option_map (λ ws. w ∷ ws) o)
    ≡ and_then_strings (string_at mem w) (option_and_then (strings_at mem) o)
words-more mem w None = sym (strings-none _)
words-more mem w (Some ws) = refl

-- the strings from the first word on
abbrev by_word : Memory → ℕ → List ℕ → Option ℕ → Option (List (List ℕ))
by_word mem n bytes None = None
by_word mem n bytes (Some w) =
    option_and_then (strings_at mem)
    (if w == 0 then Some [] else option_map (λ ws. w ∷ ws) (words_before_zero n (drop 8 bytes)))

word-next : (mem : Memory) (n : ℕ) (bytes : List ℕ) → args_from mem (suc n) bytes ≡ by_word mem n bytes (word_in bytes)
unfolding words_before_zero
word-next mem n bytes = go (nat_lt (length (take 8 bytes)) 8) where
  go : (b : Bool) → option_and_then (strings_at mem)
      (if b then None else if number_at 8 0 bytes == 0 then Some []
      else option_map (λ ws. number_at 8 0 bytes ∷ ws) (words_before_zero n (drop 8 bytes)))
      ≡ by_word mem n bytes (if b then None else Some (number_at 8 0 bytes))
  go true = refl
  go false = refl

word-long : (bytes : List ℕ) (w : ℕ) → word_in bytes ≡ Some w → 8 ≤ length (take 8 bytes)
word-long bytes w some = go (nat_lt (length (take 8 bytes)) 8) refl some where
  go : (b : Bool) → nat_lt (length (take 8 bytes)) 8 ≡ b → (if b then None else Some (number_at 8 0 bytes)) ≡ Some w
      → 8 ≤ length (take 8 bytes)
  go true e is = absurd (none-some w is)
  go false e is = grind (arith, nat_tests, e)

-- ---- the arguments so far

pub record IsPushing (mem : Memory) (argv count i top : ℕ) (page spelled : List ℕ) : Type 0 where
  pub inside : top ≤ 4096
  pub reached : 8 * i ≤ length (reach Load mem argv)
  pub pointers : List ℕ
  pub few : length pointers ≡ i
  pub spells : spelled ≡ flat_map (le 8) pointers ++ zeros (256 - 8 * i)
  pub rest : (pages : Memory) (pc : ℕ) → length pages ≡ count
      → option_and_then (with_args pages pc) (args_at mem argv)
      ≡ option_and_then (ends pages pc i (stack_with pages page top pointers))
      (args_from mem (32 - i) (drop (8 * i) (reach Load mem argv)))

begins-some : (pages : Memory) (pc : ℕ) (args : List (List ℕ))
    → with_args pages pc args ≡ ends pages pc 0 (stack_with pages (zeros 4096) 4096 []) args
unfolding with_args with_stack
begins-some pages pc args =
    let n : length args ≡ 0 + length args = omega arith in
    let sp : 4096 * (length pages + 2) ≡ 4096 * (length pages + 1) + 4096 = omega arith in
    ap (λ k. finished (4096 * (length pages + 2)) pc k
    (push_pointers (push_strings
    (record { memory = with_stack pages; sp = 4096 * (length pages + 2); pointers = [] }) args))) n
    ∙ ap (λ a. finished (4096 * (length pages + 2)) pc (0 + length args)
    (push_pointers (push_strings (record { memory = with_stack pages; sp = a; pointers = [] }) args))) sp

begins : (pages : Memory) (pc : ℕ) (o : Option (List (List ℕ)))
    → option_and_then (with_args pages pc) o
    ≡ option_and_then (ends pages pc 0 (stack_with pages (zeros 4096) 4096 [])) o
begins pages pc None = refl
begins pages pc (Some args) = begins-some _ pc _

pub none-pushed : (mem : Memory) (argv : ℕ) {count top : ℕ} {page spelled : List ℕ} → top ≡ 4096 → page ≡ zeros 4096
    → spelled ≡ zeros 256 → IsPushing mem argv count 0 top page spelled
unfolding args_at
none-pushed mem argv whole clear none = record {
  inside = omega (arith, whole);
  reached = omega arith;
  pointers = [];
  few = refl;
  spells = none;
  rest = λ pages pc e. rw (whole, clear) (begins _ pc _);
}

-- ---- the pointers

length-le : (k x : ℕ) → length (le k x) ≡ k
length-le zero x = refl
length-le (suc k) x = ap suc (length-le k _)

length-pointers : (ps : List ℕ) → length (flat_map (le 8) ps) ≡ 8 * length ps
length-pointers [] = refl
length-pointers (p ∷ ps) = ap length (flat_map-cons (le 8) p ps) ∙ length-append (le 8 p) (flat_map (le 8) ps)
    ∙ omega (arith, length-le 8 p, length-pointers ps)

flat-more : (ps : List ℕ) (p : ℕ) → flat_map (le 8) (ps ++ p ∷ []) ≡ flat_map (le 8) ps ++ le 8 p
flat-more ps p = flat_map-append (le 8) ps (p ∷ [])
    ∙ ap (λ l. flat_map (le 8) ps ++ l) (flat_map-cons (le 8) p [] ∙ append-nil (le 8 p))

-- one more pointer
spelled-more : (ps : List ℕ) {i : ℕ} (p : ℕ) → length ps ≡ i → i < 32
    → overwrite (flat_map (le 8) ps ++ zeros (256 - 8 * i)) (8 * i) (le 8 p) ≡ flat_map (le 8) (ps ++ p ∷ [])
    ++ zeros (256 - 8 * (i + 1))
unfolding zeros
spelled-more ps {i} p count more =
    let long : length (flat_map (le 8) ps) ≡ 8 * i = omega (arith, length-pointers ps, count) in
    let behind : 8 * i + length (le 8 p) ≡ length (flat_map (le 8) ps) + 8 = omega (arith, long) in
    let left : 256 - 8 * i - 8 ≡ 256 - 8 * (i + 1) = omega arith in
    rw (
      take_at (flat_map (le 8) ps) (zeros (256 - 8 * i)) (8 * i) long,
      behind,
      drop-append-add (flat_map (le 8) ps) (zeros (256 - 8 * i)) 8,
      flat-more ps p,
    )
    (ap (λ l. (flat_map (le 8) ps ++ le 8 p) ++ l) (drop-replicate 8 _ 0 ∙ ap zeros left))

-- the pointers and the 0 word
spelled-all : (ps : List ℕ) (i : ℕ) → length ps ≡ i → i < 32
    → take (8 * i + 8) (flat_map (le 8) ps ++ zeros (256 - 8 * i)) ≡ flat_map (le 8) ps ++ le 8 0
unfolding zeros
spelled-all ps i count more =
    let long : 8 * i + 8 ≡ length (flat_map (le 8) ps) + 8 = omega (arith, length-pointers ps, count) in
    rw (long, take-append-add (flat_map (le 8) ps) (zeros (256 - 8 * i)) 8)
    (ap (λ l. flat_map (le 8) ps ++ l) (take-replicate 8 _ 0 (omega (arith, more))))

-- the pointers after all strings
ends-all : (pages : Memory) (pc : ℕ) (page : List ℕ) (pointers : List ℕ) {spelled : List ℕ} {i top base : ℕ}
    → top ≤ 4096 → length pointers ≡ i → i < 32 → spelled ≡ flat_map (le 8) pointers ++ zeros (256 - 8 * i)
    → base ≡ 4096 * (length pages + 1)
    → (r : Option Arguments) → Finishes page top (take (8 * i + 8) spelled) i base r
    → ends pages pc i (stack_with pages page top pointers) [] ≡ option_map (plan_with pages pc) r
unfolding push_strings push_pointers
ends-all pages pc page pointers {i = i} {top = top} inside few more spells is r made =
    finishes _ pc _ top _ inside (omega (arith, length-append (flat_map (le 8) pointers) (le 8 0)))
    (ap (take (8 * i + 8)) spells ∙ spelled-all _ i few more) (omega arith) is r made

-- ---- a step

module _ {mem : Memory} {argv count i top : ℕ} {page spelled : List ℕ} (sized : IsSized mem)
    (has : IsPushing mem argv count i top page spelled) (more : i < 32) {told : Option ℕ}
    (word : told ≡ word_in (reach Load mem (argv + 8 * i))) where
  abbrev rest : List ℕ
  rest = drop (8 * i) (reach Load mem argv)

  abbrev stack : Memory → Stack
  stack pages = stack_with pages page top has.pointers

  word-is : word_in rest ≡ told
  word-is = sym (word ∙ ap word_in (reach-drop _ _ _ _ sized has.reached))

  -- the rest, by the word that was read
  rest-is : (pages : Memory) (pc : ℕ) → length pages ≡ count → {o : Option ℕ} → told ≡ o
      → option_and_then (with_args pages pc) (args_at mem argv)
      ≡ option_and_then (ends pages pc i (stack pages)) (by_word mem (32 - (i + 1)) rest o)
  rest-is pages pc e is =
      let left : 32 - i ≡ suc (32 - (i + 1)) = omega (arith, more) in
      rw (has.rest pages pc e, left, word-next mem (32 - (i + 1)) rest, word-is, is) refl

  -- a word that can't be read
  pub word-refused : told ≡ None → Passes mem argv count None
  word-refused none pages pc e = rest-is pages pc e none

  -- the 0 word
  pub ended : {w : ℕ} → told ≡ Some w → w ≡ 0 → {base : ℕ} → base ≡ 4096 * (count + 1) → (r : Option Arguments)
      → Finishes page top (take (8 * i + 8) spelled) i base r → Passes mem argv count r
  ended some null is r made pages pc e = rest-is pages pc e (some ∙ ap Some null)
      ∙ ends-all _ pc _ _ has.inside has.few more has.spells (omega (arith, is, e)) r made

  module _ {w : ℕ} (some : told ≡ Some w) (other : w ≢ 0) where
    abbrev others : Option (List (List ℕ))
    others = args_from mem (32 - (i + 1)) (drop 8 rest)

    string-is : (pages : Memory) (pc : ℕ) → length pages ≡ count → {o : Option (List ℕ)} → string_at mem w ≡ o
        → option_and_then (with_args pages pc) (args_at mem argv)
        ≡ option_and_then (ends pages pc i (stack pages)) (and_then_strings o others)
    string-is pages pc e {o} is =
        let no : (w == 0) ≡ false = grind (arith, nat_tests, other) in
        let made : by_word mem (32 - (i + 1)) rest (Some w) ≡ and_then_strings o others =
        rw (no, ← is) (words-more _ w _) in
        rw (rest-is pages pc e some, made) refl

    -- a string that can't be read, or for which there is no room
    pub string-refused : (new : List ℕ) → PushesString mem w page new top None → Passes mem argv count None
    string-refused new over pages pc e = go (string_at mem w) refl where
      go : (o : Option (List ℕ)) → string_at mem w ≡ o → option_and_then (with_args pages pc) (args_at mem argv) ≡ None
      go None is = string-is _ pc e is
      go (Some string) is =
          let low = push-under _ _ _ _ (omega (arith, over string is, length-append string (0 ∷ []))) in
          string-is _ pc e is ∙ string-more _ pc i _ _ _ ∙ none-under _ pc _ _ low _

    -- one more string
    pub string-pushed : {new spelled' : List ℕ} {place base : ℕ} → PushesString mem w page new top (Some place)
        → base ≡ 4096 * (count + 1) → spelled' ≡ overwrite spelled (8 * i) (le 8 (base + place))
        → IsPushing mem argv count (i + 1) place new spelled'
    string-pushed {new} {place} {base} made is put =
        let stands = made.2.stands in
        let was = has.inside in
        let long : 0 < length (made.0 ++ 0 ∷ []) = omega (arith, length-append made.0 (0 ∷ [])) in
        let next : drop 8 rest ≡ drop (8 * (i + 1)) (reach Load mem argv) = drop-drop 8 (8 * i) (reach Load mem argv)
        ∙ ap (λ n. drop n (reach Load mem argv)) (omega arith) in
        record {
          inside = omega (arith, was, stands);
          reached = omega (
            arith,
            word-long rest w (word-is ∙ some),
            length-take 8 rest,
            length-drop (8 * i) (reach Load mem argv),
          );
          pointers = has.pointers ++ (base + place) ∷ [];
          few = length-append has.pointers ((base + place) ∷ []) ∙ ap (λ n. n + 1) has.few;
          spells = put ∙ ap (λ l. overwrite l (8 * i) (le 8 (base + place))) has.spells ∙ spelled-more _ _ has.few more;
          rest = λ pages pc e.
              let same : 4096 * (length pages + 1) + place ≡ base + place = omega (arith, e, is) in
              rw (
                string-is pages pc e made.1,
                string-more pages pc i (stack pages) made.0 others,
                pushed pages has.pointers was long made.2,
                same,
                next,
              ) refl;
        }

-- there are too many
pub all-pushed : {mem : Memory} {argv count i top : ℕ} {page spelled : List ℕ}
    → IsPushing mem argv count i top page spelled → 32 ≤ i → Passes mem argv count None
unfolding words_before_zero
all-pushed {i} has all pages pc e =
    let none : 32 - i ≡ 0 = omega (arith, all) in
    rw (has.rest pages pc e, none) refl

-- ---- one string as the only argument

single : (pages : Memory) (pc : ℕ) (string : List ℕ)
    → with_args pages pc (string ∷ [])
    ≡ ends pages pc 1 (push (stack_with pages (zeros 4096) 4096 []) (string ++ 0 ∷ [])) []
single pages pc string = begins-some _ pc _ ∙ one-more _ pc 0 _ _ []

-- bytes for which there is no room
pub one-refused : {bytes : List ℕ} {count : ℕ} → 4096 < length bytes → PassesOne bytes count None
one-refused over string is pages pc e =
    single pages pc string ∙ none-under pages pc 1 (push (stack_with pages (zeros 4096) 4096 []) (string ++ 0 ∷ []))
    (push-under pages (zeros 4096) [] (string ++ 0 ∷ []) (omega (arith, over, ap length is))) (Some [])

-- bytes that are on the page, and their pointer
pub one-passed : {bytes : List ℕ} (page spelled clear : List ℕ) {none : List ℕ} (top : ℕ) {count : ℕ} (base : ℕ)
    (r : Option Arguments) → clear ≡ zeros 4096 → none ≡ zeros 256 → HasPushed clear page 4096 bytes top
    → spelled ≡ overwrite none 0 (le 8 (base + top)) → base ≡ 4096 * (count + 1)
    → Finishes page top (take 16 spelled) 1 base r → PassesOne bytes count r
one-passed page spelled clear top base r whole empty has put at made string is pages pc e =
    let pushed-here : HasPushed (zeros 4096) page 4096 (string ++ 0 ∷ []) top =
    subst (λ l. HasPushed l page 4096 (string ++ 0 ∷ []) top) whole
    (subst (λ l. HasPushed clear page 4096 l top) is has) in
    let pointer = 4096 * (length pages + 1) + top in
    let stands = pushed-here.stands in
    let same : base + top ≡ pointer = omega (arith, at, e) in
    let spells : spelled ≡ flat_map (le 8) (pointer ∷ []) ++ zeros (256 - 8) = put
    ∙ ap (λ l. overwrite l 0 (le 8 (base + top))) empty ∙ ap (λ p. overwrite (zeros 256) 0 (le 8 p)) same
    ∙ spelled-more [] _ refl (omega arith) in
    rw (
      single pages pc string,
      pushed pages [] (omega arith) (omega (arith, length-append string (0 ∷ []))) pushed-here,
    )
    (ends-all _ pc _ _ (omega (arith, stands)) refl (omega arith) spells (omega (arith, at, e)) r made)
