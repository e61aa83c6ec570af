-- Lemmas on symbols and the parts between commas.
use Rattle.asmtext.proofs.Common.{◌≡◌, ◌∙◌, ◌+◌, ◌++◌, ◌-◌, ◌==◌, Bool, List, [], ◌∷◌, ap, cond, drop, length, map}
use Rattle.asmtext.proofs.Common.{refl, reverse, sym, take, true, false, if◌then◌else◌, onto_first, prefix_len}
use Rattle.asmtext.proofs.Common.{slice_split, suffix_len, take-map, drop-map, length-map, map-append, Bor}
use Rattle.asmtext.proofs.Common.{reverse-append, map-map, is_blank_symbol, is_comma, part_seen, symbol_of}
use Rattle.std.proofs.lemmas.Bool.{eq-eqb, ne_eqb}
use Rattle.unixmodel.specs.Tokens as the
use Rattle.asmtext.specs.declared.tokens.Symbol.{Symbol}

pub prefix_len-map : {X Y : Type 0} (p : Y → Bool) (f : X → Y) (xs : List X)
    → prefix_len p (map f xs) ≡ prefix_len (λ x. p (f x)) xs
prefix_len-map p f [] = refl
prefix_len-map p f (x ∷ xs) = ap (λ n. cond (p (f x)) (1 + n) 0) (prefix_len-map p f xs)

split_step : {X Y : Type 0} (f : X → Y) (x : X) (b : Bool) (rest : List (List X))
    → cond b ([] ∷ map (map f) rest) (onto_first (f x) (map (map f) rest))
    ≡ map (map f) (cond b ([] ∷ rest) (onto_first x rest))
split_step f x true rest = refl
split_step f x false [] = refl
split_step f x false (r ∷ rest) = refl

pub slice_split-map : {X Y : Type 0} (p : Y → Bool) (f : X → Y) (xs : List X)
    → slice_split p (map f xs) ≡ map (map f) (slice_split (λ x. p (f x)) xs)
slice_split-map p f [] = refl
slice_split-map p f (x ∷ xs) =
    ap (λ r. cond (p (f x)) ([] ∷ r) (onto_first (f x) r)) (slice_split-map p f xs)
    ∙ split_step f x (p (f x)) (slice_split (λ y. p (f y)) xs)

pub reverse-map : {X Y : Type 0} (f : X → Y) (xs : List X) → reverse (map f xs) ≡ map f (reverse xs)
reverse-map f [] = refl
reverse-map f (x ∷ xs) =
    reverse-append (f x ∷ []) (map f xs)
    ∙ ap (λ r. r ++ f x ∷ []) (reverse-map f xs)
    ∙ sym (map-append f (reverse xs) (x ∷ []))
    ∙ ap (map f) (sym (reverse-append (x ∷ []) xs))

pub suffix_len-map : {X Y : Type 0} (p : Y → Bool) (f : X → Y) (xs : List X)
    → suffix_len p (map f xs) ≡ suffix_len (λ x. p (f x)) xs
suffix_len-map p f xs = ap (prefix_len p) (reverse-map f xs) ∙ prefix_len-map p f (reverse xs)

trimmed_end : {X Y : Type 0} (p : Y → Bool) (f : X → Y) (front : List X)
    → take (length (map f front) - suffix_len p (map f front)) (map f front)
    ≡ map f (take (length front - suffix_len (λ x. p (f x)) front) front)
trimmed_end p f front = rw (length-map front f, suffix_len-map p f front)
    (take-map f (length front - suffix_len (λ x. p (f x)) front) front)

pub trimmed-map : (part : List Symbol)
    → the.trimmed (map symbol_of part)
    ≡ map symbol_of (take (length (drop (prefix_len is_blank_symbol part) part) - suffix_len is_blank_symbol
    (drop (prefix_len is_blank_symbol part) part)) (drop (prefix_len is_blank_symbol part) part))
trimmed-map part =
    ap (λ n. let front = drop n (map symbol_of part)
    in take (length front - suffix_len (the.is_plain the.is_blank) front) front)
    (prefix_len-map (the.is_plain the.is_blank) symbol_of part)
    ∙ ap (λ front. take (length front - suffix_len (the.is_plain the.is_blank) front) front)
    (drop-map symbol_of (prefix_len is_blank_symbol part) part)
    ∙ trimmed_end (the.is_plain the.is_blank) symbol_of (drop (prefix_len is_blank_symbol part) part)

blank_test : (symbols : List Symbol)
    → (prefix_len (the.is_plain the.is_blank) (map symbol_of symbols) == length (map symbol_of symbols))
    ≡ (prefix_len is_blank_symbol symbols == length symbols)
blank_test symbols = rw (prefix_len-map (the.is_plain the.is_blank) symbol_of symbols, length-map symbols symbol_of)
    refl

-- no parts where there is nothing but blanks
pub no_parts : (symbols : List Symbol) → prefix_len is_blank_symbol symbols ≡ length symbols
    → the.parts_of (map symbol_of symbols) ≡ []
unfolding the.parts_of
no_parts symbols all =
    ap (λ b. if b then [] else map the.trimmed (slice_split (the.is_plain (λ c. c == 0x2c)) (map symbol_of symbols)))
    (blank_test symbols ∙ eq-eqb (prefix_len is_blank_symbol symbols) (length symbols) all)

-- else they are what lies between the commas
pub some_parts : (symbols : List Symbol) (split : List (Bor (List Symbol)))
    → ¬ (prefix_len is_blank_symbol symbols ≡ length symbols)
    → map (λ (part : Bor (List Symbol)). part.now) split ≡ slice_split is_comma symbols
    → map (λ part. the.trimmed (part_seen part)) split ≡ the.parts_of (map symbol_of symbols)
unfolding the.parts_of
some_parts symbols split some cut =
    sym (map-map the.trimmed part_seen split)
    ∙ ap (map the.trimmed) (sym (map-map (map symbol_of) (λ (part : Bor (List Symbol)). part.now) split)
    ∙ ap (map (map symbol_of)) cut ∙ sym (slice_split-map (the.is_plain (λ c. c == 0x2c)) symbol_of symbols))
    ∙ sym (ap (λ b. if b then []
    else map the.trimmed (slice_split (the.is_plain (λ c. c == 0x2c)) (map symbol_of symbols)))
    (blank_test symbols ∙ ne_eqb (prefix_len is_blank_symbol symbols) (length symbols) some))
