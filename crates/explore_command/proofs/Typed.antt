-- What is typed in events.
use Rattle.std.proofs.Common.{Err, List, Ok, OnOk, Result, []}
use Rattle.std.proofs.Common.{ap, append-nil, append_assoc, get_or, if◌then◌else◌, inl, inr}
use Rattle.std.proofs.Common.{is_ok, length, map, refl, replicate, subst, suc, sym, take, zero, ℕ, ◌+◌, ◌++◌, ◌<◌, ◌∙◌}
use Rattle.std.proofs.Common.{◌∷◌, ◌≡◌, ◌⊎◌}
use Rattle.std.proofs.lemmas.Grind.{flat_map-append}
use Rattle.std.specs.Borrow.{Bor}
use Rattle.std.proofs.lemmas.List.{take_more}
use Rattle.events.specs.Scripts.{command_events, script_events}
use Rattle.explore_command.specs.Keys.{key_of, keys_in}
use Rattle.events.specs.declared.script.lines.Command.{Command}
use Rattle.events.specs.declared.script.lines.Command.TheVariants as command
use Rattle.unixmodel.specs.declared.event.Event.{Event}
use Rattle.unixmodel.specs.declared.event.Event.TheVariants.{Key, Step, Tick}

pub none-in-steps : (n : ℕ) → keys_in (replicate n Step) ≡ []
none-in-steps zero = refl
none-in-steps (suc n) = none-in-steps n

pub none-in-ticks : (n : ℕ) → keys_in (replicate n Tick) ≡ []
none-in-ticks zero = refl
none-in-ticks (suc n) = none-in-ticks n

pub all-in-keys : (keys : List ℕ) → keys_in (map Key keys) ≡ keys
all-in-keys [] = refl
all-in-keys (k ∷ keys) = ap (λ ks. k ∷ ks) (all-in-keys keys)

pub keys-append : (one other : List Event) → keys_in (one ++ other) ≡ keys_in one ++ keys_in other
keys-append one other = flat_map-append key_of one other

-- a line is typed with the key that ends it
pub all-in-line : (text : List ℕ) → keys_in (map Key text ++ map Key (10 ∷ [])) ≡ text ++ 10 ∷ []
all-in-line text =
    keys-append (map Key text) (map Key (10 ∷ [])) ∙ ap (λ ks. ks ++ 10 ∷ []) (all-in-keys text)

-- ---- commands

pub commands-append : (xs ys : List Command) → script_events (xs ++ ys) ≡ script_events xs ++ script_events ys
commands-append [] ys = refl
commands-append (c ∷ xs) ys =
    ap (λ es. command_events c ++ es) (commands-append xs ys)
    ∙ sym (append_assoc (command_events c) (script_events xs) (script_events ys))

-- steps and ticks type nothing
pub none-typed : (c : Command) (ks : List ℕ)
    → ((n : ℕ) × (c ≡ command.Step n)) ⊎ ((n : ℕ) × (c ≡ command.Tick n)) → ks ≡ ks ++ keys_in (command_events c)
none-typed c ks (inl (n, is)) =
    subst (λ d. ks ≡ ks ++ keys_in (command_events d)) (sym is)
    (sym (append-nil ks) ∙ ap (λ more. ks ++ more) (sym (none-in-steps n)))
none-typed c ks (inr (n, is)) =
    subst (λ d. ks ≡ ks ++ keys_in (command_events d)) (sym is)
    (sym (append-nil ks) ∙ ap (λ more. ks ++ more) (sym (none-in-ticks n)))

-- keys that are put at the end, where there is memory
pub extended : {A E : Type 0} (r : Result A E) (new ks more typed : List ℕ)
    → new ≡ (if is_ok r then ks ++ more else ks) → more ≡ typed → OnOk r (new ≡ ks ++ typed)
extended (Ok x) new ks more typed is same = is ∙ ap (λ m. ks ++ m) same
extended (Err x) new ks more typed is same = tt

-- a line that is put at the end in two parts
pub line-extended : {A E : Type 0} (c : Command) (r : Result A E) (new mid ks : List ℕ) (text : Bor (List ℕ))
    → c ≡ command.Type text → mid ≡ ks ++ text.now → new ≡ (if is_ok r then mid ++ (10 ∷ []) else mid)
    → OnOk r (new ≡ ks ++ keys_in (command_events c))
line-extended c (Err x) new mid ks text types first is = tt
line-extended c (Ok x) new mid ks text types first is =
    subst (λ d. new ≡ ks ++ keys_in (command_events d)) (sym types)
    (is ∙ ap (λ m. m ++ (10 ∷ [])) first ∙ append_assoc ks text.now (10 ∷ [])
    ∙ ap (λ m. ks ++ m) (sym (all-in-line text.now)))

-- one command more
pub typed-next : (script : List Command) (i : ℕ) (c : Command) → i < length script → c ≡ get_or script i c
    → keys_in (script_events (take (i + 1) script))
    ≡ keys_in (script_events (take i script)) ++ keys_in (command_events c)
typed-next script i c within is =
    ap (λ cs. keys_in (script_events cs)) (take_more script i c within)
    ∙ ap keys_in (commands-append (take i script) (get_or script i c ∷ []))
    ∙ keys-append (script_events (take i script)) (script_events (get_or script i c ∷ []))
    ∙ ap (λ es. keys_in (script_events (take i script)) ++ keys_in es)
    (append-nil (command_events (get_or script i c)) ∙ ap command_events (sym is))
