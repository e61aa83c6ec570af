-- The events of a part of a script.
use Rattle.std.proofs.Common.{◌+◌, ◌++◌, ◌<◌, [], ap, append-nil, append_assoc, get_or, length, List, map, refl}
use Rattle.std.proofs.Common.{replicate, sym, take, ℕ, ◌∙◌, ◌∷◌, ◌≡◌}
use Rattle.std.proofs.lemmas.List.{get_or-map, get_or-replicate, length-map, length-replicate, take_more}
use Rattle.events.specs.Scripts.{command_events, script_events}
use Rattle.events.specs.declared.script.lines.Command.{Command}
use Rattle.unixmodel.specs.declared.event.Event.{Event}
use Rattle.unixmodel.specs.declared.event.Event.TheVariants.{Key}

pub script_events-append : (xs ys : List Command) → script_events (xs ++ ys) ≡ script_events xs ++ script_events ys
script_events-append [] ys = refl
script_events-append (c ∷ xs) ys = ap (λ es. command_events c ++ es) (script_events-append xs ys)
    ∙ sym (append_assoc (command_events c) (script_events xs) (script_events ys))

-- the events of one command more
pub script-next : (script : List Command) (i : ℕ) (c : Command) → i < length script → c ≡ get_or script i c
    → script_events (take (i + 1) script) ≡ script_events (take i script) ++ command_events c
script-next script i c within is =
    ap script_events (take_more script i c within) ∙ script_events-append (take i script) (get_or script i c ∷ [])
    ∙ ap (λ es. script_events (take i script) ++ es)
    (append-nil (command_events (get_or script i c)) ∙ ap command_events (sym is))

-- one event more of those that repeat
pub repeat-next : (n i : ℕ) (e : Event) → i < n → take (i + 1) (replicate n e) ≡ take i (replicate n e) ++ e ∷ []
repeat-next n i e within =
    take_more (replicate n e) i e (rw (length-replicate n e) within)
    ∙ ap (λ x. take i (replicate n e) ++ x ∷ []) (get_or-replicate n i e e within)

-- one key more
pub press-next : (keys : List ℕ) (i : ℕ) → i < length keys
    → take (i + 1) (map Key keys) ≡ take i (map Key keys) ++ Key (get_or keys i 0) ∷ []
press-next keys i within =
    take_more (map Key keys) i (Key 0) (rw (length-map keys Key) within)
    ∙ ap (λ x. take i (map Key keys) ++ x ∷ []) (get_or-map Key keys i 0 (Key 0) within)
