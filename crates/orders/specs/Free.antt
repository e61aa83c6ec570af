-- Lists of events that the world may send: timer interrupts at any time, and typed bytes where nobody is ready.
use Rattle.std.specs.Prelude.{Bool, List, [], drop, is_none, true, ℕ, ⊤, ◌&&◌, ◌∷◌, ◌≡◌}
use Rattle.unixmodel.specs.declared.event.Event.{Event}
use Rattle.unixmodel.specs.declared.event.Event.TheVariants.{Key, Step, Tick}
use Rattle.unixmodel.specs.Next.{next}
use Rattle.unixmodel.specs.Run.{UnlessHalted}
use Rattle.unixmodel.specs.State.{State, running}
use Rattle.unixmodel.specs.Turn.{turn}

-- no process runs, and none is ready: a step changes nothing
abbrev pub is_idle : State → Bool
is_idle s = is_none (running s) && is_none (turn s)

-- a byte is the next one that will be typed
abbrev pub IsNext : List ℕ → ℕ → Type 0
IsNext [] b = ⊥
IsNext (k ∷ keys) b = b ≡ k

-- where these bytes will be typed: a step or a timer interrupt may come at any time, a typed byte where nobody is ready
abbrev pub MayCome : List ℕ → State → Event → Type 0
MayCome keys s Step = ⊤
MayCome keys s Tick = ⊤
MayCome keys s (Key b) = IsNext keys b × (is_idle s ≡ true)

-- what will be typed after an event
abbrev pub keys_after : List ℕ → Event → List ℕ
keys_after keys Step = keys
keys_after keys Tick = keys
keys_after keys (Key b) = drop 1 keys

-- each event of a run, which ends where it halts, may come
unfoldable pub IsFree : List ℕ → State → List Event → Type 0
IsFree keys s [] = ⊤
IsFree keys s (e ∷ es) =
    MayCome keys s e × UnlessHalted (next s e).state (λ t. IsFree (keys_after keys e) t es) (next s e).state.halted

-- what is left to type after a list of events
abbrev pub keys_left : List ℕ → List Event → List ℕ
keys_left keys [] = keys
keys_left keys (e ∷ es) = keys_left (keys_after keys e) es
