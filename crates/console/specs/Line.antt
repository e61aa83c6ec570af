-- How a console's bytes lie in its ring, and what a key does there.
use Rattle.std.specs.Prelude.{[], List, false, length, suc, take, zero, ℕ, ◌++◌, ◌+◌, ◌-◌, ◌∷◌, ◌≡◌}
use Rattle.unixmodel.specs.Console.{Console, Keyed, Taken, committed_at_end, no_key, is_full, rub_out, with_byte}
use Rattle.ring_laws.specs.Ring.{ring}
use Rattle.console.specs.declared.input.Change.{Change}
use Rattle.console.specs.declared.input.Change.TheVariants.{Add, Erase, Nothing}

-- the console whose bytes are in a ring of 128 slots: those that can be read, and then the edited line
abbrev pub line_of : (places : List ℕ) (from committed edited : ℕ) → Console
line_of places from committed edited =
    record { committed = ring 128 places from committed; edited = ring 128 places (from + committed) edited }

-- what takes n bytes off the screen
unfoldable pub rub_outs : ℕ → List ℕ
rub_outs zero = []
rub_outs (suc n) = rub_out ++ rub_outs n

-- the console without the last n bytes of its edited line
abbrev pub without_last : ℕ → Console → Console
without_last n c = record c { edited = take (length c.edited - n) c.edited }

-- what a change makes of a console, and what it prints
abbrev pub keyed_by : Console → Change → Keyed
keyed_by c Nothing = no_key c
keyed_by c (Erase n) = record { console = without_last n c; echo = rub_outs n }
keyed_by c (Add b) = record { console = committed_at_end b (with_byte c b); echo = b ∷ [] }

-- a byte is added only where it fits
abbrev pub HasRoom : Console → Change → Type 0
HasRoom c Nothing = Unit {0}
HasRoom c (Erase n) = Unit {0}
HasRoom c (Add b) = is_full c ≡ false

-- bytes that a read took before, and then this
abbrev pub behind : List ℕ → Taken → Taken
behind xs t = record t { bytes = xs ++ t.bytes }
