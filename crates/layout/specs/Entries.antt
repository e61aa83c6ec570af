-- A directory's entry and its 16 bytes.
use Rattle.std.specs.Prelude.{◌≡◌, ℕ, ◌<◌, ◌^◌, ◌++◌, List, drop, length, take}
use Rattle.byteorder.specs.Endian.{little_number, little_bytes}
use Rattle.layout.specs.declared.Entry.{Entry}

-- the entry that the bytes spell
abbrev pub entry_of : List ℕ → Entry
entry_of bytes = record { number = little_number 2 bytes; name = take 14 (drop 2 bytes) }

-- the bytes of an entry
abbrev pub entry_bytes : Entry → List ℕ
entry_bytes entry = little_bytes 2 entry.number ++ entry.name

-- an entry that its bytes can hold
pub record EntryFits (entry : Entry) : Type 0 where
  pub number : entry.number < 2 ^ 16
  pub name : length entry.name ≡ 14
