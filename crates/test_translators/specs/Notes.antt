-- What a translator that notes translations holds.
use Rattle.std.specs.Prelude.{List}
use Rattle.std.specs.List.{Contains}
use Rattle.unixmodel.specs.Translation.{Held, Translation}
use Rattle.test_translators.specs.declared.noting.Note.{Note}

abbrev pub note_of : Translation → Note
note_of t = record { root = record { 0 = t.root }; page = t.page; access = t.access; frame = record { 0 = t.frame } }

abbrev pub IsNoted : List Note → Held
IsNoted notes t = Contains notes (note_of t)
