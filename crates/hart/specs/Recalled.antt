-- What decoded words know of a memory.
use Rattle.std.specs.Prelude.{ℕ, ◌≡◌, List, true}
use Rattle.hart.specs.declared.decoded.Decoded.{Decoded}
use Rattle.hart.specs.Known.{AreKnown}

-- what is known of pages, unless it was forgotten, holds of a memory
abbrev pub Knows : Decoded → List (List ℕ) → Type 0
Knows decoded ram = decoded.is_current ≡ true
    → AreKnown decoded.live.frames decoded.pages.sets decoded.pages.all.items ram
