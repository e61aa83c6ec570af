-- Decoded words that are those of a frame.
use Rattle.std.specs.Prelude.{Bool, false, true, ℕ, ◌*◌, ◌+◌, ◌<◌, ◌≡◌, ◌≢◌, ◌≤◌, List, slice_index, slice_index_or}
use Rattle.ram.specs.Memory.{word_of}
use Rattle.hart.specs.Acts.{IsLive}

-- the words from one up to another are those of a frame
abbrev pub AreNow : List ℕ → List (List ℕ) → ℕ → ℕ → ℕ → Type 0
AreNow words ram f from to = (k : ℕ) → from ≤ k → k < to → slice_index words k ≡ word_of ram f (4 * k) 4

-- the words of the parts that are marked are those of a frame
abbrev pub AreChecked : List ℕ → List (List ℕ) → ℕ → List Bool → Type 0
AreChecked words ram f parts = (p : ℕ) → p < 16 → slice_index_or parts p false ≡ true
    → AreNow words ram f (64 * p) (64 * p + 64)

-- Frames other than one whose pages are known now: they were known before, and their words are as they were. 4294967295
-- is no frame.
abbrev pub StayLive : ℕ → List ℕ → List ℕ → List (List ℕ) → List (List ℕ) → Type 0
StayLive f frames frames' ram ram' = (g : ℕ) → g < 4294967295 → g ≢ f → IsLive frames' g
    → IsLive frames g × ((k : ℕ) → word_of ram' g (4 * k) 4 ≡ word_of ram g (4 * k) 4)
