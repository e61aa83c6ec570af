-- Pages that are known to have the words of their frames.
use Rattle.std.specs.Prelude.{ℕ, ◌%◌, ◌*◌, ◌+◌, ◌<◌, ◌≡◌, List, slice_index_or}
use Rattle.hart.specs.Acts.{IsLive}
use Rattle.hart.specs.Checked.{AreChecked}
use Rattle.hart.specs.declared.live.Set.{Set}
use Rattle.hart.specs.declared.page.Page.{Page}

-- where the page of a frame is that was used last
abbrev pub IsPage : List Set → ℕ → ℕ → Type 0
IsPage sets f at = (d : Set) → at ≡ 4 * (f % 32) + (slice_index_or sets (f % 32) d).last

-- the pages of these frames have their words in all parts that are marked
abbrev pub AreKnown : List ℕ → List Set → List Page → List (List ℕ) → Type 0
AreKnown frames sets pages ram = (f : ℕ) → f < 4294967295 → IsLive frames f → (at : ℕ) → IsPage sets f at
    → (d : Page) → AreChecked (slice_index_or pages at d).words ram f (slice_index_or pages at d).parts
