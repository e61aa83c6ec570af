-- What a program's memory shows from an address on.
use Rattle.std.specs.Prelude.{◌≡◌, ℕ, ◌%◌, List, [], drop, length, Option, Some, None, option_map, slice_get, take}
use Rattle.std.specs.Prelude.{if◌then◌else◌, nat_le}
use Rattle.std.specs.List.{prefix_len}
use Rattle.unixmodel.specs.declared.trap.Access.{Access}
use Rattle.unixmodel.specs.Memory.{Page, Memory, permits, page_for, overwrite}

-- every page has 4096 bytes
abbrev pub IsSized : List Page → Type 0
IsSized mem = (i : ℕ) (p : Page) → slice_get mem i ≡ Some p → length p.bytes ≡ 4096

-- how many pages from one on allow an access, up to the first that doesn't
unfoldable pub run_of : Access → Memory → ℕ → ℕ
run_of access mem first = prefix_len (λ p. permits access p.marks) (drop first mem)

abbrev pub rest_of : ℕ → Option Page → List ℕ
rest_of at None = []
rest_of at (Some p) = drop at p.bytes

-- the bytes from an address to the end of its page, where the access is allowed
abbrev pub piece_at : Access → Memory → ℕ → List ℕ
piece_at access mem address = rest_of (address % 4096) (page_for access mem address)

-- a page, overwritten by these bytes from offset `at` on
abbrev pub written : Page → ℕ → List ℕ → Page
written p at new = record p { bytes = overwrite p.bytes at new }

-- the string in a buffer, where there is a length
abbrev pub string_in : List ℕ → Option ℕ → Option (List ℕ)
string_in buffer told = option_map (λ n. take n buffer) told

-- a string, where it has at most `most` bytes
abbrev pub short_string : ℕ → Option (List ℕ) → Option (List ℕ)
short_string most None = None
short_string most (Some s) = if nat_le (length s) most then Some s else None
