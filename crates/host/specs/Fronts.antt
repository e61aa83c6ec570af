-- The front of a file, of which no more is read than shows that it is too long.
use Rattle.std.specs.Prelude.{IfSome, Some, length, ℕ, ◌%◌, ◌≡◌, ◌≢◌}
use Rattle.host.specs.declared.host.Front.{Front}

-- all of the file was read
abbrev pub IsWhole : Front → Type 0
IsWhole front = front.length ≡ Some (length front.bytes.items)

-- the file has no whole number of blocks
abbrev pub IsOdd : Front → Type 0
IsOdd front = (n : ℕ) × (front.length ≡ Some n) × (n % 1024 ≢ 0)
