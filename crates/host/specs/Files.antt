-- What the names of a host hold.
use Rattle.std.specs.Prelude.{IfSome, List, Option, Some, if◌then◌else◌, length, option_map, take, ℕ, ◌++◌, ◌≡◌, ◌≤◌}
use Rattle.std.specs.Str.{bytes_eq}
use Rattle.host.specs.declared.host.Front.{Front}

-- the bytes under each name, if there is a file
abbrev pub HostFiles : Type 0
HostFiles = List ℕ → Option (List ℕ)

-- one name holds these bytes, all others what they held
abbrev pub with_file : HostFiles → List ℕ → List ℕ → HostFiles
with_file files name bytes = λ n. if bytes_eq n name then Some bytes else files n

-- so they are written, where it is known what the names hold
abbrev pub Writes : List ℕ → List ℕ → Option HostFiles → Option HostFiles → Type 0
Writes name bytes old new = new ≡ option_map (λ files. with_file files name bytes) old

-- the file of this name has these bytes, where it is known what the names hold
abbrev pub Holds : List ℕ → List ℕ → Option HostFiles → Type 0
Holds name bytes held = IfSome held (λ files. files name ≡ Some bytes)

-- the front of a file is that of these bytes
pub record IsFront (most : ℕ) (front : Front) (bytes : List ℕ) : Type 0 where
  pub first : front.bytes.items ≡ take most bytes
  pub length : IfSome front.length (λ n. n ≡ length bytes)

-- it is the front of the file of this name, where it is known what the names hold
abbrev pub HoldsFront : List ℕ → ℕ → Front → Option HostFiles → Type 0
HoldsFront name most front held =
    IfSome held (λ files. (bytes : List ℕ) × (files name ≡ Some bytes) × IsFront most front bytes)

-- the file that a name has gets these bytes at its end, all others what they held
abbrev pub with_end : HostFiles → List ℕ → List ℕ → HostFiles
with_end files name bytes = λ n. if bytes_eq n name then option_map (λ old. old ++ bytes) (files n) else files n

-- so they are appended, where it is known what the names hold
abbrev pub Appends : List ℕ → List ℕ → Option HostFiles → Option HostFiles → Type 0
Appends name bytes old new = new ≡ option_map (λ files. with_end files name bytes) old

-- these are all bytes of a file that begins with the mark; of another one they are a front, at least as long
pub record IsMarked (mark bytes file : List ℕ) : Type 0 where
  pub whole : (rest : List ℕ) → file ≡ mark ++ rest → bytes ≡ file
  pub count : ℕ
  pub long : length mark ≤ count
  pub front : bytes ≡ take count file

-- so they are read of the file of this name, where it is known what the names hold
abbrev pub HoldsMarked : List ℕ → List ℕ → List ℕ → Option HostFiles → Type 0
HoldsMarked name mark bytes held =
    IfSome held (λ files. (file : List ℕ) × (files name ≡ Some file) × IsMarked mark bytes file)
