-- The words of a play's line.
use Rattle.std.specs.Prelude.{Bool, List, [], codes, ⊤, ℕ, ◌++◌, ◌==◌, ◌∷◌, ◌≡◌, ◌≢◌, ◌||◌, ◌⊎◌, false, true}
use Rattle.std.specs.List.{All}
use Rattle.events.specs.Fields.{hex_pair}
use Rattle.std.specs.Prelude.{Some}

-- a blank or a tab
abbrev pub is_blank : ℕ → Bool
is_blank byte = (byte == 0x20) || (byte == 9)

abbrev pub AreBlanks : List ℕ → Type 0
AreBlanks bytes = All (λ byte. is_blank byte ≡ true) bytes

abbrev pub EndsWord : List ℕ → Type 0
EndsWord [] = ⊤
EndsWord (next ∷ rest) = is_blank next ≡ true

-- what can be a word where that follows it: one that begins with a quote has an end of its own
abbrev pub IsWord : List ℕ → List ℕ → Type 0
IsWord [] rest = ⊥
IsWord (first ∷ more) rest = (first ≡ 0x22)
    ⊎ ((first ≢ 0x23) × All (λ byte. is_blank byte ≡ false) (first ∷ more) × EndsWord rest)

-- the line begins with the word
pub record HasWord (line word rest : List ℕ) : Type 0 where
  pub blanks : List ℕ
  pub parts : line ≡ blanks ++ (word ++ rest)
  pub blank : AreBlanks blanks
  pub fits : IsWord word rest

-- nothing, or a comment
abbrev pub IsSilent : List ℕ → Type 0
IsSilent [] = ⊤
IsSilent (first ∷ rest) = first ≡ 0x23

-- no blank comes first
abbrev pub IsInked : List ℕ → Type 0
IsInked [] = ⊤
IsInked (first ∷ rest) = is_blank first ≡ false

-- the line without the blanks before its first word
pub record IsUnblanked (line rest : List ℕ) : Type 0 where
  pub blanks : List ℕ
  pub parts : line ≡ blanks ++ rest
  pub blank : AreBlanks blanks
  pub inked : IsInked rest

-- the line has no word
pub record HasNone (line : List ℕ) : Type 0 where
  pub blanks : List ℕ
  pub rest : List ℕ
  pub parts : line ≡ blanks ++ rest
  pub blank : AreBlanks blanks
  pub silent : IsSilent rest

-- the line begins with these words
abbrev pub HasFirst : List ℕ → List (List ℕ) → List ℕ → Type 0
HasFirst line [] rest = rest ≡ line
HasFirst line (word ∷ words) rest = (next : List ℕ) × HasWord line word next × HasFirst next words rest

-- it has no others
abbrev pub HasWords : List ℕ → List (List ℕ) → Type 0
HasWords line words = (rest : List ℕ) × HasFirst line words rest × HasNone rest

-- ---- quoted texts

-- what follows the backslash of an escape
abbrev pub IsShort : ℕ → ℕ → Type 0
IsShort code byte = ((code ≡ 0x6e) × (byte ≡ 10))
    ⊎ (((code ≡ 0x74) × (byte ≡ 9)) ⊎ (((code ≡ 0x22) ⊎ (code ≡ 0x5c)) × (byte ≡ code)))

abbrev pub IsEscape : List ℕ → ℕ → Type 0
IsEscape (code ∷ []) byte = IsShort code byte
IsEscape (code ∷ high ∷ low ∷ []) byte = (code ≡ 0x78) × (hex_pair high low ≡ Some byte)
IsEscape _ byte = ⊥

-- so a byte is written in a quoted text
abbrev pub IsSpelled : List ℕ → ℕ → Type 0
IsSpelled text byte = ((text ≡ byte ∷ []) × (byte ≢ 0x22) × (byte ≢ 0x5c))
    ⊎ ((code : List ℕ) × (text ≡ 0x5c ∷ code) × IsEscape code byte)

abbrev pub AreSpelled : List ℕ → List ℕ → Type 0
AreSpelled text [] = text ≡ []
AreSpelled text (byte ∷ bytes) =
    (first : List ℕ) × (rest : List ℕ) × (text ≡ first ++ rest) × IsSpelled first byte × AreSpelled rest bytes

-- the word is the text of these bytes, between quotes
abbrev pub IsQuoted : List ℕ → List ℕ → Type 0
IsQuoted word bytes = (text : List ℕ) × (word ≡ codes "\"" ++ text ++ codes "\"") × AreSpelled text bytes
