-- Which types of records are read as which kinds.
use Rattle.layout.proofs.Common.{◌≡◌, ℕ, ◌≤◌, ◌↔◌, ◌∙◌, ap, sym, refl, suc, zero, arith, ne_eqb}
use Rattle.layout.specs.Kinds.{kind_major, kind_minor, kind_number, kind_read, node_kind}
use Rattle.layout.specs.declared.Kind.TheVariants.{Device, Directory, Free}
use Rattle.unixmodel.specs.Files.{Node, kind_of}

read-other : (number major minor : ℕ) → 3 ≤ number → kind_read number major minor ≡ Device major minor
read-other number major minor h =
    rw (
      ne_eqb number 0 (λ e. absurd (omega arith)),
      ne_eqb number 1 (λ e. absurd (omega arith)),
      ne_eqb number 2 (λ e. absurd (omega arith)),
    ) refl

pub read-free : (number major minor : ℕ) → (kind_read number major minor ≡ Free) ↔ (number ≡ 0)
read-free zero major minor = (λ _. refl, λ _. refl)
read-free (suc zero) major minor = (λ e. cc, λ e. absurd (omega arith))
read-free (suc (suc zero)) major minor = (λ e. cc, λ e. absurd (omega arith))
read-free (suc (suc (suc n))) major minor =
    (λ e. let other = read-other (suc (suc (suc n))) major minor (omega arith) in cc, λ e. absurd (omega arith))

pub read-directory : (number major minor : ℕ) → (kind_read number major minor ≡ Directory) ↔ (number ≡ 1)
read-directory zero major minor = (λ e. cc, λ e. absurd (omega arith))
read-directory (suc zero) major minor = (λ _. refl, λ _. refl)
read-directory (suc (suc zero)) major minor = (λ e. cc, λ e. absurd (omega arith))
read-directory (suc (suc (suc n))) major minor =
    (λ e. let other = read-other (suc (suc (suc n))) major minor (omega arith) in cc, λ e. absurd (omega arith))

pub number-read : (number major minor : ℕ) → number ≤ 3 → kind_number (kind_read number major minor) ≡ number
number-read zero major minor known = refl
number-read (suc zero) major minor known = refl
number-read (suc (suc zero)) major minor known = refl
number-read (suc (suc (suc n))) major minor known =
    rw (read-other (suc (suc (suc n))) major minor (omega arith)) (omega arith)

-- that of a device has its numbers
pub read-device : (number major minor : ℕ) {a b : ℕ} → kind_read number major minor ≡ Device a b
    → (major ≡ a) × (minor ≡ b)
read-device zero major minor e = absurd (cc)
read-device (suc zero) major minor e = absurd (cc)
read-device (suc (suc zero)) major minor e = absurd (cc)
read-device (suc (suc (suc n))) major minor e = let same =
    sym (read-other (suc (suc (suc n))) major minor (omega arith)) ∙ e in (ap kind_major same, ap kind_minor same)

-- the type that a node's record has
pub number-node : (node : Node) → kind_number (node_kind node) ≡ kind_of node
number-node (Node.File links bytes) = refl
number-node (Node.Device links major minor) = refl
number-node (Node.Directory links places) = refl
