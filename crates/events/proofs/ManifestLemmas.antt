-- Lines of a manifest that can't be read.
use Rattle.std.proofs.Common.{◌≡◌, ◌++◌, ◌<◌, ◌∙◌, ℕ, List, None, Option, Some, [], ap, arith, codes, drop}
use Rattle.std.proofs.Common.{slice_index_or, subst, sym}
use Rattle.events.specs.Manifests.{IsDevice, IsFile, IsLine, IsMajor, split_field}
use Rattle.events.specs.declared.manifest.Line.{Line}
use Rattle.events.specs.declared.manifest.Line.TheVariants as line

-- the first words differ
apart : (k : ℕ) (xs ys : List ℕ) → xs ≡ ys → slice_index_or xs k 0 < slice_index_or ys k 0 → ⊥
apart k xs ys e h = let same = ap (λ l. slice_index_or l k 0) e in omega (arith, same)

pub no-file : (text rest : List ℕ) → text ≡ codes "file " ++ rest → ((path host : List ℕ) → ¬ (IsFile rest path host))
    → (l : Line) → ¬ (IsLine text l)
no-file text rest e none (line.Directory path) h =
    apart 0 (codes "dir " ++ h.0) (codes "file " ++ rest) (sym h.1 ∙ e) (omega arith)
no-file text rest e none (line.File path host) h =
    none path.now host.now (subst (λ r. IsFile r path.now host.now) (ap (drop 5) (sym h.1 ∙ e)) h.2)
no-file text rest e none (line.Device path major minor) h =
    apart 0 (codes "dev " ++ h.0) (codes "file " ++ rest) (sym h.1 ∙ e) (omega arith)

pub no-device : (text rest : List ℕ) → text ≡ codes "dev " ++ rest
    → ((path : List ℕ) (first second : ℕ) → ¬ (IsDevice rest path first second)) → (l : Line) → ¬ (IsLine text l)
no-device text rest e none (line.Directory path) h =
    apart 1 (codes "dev " ++ rest) (codes "dir " ++ h.0) (sym e ∙ h.1) (omega arith)
no-device text rest e none (line.File path host) h =
    apart 0 (codes "dev " ++ rest) (codes "file " ++ h.0) (sym e ∙ h.1) (omega arith)
no-device text rest e none (line.Device path major minor) h =
    none path.now major minor (subst (λ r. IsDevice r path.now major minor) (ap (drop 4) (sym h.1 ∙ e)) h.2)

-- ---- the fields of a device

abbrev front : Option (List ℕ × List ℕ) → List ℕ
front None = []
front (Some two) = two.0

abbrev behind : Option (List ℕ × List ℕ) → List ℕ
behind None = []
behind (Some two) = two.1

pub no-path : (rest : List ℕ) → split_field rest ≡ None → (path : List ℕ) (first second : ℕ)
    → ¬ (IsDevice rest path first second)
no-path rest none path first second h = let some = h.3 in cc

module _ (rest path numbers : List ℕ) (here : split_field rest ≡ Some (path, numbers)) where
  pub no-second : split_field numbers ≡ None → (p : List ℕ) (first second : ℕ) → ¬ (IsDevice rest p first second)
  no-second none p first second h =
      let same : h.0 ≡ numbers = ap behind (sym h.3 ∙ here) in
      let some = h.4 in
      cc (ap split_field same)

  pub device-majors : (one other : List ℕ) → split_field numbers ≡ Some (one, other) → (p : List ℕ) (first second : ℕ)
      → IsDevice rest p first second → IsMajor one first × IsMajor other second
  device-majors one other there p first second h =
      let fields : split_field numbers ≡ Some (h.1, h.2) =
      subst (λ x. split_field x ≡ Some (h.1, h.2)) (ap behind (sym h.3 ∙ here)) h.4 in (
        subst (λ x. IsMajor x first) (ap front (sym fields ∙ there)) h.5,
        subst (λ x. IsMajor x second) (ap behind (sym fields ∙ there)) h.6,
      )
