-- The entries of a manifest come to an image, line by line.
use Rattle.std.specs.Prelude.{Err, IfOk, IsOkAnd, Ok, Result}
use Rattle.std.proofs.Common.{[], ap, arith, get_or, inl, inr, length, List, Option, subst, sym, ℕ, ◌+◌, ◌++◌, ◌∙◌}
use Rattle.std.proofs.Common.{◌<◌, ◌∷◌, ◌≡◌}
use Rattle.std.proofs.Math.Seq.{get_or-append_seam}
use Rattle.std.proofs.lemmas.Bool.{cases_lt}
use Rattle.std.proofs.lemmas.List.{get_or_append_left, get_or_default, length_push}
use Rattle.host.specs.Files.{HostFiles}
use Rattle.events.specs.declared.manifest.Line.{Line}
use Rattle.image_commands.specs.Entries.{IsEntryOf, IsThingOf, most_of, path_of}
use Rattle.imagemake.specs.Makers.{Adds, HasEntries}
use Rattle.imagemake.specs.declared.maker.Maker.{Maker}
use Rattle.imagemake.specs.declared.manifest.MakeFault.{MakeFault}
use Rattle.unixmodel.specs.Manifest.{ManifestEntry}

-- an image in the making has the entries of the lines before this index
pub record HasLines (size inodes : ℕ) (held : Option HostFiles) (lines : List Line) (index : ℕ) (maker : Maker)
    : Type 0 where
  pub entries : List ManifestEntry
  pub each : (i : ℕ) (line : Line) (entry : ManifestEntry) → i < length entries
      → IsEntryOf (most_of size) held (get_or lines i line) (get_or entries i entry)
  pub count : length entries ≡ index
  pub has : HasEntries size inodes entries maker

-- it has those of a line more
module _ (size inodes : ℕ) (held : Option HostFiles) (lines : List Line) (index : ℕ) (line : Line) (e : ManifestEntry)
    (low : index < length lines) (is : IsEntryOf (most_of size) held (get_or lines index line) e) where
  line-more : {old new : Maker} → HasLines size inodes held lines index old → Adds old e new
      → HasLines size inodes held lines (index + 1) new
  line-more has adds = record {
    entries = has.entries ++ e ∷ [];
    each = λ i other entry within. elim (cases_lt i (length has.entries)) [
      | inl before ↦ subst (λ x. IsEntryOf (most_of size) held (get_or lines i other) x)
          (sym (get_or_append_left has.entries (e ∷ []) entry i before)) (has.each i other entry before)
      | inr past ↦
          let last : i ≡ length has.entries = omega (arith, past, within, length_push has.entries e) in
          subst (λ x. IsEntryOf (most_of size) held (get_or lines i other) x)
          (sym (ap (λ k. get_or (has.entries ++ e ∷ []) k entry) last ∙ get_or-append_seam has.entries e [] entry))
          (subst (λ l. IsEntryOf (most_of size) held l e)
          (get_or_default lines index line other low ∙ ap (λ k. get_or lines k other) (sym (last ∙ has.count))) is)
    ];
    count = length_push has.entries e ∙ ap (λ n. n + 1) has.count;
    has = adds _ _ has.entries has.has;
  }

  pub lines-more : (old new : Result Maker MakeFault) → IfOk old (HasLines size inodes held lines index)
      → IfOk new (λ m. IsOkAnd old (λ o. Adds o e m)) → IfOk new (HasLines size inodes held lines (index + 1))
  lines-more (Ok old) (Ok new) has adds = line-more has adds
  lines-more (Err fault) (Ok new) has adds = absurd adds
  lines-more old (Err fault) has adds = tt

-- what is put at a line's path is its entry
pub entry-of : (size : ℕ) {most : ℕ} {files held : Option HostFiles} → most ≡ most_of size → files ≡ held
    → (line : Line) (e : ManifestEntry) → e.path ≡ path_of line → IsThingOf most files line e.thing
    → IsEntryOf (most_of size) held line e
entry-of size {files = files} read same line e at thing =
    let first = subst (λ n. IsThingOf n files line e.thing) read thing in
    (at, subst (λ h. IsThingOf (most_of size) h line e.thing) same first)
