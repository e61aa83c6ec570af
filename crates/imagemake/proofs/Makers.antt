-- An image that is made entry by entry.
use Rattle.imagemake.proofs.Common.{◌≡◌, ℕ, ◌+◌, ◌++◌, ◌≤◌, ◌*◌, [], ◌∷◌, List, Result, Err, length}
use Rattle.imagemake.proofs.Common.{ap, sym, ◌∙◌, arith}
use Rattle.imagemake.proofs.Common.{subst, true, append-nil, IfErr, IsErrAnd, FileTree, IsNow, now-files, now-limit}
use Rattle.imagemake.proofs.Common.{now-up, Files, ManifestEntry, Wrong, bare_files, files_made, has_numbers}
use Rattle.imagemake.proofs.Common.{with_entries, with_manifest_entry, AddsEntry, IsPossible, MakesImage, MakeFault}
use Rattle.imagemake.proofs.Common.{NoMemory, Names, Refuses, image_of}
use Rattle.imagemake.proofs.Imaging.{Denotes-stored, IsBareTree, length-stored, made-is}
use Rattle.imagemake.proofs.MadeSearch.{Refuses-step, going-root}
use Rattle.imagemake.proofs.Putting.{length-bare, told_err}
use Rattle.imagemake.specs.Made.{HasRoom}
use Rattle.imagemake.specs.Makers.{HasEntries, RefusesNumbers}
use Rattle.imagemake.specs.declared.maker.Maker.{Maker}
use Rattle.std.proofs.lemmas.List.{append_assoc}
use Rattle.tree.specs.Stored.{IsStored}
use Rattle.unixmodel.specs.Image.{Denotes}
use Rattle.unixmodel.specs.Manifest.{and_then}

-- a lack of memory says nothing of the entries
pub none-begun : {T : Type 0} {fault : MakeFault} (size inodes : ℕ) (r : Result T MakeFault)
    → IsErrAnd r (λ f. f ≡ fault) → fault ≡ NoMemory → IfErr r (RefusesNumbers size inodes)
none-begun size inodes r told memory = rw (told_err r told ∙ ap Err memory) (λ entries. tt)

-- the root alone
pub begun-with : {size inodes : ℕ} → has_numbers size inodes ≡ true
    → IsPossible (record { size = size; inodes = inodes }) → {t now : FileTree}
    → IsBareTree (record { size = size; inodes = inodes }) t → IsNow t now (bare_files (length t.files))
    → (made : Names) → made.items ≡ [] → inodes ≤ made.spare
    → HasEntries size inodes [] (record { tree = now; made = made })
begun-with {size} {inodes} h possible {t} {now} bare is made empty room =
    let long : length now.files ≡ length t.files =
    ap length (now-files is) ∙ length-bare _ (omega (arith, bare.long, possible.inodes_low)) in
    let root : now.files ≡ bare_files (length now.files) = now-files is ∙ ap bare_files (sym long) in
    let going = going-root made.items [] (now-up is bare.up) root (omega (arith, long, bare.long, possible.inodes_low))
    (omega (arith, now-limit is, bare.limit, possible.room)) empty in
    record {
      made_so_far = going.made_so_far;
      room = omega (arith, room, long, bare.long);
      blocks = ap (λ (t : FileTree). t.size) is.is ∙ bare.size;
      still = λ more. made-is more size inodes h bare
          ∙ (λ j. with_entries (sym (now-limit is) j) (sym long j) (bare_files (sym long j)) 2 more)
          ∙ ap (λ (fs : Files). with_entries now.block_limit (length now.files) fs 2 more) (sym root)
          ∙ ap (λ n. with_entries now.block_limit (length now.files) now.files (n + 2) more) (sym (ap length empty));
    }

module _ {size inodes : ℕ} {entries : List ManifestEntry} {m : Maker} (has : HasEntries size inodes entries m) where
  -- an entry more
  module _ (e : ManifestEntry) where
    abbrev one : Result Files Wrong
    one = with_manifest_entry m.tree.block_limit (length m.tree.files) m.tree.files (length m.made.items + 2) e

    abbrev others : List ManifestEntry → Files → Result Files Wrong
    others more now = with_entries m.tree.block_limit (length m.tree.files) now (length m.made.items + 2 + 1) more

    next-is : (more : List ManifestEntry) → files_made (entries ++ e ∷ more) size inodes ≡ and_then one (others more)
    unfolding with_entries
    next-is more = has.still (e ∷ more)

    pub adds-next : {next : Maker} → AddsEntry m.tree next.tree m.made.items next.made.items e
        → HasRoom (length next.tree.files) next.made → HasEntries size inodes (entries ++ e ∷ []) next
    adds-next {next} adds room =
        let n : length m.made.items + 2 + 1 ≡ length next.made.items + 2 = omega (arith, adds.longer) in
        let limit : m.tree.block_limit ≡ next.tree.block_limit = sym (ap (λ (t : FileTree). t.block_limit) adds.rest) in
        record {
          made_so_far = adds.made_more;
          room = room;
          blocks = ap (λ (t : FileTree). t.size) adds.rest ∙ has.blocks;
          still = λ more. ap (λ es. files_made es size inodes) (append_assoc entries (e ∷ []) more) ∙ next-is more
              ∙ ap (λ r. and_then r (others more)) adds.is
              ∙ (λ j. with_entries (limit j) (sym adds.long j) next.tree.files (n j) more);
        }

    pub refused-next : (fault : MakeFault) (more : List ManifestEntry) → Refuses one fault
        → Refuses (files_made (entries ++ e ∷ more) size inodes) fault
    refused-next fault more h =
        subst (λ r. Refuses r fault) (sym (next-is more)) (Refuses-step one (others more) fault h)

  -- its bytes
  pub image-made : {blocks : List (List ℕ)} {image : List ℕ} → IsStored m.tree.size blocks m.tree.files
      → image ≡ image_of blocks → MakesImage entries size inodes image
  unfolding with_entries
  image-made {blocks} stored bytes = record {
    files = m.tree.files;
    made = ap (λ es. files_made es size inodes) (sym (append-nil entries)) ∙ has.still [];
    denotes = subst (λ b. Denotes b m.tree.files) (sym bytes) (Denotes-stored stored has.made_so_far.begun.rules);
    whole = ap length bytes ∙ length-stored stored ∙ ap (λ k. 1024 * k) has.blocks;
  }
