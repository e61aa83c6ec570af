-- The files of an image, out of which one is taken or into which one is put.
use Rattle.std.proofs.Common.{◌≡◌, ◌≢◌, ◌∙◌, ◌+◌, ◌-◌, ◌≤◌, ◌++◌, ◌==◌, ℕ, All, Err, List, [], None, Ok, Option, Result}
use Rattle.std.proofs.Common.{Some, ap, append-nil, arith, drop, false, get_or, if◌then◌else◌, length, min, not, refl}
use Rattle.std.proofs.Common.{subst, suc, sym, take, true, zero}
use Rattle.std.specs.List.{list_all}
use Rattle.std.proofs.lemmas.Bool.{false≢true, leb-true}
use Rattle.std.proofs.lemmas.List.{drop_all, get_or-set_same, set-set, take_all}
use Rattle.std.proofs.lemmas.List.Sums.{AllPass-from_list_all}
use Rattle.std.proofs.lemmas.Option.{cond_some, none-some, same_Some}
use Rattle.std.specs.Prelude.{IfOk, nat_le}
use Rattle.blockdev.specs.Splice.{part}
use Rattle.mount.specs.Mounted.{AreLinked}
use Rattle.name_rules.proofs.Finding.{change-is, slot-within}
use Rattle.name_rules.proofs.Quiet.{truncates, writes-over}
use Rattle.name_rules.specs.Changes.{Changed}
use Rattle.image_files.specs.Listed.{IsAtRest}
use Rattle.image_files.specs.Opened.{HasPut}
use Rattle.tree.specs.Tree.{FileTree}
use Rattle.tree.specs.Written.{IsFile, Written, count_of, files_after, fitting, with_bytes, written}
use Rattle.unixmodel.specs.FileCalls.{with_file}
use Rattle.unixmodel.specs.Files.{Files, Node, change_node, kind_of, links_of, longest, put, slot}
use Rattle.unixmodel.specs.Files.Node.{Device, Directory, File}
use Rattle.unixmodel.specs.Memory.{overwrite}
use Rattle.unixmodel.specs.NameCalls.{emptied}

-- ---- files at rest

-- a call by which no node loses its last link leaves them so
linked-changed : {files more : Files} → Changed files more → AreLinked files → AreLinked more
linked-changed {files} {more} changed linked n node here = go (links_of node) refl where
  go : (count : ℕ) → links_of node ≡ count → 1 ≤ links_of node
  go zero none = let was = changed.idle n node here none in absurd (omega (arith, was.none, linked n was.was was.here))
  go (suc count) some = omega (arith, some)

pub rests-changed : {old new : FileTree} → IsAtRest old → Changed old.files new.files → new.failed ≡ false
    → IsAtRest new
rests-changed rest changed up = record { up = up; rules = changed.tree; linked = linked-changed changed rest.linked }

-- ---- what a path reaches

pub file-of : {files : Files} (n : ℕ) (node : Node) → slot files n ≡ Some node → kind_of node ≡ 2 → IsFile files n
file-of n (File links bytes) here kind = record { links = links; bytes = bytes; here = here }
file-of n (Directory links places) here kind = absurd (omega arith)
file-of n (Device links major minor) here kind = absurd (omega arith)

-- all bytes of a file are read
pub whole-read : (bytes old new : List ℕ) (count : ℕ) → length old ≡ length bytes
    → count ≡ min (length old) (length bytes - 0) → new ≡ part 0 count bytes ++ drop count old → new ≡ bytes
whole-read bytes old new count long counted is =
    let whole : count ≡ length bytes = omega arith in
    is ∙ ap (λ xs. take count bytes ++ xs) (drop_all count old (omega arith)) ∙ append-nil (take count bytes)
    ∙ take_all count bytes (omega arith)

-- ---- a path without zeros

not-zero : (b : ℕ) → not (b == 0) ≡ true → b ≢ 0
not-zero zero h z = absurd (false≢true h)
not-zero (suc b) h z = absurd (omega (arith, z))

pub plain : (path : List ℕ) → list_all (λ b. not (b == 0)) path ≡ true → All (λ b. b ≢ 0) path
plain path h = λ k d within. not-zero (get_or path k d) (AllPass-from_list_all (λ b. not (b == 0)) path h k d within)

-- ---- what is returned

pub told-more : {T E : Type 0} {P Q : T → Type 0} → ((x : T) → P x → Q x) → (r : Result T E) → IfOk r P → IfOk r Q
told-more more (Ok x) h = more x h
told-more more (Err e) h = tt

-- ---- other bytes

module _ {old : FileTree} (rest : IsAtRest old) (n : ℕ) (file : IsFile old.files n) {mid : FileTree}
    (empties : mid ≡ record old { files = change_node old.files n emptied; failures = mid.failures }) where
  files-mid : mid.files ≡ put old.files n (File file.links [])
  files-mid = ap (λ (t : FileTree). t.files) empties
      ∙ change-is old.files n emptied (File file.links file.bytes) file.here

  here-mid : slot mid.files n ≡ Some (File file.links [])
  here-mid = ap (λ (fs : Files). slot fs n) files-mid
      ∙ get_or-set_same old.files n (Some (File file.links [])) None
      (slot-within old.files n (File file.links file.bytes) file.here)

  pub file-mid : IsFile mid.files n
  file-mid = record { links = file.links; bytes = []; here = here-mid }

  pub rests-mid : IsAtRest mid
  rests-mid = rests-changed rest
      (subst (Changed old.files) (sym (ap (λ (t : FileTree). t.files) empties)) (truncates rest.rules n))
      (ap (λ (t : FileTree). t.failed) empties ∙ rest.up)

  module _ (bytes : List ℕ) where
    abbrev fit : ℕ
    fit = fitting mid.block_limit mid.files n 0 file.links [] bytes

    abbrev made : Written
    made = with_bytes mid.files n 0 file.links [] bytes fit

    written-is : written mid.block_limit mid.files n 0 bytes
        ≡ (if nat_le (0 + length bytes) longest then Some made else None)
    unfolding written
    written-is = rw here-mid refl

    -- the bytes over none
    over : (k : ℕ) → k ≡ length bytes → overwrite [] 0 (take k bytes) ≡ bytes
    over k whole =
        ap (λ xs. take k bytes ++ xs) (drop_all (0 + length (take k bytes)) [] (omega arith))
        ∙ append-nil (take k bytes) ∙ take_all k bytes (omega arith)

    put-is : (k : ℕ) → k ≡ length bytes
        → with_file mid.files n file.links (overwrite [] 0 (take k bytes)) ≡ with_file old.files n file.links bytes
    put-is k whole =
        ap (with_file mid.files n file.links) (over k whole) ∙ ap (λ fs. with_file fs n file.links bytes) files-mid
        ∙ set-set old.files n (Some (File file.links [])) (Some (File file.links bytes))

    module _ {new : FileTree}
        (writes : new ≡ record mid
        { files = files_after mid.files (written mid.block_limit mid.files n 0 bytes); failures = new.failures }) where
      puts-in : (o : Option Written) → written mid.block_limit mid.files n 0 bytes ≡ o → (count : ℕ)
          → Some count ≡ count_of o → count ≡ length bytes → HasPut old.files n bytes new.files × IsAtRest new
      puts-in None is count told whole = absurd (none-some count (sym told))
      puts-in (Some w) is count told whole =
          let parts = cond_some (nat_le (0 + length bytes) longest) made w (sym written-is ∙ is) in
          let room : 0 + length bytes ≤ longest = leb-true (0 + length bytes) longest parts.0 in
          let fits : fit ≡ length bytes = ap (λ (v : Written). v.count) parts.1 ∙ sym (same_Some count w.count told)
          ∙ whole in
          let after : new.files ≡ made.files = ap (λ (t : FileTree). t.files) writes ∙ ap (files_after mid.files) is
          ∙ ap (λ (v : Written). v.files) (sym parts.1) in (
            record { links = file.links; old = file.bytes; here = file.here; put = after ∙ put-is fit fits },
            rests-changed rests-mid (subst (Changed mid.files) (sym after)
                (writes-over rests-mid.rules n file.links [] bytes 0 fit here-mid (omega (arith, room))))
                (ap (λ (t : FileTree). t.failed) writes ∙ rests-mid.up),
          )

      pub puts : (o : Option ℕ) → o ≡ count_of (written mid.block_limit mid.files n 0 bytes) → (count : ℕ)
          → o ≡ Some count → count ≡ length bytes → HasPut old.files n bytes new.files × IsAtRest new
      puts o told count some whole =
          puts-in (written mid.block_limit mid.files n 0 bytes) refl count (sym some ∙ told) whole
