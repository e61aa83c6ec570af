-- The nodes of an old image are copied one after the other.
use Rattle.migrate.proofs.Common.{◌≡◌, ◌≢◌, ℕ, ◌+◌, ◌<◌, ◌≤◌, None, Some, length, ap, refl, sym, ◌∙◌, arith, inl, inr}
use Rattle.migrate.proofs.Common.{sum_by, cases_lt, ext_get_or, get_or-set_other, get_or-set_same, length-set}
use Rattle.migrate.proofs.Common.{blocks_of, Files, Node, put, slot, sum-taken, taken_by, at_or, ◌==◌, List, Option}
use Rattle.migrate.proofs.Common.{subst, cond, free_slots, longest, large, most_bytes, small, DenotesSmall, FitsSize}
use Rattle.migrate.proofs.Common.{KeepsNode, KeepsRules, KeepsRulesTo, Stands, format_of, kind_in, Geometry}
use Rattle.migrate.proofs.Common.{HasGeometry, files_in, node_in, BlockRules, BlockRules-of, HasKinds-denotes}
use Rattle.migrate.proofs.Common.{HasSizes-denotes, Store, FitsPlaces, inodes-least, inodes-most, node_fits, Directory}
use Rattle.migrate.proofs.Common.{CanStand, Copies, Lacks, MigrateFault, Image, NoMemory, IsLaidOut, IsWhole, Format}
use Rattle.migrate.proofs.Common.{Denotes, inodes_in, size_in, Denotes-files, false≢true, Err, IsOk, Ok, OnOk, Result}
use Rattle.migrate.proofs.Common.{files-are, held-again, IsStored, files_of, length-nodes_of, stored-after, IsBroken}
use Rattle.migrate.proofs.Common.{image_fault}
use Rattle.std.specs.List.{range_with_len}
use Rattle.std.proofs.lemmas.List.Sums.{sum_by-le-sum_by}
use Rattle.imagecheck.proofs.Collecting.{sum_by-places}
use Rattle.imagerules.proofs.Nodes.{file_in-free, file_in-used, slot-files_in, PlacesFit}
use Rattle.imagemake.proofs.Putting.{length-free, slot-free}
use Rattle.migrate.specs.declared.fault.MigrateFault.TheVariants.{Blocks}
use Rattle.imagerules.specs.Content.{image_of}
use Rattle.imagemake.specs.Added.{IsBlank, IsPossible}
use Rattle.imagemake.proofs.Imaging.{Denotes-stored, legible, blank-stores}
use Rattle.blockdev.specs.declared.DeviceFault.{DeviceFault}
use Rattle.imagecheck.specs.Faults.{Denies, Tells}
use Rattle.imagecheck.specs.declared.ImageFault.{ImageFault}
use Rattle.imagecheck.specs.declared.ImageFault.TheVariants as checked

-- ---- the first of some files, by their numbers

-- now has the nodes below n of the files, and no others
pub record IsPart (n : ℕ) (now files : Files) : Type 0 where
  pub count : length now ≡ length files
  pub before : (k : ℕ) → k < n → slot now k ≡ slot files k
  pub after : (k : ℕ) → n ≤ k → slot now k ≡ None

-- one more
IsPart-next : {n : ℕ} {now files : Files} → IsPart n now files → (new : Files) → length new ≡ length now
    → ((k : ℕ) → k ≢ n → slot new k ≡ slot now k) → slot new n ≡ slot files n → IsPart (n + 1) new files
IsPart-next {n} {now} {files} part new long same here = record {
  count = long ∙ part.count;
  before = λ k l. at_or (λ j. slot new j ≡ slot files j) n k here (λ away. same k away ∙ part.before k (omega arith));
  after = λ k l. same k (λ e. absurd (omega arith)) ∙ part.after k (omega arith);
}

pub IsPart-free : {n : ℕ} {now files : Files} → IsPart n now files → slot files n ≡ None → IsPart (n + 1) now files
IsPart-free {n} {now} part none = IsPart-next part now refl (λ k away. refl) (part.after n (omega arith) ∙ sym none)

pub IsPart-put : {n : ℕ} {now files : Files} {node : Node} → IsPart n now files → n < length files
    → slot files n ≡ Some node → IsPart (n + 1) (put now n node) files
IsPart-put {n} {now} {files} {node} part high here =
    IsPart-next part (put now n node) (length-set now n _) (λ k away. get_or-set_other now n k _ None away)
    (get_or-set_same now n _ None (let c = part.count in omega arith) ∙ sym here)

-- all of them
pub IsPart-all : {now files : Files} → IsPart (length files) now files → now ≡ files
IsPart-all {now} {files} part =
    ext_get_or None now files part.count (λ k l. part.before k (let c = part.count in omega arith))

-- they take no more blocks
pub IsPart-blocks : {n : ℕ} {now files : Files} → IsPart n now files → blocks_of now ≤ blocks_of files
unfolding blocks_of
IsPart-blocks {n} {now} {files} part =
    let by_number = λ (fs : Files) (k : ℕ). taken_by (slot fs k) in
    let below = sum_by-le-sum_by (by_number now) (by_number files) (range_with_len 0 (length now))
    (λ k. elim (cases_lt k n) [
      | inl low ↦ omega (arith, ap taken_by (part.before k low))
      | inr past ↦ omega (arith, ap taken_by (part.after k past))
    ]) in
    omega (
      arith,
      sum-taken now,
      sum-taken files,
      sum_by-places taken_by None now,
      sum_by-places taken_by None files,
      ap (λ m. sum_by (by_number files) (range_with_len 0 m)) part.count,
    )

-- the disk stores the nodes below n
pub record HasCopied {D : Type 0} (g : Geometry) (s : Store D) (n : ℕ) (files : Files) : Type 0 where
  pub now : Files
  pub copies : Copies g s now
  pub part : IsPart n now files

-- what some of the files lack, all of them lack
pub Lacks-part : (g : Geometry) {n : ℕ} {now files : Files} → IsPart n now files → (fault : MigrateFault)
    → Lacks g now fault → Lacks g files fault
Lacks-part g part (Image fault) h = absurd h
Lacks-part g part Blocks h = let most = IsPart-blocks part in omega arith
Lacks-part g part NoMemory h = tt

pub copied-all : {D : Type 0} {g : Geometry} {s : Store D} {n : ℕ} {files : Files} → HasCopied g s n files
    → n ≡ length files → Copies g s files
copied-all {g = g} {s} {n} {files} copied e =
    subst (Copies g s) (IsPart-all (subst (λ k. IsPart k copied.now files) e copied.part)) copied.copies

-- a file of the format of small files is none too long
fits-more : (o : Option Node) → FitsSize (most_bytes small) o → FitsSize longest o
fits-more None h = tt
fits-more (Some node) h = omega arith

places-fit : (node : Node) → PlacesFit node → FitsPlaces (Some node)
places-fit (Directory links places) h = h
places-fit node h = tt

module _ (old : List ℕ) (d : DenotesSmall old (files_in old)) where
  abbrev all : Files
  all = files_in old

  pub blocks-sound : BlockRules old
  blocks-sound = BlockRules-of (record {
    inodes = record { super = d.super; kinds = HasKinds-denotes old all d; sizes = HasSizes-denotes old all d };
    addresses = record { blocks = d.blocks; spares = d.spares };
    once = d.once;
    bitmap = d.bitmap;
  })

  pub small-format : format_of old ≡ small
  small-format = ap (λ m. cond (m == large.magic) large small) d.magic

  pub rules-more : KeepsRules all
  rules-more =
      let rules : KeepsRulesTo (most_bytes small) all =
      subst (λ f. KeepsRulesTo (most_bytes f) all) small-format d.rules in
      record {
        root = rules.root;
        sizes = λ n. fits-more (slot all n) (rules.sizes n);
        nodes = rules.nodes;
        reached = rules.reached;
      }

  module _ (g : Geometry) (has : HasGeometry old g) where
    pub count-files : length all ≡ g.inodes
    count-files = d.count ∙ sym has.inodes

    pub copied-none : {D : Type 0} {s : Store D} → Copies g s (free_slots g.inodes) → HasCopied g s 1 all
    copied-none copies = record {
      now = free_slots g.inodes;
      copies = copies;
      part = record {
        count = length-free _ ∙ sym count-files;
        before = λ k l. let first : k ≡ 0 = omega arith in slot-free _ k ∙ sym (ap (slot all) first ∙ d.zero);
        after = λ k l. slot-free _ k;
      };
    }

    -- a number that isn't in use has no node
    pub copied-free : {D : Type 0} {s : Store D} (n : ℕ) → n < g.inodes → kind_in old n ≡ 0 → HasCopied g s n all
        → HasCopied g s (n + 1) all
    copied-free n high free copied =
        record {
          now = copied.now;
          copies = copied.copies;
          part = IsPart-free copied.part (slot-files_in old n (omega (arith, has.inodes)) ∙ file_in-free old n free);
        }

    module _ (n : ℕ) (low : 1 ≤ n) (high : n < g.inodes) (used : kind_in old n ≢ 0) where
      pub node-here : slot all n ≡ Some (node_in old n)
      node-here = slot-files_in old n (omega (arith, has.inodes)) ∙ file_in-used old n low used

      pub node-stands : CanStand old n (node_in old n)
      node-stands = record {
        is = subst (Stands old n) node-here (d.nodes n low (omega (arith, has.inodes)));
        short = subst (FitsSize longest) node-here (rules-more.sizes n);
        fits = places-fit _ (node_fits all n (node_in old n) (omega (arith, inodes-least has, count-files))
            (omega (arith, inodes-most has, count-files)) (omega (arith, count-files))
            (subst (KeepsNode all n) node-here (d.rules.nodes n)));
      }

      pub copied-more : {D : Type 0} {before after : Store D} (copied : HasCopied g before n all)
          → Copies g after (put copied.now n (node_in old n)) → HasCopied g after (n + 1) all
      copied-more copied copies = record {
        now = put copied.now n (node_in old n);
        copies = copies;
        part = IsPart-put copied.part (omega (arith, count-files)) node-here;
      }

      pub lacks-more : {D : Type 0} {before : Store D} (copied : HasCopied g before n all) (fault : MigrateFault)
          → Lacks g (put copied.now n (node_in old n)) fault → Lacks g all fault
      lacks-more copied fault lacks =
          Lacks-part g (IsPart-put copied.part (omega (arith, count-files)) node-here) fault lacks

-- ---- the image that an old one becomes

-- what the device has that is left
pub left-stored : {D : Type 0} {g : Geometry} {s : Store D} {files : Files} (left : List (List ℕ)) → Copies g s files
    → (r : Result (Unit {0}) DeviceFault) → IsOk r → OnOk r (IsLaidOut s.geometry left s.nodes s.free)
    → IsStored g.size left files
left-stored left copies (Err fault) ok laid = absurd (false≢true ok)
left-stored {g = g} {s} {files} left copies (Ok u) ok laid =
    subst (λ fs. IsStored g.size left fs) (files-are copies.stores)
    (subst (λ (h : Geometry). IsStored h.size left (files_of s.nodes)) copies.numbers
    (stored-after left (Ok u) (held-again copies.stores) laid))

module _ (old : List ℕ) (d : DenotesSmall old (files_in old)) (g : Geometry) (has : HasGeometry old g) where
  pub possible : IsPossible g
  possible =
      let super = d.super in
      record {
        size_low = let least = super.size_least in omega (arith, has.size);
        size_high = let most = super.size_most
            in omega (arith, has.size, ap (λ (f : Format). f.most) (small-format old d));
        inodes_low = let least = super.inodes_least in omega (arith, has.inodes);
        inodes_high = let most = super.inodes_most in omega (arith, has.inodes);
        room = let blocks_in = super.blocks in let some = super.some_blocks in omega (arith, has.size, has.inodes);
      }

  -- a disk without files
  pub blank-copies : {D : Type 0} {s : Store D} → IsBlank g s → IsWhole s → Copies g s (free_slots g.inodes)
  blank-copies blank whole =
      record { numbers = blank.numbers; up = blank.up; stores = blank-stores possible blank whole }

  module _ (blocks : List (List ℕ)) (stored : IsStored g.size blocks (files_in old)) where
    pub denotes-migrated : (files : Files) → DenotesSmall old files → Denotes (image_of blocks) files
    denotes-migrated files e =
        subst (Denotes (image_of blocks)) (sym (Denotes-files old files e)) (Denotes-stored stored (rules-more old d))

    pub size-migrated : size_in (image_of blocks) ≡ size_in old
    size-migrated = sym (legible stored.geometry blocks stored.sound).size ∙ stored.size_is ∙ has.size

    pub inodes-migrated : inodes_in (image_of blocks) ≡ inodes_in old
    inodes-migrated = sym (legible stored.geometry blocks stored.sound).inodes ∙ sym (length-nodes_of _ _)
        ∙ stored.nodes.count ∙ count-files old d g has ∙ has.inodes

-- ---- what is returned for an image that isn't migrated

pub not_err : {T E : Type 0} (x : T) (e : E) → ◌≡◌ {A = Result T E} (Ok x) (Err e) → ⊥
not_err x e h = cc

pub image_fault-room : (found : ImageFault) → image_fault found ≡ Blocks → ⊥
image_fault-room checked.NoMemory e = cc
image_fault-room found e = cc

-- the fault is the image's own: it is none of a device, since there is none
pub refused-image : (image : List ℕ) (found fault : ImageFault) → image_fault found ≡ Image fault
    → Tells small image found → Denies (DenotesSmall image) found → (found ≡ checked.Device → ⊥) → IsBroken image fault
refused-image image checked.NoMemory fault e tells refused none = absurd cc
refused-image image checked.Device fault e tells refused none = absurd (none refl)
refused-image image found fault e tells refused none = let same : found ≡ fault =
    cc in subst (IsBroken image) same (tells, tt, refused tt)
