-- From a blank disk to the bytes of an image that denotes files.
use Rattle.imagemake.proofs.Common.{◌≡◌, ℕ, ◌*◌, ◌<◌, ◌≤◌, List, None, Option, Some, length, ap, sym, refl, ◌∙◌}
use Rattle.imagemake.proofs.Common.{arith, subst, inl, inr, All, IsTrue, nat_lt, Decides, get_or, and_from, cases_eq}
use Rattle.imagemake.proofs.Common.{le-leb, lt-ltb, Decides-eqb, Decides-like, same_from_decides, length-bytes_of}
use Rattle.imagemake.proofs.Common.{IsInode, IsUsed, asked_slot, bytes_of, node_at, node_with, slot_of, HasParts}
use Rattle.imagemake.proofs.Common.{IsSound, bitmap_start_of, super_of, Geometry, Files, Node, slot, Format, format}
use Rattle.imagemake.proofs.Common.{most_bytes, KeepsRules, data_start, format_of, inodes_in, kind_in, size_in}
use Rattle.imagemake.proofs.Common.{super_number, image_of, length-image_of, IsOnce, blocks_of-free, blocks_of-used}
use Rattle.imagemake.proofs.Common.{named_before-all, kind-located, size-located, HasAddresses-from, whole-node, ◌+◌}
use Rattle.imagemake.proofs.Common.{◌&&◌, true, false, cond, Ok, Err, Result, nat_le, replicate, OnOk, IsErrAnd}
use Rattle.imagemake.proofs.Common.{and_parts, cases_lt, false≢true, nat_tests, get_or-replicate, get_or_past}
use Rattle.imagemake.proofs.Common.{length-replicate, RawNode, FileTree, tree_with, IsNow, now-limit, files-are}
use Rattle.imagemake.proofs.Common.{free_slots, ManifestEntry, Wrong, bare_files, data_blocks_of, files_made}
use Rattle.imagemake.proofs.Common.{has_numbers, with_entries, Numbers, IsBlank, IsPossible, MakesEntries, made_by}
use Rattle.imagemake.proofs.Common.{MakesImage, Refuses, MakeFault, NoMemory, IfErr, IfOk, IsOk, blocks_of}
use Rattle.layout.specs.Image as disk
use Rattle.blockdev.specs.Blocks as device
use Rattle.imagerules.specs.Marks.{blocks_of as blocks_in}
use Rattle.imagerules.specs.Pieces.{HasAddresses, HasBitmap, NamesOnce}
use Rattle.imagerules.proofs.Super.{HasSuper-from, inodes-is, magic-is, size-is, kind-told, links-located}
use Rattle.imagerules.proofs.Nodes.{node-kind}
use Rattle.imagemake.proofs.Slotted.{once-range, IsLegible, bit-held, inode_at, named-decides, All-listed, IsReadable}
use Rattle.imagemake.proofs.Slotted.{contents-are, format-told, listed-asks, listed-once, listed-slot, spares-zero}
use Rattle.balloc.specs.Format.{IsNew}
use Rattle.cache.specs.Disk.{Disk}
use Rattle.inode.specs.Store.{IsWhole, Store, store_over}
use Rattle.tree.specs.Stored.{Stores, Agrees, FitsPlaces, IsRaw, IsStored}
use Rattle.imagemake.proofs.Putting.{length-free, no-files, slot-free, told_err}
use Rattle.layout.proofs.GrowLemmas.{get_or-nodes_of, length-nodes_of, node_at-none, node_at-some}
use Rattle.unixmodel.specs.Image.{Denotes, HasSuper, is_data_block, IsNode, KeepsRulesTo, Stands}

-- ---- the image of a disk denotes the files that the disk stores

module _ (g : Geometry) (blocks : List (List ℕ)) (sound : IsSound g blocks) where
  abbrev image : List ℕ
  image = image_of blocks

  two : 2 ≤ length blocks
  two = let room = sound.parts.room in omega (arith, sound.parts.count)

  magic-sound : super_number image 0 ≡ format.magic
  magic-sound = sym (magic-is blocks sound.parts.sizes two (super_of (device.block_at blocks 1)) refl)
      ∙ sound.head.magic

  same-format : format_of image ≡ format
  same-format = format-told image magic-sound

  HasSuper-sound : HasSuper image
  HasSuper-sound =
      HasSuper-from blocks sound.parts.sizes two (super_of (device.block_at blocks 1)) refl
      (sound.head.size ∙ sym sound.parts.count) (ap (λ (f : Format). f.most) same-format) sound.head.numbers

  pub readable : (n : ℕ) → IsInode blocks g.inodes n → IsReadable g blocks n
  readable n i = record {
    has = record { parts = sound.parts; same = same-format; inode = i; fits = sound.fits n i };
    inside = λ k asks. let r =
        (sound.in_range n k (record { inode = i; slot = asks })).1 in omega (arith, sound.parts.count);
  }

  pub legible : IsLegible g blocks
  legible = record {
    parts = sound.parts;
    size = sym sound.head.size ∙ size-is blocks sound.parts.sizes two (super_of (device.block_at blocks 1)) refl;
    inodes = sym sound.head.inodes ∙ inodes-is blocks sound.parts.sizes two (super_of (device.block_at blocks 1)) refl;
    readable = readable;
  }

  -- ---- the blocks that inodes name

  data-block : (n k : ℕ) → IsUsed blocks g.inodes n k → IsTrue (is_data_block image (slot_of blocks n k))
  data-block n k u =
      let r = sound.in_range n k u in
      let low = r.0 in
      let high = r.1 in
      and_from _ _ (le-leb (data_start (size_in image) (inodes_in image)) (slot_of blocks n k)
      (omega (arith, legible.size, legible.inodes)))
      (lt-ltb (slot_of blocks n k) (size_in image) (omega (arith, legible.size)))

  HasAddresses-sound : HasAddresses image
  HasAddresses-sound =
      HasAddresses-from image (λ n low high used.
      let i = inode_at g blocks legible n low high used in
      record {
        blocks = subst (All (λ b. IsTrue (is_data_block image b))) (blocks_of-used image n used)
            (All-listed g blocks n (readable n i) (λ b. IsTrue (is_data_block image b))
            (λ k asks. data-block n k (record { inode = i; slot = asks })));
        spares = spares-zero g blocks n (readable n i) (λ k. sound.spare n k i);
      })

  -- a number that lists a block is that of an inode in use
  lists : (n p : ℕ) → 1 ≤ n → n < inodes_in image → p < length (blocks_in image n) → IsInode blocks g.inodes n
  lists n p low high l = elim (cases_eq (kind_in image n) 0) [
    | inl free ↦ absurd (omega (arith, ap length (blocks_of-free image n free)))
    | inr used ↦ inode_at g blocks legible n low high used
  ]

  -- two indices with one block are those of one slot
  same-slot : (m n p q d e : ℕ) (i : IsInode blocks g.inodes m) (j : IsInode blocks g.inodes n)
      → p < length (blocks_in image m) → q < length (blocks_in image n)
      → get_or (blocks_in image m) p d ≡ get_or (blocks_in image n) q e
      → (m ≡ n) × (asked_slot (disk.blocks_for (disk.inode_at blocks m).size) p
      ≡ asked_slot (disk.blocks_for (disk.inode_at blocks n).size) q)
  same-slot m n p q d e i j l k same =
      sound.once m _ n _
      (record { inode = i; slot = listed-asks g blocks m (readable m i).has p l })
      (record { inode = j; slot = listed-asks g blocks n (readable n j).has q k })
      (sym (listed-slot g blocks m (readable m i) p d l) ∙ same ∙ listed-slot g blocks n (readable n j) q e k)

  NamesOnce-sound : NamesOnce image
  NamesOnce-sound =
      subst IsOnce (named_before-all image)
      (once-range _ 1 _
      (λ n low high p q d l m e.
      let i = lists n q low (omega arith) m in
      let same = listed-once g blocks n (readable n i).has p q (omega arith) m
      (same-slot n n p q d d i i (omega arith) m e).1 in
      absurd (omega arith))
      (λ m n low l high p d p_in q e q_in same.
      let i = lists m p low (omega arith) p_in in
      let j = lists n q (omega arith) (omega arith) q_in in
      let one = (same-slot m n p q d e i j p_in q_in same).0 in
      omega arith))

  HasBitmap-sound : HasBitmap image
  HasBitmap-sound b h =
      let within : b < g.size = omega (arith, legible.size) in
      let one = subst (λ t. Decides t (disk.bit_of blocks (bitmap_start_of g.inodes) b ≡ 1))
      (sym (bit-held g blocks legible b within)) (Decides-eqb _ 1) in
      same_from_decides _ _
      (Decides-like _ (sound.marked b within).0 (sound.marked b within).1 one) (named-decides g blocks legible b)

  -- files of which the image holds each
  pub Denotes-standing : (files : Files) → length files ≡ g.inodes → slot files 0 ≡ None
      → ((n : ℕ) → 1 ≤ n → n < g.inodes → Stands image n (slot files n)) → KeepsRules files → Denotes image files
  Denotes-standing files count zero stands rules = record {
    magic = magic-sound;
    super = HasSuper-sound;
    count = count ∙ legible.inodes;
    zero = zero;
    nodes = λ n low high. stands n low (omega (arith, legible.inodes));
    blocks = HasAddresses-sound.blocks;
    spares = HasAddresses-sound.spares;
    once = NamesOnce-sound;
    bitmap = HasBitmap-sound;
    rules = subst (λ f. KeepsRulesTo (most_bytes f) files) (sym same-format) rules;
  }

-- ---- the files

free-held : (o : Option Node) → Agrees None o → o ≡ None
free-held None h = refl
free-held (Some node) h = absurd h

module _ {size : ℕ} {blocks : List (List ℕ)} {files : Files} (stored : IsStored size blocks files) where
  abbrev g : Geometry
  g = stored.geometry

  parts : HasParts g blocks
  parts = stored.sound.parts

  count : length files ≡ g.inodes
  count = sym stored.nodes.count ∙ length-nodes_of blocks _

  agrees : (n : ℕ) → n < g.inodes → Agrees (node_at blocks n) (slot files n)
  agrees n high = subst (λ raw. Agrees raw (slot files n)) (get_or-nodes_of blocks _ n high)
      (stored.nodes.each n (omega (arith, count)))

  module _ (n : ℕ) (i : IsInode blocks g.inodes n) where
    stands-node : (node : Node) → IsRaw (node_with (disk.inode_at blocks n) (bytes_of blocks n)) node
        → FitsPlaces (Some node) → IsNode (image_of blocks) n node
    stands-node node raw fits =
        let known = stored.sound.kinds n i.low i.high in
        let told = node-kind (image_of blocks) n node (omega (arith, known, kind-located g blocks parts n i.high))
        (sym (kind-told g blocks parts n i.high) ∙ raw.kind) in
        record {
          kind = told.0;
          links = sym (links-located g blocks parts n i.high) ∙ raw.links;
          size = sym (size-located g blocks parts n i.high) ∙ sym (length-bytes_of blocks n) ∙ ap length raw.bytes
              ∙ whole-node node fits;
          contents = contents-are g blocks n (readable g blocks stored.sound n i) ∙ raw.bytes;
          major = told.1;
        }

    stands-used : (o : Option Node) → Agrees (Some (node_with (disk.inode_at blocks n) (bytes_of blocks n))) o
        → FitsPlaces o → Stands (image_of blocks) n o
    stands-used None h fits = absurd h
    stands-used (Some node) h fits = stands-node node h fits

  stands : (n : ℕ) → 1 ≤ n → n < g.inodes → Stands (image_of blocks) n (slot files n)
  stands n low high = elim (cases_eq (disk.inode_at blocks n).kind 0) [
    | inl free ↦
        subst (Stands (image_of blocks) n)
        (sym (free-held (slot files n)
        (subst (λ raw. Agrees raw (slot files n)) (node_at-none blocks n (inr free)) (agrees n high))))
        (sym (kind-located g blocks parts n high) ∙ free)
    | inr used ↦
        stands-used n (record { low = low; high = high; kind = used }) _
        (subst (λ raw. Agrees raw (slot files n)) (node_at-some blocks n low used) (agrees n high)) (stored.places n)
  ]

  zero-free : slot files 0 ≡ None
  zero-free = let low = parts.inodes_low
      in free-held _ (subst (λ raw. Agrees raw (slot files 0)) (node_at-none blocks 0 (inl refl))
      (agrees 0 (omega arith)))

  pub Denotes-stored : KeepsRules files → Denotes (image_of blocks) files
  Denotes-stored = Denotes-standing g blocks stored.sound files count zero-free stands

  -- as many bytes as the disk has
  pub length-stored : length (image_of blocks) ≡ 1024 * size
  length-stored = length-image_of blocks parts.sizes ∙ ap (λ k. 1024 * k) (parts.count ∙ stored.size_is)

-- ---- a disk without files

pub blank-made : {D : Type 0} {g : Geometry} {disk : Disk D} {s : Store D} → IsNew g disk.blocks
    → s ≡ store_over g disk false → IsBlank g s
blank-made {g = g} new is =
    subst (IsBlank g) (sym is) (record { numbers = refl; nodes = new.nodes; free = new.free; up = refl })

slot-none : (n m : ℕ) → get_or (replicate {A = Option RawNode} n None) m None ≡ None
slot-none n m = elim (cases_lt m n) [
  | inl l ↦ get_or-replicate n m None None l
  | inr r ↦ get_or_past _ m None
      (omega (arith, length-replicate {A = Option RawNode} n None))
]

-- its tree has no file
pub record IsBareTree (g : Geometry) (tree : FileTree) : Type 0 where
  pub up : tree.failed ≡ false
  pub long : length tree.files ≡ g.inodes
  pub none : tree.files ≡ free_slots (length tree.files)
  pub limit : tree.block_limit ≡ data_blocks_of g.size g.inodes
  pub size : tree.size ≡ g.size

module _ {D : Type 0} {g : Geometry} {s : Store D} (possible : IsPossible g) (blank : IsBlank g s) (whole : IsWhole s)
  where
    pub blank-stores : Stores s (free_slots g.inodes)
    blank-stores =
        let free = blank.free in
        let room = possible.room in
        let all : s.free + blocks_of (free_slots g.inodes) ≡ data_blocks_of g.size g.inodes =
        omega (arith, no-files g.inodes) in
        record {
          whole = whole;
          nodes = record {
            count = ap length blank.nodes ∙ length-replicate {A = Option RawNode} g.inodes None
                ∙ sym (length-free g.inodes);
            each = λ n l. rw (blank.nodes, slot-none g.inodes n, slot-free g.inodes n) tt;
          };
          free = all ∙ ap (λ (g : Geometry). data_blocks_of g.size g.inodes) (sym blank.numbers);
          places = λ n. subst FitsPlaces (sym (slot-free g.inodes n)) tt;
        }

    pub bare-tree : {tree : FileTree} {identity : List ℕ} → tree ≡ tree_with identity s (replicate s.geometry.inodes 0)
        → IsBareTree g tree
    bare-tree {tree} is =
        let files : tree.files ≡ free_slots g.inodes = ap (λ (t : FileTree). t.files) is ∙ files-are blank-stores in
        let long = ap length files ∙ length-free _ in
        record {
          up = ap (λ (t : FileTree). t.failed) is ∙ blank.up;
          long = long;
          none = files ∙ ap free_slots (sym long);
          limit = ap (λ (t : FileTree). t.block_limit) is
              ∙ ap (λ (g : Geometry). data_blocks_of g.size g.inodes) blank.numbers;
          size = ap (λ (t : FileTree). t.size) is ∙ ap (λ (g : Geometry). g.size) blank.numbers;
        }

-- ---- numbers that an image can have

pub possible : {size inodes : ℕ} → true ≡ has_numbers size inodes → IsPossible (record { size = size; inodes = inodes })
possible {size} {inodes} told =
    let a = and_parts (nat_le 32 size && nat_le size format.most && nat_le 16 inodes && nat_le inodes 8192)
    (nat_lt (data_start size inodes) size) (sym told) in
    let b = and_parts (nat_le 32 size && nat_le size format.most && nat_le 16 inodes) (nat_le inodes 8192) a.0 in
    let c = and_parts (nat_le 32 size && nat_le size format.most) (nat_le 16 inodes) b.0 in
    let d = and_parts (nat_le 32 size) (nat_le size format.most) c.0 in
    record {
      size_low = grind (arith, nat_tests, d.0);
      size_high = grind (arith, nat_tests, d.1);
      inodes_low = grind (arith, nat_tests, c.1);
      inodes_high = grind (arith, nat_tests, b.1);
      room = grind (arith, nat_tests, a.1);
    }

-- ---- what a lack of memory means

pub none-refused : {T X : Type 0} {fault : MakeFault} (what : Result X Wrong) (r : Result T MakeFault)
    → IsErrAnd r (λ f. f ≡ fault) → fault ≡ NoMemory → IfErr r (λ f. Refuses what f)
none-refused what r told memory = rw (told_err r told ∙ ap Err memory) tt

pub only-memory : {T X : Type 0} (what : Result X Wrong) (r : Result T MakeFault) → IfErr r (λ fault. fault ≡ NoMemory)
    → IfErr r (λ f. Refuses what f)
only-memory what (Ok x) only = tt
only-memory what (Err fault) only = subst (Refuses what) (sym only) tt

-- ---- what a manifest makes

module _ (entries : List ManifestEntry) (size inodes : ℕ) where
  pub refused-numbers : has_numbers size inodes ≡ false → files_made entries size inodes ≡ Err Numbers
  unfolding files_made
  refused-numbers h = ap (λ b. cond b (with_entries (data_blocks_of size inodes) inodes (bare_files inodes) 2 entries)
      (Err Numbers)) h

  -- by a tree that is blank
  module _ (h : has_numbers size inodes ≡ true) {t : FileTree}
      (bare : IsBareTree (record { size = size; inodes = inodes }) t) where
    pub made-is : files_made entries size inodes ≡ made_by t entries
    unfolding files_made
    made-is = λ i. cond (h i)
        (with_entries (sym bare.limit i) (sym bare.long i) (bare_files (sym bare.long i)) 2 entries) (Err Numbers)

    pub refused-entries : (fault : MakeFault) → Refuses (made_by t entries) fault
        → Refuses (files_made entries size inodes) fault
    refused-entries fault told = subst (λ r. Refuses r fault) (sym made-is) told

    pub makes-image : {new : FileTree} → MakesEntries t new entries → {blocks : List (List ℕ)} {image : List ℕ}
        → IsStored new.size blocks new.files → image ≡ image_of blocks → MakesImage entries size inodes image
    makes-image {new} makes {blocks} stored bytes = record {
      files = new.files;
      made = made-is ∙ makes.is;
      denotes = subst (λ b. Denotes b new.files) (sym bytes) (Denotes-stored stored makes.rules);
      whole = ap length bytes ∙ length-stored stored
          ∙ ap (λ k. 1024 * k) (ap (λ (t : FileTree). t.size) makes.rest ∙ bare.size);
    }

-- ---- after the root

module _ {old mid : FileTree} {files : Files} (now : IsNow old mid files) (long : length mid.files ≡ length old.files)
    (entries : List ManifestEntry) where
  made-same : made_by old entries ≡ made_by mid entries
  made-same = λ i. with_entries (sym (now-limit now) i) (sym long i) (bare_files (sym long i)) 2 entries

  pub makes-all : (new : FileTree) (r : Result (Unit {0}) MakeFault) → OnOk r (MakesEntries mid new entries)
      → OnOk r (MakesEntries old new entries)
  makes-all new (Err fault) makes = tt
  makes-all new (Ok u) makes =
      record {
        is = made-same ∙ makes.is;
        rest = makes.rest
            ∙ ap (λ (t : FileTree). record t { files = new.files; failures = new.failures }) now.is;
        rules = makes.rules;
      }

  pub refuses-all : (r : Result (Unit {0}) MakeFault) → IfErr r (λ fault. Refuses (made_by mid entries) fault)
      → IfErr r (λ fault. Refuses (made_by old entries) fault)
  refuses-all (Ok u) refuses = tt
  refuses-all (Err fault) refuses = subst (λ m. Refuses m fault) (sym made-same) refuses

-- what a good end knows
pub when-ok : {T U E F : Type 0} {P : Type 0} {Q R : U → Type 0} (flushed : Result T E) (r : Result U F)
    → OnOk flushed P → OnOk r (IsOk flushed) → IfOk r Q → ((x : U) → P → Q x → R x) → IfOk r R
when-ok flushed (Err e) left ok told so = tt
when-ok (Err e) (Ok x) left ok told so = absurd (false≢true ok)
when-ok (Ok y) (Ok x) left ok told so = so x left told
