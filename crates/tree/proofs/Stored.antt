-- What a step on a node leaves: its attributes, its links, its bytes and its slots.
use Rattle.layout.specs.Kinds.{kind_minor}
use Rattle.tree.specs.Telling.{minor_of}
use Rattle.tree.proofs.Common.{◌≡◌, ◌≢◌, ℕ, ◌+◌, ◌<◌, List, None, Option, Some, length, set, ap, sym, refl, ◌∙◌, arith}
use Rattle.tree.proofs.Common.{subst, option_map, Changes}
use Rattle.layout.proofs.KindLemmas.{number-node}
use Rattle.layout.specs.Kinds.{kind_major, kind_number}
use Rattle.layout.specs.declared.Kind.{Kind}
use Rattle.layout.specs.declared.Kind.TheVariants as kind
use Rattle.tree.proofs.Common.{Store, raw_at, RawNode, taken_for, blocks_of, Files, Node, node_bytes, size_of, slot}
use Rattle.tree.proofs.Common.{Directory, File, Agrees, FitsPlaces, IsFileSystem, IsRaw, Stores, StoresFiles}
use Rattle.tree.proofs.Common.{length-spelling, Bool, false, ◌≤◌, ◌*◌, ◌/◌, ◌-◌, ◌++◌, inl, inr, suc, All, drop}
use Rattle.tree.proofs.Common.{flat_map, is_none, none-some, min, nat_le, take, cases_lt, le-leb, lt-leb, get_or-drop}
use Rattle.tree.proofs.Common.{get_or_past, length-append, length-drop, length-take-le, part, splice, IsFull}
use Rattle.tree.proofs.Common.{IsLowestFree, Writes, InodeStat, index_for, PlaceFits, fresh, Rewrites, Tells, TellsAny}
use Rattle.tree.proofs.Common.{TellsMajor, FileTree, IsFile, change_node, clear, free_number, place_bytes, put}
use Rattle.tree.proofs.Common.{with_links, Result, Err, Ok, OnOk, DeviceFault, IsLaidOut, IsStored, Entry}
use Rattle.tree.proofs.Storing.{Stores-set, blocks_of-set, held-fits, held-none, held-raw, held-size, position-at}
use Rattle.tree.proofs.Storing.{position-none, raw-some, some-node, taken_by, whole-node}
use Rattle.tree.specs.Stored.{files_of}
use Rattle.unixmodel.specs.Files.Node.{Device}
use Rattle.name_rules.proofs.Finding.{change-is, slot-within}
use Rattle.std.proofs.lemmas.Bool.Decides.{nat_tests}
use Rattle.balloc.specs.Inodes.{fresh_node}
use Rattle.inode.specs.Reading.{IsReadInto}
use Rattle.inode.specs.Looking.{IsTold}
use Rattle.inode.specs.Store.{with_bytes}
use Rattle.inode.specs.Looking as looking
use Rattle.inode.specs.Writing as writing

-- ---- the device that is left

pub stored-after : {D : Type 0} {v : Store D} (left : List (List ℕ)) (r : Result (Unit {0}) DeviceFault)
    → IsFileSystem v → OnOk r (IsLaidOut v.geometry left v.nodes v.free)
    → OnOk r (IsStored v.geometry.size left (files_of v.nodes))
stored-after left (Err fault) holds laid = tt
stored-after {v = v} left (Ok u) holds laid = record {
  geometry = v.geometry;
  size_is = refl;
  sound = laid.sound;
  nodes = subst (λ ns. StoresFiles ns (files_of v.nodes)) (sym laid.nodes) holds.nodes;
  free = ap (λ k. k + blocks_of (files_of v.nodes)) laid.free ∙ holds.free;
  places = holds.places;
}

pub taken-grows : (a b : ℕ) → a ≤ b → taken_for a ≤ taken_for b
taken-grows a b h = go ((a + 1023) / 1024) ((b + 1023) / 1024) (omega arith) where
  go : (x y : ℕ) → x ≤ y → x + index_for x ≤ y + index_for y
  go x y k = grind (arith, nat_tests)

-- the lowest free number
pub number-lowest : (files : Files) (n : ℕ) → 1 ≤ n → n < length files
    → ((m : ℕ) → 1 ≤ m → m < n → is_none (slot files m) ≡ false) → slot files n ≡ None → free_number files ≡ Some n
unfolding free_number
number-lowest files n low high used free =
    let one : 1 + (n - 1) ≡ n = omega arith in
    let next : suc (n - 1) ≡ n = omega arith in
    ap (option_map suc) (position-at is_none (drop 1 files) (n - 1) None (omega (arith, length-drop 1 files))
    (λ k l. ap is_none (get_or-drop 1 files k None) ∙ used (1 + k) (omega arith) (omega arith))
    (ap is_none (get_or-drop 1 files (n - 1) None ∙ ap (slot files) one ∙ free)))
    ∙ ap Some next

-- ---- the attributes of a node

major-told : (raw : RawNode) (node : Node) (major : ℕ) → IsRaw raw node → major ≡ kind_major raw.kind
    → TellsMajor major node
major-told raw (Device links of minor) major is told = told ∙ ap kind_major is.kind
major-told raw (File links bytes) major is told = tt
major-told raw (Directory links places) major is told = tt

minor-told : (raw : RawNode) (node : Node) → IsRaw raw node → kind_minor raw.kind ≡ minor_of node
minor-told raw (Device links major minor) is = ap kind_minor is.kind
minor-told raw (File links bytes) is = ap kind_minor is.kind
minor-told raw (Directory links places) is = ap kind_minor is.kind

tells-raw : (raw : RawNode) (node : Node) → IsRaw raw node → length raw.bytes ≡ size_of node → (s : InodeStat)
    → IsTold raw s → Tells s node
tells-raw raw node is long s told = (
  told.kind ∙ ap kind_number is.kind ∙ number-node node,
  told.links ∙ is.links,
  told.size
      ∙ long,
  major-told raw node s.major is told.major,
)

module _ {D : Type 0} {v : Store D} {files : Files} (holds : Stores v files) where
  pub tells : (n : ℕ) (node : Node) → slot files n ≡ Some node → (s : InodeStat) → IsTold (raw_at v.nodes n) s
      → Tells s node
  tells n node here = tells-raw _ node (held-raw holds n node here) (held-size holds n node here)

  pub tells-minor : (n : ℕ) (minor : ℕ) → minor ≡ kind_minor (raw_at v.nodes n).kind → (node : Node)
      → slot files n ≡ Some node → minor ≡ minor_of node
  tells-minor n minor told node here = told ∙ minor-told _ node (held-raw holds n node here)

  pub read-node : (n : ℕ) (node : Node) → slot files n ≡ Some node → {at : ℕ} {out out' : List ℕ} (k : ℕ)
      → IsReadInto (raw_at v.nodes n).bytes at out out' k
      → (k ≡ min (length out) (length (node_bytes node) - at)) × (out' ≡ part at k (node_bytes node) ++ drop k out)
  read-node n node here {at} {out} {out'} k is =
      let same = (held-raw holds n node here).bytes in (
        is.count ∙ ap (λ bs. min (length out) (length bs - at)) same,
        is.read
            ∙ ap (λ bs. part at k bs ++ drop k out) same,
      )

  -- whether that many blocks are free
  pub enough-told : (wanted : ℕ) {limit : ℕ} → v.free + blocks_of files ≡ limit → (enough : Bool)
      → enough ≡ nat_le wanted v.free → enough ≡ nat_le (blocks_of files + wanted) limit
  enough-told wanted {limit} all enough told = told ∙ elim (cases_lt v.free wanted) [
    | inl few ↦ lt-leb wanted v.free few ∙ sym (lt-leb (blocks_of files + wanted) limit (omega arith))
    | inr some ↦ le-leb wanted v.free some ∙ sym (le-leb (blocks_of files + wanted) limit (omega arith))
  ]

  -- ---- changes

  module _ {v' : Store D} (same : v'.geometry ≡ v.geometry) (n : ℕ) where
    -- other links
    pub linked-stores : slot files n ≢ None → (k : ℕ) → Changes v v' n (Some (writing.with_links (raw_at v.nodes n) k))
        → Stores v' (change_node files n (λ node. with_links node k))
    linked-stores some k changes =
        let (node, here) = some-node _ some in
        subst (Stores v') (sym (change-is _ n (λ node. with_links node k) node here))
        (Stores-set holds n (Some (writing.with_links (raw_at v.nodes n) k)) (Some (with_links node k))
        (slot-within _ n node here) changes same (links-raw node (held-raw holds n node here))
        (links-fits node (held-fits holds n node here))) where
          links-raw : (node : Node) → IsRaw (raw_at v.nodes n) node
              → IsRaw (writing.with_links (raw_at v.nodes n) k) (with_links node k)
          links-raw (Device links major minor) is = record { kind = is.kind; links = refl; bytes = is.bytes }
          links-raw (File links bytes) is = record { kind = is.kind; links = refl; bytes = is.bytes }
          links-raw (Directory links places) is = record { kind = is.kind; links = refl; bytes = is.bytes }

          links-fits : (node : Node) → FitsPlaces (Some node) → FitsPlaces (Some (with_links node k))
          links-fits (Directory links places) fit = fit
          links-fits (File links bytes) fit = tt
          links-fits (Device links major minor) fit = tt

    -- none any more
    pub cleared-stores : slot files n ≢ None → Changes v v' n None → Stores v' (clear files n)
    cleared-stores some changes = let (node, here) =
        some-node _ some in Stores-set holds n None None (slot-within _ n node here) changes same tt tt

    -- a file's bytes
    pub file-stores : (f : IsFile files n) → {bytes : List ℕ}
        → Changes v v' n (Some (with_bytes (raw_at v.nodes n) bytes)) → Stores v' (put files n (File f.links bytes))
    file-stores f {bytes} changes =
        let was = held-raw holds n _ f.here in
        Stores-set holds n (Some (with_bytes (raw_at v.nodes n) bytes)) (Some (File f.links bytes))
        (slot-within _ n _ f.here) changes same (record { kind = was.kind; links = was.links; bytes = refl }) tt

    -- a directory's slots
    places-stores : (links : ℕ) (places next : List (Option Entry)) → slot files n ≡ Some (Directory links places)
        → All PlaceFits next → {bytes : List ℕ} → flat_map place_bytes next ≡ bytes
        → Changes v v' n (Some (with_bytes (raw_at v.nodes n) bytes)) → Stores v' (put files n (Directory links next))
    places-stores links places next here fits {bytes} spelled changes =
        let was = held-raw holds n _ here in
        Stores-set holds n (Some (with_bytes (raw_at v.nodes n) bytes)) (Some (Directory links next))
        (slot-within _ n _ here) changes same (record { kind = was.kind; links = was.links; bytes = sym spelled })
        fits

  -- ---- the lowest free number

  unused : (n : ℕ) → n < length files → slot v.nodes n ≡ None → slot files n ≡ None
  unused n high none = go (slot files n) refl where
    go : (o : Option Node) → slot files n ≡ o → o ≡ None
    go None here = refl
    go (Some node) here = absurd
        (none-some _ (sym none ∙ (raw-some _ node (subst (Agrees (slot v.nodes n)) here (holds.nodes.each n high))).1))

  used : (n : ℕ) → n < length files → slot v.nodes n ≢ None → is_none (slot files n) ≡ false
  used n high some = go (slot files n) refl where
    go : (o : Option Node) → slot files n ≡ o → is_none o ≡ false
    go None here = absurd (some (held-none holds n high here))
    go (Some node) here = refl

  pub lowest-number : (n : ℕ) → IsLowestFree v.nodes n → free_number files ≡ Some n
  lowest-number n lowest =
      let long : length v.nodes ≡ length files = holds.nodes.count in
      let high = lowest.high in
      number-lowest files n lowest.low (omega arith) (λ m low less. used m (omega arith) (lowest.lowest m low less))
      (unused n (omega arith) lowest.free)

  pub no-number : ((n : ℕ) → 1 ≤ n → n < length v.nodes → slot v.nodes n ≢ None) → free_number files ≡ None
  unfolding free_number
  no-number all =
      let long : length v.nodes ≡ length files = holds.nodes.count in
      ap (option_map suc) (position-none is_none (drop 1 files) (length (drop 1 files)) None (omega arith)
      (λ k l. ap is_none (get_or-drop 1 _ k None)
      ∙ used (1 + k) (omega (arith, length-drop 1 files))
      (all (1 + k) (omega arith) (omega (arith, length-drop 1 files)))))

  -- ---- a node without bytes

  pub fresh-stores : {v' : Store D} → v'.geometry ≡ v.geometry → (k : Kind) (n : ℕ) → n < length files
      → Changes v v' n (fresh_node k 1) → Stores v' (set files n (fresh k))
  fresh-stores same k n within changes = let raw =
      fresh-raw k in Stores-set holds n (fresh_node k 1) (fresh k) within changes same raw.0 raw.1 where
        fresh-raw : (k : Kind) → Agrees (fresh_node k 1) (fresh k) × FitsPlaces (fresh k)
        fresh-raw kind.Free = (tt, tt)
        fresh-raw kind.Directory = (record { kind = refl; links = refl; bytes = refl }, λ k d l. absurd (omega arith))
        fresh-raw kind.File = (record { kind = refl; links = refl; bytes = refl }, tt)
        fresh-raw (kind.Device major minor) = (record { kind = refl; links = refl; bytes = refl }, tt)

-- the attributes of any number
pub tells-any : {D : Type 0} {v : Store D} {files : Files} (holds : Stores v files) (n : ℕ) (told : Option InodeStat)
    → looking.TellsAny (slot v.nodes n) told → TellsAny told (slot files n)
tells-any {v = v} {files} holds n told = go (slot v.nodes n) (slot files n) agrees (holds.places n) told where
  agrees : Agrees (slot v.nodes n) (slot files n)
  agrees = elim (cases_lt n _) [
    | inl high ↦ holds.nodes.each n high
    | inr past ↦ rw (get_or_past v.nodes n None (omega (arith, holds.nodes.count)), get_or_past files n None past) tt
  ]

  go : (raw : Option RawNode) (o : Option Node) → Agrees raw o → FitsPlaces o → (told : Option InodeStat)
      → looking.TellsAny raw told → TellsAny told o
  go None None is fit None t = tt
  go None None is fit (Some s) t = absurd t
  go (Some raw) (Some node) is fit None t = absurd t
  go (Some raw) (Some node) is fit (Some s) t = tells-raw raw node is (ap length is.bytes ∙ whole-node node fit) s t
  go _ _ is fit told t = absurd is

-- ---- slots are rewritten

module _ {D : Type 0} {v : Store D} {seen : FileTree} (holds : Stores v seen.files) {d at : ℕ} {bytes : List ℕ}
    {next : List (Option Entry)} (r : Rewrites seen d at bytes next) where
  bytes-are : (raw_at v.nodes d).bytes ≡ flat_map place_bytes r.places
  bytes-are = (held-raw holds d _ r.here).bytes

  pub rewritten-within : at ≤ length (raw_at v.nodes d).bytes
  rewritten-within = subst (λ bs. at ≤ length bs) (sym bytes-are) r.within

  -- the blocks suffice
  pub never-full : v.free + blocks_of seen.files ≡ seen.block_limit → {v' : Store D} (k : ℕ) → IsFull v v' d at bytes k
      → ⊥
  never-full all k full =
      let old = flat_map place_bytes r.places in
      let low = r.within in
      let long : length (splice at bytes old) ≡ at + (length bytes + length (drop (at + length bytes) old)) =
      omega (
        arith,
        length-append (take at old) (bytes ++ drop (at + length bytes) old),
        length-append bytes (drop (at + length bytes) old),
        length-take-le at old low,
      ) in
      let size : length (splice at bytes old) ≡ 16 * length next = ap length (sym r.spelled)
      ∙ length-spelling next r.fits in
      let grows = taken-grows (at + k + 1) (16 * length next) (let left = full.some_left in omega arith) in
      let here : taken_by (slot seen.files d) ≡ taken_for (length (raw_at v.nodes d).bytes) = ap taken_by r.here
      ∙ ap taken_for (sym (held-size holds d (Directory r.links r.places) r.here)) in
      let b = blocks_of-set seen.files d (Some (Directory r.links next))
      (slot-within seen.files d (Directory r.links r.places) r.here) in
      let few = full.few in
      let room = r.room in
      omega arith

  pub rewritten-stores : {v' : Store D} → v'.geometry ≡ v.geometry → Writes v v' d at bytes
      → Stores v' (put seen.files d (Directory r.links next))
  rewritten-stores same writes =
      places-stores holds same d _ _ next r.here r.fits (r.spelled ∙ ap (splice at bytes) (sym bytes-are))
      writes.changes
