-- What two disks have in common, as far as they are read.
use Rattle.std.proofs.Common.{Bool, Err, List, None, Ok, Option, Result, Some, ap, ap₂, arith, below_more, drop}
use Rattle.std.proofs.Common.{false, length}
use Rattle.std.proofs.Common.{min, refl, subst, sym, take, true, ℕ, ◌*◌, ◌++◌, ◌+◌, ◌<◌, ◌≤◌, ◌∙◌, ◌≡◌}
use Rattle.std.proofs.lemmas.Bool.{OnTrue_at, OnTrue_from}
use Rattle.std.proofs.lemmas.List.{length-drop, length-take-le, take-append-le, take_all, take_min}
use Rattle.std.proofs.Math.Seq.{take-add}
use Rattle.std.specs.Bool.{OnTrue}
use Rattle.imagerules.proofs.Spelling.{places_in-back}
use Rattle.imagerules.specs.Places.{places_in}
use Rattle.inode.specs.declared.InodeStat.{InodeStat}
use Rattle.kernel.proofs.Steps.{lost-then, read-then}
use Rattle.kernel.specs.Disk.{HasRead, ReadsDisk}
use Rattle.kernel.specs.Kernel.{Kernel, state_of}
use Rattle.likeness.proofs.Same.{alike-by, slots-same}
use Rattle.likeness.specs.Likeness.{AreSameButFiles, Compares}
use Rattle.likeness.specs.declared.nodes.Side.{Side}
use Rattle.likeness.specs.declared.nodes.Side.TheVariants.{One, Other}
use Rattle.renumbering.specs.Alike.{AlikeUpToNumbers}
use Rattle.renumbering.specs.Pairs.{FittingStatesAreRenumbered}
use Rattle.tree.proofs.Storing.{whole-node}
use Rattle.tree.specs.Calls.{IsPart}
use Rattle.tree.specs.Stored.{FitsPlaces}
use Rattle.tree.specs.Telling.{Tells, TellsAny, minor_of}
use Rattle.unixmodel.specs.Files.{Node, kind_of, node_bytes, size_of, slot}
use Rattle.unixmodel.specs.Files.Node.{Device, Directory, File}
use Rattle.unixmodel.specs.Shown.{bytes_or_none}

read-files : {a b : Kernel} → HasRead a b → b.tree.files ≡ a.tree.files
read-files read = ap (λ (k : Kernel). k.tree.files) read.same

read-up : {a b : Kernel} → a.tree.failed ≡ false → HasRead a b → b.tree.failed ≡ false
read-up up read = ap (λ (k : Kernel). k.tree.failed) read.same ∙ up

-- two disks have been read so far, nothing else changed, and this is so
pub record SoFar (one one' other other' : Kernel) (Holds : Type 0) : Type 0 where
  pub up : one'.tree.failed ≡ false
  pub other_up : other'.tree.failed ≡ false
  pub read : HasRead one one'
  pub other_read : HasRead other other'
  pub holds : Holds

pub begun : (one other : Kernel) {Holds : Type 0} → one.tree.failed ≡ false → other.tree.failed ≡ false → Holds
    → SoFar one one other other Holds
begun one other up other_up holds = record {
  up = up;
  other_up = other_up;
  read = record { same = refl; later = omega arith };
  other_read = record { same = refl; later = omega arith };
  holds = holds;
}

goes-on : {one mid new other mid' new' : Kernel} {P Q : Type 0} → SoFar one mid other mid' P → HasRead mid new
    → HasRead mid' new' → Q → SoFar one new other new' Q
goes-on before read other_read holds = record {
  up = read-up before.up read;
  other_up = read-up before.other_up other_read;
  read = read-then before.read read;
  other_read = read-then before.other_read other_read;
  holds = holds;
}

-- what a comparison gives after disks have been read, and another clause follows from its own
compares-then : {X : Type 0} {one mid other mid' : Kernel} (new new' : Kernel) (Q R : X → Type 0) (r : Result X Side)
    → HasRead one mid → HasRead other mid' → ((x : X) → Q x → R x) → Compares mid new mid' new' Q r
    → Compares one new other new' R r
compares-then new new' Q R (Ok x) read other_read so told =
    (read-then read told.0, read-then other_read told.1, so x told.2)
compares-then new new' Q R (Err One) read other_read so lost = (lost-then read lost.0, read-then other_read lost.1)
compares-then new new' Q R (Err Other) read other_read so lost = (read-then read lost.0, lost-then other_read lost.1)

-- ---- the bytes of a node

-- the bytes of the node with a number
abbrev pub bytes_of : Kernel → ℕ → List ℕ
bytes_of k number = bytes_or_none (slot k.tree.files number)

read-front : (bytes old new : List ℕ) (at count : ℕ) → length old ≡ 1024 → IsPart bytes at old new count
    → take count new ≡ take 1024 (drop at bytes)
read-front bytes old new at count long (is, told) =
    let there : count ≤ length (drop at bytes) = omega (arith, length-drop at bytes) in
    let exact : length (take count (drop at bytes)) ≡ count = length-take-le count (drop at bytes) there in
    let count_is : count ≡ min 1024 (length (drop at bytes)) = omega (arith, length-drop at bytes) in
    rw (
      told,
      take-append-le count (take count (drop at bytes)) (drop count old) (omega (arith, exact)),
      take_all count (take count (drop at bytes)) (omega (arith, exact)),
      count_is,
    ) (take_min 1024 (drop at bytes))

-- a block was read of each of two nodes
pub block-same : {one new other new' : Kernel} (number at : ℕ) (out out' : List ℕ) {count count' : ℕ}
    {read read' : List ℕ} (same : Bool) → length out ≡ 1024 → length out' ≡ 1024
    → ReadsDisk one new (IsPart (bytes_of one number) at out read) (Ok count)
    → ReadsDisk other new' (IsPart (bytes_of other number) at out' read') (Ok count')
    → OnTrue same (take count read ≡ take count' read')
    → Compares one new other new'
    (λ s. OnTrue s (take 1024 (drop at (bytes_of one number)) ≡ take 1024 (drop at (bytes_of other number)))) (Ok same)
block-same {one} {other = other} number at out out' {count} {count'} {read} {read'} same long long' first second
    told = (first.0, second.0, OnTrue_from same _ all)
  where
    all : same ≡ true → take 1024 (drop at (bytes_of one number)) ≡ take 1024 (drop at (bytes_of other number))
    all agreed =
        let both : take count read ≡ take count' read' = OnTrue_at agreed told in
        sym (read-front (bytes_of one number) out read at count long first.1) ∙ both
        ∙ read-front (bytes_of other number) out' read' at count' long' second.1

take-next : (k : ℕ) (xs : List ℕ) → take (1024 * (k + 1)) xs ≡ take (1024 * k) xs ++ take 1024 (drop (1024 * k) xs)
take-next k xs = let more : 1024 * (k + 1) ≡ 1024 * k + 1024 = omega arith in
    ap (λ n. take n xs) more ∙ take-add (1024 * k) 1024 xs

-- the first k blocks are the same
abbrev pub BlocksAreSame : Kernel → Kernel → ℕ → ℕ → Type 0
BlocksAreSame one other number k = take (1024 * k) (bytes_of one number) ≡ take (1024 * k) (bytes_of other number)

pub block-next : {one mid new other mid' new' : Kernel} (number k : ℕ) {same : Bool}
    → SoFar one mid other mid' (BlocksAreSame one other number k)
    → Compares mid new mid' new' (λ s. OnTrue s (take 1024 (drop (1024 * k) (bytes_of mid number))
    ≡ take 1024 (drop (1024 * k) (bytes_of mid' number)))) (Ok same)
    → same ≡ true
    → SoFar one new other new' (BlocksAreSame one other number (k + 1))
block-next {one} {mid} {other = other} {mid'} number k before told agreed =
    let here : take 1024 (drop (1024 * k) (bytes_of mid number)) ≡ take 1024 (drop (1024 * k) (bytes_of mid' number)) =
    OnTrue_at agreed told.2 in
    let block : take 1024 (drop (1024 * k) (bytes_of one number))
    ≡ take 1024 (drop (1024 * k) (bytes_of other number)) =
    rw (read-files before.read, read-files before.other_read) at here in
    goes-on before told.0 told.1
    (take-next k (bytes_of one number) ∙ ap₂ (λ xs ys. xs ++ ys) before.holds block
    ∙ sym (take-next k (bytes_of other number)))

-- ---- a node

-- a node is what its kind, links, minor and major numbers and bytes say
node-same : (s : InodeStat) (a b : Node) → Tells s a → Tells s b → minor_of a ≡ minor_of b → node_bytes a ≡ node_bytes b
    → FitsPlaces (Some a) → FitsPlaces (Some b) → a ≡ b
node-same s (File links bytes) (File links' bytes') told their minor same fits fit =
    ap₂ File (sym told.1 ∙ their.1) same
node-same s (Device links major minor) (Device links' major' minor') told their same bytes fits fit =
    let l : links ≡ links' = sym told.1 ∙ their.1 in
    let m : major ≡ major' = sym told.3 ∙ their.3 in
    rw (l, m, same) refl
node-same s (Directory links places) (Directory links' places') told their minor same fits fit =
    ap₂ Directory (sym told.1 ∙ their.1)
    (sym (places_in-back places fits) ∙ ap places_in same ∙ places_in-back places' fit)
node-same s a b told their minor same fits fit =
    absurd (let kinds : kind_of a ≡ kind_of b = sym told.0 ∙ their.0 in omega arith)

-- there is a node with a number at which something was told
pub node-there : {old new : Kernel} {told : Option InodeStat} {s : InodeStat} (number : ℕ)
    → ReadsDisk old new (λ t. TellsAny t (slot old.tree.files number)) (Ok told) → told ≡ Some s
    → (node : Node) × (slot new.tree.files number ≡ Some node)
node-there {old} {new} {told} {s} number reads is =
    rw (read-files reads.0) (there (slot old.tree.files number) refl
    (subst (λ (t : Option InodeStat). TellsAny t (slot old.tree.files number)) is reads.1))
  where
    there : (o : Option Node) → slot old.tree.files number ≡ o → TellsAny (Some s) o
        → (node : Node) × (slot old.tree.files number ≡ Some node)
    there None here tells = absurd tells
    there (Some node) here tells = (node, here)

-- the minor numbers of two nodes are the same
abbrev pub MinorsAreSame : Kernel → Kernel → ℕ → Type 0
MinorsAreSame one other number = (a b : Node) → slot one.tree.files number ≡ Some a
    → slot other.tree.files number ≡ Some b → minor_of a ≡ minor_of b

all-blocks : (s : InodeStat) (n : ℕ) (a : Node) → Tells s a → FitsPlaces (Some a) → s.size ≤ n
    → take n (node_bytes a) ≡ node_bytes a
all-blocks s n a tells fit enough =
    let long = whole-node a fit in
    let size : s.size ≡ size_of a = tells.2 in
    take_all n (node_bytes a) (omega arith)

slot-by : (s : InodeStat) (n : ℕ) (o p : Option Node) → TellsAny (Some s) o → TellsAny (Some s) p
    → ((a b : Node) → o ≡ Some a → p ≡ Some b → minor_of a ≡ minor_of b) → FitsPlaces o → FitsPlaces p → s.size ≤ n
    → take n (bytes_or_none o) ≡ take n (bytes_or_none p) → o ≡ p
slot-by s n (Some a) (Some b) tells other_tells minors fits other_fits enough same =
    ap Some (node-same s a b tells other_tells (minors a b refl refl)
    (sym (all-blocks s n a tells fits enough) ∙ same ∙ all-blocks s n b other_tells other_fits enough) fits other_fits)
slot-by s n None p tells other_tells minors fits other_fits enough same = absurd tells
slot-by s n o None tells other_tells minors fits other_fits enough same = absurd other_tells

-- after looks at two inodes, what goes on holds of the whole
pub node-done : {one one₁ one₂ other other₁ other₂ : Kernel} (new new' : Kernel) {told told' : Option InodeStat}
    {s s' : InodeStat} {are_same : Bool} (number blocks : ℕ) (r : Result Bool Side)
    → FitsPlaces (slot one.tree.files number) → FitsPlaces (slot other.tree.files number)
    → ReadsDisk one one₁ (λ t. TellsAny t (slot one.tree.files number)) (Ok told) → told ≡ Some s
    → ReadsDisk other other₁ (λ t. TellsAny t (slot other.tree.files number)) (Ok told') → told' ≡ Some s'
    → s ≡ s' → Compares one₁ one₂ other₁ other₂ (λ same. OnTrue same (MinorsAreSame one₁ other₁ number)) (Ok are_same)
    → are_same ≡ true → s.size ≤ 1024 * blocks
    → Compares one₂ new other₂ new' (λ same. OnTrue same (BlocksAreSame one₂ other₂ number blocks)) r
    → Compares one new other new'
    (λ same. OnTrue same (slot one.tree.files number ≡ slot other.tree.files number)) r
node-done {one} {one₁} {one₂} {other} {other₁} {other₂} new new' {s = s} number blocks r fits other_fits look is look'
    is' same minor agreed enough told =
    compares-then new new' (λ same. OnTrue same (BlocksAreSame one₂ other₂ number blocks))
    (λ same. OnTrue same (slot one.tree.files number ≡ slot other.tree.files number)) r (read-then look.0 minor.0)
    (read-then look'.0 minor.1) (λ same_blocks blocks_are. OnTrue_from same_blocks _ (all same_blocks blocks_are)) told
  where
    minors_are : MinorsAreSame one other number
    minors_are =
        let here : MinorsAreSame one₁ other₁ number = OnTrue_at agreed minor.2 in
        rw (read-files look.0, read-files look'.0) at here

    all : (b : Bool) → OnTrue b (BlocksAreSame one₂ other₂ number blocks) → b ≡ true
        → slot one.tree.files number ≡ slot other.tree.files number
    all b blocks_are agreed =
        let here : BlocksAreSame one₂ other₂ number blocks = OnTrue_at agreed blocks_are in
        slot-by s (1024 * blocks) (slot one.tree.files number) (slot other.tree.files number)
        (subst (λ (t : Option InodeStat). TellsAny t (slot one.tree.files number)) is look.1)
        (subst (λ (t : Option InodeStat). TellsAny t (slot other.tree.files number)) (is' ∙ ap Some (sym same)) look'.1)
        minors_are fits other_fits enough
        (rw (read-files (read-then look.0 minor.0), read-files (read-then look'.0 minor.1)) at here)

-- ---- all nodes

abbrev pub NodesAreSame : Kernel → Kernel → ℕ → Type 0
NodesAreSame one other n = (k : ℕ) → k < n → slot one.tree.files k ≡ slot other.tree.files k

pub node-next : {one mid new other mid' new' : Kernel} (n : ℕ) {same : Bool}
    → SoFar one mid other mid' (NodesAreSame one other n)
    → Compares mid new mid' new' (λ s. OnTrue s (slot mid.tree.files n ≡ slot mid'.tree.files n)) (Ok same)
    → same ≡ true
    → SoFar one new other new' (NodesAreSame one other (n + 1))
node-next {one} {mid} {other = other} {mid'} n before told agreed =
    let here : slot mid.tree.files n ≡ slot mid'.tree.files n = OnTrue_at agreed told.2 in
    let same : slot one.tree.files n ≡ slot other.tree.files n =
    rw (read-files before.read, read-files before.other_read) at here in
    goes-on before told.0 told.1
    (below_more (λ k. slot one.tree.files k ≡ slot other.tree.files k) n before.holds same)

pub all-nodes : {one new other new' : Kernel} (n : ℕ) → SoFar one new other new' (NodesAreSame one other n)
    → length one.tree.files ≡ n → length other.tree.files ≡ n
    → Compares one new other new' (λ same. OnTrue same (one.tree.files ≡ other.tree.files)) (Ok true)
all-nodes {one} {other = other} n so_far long other_long = (
  so_far.read,
  so_far.other_read,
  slots-same one.tree.files other.tree.files (omega arith) (λ k low. so_far.holds k (omega arith)),
)

-- ---- the whole

-- files that are compared last
pub files-last : FittingStatesAreRenumbered → (one new other new' : Kernel) (r : Result Bool Side)
    → AreSameButFiles (state_of one) (state_of other)
    → Compares one new other new' (λ same. OnTrue same (one.tree.files ≡ other.tree.files)) r
    → Compares one new other new' (λ yes. OnTrue yes (AlikeUpToNumbers (state_of one) (state_of other))) r
files-last law one new other new' (Ok same) rest told = (
  told.0,
  told.1,
  OnTrue_from same _ (λ agreed.
      alike-by law (state_of one) (state_of other) rest (OnTrue_at agreed told.2)),
)
files-last law one new other new' (Err One) rest lost = lost
files-last law one new other new' (Err Other) rest lost = lost
