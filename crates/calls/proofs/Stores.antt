-- A read and a write of a file, whose offset goes on after what was transferred.
use Rattle.calls.proofs.Common.{[], and_parts, Answers, ap, arith, blocks_of, Bool, bytes_of, bytes_read, cond_some}
use Rattle.calls.proofs.Common.{counting, Directory, Done, drop, false, File, file_at, file_of, Files, FileTree}
use Rattle.calls.proofs.Common.{FitsNode, GoesOn, here-as, if◌then◌else◌, IsKernel, IsServed, IsWhole, Kernel, leb-true}
use Rattle.calls.proofs.Common.{length, length-drop, length-take, List, longest, low, me, minus_one, nat_le, Node}
use Rattle.calls.proofs.Common.{node_bytes, None, none-some, OnNode, opens-moved, Option, option_map, Pending}
use Rattle.calls.proofs.Common.{pending_arg, put, put_process, read_on, refl, Refused, Refuses, room_for, same_Some}
use Rattle.calls.proofs.Common.{slot, Some, State, state_of, subst, sym, take, Target, target_of, Transfers, true, Uses}
use Rattle.calls.proofs.Common.{wanted, with_tree, write_bytes, write_on, wrote, wrote-state, ℕ, ◌&&◌, ◌+◌, ◌<◌, ◌==◌}
use Rattle.calls.proofs.Common.{◌^◌, ◌∙◌, ◌≡◌, ◌≤◌}
use Rattle.unixmodel.specs.FileCalls.{read_file, read_node, with_file, with_offset, write_node}
use Rattle.kernel.specs.Opening.{advanced, HasFetched, HasStored, MayMove}
use Rattle.tree.proofs.Storing.{whole-node}
use Rattle.files.specs.declared.file.End.{End}
use Rattle.files.specs.declared.file.OpenFile.{OpenFile}
use Rattle.files.specs.Places.{opens_of, moved}
use Rattle.file_transfers.proofs.Fits.{greatest-low}
use Rattle.kernel.proofs.Joined.{IsNamed}
use Rattle.kernel.proofs.Ending.{counting-kernel}
use Rattle.tree.specs.Stored.{FitsPlaces}
use Rattle.tree.specs.Written.{count_of, files_after, fitting, IsFile, with_bytes, Written, written}
use Rattle.unixmodel.specs.Image.{KeepsSize}
use Rattle.calls.proofs.Acts.{goes-serves, going, going-here, refuses-on}
use Rattle.calls.proofs.Transfers.{file, file-fits, file-named, given_bytes, going-is, length-given, read-given, here}
use Rattle.calls.proofs.Transfers.{is-for, named-number}
use Rattle.calls.specs.Transfers.{target_for}
use Rattle.calls.specs.declared.transfer_calls.Transfer.{Transfer}
use Rattle.files.specs.declared.file.End.TheVariants as end
use Rattle.files.specs.declared.file.Target.TheVariants as target
use Rattle.unixmodel.specs.OpenFiles as unix_files
use Rattle.unixmodel.specs.Process as unix
use Rattle.unixmodel.specs.Memory.{overwrite}

-- a number below 2^32 is its low 32 bits
low-same : (n m : ℕ) → n ≤ m → m < 2 ^ 32 → low n ≡ n
low-same n m few short = omega (arith, few, short)

-- n bytes were transferred, which end within the longest file
module _ {k : Kernel} {i : ℕ} {e : End} {number offset : ℕ} {w : Pending}
    (g : Transfers k i e (target.File number offset) w) (n : ℕ) (near : offset + n ≤ longest) where
  same : low n ≡ n
  same = low-same n longest (omega (arith, near)) (omega arith)

  moves-near : offset + low n < 2 ^ 32
  moves-near = let cut = same in omega (arith, near, cut)

  moves-may : {m : Kernel} → m.files ≡ k.files → {id l : ℕ} → id ≡ (file g).number → l ≡ low n
      → MayMove m id (offset + l)
  moves-may files named cut =
      rw (named, cut, same) (record {
        number = number;
        old = offset;
        on = ap (λ t. option_map (λ (f : OpenFile). f.target) (file_at t (file g).number)) files
            ∙ ap (option_map (λ (f : OpenFile). f.target)) (file g).opened ∙ ap Some (file g).on;
        within = near;
      })

  moved-opens : opens_of (moved k.files (file g).number (offset + n))
      ≡ put (opens_of k.files) (file g).number (record (file_of (file g).file) { target = OnNode number (offset + n) })
  moved-opens = opens-moved k.files (file g).number (offset + n) number offset (file g).file (file g).opened (file g).on

  -- m, which is z, is what the transfer left, and new what goes on after it
  moves-done : {m z new : Kernel} → m ≡ z → z.spaces.active ≡ k.spaces.active → {id l : ℕ} → id ≡ (file g).number
      → l ≡ low n → new ≡ advanced m id (offset + l) → IsKernel new → IsServed k.tree m.tree
      → (answer : ℕ) → going (here g) w ≡ Done (state_of (advanced z (file g).number (offset + n))) answer []
      → GoesOn k new i w (Answers answer)
  moves-done {m} {z} {new} left active {l = l} named cut is sound served answer row =
      let at = (file g).number in
      let made : new ≡ advanced z at (offset + n) = is ∙ ap (λ (j : ℕ). advanced m j (offset + l)) named
      ∙ ap (λ (d : ℕ). advanced m at (offset + d)) (cut ∙ same)
      ∙ ap (λ (y : Kernel). advanced y at (offset + n)) left in
      let tree : new.tree ≡ m.tree = ap (λ (y : Kernel). y.tree) is in
      goes-serves (here g) w answer
      (here-as (here g) sound made active (ap (λ (t : FileTree). t.failed) tree ∙ served.up)) (rw tree served)
      (row ∙ ap (λ (s : State). Done s answer []) (sym (ap state_of made)))

-- ---- a read

-- a node that has bytes
pub record HasBytes (o : Option Node) (offset : ℕ) : Type 0 where
  pub node : Node
  pub here : o ≡ Some node
  pub near : offset ≤ longest
  pub reads : (s : State) (i : ℕ) (p : unix.Process) (w : Pending) (k : ℕ) (f : unix_files.OpenFile) (n at : ℕ)
      → read_file s i p w k f n at node ≡ read_node s i p w k f n at (node_bytes node)

has-bytes : (f : OpenFile) (n offset : ℕ) (o : Option Node) → FitsNode f (target.File n offset) o → HasBytes o offset
has-bytes f n offset (Some (File links bytes)) fits =
    record { node = File links bytes; here = refl; near = fits; reads = λ s i p w k f n at. refl }
has-bytes f n offset (Some (Directory links places)) fits =
    record { node = Directory links places; here = refl; near = fits.0; reads = λ s i p w k f n at. refl }
has-bytes f n offset _ fits = absurd fits

-- the row
reads-file : (s : State) (i : ℕ) (p : unix.Process) (w : Pending) (f : unix_files.OpenFile)
    (is : IsNamed s p (low (pending_arg w 0)) f) (n at : ℕ) → f.target ≡ OnNode n at → (node : Node)
    → slot s.files n ≡ Some node
    → read_on s i p w ≡ read_file s i p w is.number f n at node
unfolding read_on
reads-file s i p w f is n at on node here = rw (is.named, is.opened, on, here) refl

module _ {k : Kernel} {i : ℕ} {x : Transfer} {number offset : ℕ} (u : Uses k i end.Read x)
    (on : x.target ≡ target.File number offset) where
  abbrev g : Transfers k i end.Read (target.File number offset) x.pending
  g = subst (λ (t : Target). Transfers k i end.Read t x.pending) on u.goes

  read-number : x.id ≡ (file g).number
  read-number = named-number g u.named

  abbrev count : ℕ
  count = wanted x.pending

  abbrev address : ℕ
  address = pending_arg x.pending 1

  pub content : HasBytes (slot k.tree.files number) offset
  content = has-bytes (file g).file number offset (slot k.tree.files number) (file-fits g)

  -- the bytes that are read
  abbrev piece : List ℕ
  piece = bytes_read k.tree.files number offset count

  abbrev bytes : List ℕ
  bytes = take count (drop offset (node_bytes content.node))

  piece-is : piece ≡ bytes
  piece-is = ap (λ (o : Option Node). take count (drop offset (bytes_of o))) content.here

  -- m is what the read left, and new what goes on after it
  module _ (whole : IsWhole k.tree) {m : Kernel} {n c : ℕ} (wide : c ≡ count)
      (fetched : HasFetched k m i number offset address c n) where
    told : HasFetched k m i number offset address count n
    told = rw wide at fetched

    reads-within : offset + n ≤ longest
    reads-within =
        let c = content in
        let same : length piece ≡ length bytes = ap length piece-is in
        let size = whole-node c.node (subst FitsPlaces c.here (whole.places number)) in
        let used = (here g).sound.used (here g).up in
        let short = subst KeepsSize c.here (used.rules.sizes number) in
        omega (
          arith,
          same,
          size,
          short,
          c.near,
          length-take count (drop offset (node_bytes c.node)),
          length-drop offset (node_bytes c.node),
          told.counted,
        )

    pub reads-near : offset + low n < 2 ^ 32
    reads-near = moves-near g n reads-within

    pub reads-may : {l : ℕ} → l ≡ low n → MayMove m x.id (offset + l)
    reads-may = moves-may g n reads-within (ap (λ (y : Kernel). y.files) told.same) read-number

    -- the state with that
    abbrev left : ℕ → ℕ → List ℕ → State
    left o at bs = record (put_process (state_of k) i
        (record (me (here g)) { memory = write_bytes (here g).held.memory at bs })) {
          opens = put (opens_of k.files) (file g).number
              (record (file_of (file g).file) { target = OnNode number (offset + o) });
        }

    left-is : state_of (advanced (counting (wrote k i address piece) m.tree.failures) (file g).number (offset + n))
        ≡ left n address piece
    left-is =
        ap (λ (s : State). record s { opens = opens_of (moved k.files (file g).number (offset + n)) })
        (wrote-state (here g).run (here g).sound address piece)
        ∙ ap (λ (os : List (Option unix_files.OpenFile)). record (left n address piece) { opens = os })
        (moved-opens g n reads-within)

    pub reads-done : {new : Kernel} {l : ℕ} → l ≡ low n → new ≡ advanced m x.id (offset + l) → IsKernel new
        → IsServed k.tree m.tree → GoesOn k new i x.pending (Answers n)
    reads-done cut is sound served =
        let c = content in
        let start = u.start in
        let from : address + x.pending.done ≡ address = omega (arith, start) in
        moves-done g n reads-within told.same refl read-number cut is sound served n (
        going-is g
        ∙ reads-file (state_of k) i (me (here g)) x.pending (file_of (file g).file) (file-named g) number offset
        (ap target_of (file g).on) c.node c.here
        ∙ c.reads (state_of k) i (me (here g)) x.pending (file g).number (file_of (file g).file) number offset
        ∙ ap (λ (at : ℕ). Done (left (length bytes) at bytes) (length bytes) []) from
        ∙ ap (λ (bs : List ℕ). Done (left (length bs) address bs) (length bs) []) (sym piece-is)
        ∙ ap (λ (o : ℕ). Done (left o address piece) o []) (sym told.counted)
        ∙ ap (λ (s : State). Done s n []) (sym left-is))

-- ---- a write: the row

-- what such a write leaves, and what it returns
record IsStored (s : State) (k : ℕ) (f : unix_files.OpenFile) (n at links : ℕ) (old new : List ℕ) (v : Written) : Type
    0 where
  row : write_node s k f n at links old new
      ≡ Done (record (with_offset s k f n (at + v.count)) { files = v.files })
      (if v.count == length new then v.count else minus_one) []
  low : at + length new ≤ longest
  few : v.count ≤ length new

module _ (s : State) (k : ℕ) (f : unix_files.OpenFile) (n at links : ℕ) (old new : List ℕ)
    (here : slot s.files n ≡ Some (File links old)) where
  abbrev test : Bool
  test = nat_le at (length old) && nat_le (at + length new) longest

  abbrev made : Written
  made = with_bytes s.files n at links old new (fitting s.block_limit s.files n at links old new)

  written-is : written s.block_limit s.files n at new ≡ (if test then Some made else None)
  unfolding written
  written-is = rw here refl

  is-made : test ≡ true → IsStored s k f n at links old new made
  unfolding fitting room_for
  is-made is = record {
    row = rw is refl;
    low = leb-true (at + length new) longest
        (and_parts (nat_le at (length old)) (nat_le (at + length new) longest) is).1;
    few = greatest-low (λ m. nat_le (blocks_of (with_file s.files n links (overwrite old at (take m new))))
        s.block_limit) (length new);
  }

  is-stored : (v : Written) → written s.block_limit s.files n at new ≡ Some v → IsStored s k f n at links old new v
  is-stored v same = let parts =
      cond_some test made v (sym written-is ∙ same)
      in subst (IsStored s k f n at links old new) parts.1 (is-made parts.0)

  refused-go : (b : Bool) → test ≡ b → (if b then Some made else None) ≡ None
      → write_node s k f n at links old new ≡ Refused
  refused-go true is same = absurd (none-some made (sym same))
  refused-go false is same = rw is refl

  is-refused : written s.block_limit s.files n at new ≡ None → write_node s k f n at links old new ≡ Refused
  is-refused same = refused-go test refl (sym written-is ∙ same)

-- how many were written, if any
some-count : (o : Option Written) (n : ℕ) → Some n ≡ count_of o → (v : Written) × (o ≡ Some v) × (v.count ≡ n)
some-count None n is = absurd (none-some n (sym is))
some-count (Some v) n is = (v, refl, sym (same_Some n v.count is))

none-count : (o : Option Written) → None ≡ count_of o → o ≡ None
none-count None is = refl
none-count (Some v) is = absurd (none-some v.count is)

-- a file that is open for writing
open-file : (f : OpenFile) (n offset : ℕ) (files : Files) (o : Option Node) → slot files n ≡ o → f.writable ≡ true
    → FitsNode f (target.File n offset) o → IsFile files n
open-file f n offset files (Some (File links bytes)) here writable fits =
    record { links = links; bytes = bytes; here = here }
open-file f n offset files (Some (Directory links places)) here writable fits =
    absurd (let bad : true ≡ false = sym writable ∙ fits.1 in cc)
open-file f n offset files _ here writable fits = absurd fits

-- ---- the write

module _ {k : Kernel} {i : ℕ} {x : Transfer} {number offset : ℕ} (u : Uses k i end.Write x)
    (on : x.target ≡ target.File number offset) where
  abbrev to : Transfers k i end.Write (target.File number offset) x.pending
  to = subst (λ (t : Target). Transfers k i end.Write t x.pending) on u.goes

  write-number : x.id ≡ (file to).number
  write-number = named-number to u.named

  pub is-file : IsFile k.tree.files number
  is-file = open-file (file to).file number offset k.tree.files (slot k.tree.files number) refl
      (is-for end.Write (file to).file x.target (subst (λ o. target_for end.Write o ≡ Some x.target)
      (ap (file_at k.files) write-number ∙ (file to).opened) u.may)).may
      (file-fits to)

  abbrev went : Option Written
  went = written k.tree.block_limit k.tree.files number offset (given_bytes to)

  stores-row : going (here to) x.pending
      ≡ write_node (state_of k) (file to).number (file_of (file to).file) number offset is-file.links is-file.bytes
      (given_bytes to)
  unfolding write_on
  stores-row = let f = file-named to in going-is to
      ∙ rw (f.named, f.opened, read-given to, (file to).on, is-file.here) refl

  -- m is what the write left
  module _ {m : Kernel} {c : ℕ} {r : Option ℕ} (wide : c ≡ wanted x.pending)
      (stores : HasStored k m i number offset (pending_arg x.pending 1) c r) where
    stored : HasStored k m i number offset (pending_arg x.pending 1) (wanted x.pending) r
    stored = rw wide at stores

    -- nothing is written
    pub writes-refused : r ≡ None → IsServed k.tree m.tree → GoesOn k m i x.pending Refuses
    writes-refused none served =
        let gone = none-count went (sym none ∙ stored.counted) in
        let failures = m.tree.failures in
        let same : m ≡ counting k failures = stored.same ∙ ap (λ (v : Option Written). with_tree k
        (record k.tree { files = files_after k.tree.files v; failures = failures })) gone in
        let refused = going-here (here to) x.pending ∙ stores-row
        ∙ is-refused (state_of k) (file to).number (file_of (file to).file) number offset is-file.links
        is-file.bytes (given_bytes to) is-file.here gone in
        record {
          comes = refuses-on refused (ap state_of same)
              (ap (λ (y : Kernel). y.spaces.active) same ∙ (here to).run.active)
              (subst IsKernel (sym same) (counting-kernel k failures (here to).sound)) served;
          within =
              rw refused refl;
        }

    module _ {n : ℕ} (some : r ≡ Some n) where
      written-so : (v : Written) × (went ≡ Some v) × (v.count ≡ n)
      written-so = some-count went n (sym some ∙ stored.counted)

      store-is : IsStored (state_of k) (file to).number (file_of (file to).file) number offset is-file.links
          is-file.bytes (given_bytes to) written-so.0
      store-is = is-stored (state_of k) (file to).number (file_of (file to).file) number offset is-file.links
          is-file.bytes (given_bytes to) is-file.here written-so.0 written-so.1

      writes-within : offset + n ≤ longest
      writes-within = omega (arith, store-is.low, store-is.few, written-so.2)

      pub writes-near : offset + low n < 2 ^ 32
      writes-near = moves-near to n writes-within

      pub writes-may : {l : ℕ} → l ≡ low n → MayMove m x.id (offset + l)
      writes-may = moves-may to n writes-within (ap (λ (y : Kernel). y.files) stored.same) write-number

      abbrev z : Kernel
      z = with_tree k (record k.tree { files = files_after k.tree.files went; failures = m.tree.failures })

      abbrev kept : ℕ → State
      kept o = record (with_offset (state_of k) (file to).number (file_of (file to).file) number (offset + o))
          { files = written-so.0.files }

      kept-is : state_of (advanced z (file to).number (offset + n)) ≡ kept n
      kept-is =
          ap (λ (o : Option Written). record (state_of k)
          { files = files_after k.tree.files o; opens = opens_of (moved k.files (file to).number (offset + n)) })
          written-so.1
          ∙ ap (λ (os : List (Option unix_files.OpenFile)). record (kept n) { opens = os })
          (moved-opens to n writes-within)

      pub writes-done : {last : Kernel} {l : ℕ} → l ≡ low n → last ≡ advanced m x.id (offset + l) → IsKernel last
          → IsServed k.tree m.tree → {answer : ℕ} → answer ≡ (if n == c then n else minus_one)
          → GoesOn k last i x.pending (Answers answer)
      writes-done cut is sound served {answer} answers =
          moves-done to n writes-within stored.same refl write-number cut is sound served answer (
          stores-row ∙ store-is.row
          ∙ ap (λ (o : ℕ). Done (kept o) (if o == length (given_bytes to) then o else minus_one) []) written-so.2
          ∙ ap (λ (s : State). Done s (if n == length (given_bytes to) then n else minus_one) []) (sym kept-is)
          ∙ ap (λ (o : ℕ). Done (state_of (advanced z (file to).number (offset + n))) o [])
          (ap (λ (l : ℕ). if n == l then n else minus_one) (length-given to ∙ sym wide) ∙ sym answers))
