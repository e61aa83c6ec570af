-- Bytes of a node that are read in pieces into a program's memory.
use Rattle.file_transfers.proofs.Common.{◌≡◌, ℕ, ◌+◌, ◌-◌, ◌<◌, ◌≤◌, true, List, [], ◌++◌, length, take, drop, None}
use Rattle.file_transfers.proofs.Common.{Some, is_some, unwrap_or, refl, ap, sym, ◌∙◌, arith, leb-true, drop-drop}
use Rattle.file_transfers.proofs.Common.{length-append, length-drop, length-take, length-take-le, Store, Memory}
use Rattle.file_transfers.proofs.Common.{can_write, reach, IsSized, write-none, ◌^◌, min, Ok, Err, Option, Result}
use Rattle.file_transfers.proofs.Common.{replicate, slice_set, OnErr, take-add, length-replicate, set-get_or, set-set}
use Rattle.file_transfers.proofs.Common.{take_min, SpaceView, Spaces, has_space, view_at, no_pages, with_view, IsRead}
use Rattle.file_transfers.proofs.Common.{Reads, ReadsSome, bytes_of, bytes_read, FileTree, Files, Node, node_bytes}
use Rattle.file_transfers.proofs.Common.{false, get_or-set_same, reach-page, slot}
use Rattle.file_transfers.proofs.Fits.{serves-told}
use Rattle.file_transfers.proofs.Memory.{writes-rest, written-twice}
use Rattle.blockdev.specs.Splice.{part}
use Rattle.spaces.specs.Spaces.{written}
use Rattle.spaces.proofs.SpacesLemmas.{held-same, within}
use Rattle.file_transfers.specs.Moved.{with_bytes}

-- ---- bytes of a node that are read in pieces

-- ---- a piece

-- the bytes in the buffer, and how many
module _ (files : Files) (number offset : ℕ) (node : Node) (here : slot files number ≡ Some node) (old new : List ℕ)
    (k : ℕ) (count : k ≡ min (length old) (length (node_bytes node) - offset))
    (bytes : new ≡ part offset k (node_bytes node) ++ drop k old) where
  abbrev all : List ℕ
  all = drop offset (node_bytes node)

  pub piece-fits : k ≤ length new
  piece-fits = omega (
    arith,
    ap length bytes,
    length-append (take k all) (drop k old),
    length-take-le k all (omega (arith, count, length-drop offset (node_bytes node))),
  )

-- ---- the spaces

pub held-there : (s : Spaces) (at : ℕ) → has_space s at ≡ true → Some (view_at s at) ≡ slot s.places at
held-there s at has = go (slot s.places at) has where
  go : (o : Option SpaceView) → is_some o ≡ true → Some (unwrap_or o no_pages) ≡ o
  go None some = absurd (cc)
  go (Some h) some = refl

pub space-within : (s : Spaces) (at : ℕ) → has_space s at ≡ true → at < length s.places
space-within s at has = within _ at _ (sym (held-there s at has))

-- a slot that has what it had
pub self-held : (s : Spaces) (at : ℕ) → has_space s at ≡ true → s ≡ with_view s at (view_at s at)
self-held s at has = ap (λ (ps : List (Option SpaceView)). record s { places = ps })
    (sym (ap (λ (o : Option SpaceView). slice_set s.places at o) (held-there s at has) ∙ set-get_or s.places at None))

module _ (s : Spaces) (at address : ℕ) (has : has_space s at ≡ true) where
  -- nothing is written
  pub none-written : s ≡ with_bytes s at address []
  none-written = self-held s at has ∙ rw (write-none (view_at s at).memory address) refl

  module _ (bytes : List ℕ) where
    held-with : view_at (with_bytes s at address bytes) at ≡ written (view_at s at) address bytes
    held-with = held-same s at _ (space-within s at has)

    -- bytes that follow
    pub with-more : (more : List ℕ) → IsSized (view_at s at).memory
        → with_bytes (with_bytes s at address bytes) at (address + length bytes) more
        ≡ with_bytes s at address (bytes ++ more)
    with-more more sized =
        rw (held-with, written-twice (view_at s at).memory address bytes more sized)
        (ap (λ (ps : List (Option SpaceView)). record s { places = ps })
        (set-set s.places at (Some (written (view_at s at) address bytes))
        (Some (written (view_at s at) address (bytes ++ more)))))

-- ---- the pieces of a read

-- the bytes so far
pub record HasRead (old now : FileTree) (before after : Spaces) (at number offset address count done : ℕ) : Type 0 where
  pub within : done ≤ count
  pub same : now ≡ record old { failures = now.failures }
  pub later : old.failures ≤ now.failures
  pub some : done ≤ length (bytes_read old.files number offset count)
  pub bytes : after ≡ with_bytes before at address (bytes_read old.files number offset done)

module _ {old now : FileTree} {before after : Spaces} {at number offset address count done : ℕ}
    (has : HasRead old now before after at number offset address count done) where
  abbrev rest : List ℕ
  rest = drop offset (bytes_of (slot old.files number))

  done-low : done ≤ length rest
  done-low = let low = has.some in omega (arith, low, length-take count rest)

  -- it is all of them
  pub read-all : done ≡ length (bytes_read old.files number offset count)
      → IsRead old now number offset count done
      × (after ≡ with_bytes before at address (bytes_read old.files number offset count))
  read-all whole =
      let all : take done rest ≡ take count rest = ap (λ n. take n rest) (whole ∙ length-take count rest)
      ∙ take_min _ _ in
      (record { same = has.same; count = whole }, has.bytes ∙ ap (with_bytes before at address) all)

  pub read-end : count ≤ done → done ≡ length (bytes_read old.files number offset count)
  read-end over = let low = has.some in let high = has.within in omega (arith, over, low, high, length-take count rest)

  -- the read is done
  pub reads-all : old.failed ≡ false → done ≡ length (bytes_read old.files number offset count)
      → Reads old now before after at number offset address count (Ok done)
  reads-all up whole = record {
    serves = serves-told done (read-all whole).0 (ap (λ (t : FileTree). t.failed) has.same ∙ up)
        (ap (λ (t : FileTree). t.identity) has.same) has.later;
    written = (read-all whole).1;
    failed = tt;
  }

  -- the slot still has a space
  pub space-read : has_space before at ≡ true → has_space after at ≡ true
  space-read space = ap (λ (s : Spaces). has_space s at) has.bytes
      ∙ ap is_some (get_or-set_same before.places at (Some (written (view_at before at) address
      (bytes_read old.files number offset done))) None (space-within before at space))

  -- one more piece
  module _ {size got : ℕ} {next : FileTree} (fits : done + size ≤ count)
      (read : IsRead now next number (offset + done) size got) where
    abbrev left : List ℕ
    left = drop done rest

    piece-is : bytes_read now.files number (offset + done) size ≡ take size left
    piece-is = ap (λ (t : FileTree). take size (drop (offset + done) (bytes_of (slot t.files number)))) has.same
        ∙ ap (take size) (sym (drop-drop done offset (bytes_of (slot old.files number))))

    got-is : got ≡ min size (length rest - done)
    got-is = read.count ∙ ap length piece-is ∙ length-take size left ∙ ap (min size) (length-drop done rest)

    more-is : take done rest ++ bytes_read now.files number (offset + done) size ≡ take (done + got) rest
    more-is =
        let same : take size left ≡ take got left = sym (take_min _ _)
        ∙ ap (λ n. take n left) (ap (min size) (length-drop done rest) ∙ sym got-is) in
        ap (λ l. take done rest ++ l) (piece-is ∙ same) ∙ sym (take-add done got rest)

    pub read-short : got < size → done + got ≡ length (bytes_read old.files number offset count)
    read-short short = let low = done-low in omega (arith, low, short, fits, got-is, length-take count rest)

    pub read-more : {more : Spaces} → has_space before at ≡ true → IsSized (view_at before at).memory
        → now.failures ≤ next.failures
        → more ≡ with_bytes after at (address + done) (bytes_read now.files number (offset + done) size)
        → HasRead old next before more at number offset address count (done + got)
    read-more space sized later put =
        let low = done-low in
        let was = has.later in
        let same = has.same in
        let behind : address + done ≡ address + length (take done rest) =
        ap (λ n. address + n) (sym (length-take-le done rest low)) in
        record {
          within = omega (arith, fits, got-is);
          same = read.same ∙ ap (λ (t : FileTree). record t { failures = next.failures }) has.same;
          later = omega (arith, was, later);
          some = omega (arith, low, fits, got-is, length-take count rest);
          bytes = put
              ∙ ap (λ (s : Spaces). with_bytes s
              at (address + done) (bytes_read now.files number (offset + done) size)) has.bytes
              ∙ ap (λ n. with_bytes (with_bytes before at address (take done rest))
              at n (bytes_read now.files number (offset + done) size)) behind
              ∙ with-more before at address space (take done rest) _ sized
              ∙ ap (with_bytes before at address) more-is;
        }

-- nothing is read yet
pub read-none : {t : FileTree} {s : Spaces} {at number offset address count : ℕ} → has_space s at ≡ true
    → HasRead t t s s at number offset address count 0
read-none {t} {s} {at} {number} {offset} {address} {count} has = record {
  within = omega arith;
  same = refl;
  later = omega arith;
  some = omega arith;
  bytes = none-written s at address has;
}

-- ---- a short read

-- the front of its buffer
pub front-long : {count : ℕ} → count ≤ 64 → length (take count (replicate {A = ℕ} 64 0)) ≡ count
front-long {count} low = length-take-le count (replicate 64 0) (omega (arith, low, length-replicate {A = ℕ} 64 0))

-- where it fails nothing was read
pub none-read : {T E : Type 0} (r : Result T E) {before after : Spaces} (at address : ℕ) (files : Files)
    (number offset count : ℕ) → has_space before at ≡ true → after ≡ before
    → OnErr r (ReadsSome before after at address files number offset count)
none-read (Ok x) at address files number offset count has same = tt
none-read (Err e) {before} at address files number offset count has same =
    (0, omega arith, same ∙ none-written before at address has)

-- ---- the next piece

-- the next bytes have offsets and addresses
pub next-low : (mem : Memory) (address : ℕ) {done count : ℕ} → IsSized mem → length mem ≤ 32768
    → can_write mem address count ≡ true → done < count → address + done < 2 ^ 27
next-low mem address {done} {count} sized few can less =
    let whole : count ≤ length (reach Store mem address) = leb-true count (length (reach Store mem address)) can in
    omega (arith, few, (reach-page Store mem address done sized (omega (arith, whole, less))).0)

-- they fit into the buffer
pub size-fits : (buffer : List ℕ) (size done count : ℕ) → done < count → size ≡ min (count - done) 1024
    → done + length (take size buffer) ≤ count
size-fits buffer size done count less is = omega (arith, less, is, length-take size buffer)

pub size-whole : (buffer : List ℕ) (size left : ℕ) → length buffer ≡ 1024 → size ≡ min left 1024
    → length (take size buffer) ≡ size
size-whole buffer size left long is = length-take-le size buffer (omega (arith, long, is))

pub read-writes : {old now : FileTree} {before after : Spaces} {at number offset address count done : ℕ}
    → HasRead old now before after at number offset address count done → has_space before at ≡ true
    → IsSized (view_at before at).memory
    → can_write (view_at before at).memory address count ≡ true → (l : ℕ) → done + l ≤ count
    → can_write (view_at after at).memory (address + done) l ≡ true
read-writes {old} {before = before} {at = at} {number = number} {offset = offset} {address = address} {count = count}
    {done = done} has space sized can l fits =
    let bytes = bytes_read old.files number offset done in
    rw (has.bytes, held-with before at address space bytes) (writes-rest _ _ _ _ l _ sized can fits)
