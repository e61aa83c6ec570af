-- Bytes of a program that are written into a file in pieces.
use Rattle.file_transfers.proofs.Common.{◌≡◌, ℕ, zero, suc, ◌+◌, ◌-◌, ◌<◌, ◌≤◌, ◌^◌, ◌⊎◌, inl, inr, Bool, false, true}
use Rattle.file_transfers.proofs.Common.{List, [], ◌++◌, length, take, min, None, Ok, Option, Some, is_some, unwrap_or}
use Rattle.file_transfers.proofs.Common.{slice_set, refl, ap, subst, sym, ◌∙◌, arith, nat_le, ◌&&◌, take-append-add}
use Rattle.file_transfers.proofs.Common.{cases_eq, cases_lt, cond-true, false≢true, leb-false, lt-leb, get_or-set_same}
use Rattle.file_transfers.proofs.Common.{length-take, length-take-le, set-get_or, set-set, take-take, take_min}
use Rattle.file_transfers.proofs.Common.{FileTree, Serves, Load, Files, Node, longest, put, File, Memory, overwrite}
use Rattle.file_transfers.proofs.Common.{reach, read_bytes, IsSized, piece_at, length-piece, reach-front, reach-next}
use Rattle.file_transfers.proofs.Common.{reach-page}
use Rattle.std.proofs.lemmas.Bool.Decides.{nat_tests}
use Rattle.file_transfers.proofs.Memory.{length-overwrite, overwrite-none, overwrite-twice, readable-count}
use Rattle.tree.specs.Written.{IsFile, Written, count_of, files_after, fitting, with_bytes, write_to, written}
use Rattle.tree.proofs.Stored.{taken-grows}
use Rattle.tree.proofs.Storing.{blocks_of-set, slot-within}
use Rattle.unixmodel.specs.Counts.{blocks_of}
use Rattle.unixmodel.specs.FileCalls.{greatest, with_file}

-- ---- the greatest number that passes

-- no number up to n that is greater passes
record IsGreatest (test : ℕ → Bool) (n k : ℕ) : Type 0 where
  low : k ≤ n
  passes : (k ≡ 0) ⊎ (test k ≡ true)
  above : (j : ℕ) → k < j → j ≤ n → test j ≡ false

greatest-stands : {test : ℕ → Bool} (n : ℕ) → IsGreatest test n (greatest test n)
greatest-stands zero = record
    { low = omega arith; passes = inl refl; above = λ j above low. absurd (omega (arith, above, low)) }
greatest-stands {test} (suc n) = go (greatest-stands n) (test (suc n)) refl where
  go : IsGreatest test n (greatest test n) → (b : Bool) → test (suc n) ≡ b
      → IsGreatest test (suc n) (elim b [ true ↦ suc n | false ↦ greatest test n ])
  go rest true e = record {
    low = omega arith;
    passes = inr e;
    above = λ j above low. absurd (omega (arith, above, low));
  }
  go rest false e = let within = rest.low in record {
    low = omega (arith, within);
    passes = rest.passes;
    above = λ j above low. elim (cases_eq j (suc n)) [
      | inl same ↦ ap test same ∙ e
      | inr other ↦ rest.above j above (omega (arith, low, other))
    ];
  }

pub greatest-low : (test : ℕ → Bool) (n : ℕ) → greatest test n ≤ n
greatest-low test n = (greatest-stands {test = test} n).low

not-above : {test : ℕ → Bool} {n j k : ℕ} → IsGreatest test n j → IsGreatest test n k → j < k → ⊥
not-above {k} first second less = elim second.passes [
  | inl none ↦ omega (arith, none, less)
  | inr e ↦ absurd (false≢true (sym (first.above k less second.low) ∙ e))
]

greatest-is : (test : ℕ → Bool) {n : ℕ} (j k : ℕ) → IsGreatest test n j → IsGreatest test n k → j ≡ k
greatest-is test {n} j k first second = elim (cases_lt j k) [
  | inl less ↦ absurd (not-above first second less)
  | inr more ↦ elim (cases_eq j k) [
    | inl same ↦ same
    | inr other ↦ absurd (not-above second first (omega (arith, more, other)))
  ]
]

-- ---- a file of which the first bytes are written

-- a write from an offset of the file on, which gets no longer than files may be
pub record Writes (limit : ℕ) (files : Files) (n at : ℕ) (new : List ℕ) : Type 0 where
  pub file : IsFile files n
  pub start : at ≤ length file.bytes
  pub short : at + length new ≤ longest

module _ {limit : ℕ} {files : Files} {n at : ℕ} {new : List ℕ} (w : Writes limit files n at new) where
  abbrev front : ℕ → Files
  front k = with_file files n w.file.links (overwrite w.file.bytes at (take k new))

  abbrev test : ℕ → Bool
  test k = nat_le (blocks_of (front k)) limit

  abbrev fits-all : ℕ
  fits-all = fitting limit files n at w.file.links w.file.bytes new

  inside : n < length files
  inside = slot-within files n (File w.file.links w.file.bytes) w.file.here

  pub written-some : written limit files n at new ≡ Some (with_bytes files n at w.file.links w.file.bytes new fits-all)
  unfolding written
  written-some =
      ap (write_to limit files n at new) w.file.here
      ∙ cond-true (nat_le at (length w.file.bytes) && nat_le (at + length new) longest)
      (Some (with_bytes files n at w.file.links w.file.bytes new fits-all)) None
      (grind (arith, nat_tests, w.start, w.short))

  length-front : (k : ℕ) → k ≤ length new
      → length (overwrite w.file.bytes at (take k new)) ≡ at + k + (length w.file.bytes - (at + k))
  length-front k low = omega (arith, length-overwrite w.file.bytes at (take k new) w.start, length-take-le k new low)

  -- more bytes take no fewer blocks
  front-grows : (j k : ℕ) → j ≤ k → k ≤ length new → blocks_of (front j) ≤ blocks_of (front k)
  front-grows j k less high =
      let xs = overwrite w.file.bytes at (take j new) in
      let ys = overwrite w.file.bytes at (take k new) in
      let b = blocks_of-set files n (Some (File w.file.links xs)) inside in
      let c = blocks_of-set files n (Some (File w.file.links ys)) inside in
      let grows = taken-grows (length xs) (length ys)
      (omega (arith, less, length-front j (omega (arith, less, high)), length-front k high)) in
      omega (arith, b, c, grows)

  test-falls : {j : ℕ} (k : ℕ) → j ≤ k → k ≤ length new → test j ≡ false → test k ≡ false
  test-falls {j} k less high over =
      lt-leb (blocks_of (front k)) limit
      (omega (arith, leb-false (blocks_of (front j)) limit over, front-grows j k less high))

  -- that many are written, and no more
  fitting-stands : IsGreatest test (length new) fits-all
  unfolding fitting
  fitting-stands = greatest-stands (length new)

  -- what a write of them leaves
  pub told-written : {k : ℕ} → fits-all ≡ k
      → (files_after files (written limit files n at new) ≡ front k)
      × (Some k ≡ count_of (written limit files n at new))
  told-written is = rw (written-some, is) (refl, refl)

  -- nothing is written yet
  pub front-none : front 0 ≡ files
  front-none = ap (λ bytes. put files n (File w.file.links bytes)) (overwrite-none at)
      ∙ ap (λ (o : Option Node). slice_set files n o) (sym w.file.here) ∙ set-get_or files n None

-- ---- the pieces of a write

pub serves-told : {T : Type 0} {old now : FileTree} {Told : T → Type 0} (x : T) → Told x → now.failed ≡ false
    → now.identity ≡ old.identity → old.failures ≤ now.failures → Serves old now (Ok x) Told
serves-told x told up same later =
    record {
      told = told;
      up = up;
      down = tt;
      same_device = same;
      cause = record { later = later; failed = λ e. absurd (false≢true e) };
    }

-- the next piece of some bytes
pub record IsPiece (new : List ℕ) (done : ℕ) (q : List ℕ) : Type 0 where
  pub some : 0 < length q
  pub within : done + length q ≤ length new
  pub part : take done new ++ q ≡ take (done + length q) new

-- what a write returns
abbrev pub Tells : FileTree → FileTree → ℕ → ℕ → List ℕ → Option ℕ → Type 0
Tells old now n at new told =
    (now ≡ record old {
      files = files_after old.files (written old.block_limit old.files n at new);
      failures = now.failures;
    }) × (told ≡ count_of (written old.block_limit old.files n at new))

-- the first bytes are written, and there are blocks for them
pub record HasWritten (old now : FileTree) (n at : ℕ) (new : List ℕ) (done : ℕ) : Type 0 where
  pub within : done ≤ length new
  pub writes : Writes old.block_limit old.files n at new
  pub open writes use *
  pub same : now ≡ record old
      { files = with_file old.files n file.links (overwrite file.bytes at (take done new)); failures = now.failures }
  pub fits : (done ≡ 0) ⊎ (nat_le
      (blocks_of (with_file old.files n file.links (overwrite file.bytes at (take done new)))) old.block_limit ≡ true)
  pub later : old.failures ≤ now.failures

-- where the offset lies past the end, or the file would be too long, nothing is written
pub write-refused : (old : FileTree) {now : FileTree} {n at : ℕ} (new : List ℕ) (file : IsFile old.files n)
    → now ≡ record old { failures = now.failures } → (length file.bytes < at) ⊎ (longest < at + length new)
    → Tells old now n at new None
unfolding written
write-refused old {now} {n} {at} new file same over =
    let never : (nat_le at (length file.bytes) && nat_le (at + length new) longest) ≡ false =
    grind (arith, nat_tests, over) in
    let none : written old.block_limit old.files n at new ≡ None = rw (file.here, never) refl in (
      same ∙ ap (λ (o : Option Written). record old { files = files_after old.files o; failures = now.failures })
          (sym none),
      ap count_of (sym none),
    )

pub write-begun : {old now : FileTree} {n at : ℕ} {new : List ℕ} (file : IsFile old.files n) → at ≤ length file.bytes
    → at + length new ≤ longest → now ≡ record old { failures = now.failures } → old.failures ≤ now.failures
    → HasWritten old now n at new 0
write-begun {old} {now} {n} {at} {new} file start short same later = record {
  within = omega arith;
  writes = record { file = file; start = start; short = short };
  same = same ∙ ap (λ (f : Files). record old { files = f; failures = now.failures })
      (sym (front-none {limit = old.block_limit} (record { file = file; start = start; short = short })));
  fits = inl refl;
  later = later;
}

module _ {old now : FileTree} {n at : ℕ} {new : List ℕ} {done : ℕ} (has : HasWritten old now n at new done) where
  abbrev first : ℕ → Files
  first k = with_file old.files n has.file.links (overwrite has.file.bytes at (take k new))

  tells-first : {next : FileTree} {k : ℕ} → IsGreatest (test has.writes) (length new) k
      → next ≡ record old { files = first k; failures = next.failures } → Tells old next n at new (Some k)
  tells-first {next} {k} stands same =
      let told = told-written has.writes (greatest-is _ _ k (fitting-stands has.writes) stands) in
      (same ∙ ap (λ (f : Files). record old { files = f; failures = next.failures }) (sym told.0), told.1)

  pub write-serves : {T : Type 0} {Told : T → Type 0} → old.failed ≡ false → {x : T} → Told x
      → Serves old now (Ok x) Told
  write-serves up {x} told =
      serves-told x told (ap (λ (t : FileTree). t.failed) has.same ∙ up) (ap (λ (t : FileTree). t.identity) has.same)
      has.later

  -- all are written
  pub write-all : length new ≤ done → Tells old now n at new (Some done)
  write-all over =
      tells-first (record {
        low = has.within;
        passes = has.fits;
        above = λ j above high. absurd (omega (arith, above, high, over));
      }) has.same

  abbrev mid : IsFile (first done) n
  mid = record {
    links = has.file.links;
    bytes = overwrite has.file.bytes at (take done new);
    here = get_or-set_same old.files n (Some (File has.file.links (overwrite has.file.bytes at (take done new)))) None
        (slot-within old.files n (File has.file.links has.file.bytes) has.file.here);
  }

  pub file-now : IsFile now.files n
  file-now = subst (λ (t : FileTree). IsFile t.files n) (sym has.same) mid

  -- one more piece
  module _ {q : List ℕ} (piece : IsPiece new done q) where
    fits : done + length q ≤ length new
    fits = piece.within

    mid-start : at + done ≤ length (overwrite has.file.bytes at (take done new))
    mid-start = omega (arith, length-front has.writes done (omega (arith, fits)))

    mid-short : at + done + length q ≤ longest
    mid-short = let short = has.short in omega (arith, short, fits)

    done-length : length (take done new) ≡ done
    done-length = length-take-le done new (omega (arith, fits))

    joined : (k : ℕ) → k ≤ length q → take done new ++ take k q ≡ take (done + k) new
    joined k low =
        sym (take-append-add (take done new) q k)
        ∙ ap (λ m. take (m + k) (take done new ++ q)) done-length
        ∙ ap (take (done + k)) piece.part
        ∙ take-take (done + k) (done + length q) new (omega (arith, low))

    -- bytes of the piece after the first ones
    joins : {k : ℕ} → k ≤ length q
        → with_file (first done) n has.file.links
        (overwrite (overwrite has.file.bytes at (take done new)) (at + done) (take k q)) ≡ first (done + k)
    joins {k} low =
        ap (λ m. with_file (first done) n has.file.links
        (overwrite (overwrite has.file.bytes at (take done new)) (at + m) (take k q))) (sym done-length)
        ∙ ap (with_file (first done) n has.file.links) (overwrite-twice _ _ _ has.start)
        ∙ set-set old.files n (Some (File has.file.links (overwrite has.file.bytes at (take done new))))
        (Some (File has.file.links (overwrite has.file.bytes at (take done new ++ take k q))))
        ∙ ap (λ bytes. with_file old.files n has.file.links (overwrite has.file.bytes at bytes)) (joined k low)

    abbrev piece-writes : Writes old.block_limit (first done) n (at + done) q
    piece-writes = record { file = mid; start = mid-start; short = mid-short }

    abbrev piece-fits : ℕ
    piece-fits = fits-all piece-writes

    module _ {next : FileTree} {told : Option ℕ} (tells : Tells now next n (at + done) q told) where
      told-is : told ≡ Some piece-fits
      told-is = tells.1 ∙ ap (λ (t : FileTree). count_of (written t.block_limit t.files n (at + done) q)) has.same
          ∙ ap count_of (written-some piece-writes)

      -- a write that is refused would have begun elsewhere
      pub never-refused : is_some told ≡ true
      never-refused = ap is_some told-is

      module _ (k : ℕ) (went : told ≡ Some k) where
        went-is : piece-fits ≡ k
        went-is = let e : Some piece-fits ≡ Some k = sym told-is ∙ went in cc

        stands : IsGreatest (test piece-writes) (length q) k
        stands = subst (IsGreatest (test piece-writes) (length q)) went-is (fitting-stands piece-writes)

        pub went-low : k ≤ length q
        went-low = stands.low

        next-first : next ≡ record old { files = first (done + k); failures = next.failures }
        next-first =
            tells.0
            ∙ ap (λ (t : FileTree). record t {
              files = files_after t.files (written t.block_limit t.files n (at + done) q);
              failures = next.failures;
            }) has.same
            ∙ ap (λ (f : Files). record old { files = f; failures = next.failures })
            ((told-written piece-writes went-is).0 ∙ joins went-low)

        -- where some are written, there are blocks for them
        passes : (done + k ≡ 0) ⊎ (nat_le (blocks_of (first (done + k))) old.block_limit ≡ true)
        passes = elim stands.passes [
          | inr can ↦ inr (ap (λ (f : Files). nat_le (blocks_of f) old.block_limit) (sym (joins went-low)) ∙ can)
          | inl none ↦ let e : done ≡ done + k =
              omega (arith, none) in subst (λ j. (j ≡ 0) ⊎ (nat_le (blocks_of (first j)) old.block_limit ≡ true)) e
              has.fits
        ]

        pub write-more : now.failures ≤ next.failures → HasWritten old next n at new (done + k)
        write-more later = let was = has.later in record {
          within = omega (arith, fits, went-low);
          writes = has.writes;
          same = next-first;
          fits = passes;
          later = omega (arith, was, later);
        }

        -- there are no blocks for more
        pub write-part : k < length q → Tells old next n at new (Some (done + k))
        write-part less =
            let over : (j : ℕ) → done + k < j → j ≤ done + length q
            → nat_le (blocks_of (first j)) old.block_limit ≡ false = λ j above high.
            let e : done + (j - done) ≡ j = omega (arith, above) in
            let low : j - done ≤ length q = omega (arith, high) in
            ap (λ i. nat_le (blocks_of (first i)) old.block_limit) (sym e)
            ∙ ap (λ (f : Files). nat_le (blocks_of f) old.block_limit) (sym (joins low))
            ∙ stands.above (j - done) (omega (arith, above)) low in
            let past : (j : ℕ) → done + k < j → j ≤ length new
            → nat_le (blocks_of (first j)) old.block_limit ≡ false =
            λ j above high. elim (cases_lt (done + length q) j) [
              | inr near ↦ over j above near
              | inl far ↦ test-falls has.writes j (omega (arith, far)) high
                  (over (done + length q) (omega (arith, less)) (omega arith))
            ] in
            tells-first (record { low = omega (arith, fits, less); passes = passes; above = past }) next-first

-- ---- the bytes of a program

module _ (mem : Memory) (address count : ℕ) (readable : is_some (read_bytes mem address count) ≡ true) where
  abbrev given : List ℕ
  given = unwrap_or (read_bytes mem address count) []

  -- bytes that can be read are the first that are reached
  given-is : (count ≤ length (reach Load mem address)) × (given ≡ take count (reach Load mem address))
  given-is = readable-count _ _ _ readable

  pub given-length : length given ≡ count
  given-length = ap length given-is.1 ∙ length-take-le count (reach Load mem address) given-is.0

  pub count-low : IsSized mem → length mem ≤ 32768 → count < 2 ^ 28
  count-low sized few = elim (cases_lt 0 count) [
    | inr none ↦ omega (arith, none)
    | inl some ↦ let all = given-is.0
        in omega (arith, (reach-page Load mem address (count - 1) sized (omega (arith, all, some))).0, few)
  ]

  -- all of them lie in one page
  pub given-whole : {q : List ℕ} → IsSized mem → q ≡ take count (piece_at Load mem address) → length q ≡ count
      → q ≡ given
  given-whole sized is whole =
      let page = piece_at Load mem address in
      let long : count ≤ length page = omega (arith, ap length is, length-take count page, whole) in
      is ∙ sym (given-is.1 ∙ reach-front _ _ _ _ sized (omega (arith, long, length-piece Load mem address sized)))

  module _ (done : ℕ) (less : done < count) (sized : IsSized mem) where
    near : done < length (reach Load mem address)
    near = let all = given-is.0 in omega (arith, all, less)

    pub given-low : length mem ≤ 32768 → address + done < 2 ^ 27
    given-low few = omega (arith, few, (reach-page Load mem address done sized near).0)

    module _ (q : List ℕ) (is : q ≡ take (count - done) (piece_at Load mem (address + done))) where
      long : length q ≡ min (count - done) (length (piece_at Load mem (address + done)))
      long = ap length is ∙ length-take (count - done) (piece_at Load mem (address + done))

      pub is-piece : IsPiece given done q
      is-piece =
          let p = piece_at Load mem (address + done) in
          let begin : (k : ℕ) → k ≤ count
          → take k given ≡ take k (reach Load mem address) = λ k low. ap (take k) given-is.1
          ∙ take-take k count (reach Load mem address) low in
          let same : q ≡ take (length q) p = is ∙ sym (take_min _ p) ∙ ap (λ j. take j p) (sym long) in
          record {
            some = omega (arith, long, less, (reach-page Load mem address done sized near).1);
            within = omega (arith, long, less, given-length);
            part = ap (λ l. l ++ q) (begin done (omega (arith, less)))
                ∙ ap (λ l. take done (reach Load mem address) ++ l) same
                ∙ reach-next _ _ _ _ _ sized (omega (arith, near)) (omega (arith, long))
                ∙ sym (begin (done + length q) (omega (arith, long, less)));
          }
