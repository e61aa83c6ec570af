-- Writes to the console and to a pipe.
use Rattle.calls.proofs.Common.{[], answered, Answers, ap, Appends, Appends-nil, Appends-trans, arith, begins_more}
use Rattle.calls.proofs.Common.{Blocks, Bool, bytes_given, bytes_in, Came, CanWait, Comes, descriptors_at, Done, drop}
use Rattle.calls.proofs.Common.{eq-eqb, false, GoesOn, going_at, is_some, IsFront, IsKernel, IsPending, IsSized, Kernel}
use Rattle.calls.proofs.Common.{length, length-drop, length-take, limited, List, Load, Memory, memory_at, minus_one}
use Rattle.calls.proofs.Common.{nat_eq, ne_eqb, Option, Outcome, Pending, pending_arg, piece_at, pipe_room, reach}
use Rattle.calls.proofs.Common.{read_bytes, ReadEnd, refl, sent, settle, state-waking, state_of, subst, sym, take}
use Rattle.calls.proofs.Common.{Transfers, true, unwrap_or, view_at, waits-writing, waking, wanted, write_on}
use Rattle.calls.proofs.Common.{write_pipe, ℕ, ◌++◌, ◌+◌, ◌-◌, ◌<◌, ◌^◌, ◌∙◌, ◌≡◌, ◌≢◌, ◌≤◌}
use Rattle.file_transfers.proofs.Memory.{readable-count}
use Rattle.vm.proofs.ReachLemmas.{reach-drop, reach-next, reach-page}
use Rattle.kernel.specs.Sound.{IsForPipe, IsWriting}
use Rattle.std.proofs.lemmas.List.{drop-take, take-append-drop, take-take}
use Rattle.console.specs.Output.{AppendsBeginning}
use Rattle.unixmodel.specs.declared.trap.Access.{Access}
use Rattle.files.specs.declared.file.End.{End}
use Rattle.files.specs.Places.{opens_of, has_end}
use Rattle.spaces.specs.Spaces.{fitting, put_behind, read_at}
use Rattle.calls.proofs.Acts.{after, goes-done, goes-waits, going, going-here, settle-limited, settles-to, same-served}
use Rattle.calls.proofs.Transfers.{console-here, file, file-named, given_bytes, going-is, here, length-given, pipe-here}
use Rattle.calls.proofs.Transfers.{read-given}
use Rattle.files.specs.declared.file.End.TheVariants as end
use Rattle.files.specs.declared.file.Target.TheVariants as target

-- ---- bytes that are printed in pieces

front-rest : (xs : List ℕ) (a n : ℕ) → a ≤ n → take a xs ++ drop a (take n xs) ≡ take n xs
front-rest xs a n less = ap (λ ys. ys ++ drop a (take n xs)) (sym (take-take a n xs less))
    ∙ take-append-drop a (take n xs)

-- ---- the bytes of a process

-- what is left of a buffer has an address
pub buffer-fits : (a : Access) (mem : Memory) (address count done : ℕ) → IsSized mem
    → count ≤ length (reach a mem address) → done < count → length mem ≤ 32768 → address + done < 2 ^ 64
buffer-fits a mem address count done sized all less few = let page =
    (reach-page a mem address done sized (omega (arith, all, less))).0 in omega (arith, page, few)

module _ (mem : Memory) (address count done : ℕ) (sized : IsSized mem)
    (readable : is_some (read_bytes mem address count) ≡ true) (less : done < count) where
  abbrev all : List ℕ
  all = reach Load mem address

  whole : (count ≤ length all) × (unwrap_or (read_bytes mem address count) [] ≡ take count all)
  whole = readable-count mem address count readable

  rest-on : reach Load mem (address + done) ≡ drop done all
  rest-on = reach-drop Load mem address done sized (let a = whole.0 in omega (arith, a, less))

  -- it can be read
  pub rest-fits : length mem ≤ 32768 → address + done < 2 ^ 64
  rest-fits = buffer-fits Load mem address count done sized whole.0 less

  pub rest-readable : count - done ≤ length (reach Load mem (address + done))
  rest-readable = rw rest-on (let a = whole.0 in let l = length-drop done all in omega (arith, a, l))

  pub rest-is : take (count - done) (reach Load mem (address + done))
      ≡ drop done (unwrap_or (read_bytes mem address count) [])
  rest-is =
      let sum : done + (count - done) ≡ count = omega (arith, less) in
      ap (take (count - done)) rest-on
      ∙ sym (drop-take done (count - done) all)
      ∙ ap (λ (n : ℕ). drop done (take n all)) sum
      ∙ sym (ap (drop done) whole.1)

  -- a piece that is printed continues what was printed before
  module _ (piece : List ℕ) (most : length piece ≤ count - done)
      (front : IsFront piece (piece_at Load mem (address + done))) where
    pub prints-within : done + length piece ≤ count
    prints-within = omega (arith, most, less)

    more : take done all ++ piece ≡ take (done + length piece) all
    more = ap (λ (bs : List ℕ). take done all ++ bs) front.1
        ∙ reach-next Load mem address done (length piece) sized (let a = whole.0 in omega (arith, a, less)) front.0

    pub prints-more : (before mid after : Option (List ℕ)) → Appends before mid (take done all)
        → Appends mid after piece → Appends before after (take (done + length piece) all)
    prints-more before mid after printed put =
        subst (Appends before after) more (Appends-trans before mid after (take done all) piece printed put)

    pub prints-front : (before mid after : Option (List ℕ)) → Appends before mid (take done all)
        → AppendsBeginning mid after piece → AppendsBeginning before after (unwrap_or (read_bytes mem address count) [])
    prints-front before mid after printed put =
        let rest = drop (done + length piece) (take count all) in
        let joined = ap (λ (bs : List ℕ). bs ++ rest) more ∙ front-rest all (done + length piece) count prints-within in
        rw whole.1 (begins_more before mid after (take done all) piece rest (take count all) printed put joined)

-- all is printed
pub prints-all : (mem : Memory) (address count done : ℕ) → is_some (read_bytes mem address count) ≡ true → done ≤ count
    → count ≤ done → (before after : Option (List ℕ)) → Appends before after (take done (reach Load mem address))
    → Appends before after (unwrap_or (read_bytes mem address count) [])
prints-all mem address count done readable within end before after printed =
    let same : done ≡ count = omega (arith, within, end) in
    rw (readable-count mem address count readable).1
    (subst (λ (n : ℕ). Appends before after (take n (reach Load mem address))) same printed)

-- ---- to the console

module _ {k : Kernel} {i n : ℕ} {w : Pending} (g : Transfers k i end.Write (target.Console n) w) where
  puts-row : going (here g) w ≡ Done (state_of k) (wanted w) (given_bytes g)
  unfolding write_on
  puts-row = let f = file-named g in going-is g
      ∙ rw (f.named, f.opened, read-given g, (file g).on, (console-here g).3, length-given g) refl

  settles-puts : settle (state_of k) i (limited (going_at (state_of k) i w))
      ≡ after (state_of (answered k (wanted w))) (given_bytes g)
  settles-puts = ap (λ (o : Outcome). settle (state_of k) i (limited o)) (going-here (here g) w ∙ puts-row)
      ∙ settle-limited (here g) (state_of k) (wanted w) (given_bytes g)

  module _ {m : ℕ} (all : m ≡ wanted w) (before now : Option (List ℕ)) where
    pub puts-all : Appends before now (bytes_given k.spaces i (pending_arg w 1) m)
        → (bs : List ℕ) × Comes k k i (limited (going_at (state_of k) i w)) bs (Answers m) × Appends before now bs
    puts-all printed = rw all (
      given_bytes g,
      settles-to (wanted w) (given_bytes g) (here g) (same-served refl (here g).up) settles-puts,
      rw all at printed,
    )

    -- the console failed
    pub puts-beginning : AppendsBeginning before now (bytes_given k.spaces i (pending_arg w 1) m)
        → AppendsBeginning before now (settle (state_of k) i (limited (going_at (state_of k) i w))).bytes
    puts-beginning printed = rw settles-puts (rw all at printed)

-- nothing is printed
pub puts-none : {k new : Kernel} {i : ℕ} {w : Pending} {came : Came} (at : Option (List ℕ)) → GoesOn k new i w came
    → (bs : List ℕ) × Comes k new i (limited (going_at (state_of k) i w)) bs came × Appends at at bs
puts-none at goes = ([], rw goes.within goes.comes, Appends-nil at)

-- ---- to a pipe

fitting-less : (held new : List ℕ) → length (fitting held new) ≤ length new
fitting-less held new = let l = length-take (pipe_room - length held) new in omega (arith, l)

module _ {k : Kernel} {i : ℕ} {w : Pending} {q : ℕ} {d : End} (g : Transfers k i end.Write (target.Pipe q d) w) where
  abbrev held : List ℕ
  held = bytes_in k.spaces q

  abbrev left : List ℕ
  left = drop w.done (given_bytes g)

  abbrev full : Kernel
  full = record k { spaces = put_behind k.spaces q left }

  sends-row : going (here g) w ≡ write_pipe (state_of k) w q held (given_bytes g)
  unfolding write_on
  sends-row = let f = file-named g in going-is g ∙ rw (f.named, f.opened, read-given g, (file g).on, pipe-here g) refl

  -- nobody can read it
  pub sends-closed : {e : Bool} → e ≡ has_end (opens_of k.files) q ReadEnd → e ≡ false
      → GoesOn k k i w (Answers minus_one)
  sends-closed told closed = let none : has_end (opens_of k.files) q ReadEnd ≡ false = sym told
      ∙ closed in goes-done (here g) w minus_one g.runs.sound refl refl refl refl (sends-row ∙ rw none refl)

  -- m: what is left to put
  module _ (sized : IsSized (memory_at k i)) {m : ℕ} (wide : m ≡ wanted w - w.done) where
    abbrev piece : List ℕ
    piece = read_at (view_at k.spaces i) (pending_arg w 1 + w.done) m

    piece-is : piece ≡ left
    piece-is = rw wide (rest-is (memory_at k i) (pending_arg w 1) (wanted w) w.done sized g.can.readable g.can.left)

    pub sends-fits : length (memory_at k i) ≤ 32768 → pending_arg w 1 + w.done < 2 ^ 64
    sends-fits = rest-fits (memory_at k i) (pending_arg w 1) (wanted w) w.done sized g.can.readable g.can.left

    pub sends-readable : m ≤ length (reach Load (memory_at k i) (pending_arg w 1 + w.done))
    sends-readable = rw wide
        (rest-readable (memory_at k i) (pending_arg w 1) (wanted w) w.done sized g.can.readable g.can.left)

    module _ {c : ℕ} (count : c ≡ length (fitting held piece)) where
      count-is : c ≡ length (fitting held left)
      count-is = count ∙ ap (λ (bs : List ℕ). length (fitting held bs)) piece-is

      pub sends-within : w.done + c ≤ wanted w
      sends-within =
          let few : length (fitting held left) ≤ length left = fitting-less held left in
          omega (arith, count-is, few, length-drop w.done (given_bytes g), length-given g, g.can.left)

      module _ {e : Bool} (told : e ≡ has_end (opens_of k.files) q ReadEnd) (yes : e ≡ true) {to : Kernel}
          (made : to ≡ waking (sent k i q (pending_arg w 1 + w.done) m) to.table.awake) (sound : IsKernel to) where
        some : has_end (opens_of k.files) q ReadEnd ≡ true
        some = sym told ∙ yes

        made-full : to ≡ waking full to.table.awake
        made-full = made ∙ ap (λ (bs : List ℕ). waking (record k { spaces = put_behind k.spaces q bs }) to.table.awake)
            piece-is

        tested : (b : Bool) → nat_eq (w.done + c) (wanted w) ≡ b
            → nat_eq (w.done + length (fitting held left)) (length (given_bytes g)) ≡ b
        tested b test = ap (λ (y : ℕ). nat_eq (w.done + y) (length (given_bytes g))) (sym count-is)
            ∙ ap (nat_eq (w.done + c)) (length-given g) ∙ test

        pub sends-over : w.done + c ≡ wanted w → GoesOn k to i w (Answers (w.done + c))
        sends-over all =
            let test = tested true (eq-eqb (w.done + c) (wanted w) all) in
            rw count-is (goes-done (here g) w (w.done + length (fitting held left)) sound made-full refl refl
            (state-waking full to.table.awake) (sends-row ∙ rw (some, test) refl))

        pub sends-on : w.done + c ≢ wanted w → GoesOn k to i w (Blocks (record w { done = w.done + c }))
        sends-on rests =
            let test = tested false (ne_eqb (w.done + c) (wanted w) rests) in
            let further = record w { done = w.done + length (fitting held left) } in
            let f = file g in
            let within = sends-within in
            let writing : IsWriting (descriptors_at k i) (memory_at k i) further =
            record {
              named = g.can.named;
              readable = g.can.readable;
              left = omega (arith, rests, within, count-is);
            } in
            let for : IsForPipe k.files (descriptors_at k i) further = λ write. rw (f.named, f.opened, f.on) refl in
            let may : CanWait full i further = (
              subst (IsPending (descriptors_at k i) (memory_at k i) further) (sym g.number) writing,
              waits-writing k.files (descriptors_at k i) further g.number for,
            ) in
            rw count-is (goes-waits (here g) w further sound made-full refl refl may (state-waking full to.table.awake)
            (sends-row ∙ rw (some, test) refl))
