-- Reads from the console and from a pipe.
use Rattle.calls.proofs.Common.{[], Answers, answers, ap, arith, Blocks, Bool, bytes_in, can_write, CanWait}
use Rattle.calls.proofs.Common.{descriptors_at, Done, drew, drew-state, drop, false, false≢true, GoesOn, held-same}
use Rattle.calls.proofs.Common.{if◌then◌else◌, is_on_pipe, IsFresh, IsKernel, IsPending, IsSized, Kernel, leb-true}
use Rattle.calls.proofs.Common.{length, length-take-le, List, me, memory_at, min, nat_eq, nat_le, nat_lt, not, Pending}
use Rattle.calls.proofs.Common.{pending_arg, put, put_process, reach, read_on, read_pipe, read_taken, refl, slot-within}
use Rattle.calls.proofs.Common.{SpaceView, State, state-waking, state_of, Store, subst, suc, sym, take, take_line}
use Rattle.calls.proofs.Common.{Transfers, true, typed, view_at, Waits, waits-reading, waking, wanted, write_bytes}
use Rattle.calls.proofs.Common.{WriteEnd, wrote, wrote-state, zero, ℕ, ◌+◌, ◌-◌, ◌<◌, ◌==◌, ◌^◌, ◌∙◌, ◌∷◌, ◌≡◌, ◌≤◌}
use Rattle.unixmodel.specs.Console.{Taken}
use Rattle.file_transfers.proofs.Memory.{reach-written, rest-writes}
use Rattle.kernel.specs.Sound.{IsForBytes, IsReading}
use Rattle.unixmodel.specs.Turn.{is_empty}
use Rattle.files.specs.declared.file.End.{End}
use Rattle.files.specs.Places.{opens_of, has_end}
use Rattle.spaces.specs.Spaces.{written}
use Rattle.calls.proofs.Acts.{goes-done, goes-waits, going}
use Rattle.calls.proofs.Transfers.{console-here, file, file-named, going-is, here, pipe-here, named-file}
use Rattle.calls.proofs.Sends.{buffer-fits}
use Rattle.files.specs.declared.file.End.TheVariants as end
use Rattle.files.specs.declared.file.Target.TheVariants as target
use Rattle.std.proofs.lemmas.Bool.Decides.{nat_tests}
use Rattle.files.specs.declared.file.OpenFile.{OpenFile}
use Rattle.unixmodel.specs.FileCalls as rows

-- ---- a read from the console or a pipe goes on

-- ---- what a read of the console takes

-- no more than its count, and less than that if it isn't over
abbrev FitsIn : ℕ → Taken → Type 0
FitsIn n t = (length t.bytes ≤ n) × (t.over ≡ false → length t.bytes < n)

step-fits : (x y has : Bool) (b n : ℕ) (bs : List ℕ) (more : Taken) → FitsIn n more
    → FitsIn (suc n) (let t : Taken = if x then record { bytes = []; rest = if has then b ∷ bs else bs; over = true }
    else if y then record { bytes = b ∷ []; rest = bs; over = true } else record more { bytes = b ∷ more.bytes } in t)
step-fits true y has b n bs more fits = (omega arith, λ over. absurd (cc))
step-fits false true has b n bs more fits = (omega arith, λ over. absurd (cc))
step-fits false false has b n bs more fits =
    (let most = fits.0 in omega (arith, most), λ over. let less = fits.1 over in omega (arith, less))

line-fits : (has : Bool) (n : ℕ) (bytes : List ℕ) → FitsIn n (take_line has n bytes)
unfolding take_line
line-fits has zero bytes = (omega arith, λ over. absurd (cc))
line-fits has (suc n) [] = (omega arith, λ over. omega arith)
line-fits has (suc n) (b ∷ bs) =
    step-fits (nat_eq b 4) (nat_eq b 10) has b n bs (take_line true n bs) (line-fits true n bs)

-- ---- what the console and the spaces return

-- what a read takes of the console
abbrev line_for : Kernel → Pending → Taken
line_for k w = take_line (nat_lt 0 w.done) (wanted w - w.done) k.console.committed

-- k1: the kernel once it is taken
pub record Took (k k1 : Kernel) (i : ℕ) (w : Pending) (n : ℕ) (buffer : List ℕ) (over : Bool) : Type 0 where
  pub sized : IsSized (memory_at k i)
  pub long : n ≤ length buffer
  pub took : line_for k w ≡ record { bytes = take n buffer; rest = k1.console.committed; over = over }
  pub rest : k1 ≡ typed k (record k.console { committed = k1.console.committed })

pub took-of : {k k1 : Kernel} {i : ℕ} {w : Pending} {n : ℕ} {buffer : List ℕ} {over : Bool} → IsSized (memory_at k i)
    → n ≤ 128 → length buffer ≡ 128 → {wide : ℕ} → wide ≡ wanted w
    → take_line (nat_lt 0 w.done) (wide - w.done) k.console.committed
    ≡ record { bytes = take n buffer; rest = k1.console.committed; over = over }
    → k1 ≡ typed k (record k.console { committed = k1.console.committed }) → Took k k1 i w n buffer over
took-of {k} {w = w} sized few long all took rest =
    record {
      sized = sized;
      long = omega (arith, few, long);
      took = ap (λ (m : ℕ). take_line (nat_lt 0 w.done) (m - w.done) k.console.committed) (sym all) ∙ took;
      rest = rest;
    }

-- ---- from the console

module _ {k : Kernel} {i n : ℕ} {w : Pending} (g : Transfers k i end.Read (target.Console n) w) where
  -- the bytes go to addresses of the memory
  pub reads-fit : IsSized (memory_at k i) → length (memory_at k i) ≤ 32768 → pending_arg w 1 + w.done < 2 ^ 64
  reads-fit sized few = buffer-fits Store (memory_at k i) (pending_arg w 1) (wanted w) w.done sized
      (leb-true (wanted w) (length (reach Store (memory_at k i) (pending_arg w 1))) g.can.buffer) g.can.left few

  line-row : going (here g) w ≡ read_taken (state_of k) i (me (here g)) w (line_for k w)
  unfolding read_on
  line-row = let f = file-named g in going-is g ∙ rw (f.named, f.opened, (file g).on, (console-here g).3) refl

  module _ {k1 : Kernel} {c : ℕ} {buffer : List ℕ} {over : Bool} (f : Took k k1 i w c buffer over) where
    abbrev address : ℕ
    address = pending_arg w 1 + w.done

    abbrev line : List ℕ
    line = take c buffer

    abbrev t : Taken
    t = record { bytes = line; rest = k1.console.committed; over = over }

    abbrev after_line : State
    after_line = put_process (record (state_of k) { console = record k.console { committed = t.rest } }) i
        (rows.received (me (here g)) w line)

    count : length line ≡ c
    count = length-take-le c buffer f.long

    same : length (line_for k w).bytes ≡ length line
    same = ap (λ (t : Taken). length t.bytes) f.took

    pub reads-write : can_write (memory_at k1 i) address (length line) ≡ true
    reads-write =
        let most : length (line_for k w).bytes ≤ wanted w - w.done =
        (line-fits (nat_lt 0 w.done) (wanted w - w.done) k.console.committed).0 in
        let left = g.can.left in
        let all = same in
        ap (λ (y : Kernel). can_write (memory_at y i) address (length line)) f.rest
        ∙ rest-writes (memory_at k i) (pending_arg w 1) w.done (length line) (wanted w) f.sized g.can.buffer
        (omega (arith, most, all, left))

    -- what was typed is taken, and its bytes are written to the process
    abbrev made : Kernel
    made = wrote (typed k (record k.console { committed = k1.console.committed })) i address line

    module _ {new : Kernel} (is : new ≡ wrote k1 i address line) (sound : IsKernel new) where
      made-is : new ≡ made
      made-is = is ∙ ap (λ (y : Kernel). wrote y i address line) f.rest

      state : state_of made ≡ after_line
      state = ap (λ (s : State). record s { console = record k.console { committed = k1.console.committed } })
          (wrote-state (here g).run g.runs.sound address line)

      line-taken : (b : Bool) → over ≡ b
          → going (here g) w ≡ (if b then Done after_line (w.done + c) []
          else Waits after_line (record w { done = w.done + c }))
      line-taken b is =
          line-row ∙ ap (read_taken (state_of k) i (me (here g)) w) f.took
          ∙ ap (λ (b : Bool). if b then Done after_line (w.done + length line) []
          else Waits after_line (record w { done = w.done + length line })) is
          ∙ ap (λ (m : ℕ). if b then Done after_line (w.done + m) []
          else Waits after_line (record w { done = w.done + m })) count

      pub reads-over : over ≡ true → GoesOn k new i w (Answers (w.done + c))
      reads-over passed = goes-done (here g) w (w.done + c) sound made-is refl refl state (line-taken true passed)

      abbrev further : Pending
      further = record w { done = w.done + c }

      -- a read that is not over goes on in its buffer
      reading : over ≡ false → IsReading (descriptors_at k i) (memory_at made i) further
      reading more =
          let mem = memory_at k i in
          let less : length (line_for k w).bytes < wanted w - w.done =
          (line-fits (nat_lt 0 w.done) (wanted w - w.done) k.console.committed).1
          (ap (λ (t : Taken). t.over) f.took ∙ more) in
          let all = same in
          let some = count in
          let on : IsReading (descriptors_at k i) (write_bytes mem address line) further = record {
            named = g.can.named;
            buffer = ap (nat_le (wanted w)) (reach-written Store mem (pending_arg w 1) address line f.sized)
                ∙ g.can.buffer;
            left = omega (arith, less, all, some);
          } in
          subst (λ (h : SpaceView). IsReading (descriptors_at k i) h.memory further)
          (sym (held-same k.spaces i (written (view_at k.spaces i) address line)
          (slot-within k.spaces.places i (here g).held (here g).run.space))) on

      pub reads-on : over ≡ false → GoesOn k new i w (Blocks further)
      reads-on more =
          let f = file g in
          let for : IsForBytes k.files (descriptors_at k i) further = λ read. rw (f.named, f.opened, f.on) refl in
          -- a read of the console may have taken some
          let fresh : IsFresh k.files (descriptors_at k i) further =
          λ read. rw (f.named, f.opened) (λ on. absurd (false≢true (ap is_on_pipe (sym f.on) ∙ on))) in
          let may : CanWait made i further = (
            subst (IsPending (descriptors_at k i) (memory_at made i) further) (sym g.number) (reading more),
            waits-reading k.files (descriptors_at k i) further g.number for fresh,
          ) in
          goes-waits (here g) w further sound made-is refl refl may state (line-taken false more)

-- ---- from a pipe

some-bytes : (n : ℕ) → not (n == 0) ≡ true → 0 < n
some-bytes n some = grind (arith, nat_tests)

no-bytes : (n : ℕ) → not (n == 0) ≡ false → n ≡ 0
no-bytes n none = grind (arith, nat_tests)

module _ {k : Kernel} {i : ℕ} {w : Pending} {q : ℕ} {d : End} (g : Transfers k i end.Read (target.Pipe q d) w) where
  abbrev bytes : List ℕ
  bytes = bytes_in k.spaces q

  -- it has taken nothing yet
  start : w.done ≡ 0
  start = named-file g (λ (f : OpenFile). is_on_pipe f.target ≡ true → w.done ≡ 0) (g.fresh g.number)
      (ap is_on_pipe (file g).on)

  pipe-row : going (here g) w ≡ read_pipe (state_of k) i (me (here g)) w q bytes
  unfolding read_on
  pipe-row = let f = file-named g in going-is g ∙ rw (f.named, f.opened, (file g).on, pipe-here g) refl

  -- its bytes are written to the process
  abbrev drawn : Kernel
  drawn = drew k i q (pending_arg w 1) (wanted w)

  row-taken : (all : List ℕ) → bytes ≡ all → 0 < length all
      → read_pipe (state_of k) i (me (here g)) w q all ≡ Done (state_of drawn) (min (wanted w) (length all)) []
  row-taken [] same some = absurd (omega (arith, some))
  row-taken (b ∷ bs) same some =
      let x = here g in
      let count = wanted w in
      ap (λ (n : ℕ). answers (put_process (record (state_of k) { pipes = put k.spaces.pipes q (drop count (b ∷ bs)) })
      i (record (me x) { memory = write_bytes x.held.memory n (take count (b ∷ bs)) }))
      (min count (length (b ∷ bs)))) (let s = start in omega (arith, s))
      ∙ ap (λ (all : List ℕ). answers
      (put_process (record (state_of k) { pipes = put k.spaces.pipes q (drop count all) }) i
      (record (me x) { memory = write_bytes x.held.memory (pending_arg w 1) (take count all) }))
      (min count (length (b ∷ bs)))) (sym same)
      ∙ ap (λ (s : State). Done s (min count (length (b ∷ bs))) [])
      (sym (drew-state x.run x.sound q (pending_arg w 1) count))

  pub reads-taken : {b : Bool} → b ≡ not (is_empty bytes) → b ≡ true → {m : ℕ} → m ≡ wanted w → {new : Kernel} {n : ℕ}
      → new ≡ waking (drew k i q (pending_arg w 1) m) new.table.awake → IsKernel new → n ≡ min m (length bytes)
      → GoesOn k new i w (Answers n)
  reads-taken told full wide {new} made sound counted =
      let made' : new ≡ waking drawn new.table.awake = made
      ∙ ap (λ m. waking (drew k i q (pending_arg w 1) m) new.table.awake) wide in
      rw (counted, wide) (goes-done (here g) w (min (wanted w) (length bytes)) sound made' refl refl
      (state-waking drawn new.table.awake)
      (pipe-row ∙ row-taken bytes refl (some-bytes (length bytes) (sym told ∙ full))))

  -- it is empty
  row-empty : (all : List ℕ) → length all ≡ 0 → (b : Bool) → has_end (opens_of k.files) q WriteEnd ≡ b
      → read_pipe (state_of k) i (me (here g)) w q all ≡ (if b then Waits (state_of k) w else answers (state_of k) 0)
  row-empty [] none b ends = ap (λ (x : Bool). if x then Waits (state_of k) w else answers (state_of k) 0) ends
  row-empty (x ∷ xs) none b ends = absurd (omega (arith, none))

  module _ {b : Bool} (told : b ≡ not (is_empty bytes)) (none : b ≡ false) {e : Bool}
      (ends : e ≡ has_end (opens_of k.files) q WriteEnd) where
    empty : (c : Bool) → e ≡ c → going (here g) w ≡ (if c then Waits (state_of k) w else answers (state_of k) 0)
    empty c is = pipe-row ∙ row-empty bytes (no-bytes (length bytes) (sym told ∙ none)) c (sym ends ∙ is)

    pub reads-ended : e ≡ false → GoesOn k k i w (Answers 0)
    reads-ended is = goes-done (here g) w 0 g.runs.sound refl refl refl refl (empty false is)

    pub reads-waiting : e ≡ true → GoesOn k k i w (Blocks w)
    reads-waiting is =
        let f = file g in
        let for : IsForBytes k.files (descriptors_at k i) w = λ read. rw (f.named, f.opened, f.on) refl in
        goes-waits (here g) w w g.runs.sound refl refl refl (
          subst (IsPending (descriptors_at k i) (memory_at k i) w) (sym g.number) g.can,
          waits-reading k.files (descriptors_at k i) w g.number for g.fresh,
        ) refl (empty true is)
