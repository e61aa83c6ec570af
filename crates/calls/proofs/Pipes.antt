-- pipe, dup and close: calls that make and close descriptors.
use Rattle.calls.proofs.Common.{[], Acts, answered, answered-here, Answers, ap, argument, arith, can_write, changed}
use Rattle.calls.proofs.Common.{clear, Close, close_row, count_by, Counted, counting, descriptors-run, descriptors_at}
use Rattle.calls.proofs.Common.{descriptors_in, Done, Dup, dup-state, dup_row, false, free-here, free-None, free-opens}
use Rattle.calls.proofs.Common.{free-place, free-put, free_count, free_slot, held-here, Here, here-as, is_none}
use Rattle.calls.proofs.Common.{is_within, IsKernel, IsPlaced, IsServed, Kernel, le, length-set, limited, List, low, me}
use Rattle.calls.proofs.Common.{memory_at, moved-state, None, opens-opened, Option, option_map, page_frames, Pipe}
use Rattle.calls.proofs.Common.{pipe_end, pipe_row, Places, Process, put, ReadEnd, refl, Refuses, set-set, slice_set}
use Rattle.calls.proofs.Common.{slot, slot-put, slot-within, Some, SpaceView, State, state-but, state-waking, state_of}
use Rattle.calls.proofs.Common.{sym, taken-placed, taken_frames, true, waking, with_both, with_descriptor, WriteEnd}
use Rattle.calls.proofs.Common.{wrote, ℕ, ◌++◌, ◌+◌, ◌<◌, ◌∙◌, ◌≡◌}
use Rattle.kernel.proofs.Reaping.{match-active, match-place, over-state}
use Rattle.kernel.proofs.Runs.{live, runs-mode, stands-set, with_process, within-run, within-space}
use Rattle.kernel.specs.Opening.{AreFree, closed_at, duplicated, Ends, HasClosed, HasPiped, pipe_file, piped}
use Rattle.programs.proofs.Places.{length-write}
use Rattle.files.specs.Places.{opened, opens_of}
use Rattle.spaces.specs.Spaces.{written, frames_in, with_pipe}
use Rattle.unixmodel.specs.OpenFiles.{OpenFile}
use Rattle.calls.proofs.Acts.{can-here, given-refused, makes, refused, descriptor-is, settles, settles-gone}
use Rattle.files.specs.declared.file.End.TheVariants as end
use Rattle.kernel.proofs.Closing.{close-reaps}

-- ---- slots

-- where two slots are taken one after the other, two were free
two-free : {X : Type 0} (xs : List (Option X)) (x : X) (k m : ℕ) → free_slot xs ≡ Some k
    → free_slot (put xs k x) ≡ Some m → count_by is_none xs < 2 → ⊥
two-free xs x k m first second few =
    let at = free-place xs k first in
    let left = free-put xs k x at.0 at.1 in
    let none = free-None (put xs k x) (omega (arith, left, few)) in
    let bad : None ≡ Some m = sym none ∙ second in
    cc

-- the process of a slot is changed
changed-one : (t : Places) (i : ℕ) (p : Process) (f : Process → Process) → slot t.places i ≡ Some p
    → changed t i f ≡ with_process t i (f p)
changed-one t i p f at =
    ap (λ (o : Option Process). let u : Places = record t { places = slice_set t.places i (option_map f o) } in u) at

-- and changed again
changed-twice : (t : Places) (i : ℕ) (p : Process) (f g : Process → Process) → slot t.places i ≡ Some p
    → changed (changed t i f) i g ≡ with_process t i (g (f p))
changed-twice t i p f g at =
    ap (λ (u : Places). changed u i g) (changed-one t i p f at)
    ∙ changed-one (with_process t i (f p)) i (f p) g (slot-put t.places i (Some (f p)) (slot-within t.places i p at))
    ∙ ap (λ (os : List (Option Process)). let u : Places = record t { places = os } in u)
    (set-set t.places i (Some (f p)) (Some (g (f p))))

-- ---- the kernel with the pipe

module _ {k : Kernel} {i : ℕ} (y : Here k i) (a : ℕ) (x : Ends) where
  abbrev p : Process
  p = y.process

  abbrev q : Process
  q = record p { descriptors = put (put p.descriptors x.read_fd x.reader) x.write_fd x.writer }

  abbrev bytes : List ℕ
  bytes = le 4 x.read_fd ++ le 4 x.write_fd

  abbrev h : SpaceView
  h = written y.held a bytes

  abbrev first : List (Option Counted)
  first = opened k.files x.reader (pipe_file x.pipe end.Read)

  abbrev both : List (Option Counted)
  both = opened first x.writer (pipe_file x.pipe end.Write)

  abbrev with_ends : List (Option OpenFile)
  with_ends = put (put (opens_of k.files) x.reader (pipe_end x.pipe ReadEnd)) x.writer (pipe_end x.pipe WriteEnd)

  placed : IsPlaced q h
  placed = let l = live k i p y.held y.run y.sound in let placed = y.run.placed in record {
    zero = placed.zero;
    aligned = placed.aligned;
    mode = runs-mode q h.memory p.mode y.run.runs
        (record {
          descriptors = length-set (put p.descriptors x.read_fd x.reader) x.write_fd (Some x.writer)
              ∙ length-set p.descriptors x.read_fd (Some x.reader) ∙ l.descriptors;
        }) (free-here y);
  }

  abbrev to : Kernel
  to = record k {
    table = with_process k.table i q;
    spaces = record k.spaces { places = slice_set k.spaces.places i (Some h); pipes = put k.spaces.pipes x.pipe [] };
    files = both;
  }

  piped-is : wrote (piped k i x) i a bytes ≡ to
  piped-is = rw (
    changed-twice k.table i p (with_descriptor x.read_fd (Some x.reader))
        (with_descriptor x.write_fd (Some x.writer)) y.run.process,
    held-here y,
  ) refl

  -- a write takes no frame, and the pipe one
  to-frames : taken_frames to.spaces ≡ taken_frames (with_pipe k.spaces x.pipe (Some []))
  to-frames =
      let s = with_pipe k.spaces x.pipe (Some []) in
      let e : taken_frames to.spaces + frames_in (slot k.spaces.places i) ≡ taken_frames s + frames_in (Some h) =
      taken-placed s i (Some h) (slot-within k.spaces.places i y.held y.run.space) in
      let f : frames_in (slot k.spaces.places i) ≡ frames_in (Some h) = ap frames_in y.run.space
      ∙ sym (ap (λ n. 4 + page_frames n) (length-write y.held.memory a bytes)) in
      omega (arith, e, f)

  -- what pipe makes of the state
  to-state : state_of to ≡ record (state_of k) {
    places = put (state_of k).places i (with_both (me y) a x.read_fd x.reader x.write_fd x.writer);
    opens = with_ends;
    pipes = put k.spaces.pipes x.pipe [];
  }
  to-state =
      let opens : opens_of both ≡ with_ends =
      opens-opened first x.writer (pipe_file x.pipe end.Write)
      ∙ ap (λ (os : List (Option OpenFile)). put os x.writer (pipe_end x.pipe WriteEnd))
      (opens-opened k.files x.reader (pipe_file x.pipe end.Read)) in
      ap (λ (s : State). record s { opens = opens_of both; pipes = put k.spaces.pipes x.pipe [] })
      (moved-state k i p y.held y.run y.sound q h k.spaces.registers k.spaces.pc placed y.run.runs)
      ∙ ap (λ (os : List (Option OpenFile)). record (state_of k) {
        places = put (state_of k).places i (with_both (me y) a x.read_fd x.reader x.write_fd x.writer);
        opens = os;
        pipes = put k.spaces.pipes x.pipe [];
      }) opens

  to-full : k.spaces.frames < taken_frames (with_pipe k.spaces x.pipe (Some [])) → is_within (state_of to) ≡ false
  to-full over =
      let stands = stands-set k.table.places k.spaces.places i (Some q) (Some h) (within-run k i p y.held y.run)
      (within-space k i p y.held y.run y.sound) placed y.sound.stands in
      over-state to (match-active to to.spaces.active
      (λ j. match-place (slot to.table.places j) (slot to.spaces.places j) (stands j)))
      (omega (arith, to-frames, over))

-- ---- the row

module _ {k : Kernel} {i : ℕ} (y : Here k i) where
  names-here : descriptors_at k i ≡ y.process.descriptors
  names-here = ap descriptors_in y.run.process

  pub pipe-unwritable : false ≡ can_write (memory_at k i) (argument k 0) 8 → Acts k k i (Some Pipe) Refuses
  unfolding pipe_row
  pipe-unwritable cannot = refused y (Some Pipe) (rw (can-here y (argument k 0) 8 cannot) refl)

  module _ (can : true ≡ can_write (memory_at k i) (argument k 0) 8) where
    -- both ends are open, and their descriptors are written
    pub pipe-opens : {q r w : ℕ} {mid : Kernel} → HasPiped k mid i q r w → {new : Kernel} → IsKernel new
        → new ≡ wrote mid i (argument k 0) (le 4 r ++ le 4 w) → Acts k new i (Some Pipe) (Answers 0)
    unfolding pipe_row
    pipe-opens {q} {r} {w} {mid} has {new} sound made =
        let x = has.ends in
        let free = has.free in
        let a = argument k 0 in
        let one : free_slot y.process.descriptors ≡ Some x.read_fd = rw (← names-here) free.read_fd in
        let two : free_slot (put y.process.descriptors x.read_fd x.reader) ≡ Some x.write_fd =
        rw (← names-here) free.write_fd in
        let bytes : le 4 r ++ le 4 w ≡ le 4 x.read_fd ++ le 4 x.write_fd =
        ap (λ (n : ℕ). le 4 n ++ le 4 w) (sym has.is.1)
        ∙ ap (λ (n : ℕ). le 4 x.read_fd ++ le 4 n) (sym has.is.2) in
        let last : new ≡ waking (wrote (piped k i x) i a (le 4 x.read_fd ++ le 4 x.write_fd)) mid.table.awake = made
        ∙ ap (wrote mid i a) bytes
        ∙ ap (λ (z : Kernel). wrote z i a (le 4 x.read_fd ++ le 4 x.write_fd)) has.same in
        makes y Pipe 0 sound last refl refl
        (state-waking (wrote (piped k i x) i a (le 4 x.read_fd ++ le 4 x.write_fd)) mid.table.awake
        ∙ ap state_of (piped-is y a x) ∙ to-state y a x)
        (rw (can-here y a 8 can, free.pipe, free.reader, free.writer, one, two) refl)

    -- and they may be
    pub pipe-can : {q r w : ℕ} {mid : Kernel} → HasPiped k mid i q r w
        → (mid.spaces.active ≡ Some i) × (can_write (memory_at mid i) (argument k 0) 8 ≡ true)
    pipe-can has = rw has.same (y.run.active, sym can)

    -- one of the slots isn't there, or the frames don't suffice
    pipe-lacks : ((x : Ends) → AreFree k i x → k.spaces.frames < taken_frames (with_pipe k.spaces x.pipe (Some [])))
        → Acts k k i (Some Pipe) Refuses
    unfolding pipe_row
    pipe-lacks over = refused y (Some Pipe) (rw (can-here y (argument k 0) 8 can) (
        given-refused _ _ (λ pipe e1. given-refused _ _
        (λ reader e2. given-refused _ _
        (λ writer e3. given-refused _ _ (λ read_fd e4. given-refused _ _ (λ write_fd e5.
        let x : Ends = record { pipe = pipe; reader = reader; writer = writer; read_fd = read_fd; write_fd = write_fd }
        in
        let free : AreFree k i x =
        record { pipe = e1; reader = e2; writer = e3; read_fd = rw names-here e4; write_fd = rw names-here e5 }
        in
        ap (λ (s : State). limited (Done s 0 [])) (sym (to-state y (argument k 0) x))
        ∙ rw (to-full y (argument k 0) x (over x free)) refl)))))))

    pub lacks-descriptors : {p : Process} → slot k.table.places i ≡ Some p → count_by is_none p.descriptors < 2
        → Acts k k i (Some Pipe) Refuses
    lacks-descriptors {p = p} there few = pipe-lacks (λ x free. absurd (
        let d : descriptors_at k i ≡ p.descriptors = ap descriptors_in there in
        two-free p.descriptors x.reader x.read_fd x.write_fd (rw (← d) free.read_fd) (rw (← d) free.write_fd) few))

    pub lacks-places : free_count k.files < 2 → Acts k k i (Some Pipe) Refuses
    lacks-places few = pipe-lacks
        (λ x free. absurd (two-free (opens_of k.files) (pipe_end x.pipe ReadEnd) x.reader x.writer free.reader
        free.writer (omega (arith, few, free-opens k.files))))

    pub lacks-room : None ≡ free_slot k.spaces.pipes → Acts k k i (Some Pipe) Refuses
    lacks-room none = pipe-lacks (λ x free. let some = free.pipe in absurd (cc))

    pub lacks-frames : {b : ℕ} → Some b ≡ free_slot k.spaces.pipes
        → k.spaces.frames < taken_frames (with_pipe k.spaces b (Some [])) → Acts k k i (Some Pipe) Refuses
    lacks-frames {b = b} place over = pipe-lacks (λ x free.
        let there : Some b ≡ Some x.pipe = place ∙ free.pipe in
        let e : b ≡ x.pipe = cc in
        rw (← e) over)

-- ---- dup and close: the lowest free descriptor of the running process names what another one names, or one is freed

module _ {k : Kernel} {i : ℕ} (x : Here k i) where
  -- ---- dup

  pub dups : {d n fd : ℕ} → d ≡ low (argument k 0) → Some n ≡ slot (descriptors_at k i) d
      → free_slot (descriptors_at k i) ≡ Some fd → {new : Kernel} → new ≡ duplicated k i fd n → IsKernel new
      → Acts k new i (Some Dup) (Answers fd)
  unfolding dup_row
  dups {d} {n} {fd} is named free made sound =
      let free' : free_slot x.process.descriptors ≡ Some fd = rw (← descriptors-run x.runner) free in
      makes x Dup fd sound made refl refl (dup-state x.runner fd n) (rw (descriptor-is x is named, free') refl)

  pub dup-full : free_slot (descriptors_at k i) ≡ None → Acts k k i (Some Dup) Refuses
  unfolding dup_row
  dup-full full = refused x (Some Dup)
      (given-refused (slot x.process.descriptors (low (argument k 0))) _
      (λ n named. let full' : free_slot x.process.descriptors ≡ None = rw (← descriptors-run x.runner) full
      in rw full' refl))

  -- ---- close

  pub closes : {d n : ℕ} → d ≡ low (argument k 0) → Some n ≡ slot (descriptors_at k i) d → {new : Kernel}
      → IsKernel new → HasClosed k new i d n × IsServed k.tree new.tree → Acts k new i (Some Close) (Answers 0)
  unfolding close_row
  closes {d} {n} is named {new} sound told =
      let reaped = close-reaps (answered-here x 0).runner d n
      (record { running = x.run.active; named = sym named; up = x.up })
      ∙ sym (state-but (counting (answered (closed_at k i d n) 0) new.tree.failures)
      (ap (λ (z : Kernel). answered z 0) told.0)) in
      settles x Close 0 (here-as x sound told.0 refl told.1.up) told.1
      (rw (descriptor-is x is named)
      (settles-gone x (clear x.process.descriptors (low (argument k 0))) x.process.directory
      (length-set x.process.descriptors (low (argument k 0)) None) (rw (← is) reaped)))
