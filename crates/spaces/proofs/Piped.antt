-- One pipe trades frames, or is read or written: what is left of the fields, and what they show then.
use Rattle.spaces.proofs.Common.{Ram, Held, ◌+◌, ◌<◌, [], ap, arith, Bool, eqb, false, get_or, length, length-set, List}
use Rattle.spaces.proofs.Common.{map, None, Option, refl, slice_set, Some, subst, sym, true, ℕ, ◌∙◌, ◌∷◌, ◌≡◌, ◌≢◌, ◌≤◌}
use Rattle.spaces.proofs.Common.{get_or_default, length-map, flat_map, refill, is_some, not, unwrap_or, ◌||◌}
use Rattle.spaces.proofs.Common.{count_of-append, count_of-first, held-inside, one_if-le, Trades-give, Trades-take}
use Rattle.spaces.proofs.Common.{among, free_count, further_at, IsFreeList, SameBut, extra_of, free_of, count_of}
use Rattle.spaces.proofs.Common.{Trades, holders_of, Frames, bytes_of, Pipe, Stays, frame_of, slot, taken, one-place}
use Rattle.spaces.proofs.Common.{rest-held, rest-machine, rest-untouched, set-place, Trades-write, two-places, IsOpen}
use Rattle.spaces.proofs.Common.{bytes_in, has_pipe, taken_frames, with_pipe, frames_at, IsSpaces, pipe_frames}
use Rattle.spaces.proofs.Common.{pipe_shown, shown, spaces_of, Inside, each-set}
use Rattle.spaces.proofs.Places.{pipe-free, pipe-held, pipe-slot, pipes-placed, free-taken, taken-fits}
use Rattle.spaces.proofs.SpacesLemmas.{Pipes, map-same, none-of, refilled, some-pipe, taken-piped, within}
use Rattle.spaces.proofs.Stepped.{here}
use Rattle.spaces.proofs.Shown.{with_holders, Shows, runs-on, same-shown, still-loaded}
use Rattle.vm.specs.Shares as shares

-- ---- what the slots for pipes show

pub pipe-is : {T : Type 0} (i : Inside T) (q : ℕ) {p : Pipe} → slot i.pipes.items q ≡ Some p
    → bytes_in (spaces_of i) q ≡ bytes_of i.memory.ram p
pipe-is i q e = ap (λ o. unwrap_or o []) (pipe-slot i.memory.ram i.pipes.items q ∙ ap (pipe_shown i.memory.ram) e)

some-pipe_shown : (m : Ram) (o : Option Pipe) → is_some o ≡ is_some (pipe_shown m o)
some-pipe_shown m None = refl
some-pipe_shown m (Some p) = refl

-- a slot that shows a pipe has one
pub pipe-stands : {T : Type 0} (i : Inside T) (q : ℕ) → has_pipe (spaces_of i) q ≡ true
    → is_some (slot i.pipes.items q) ≡ true
pipe-stands i q has = some-pipe_shown i.memory.ram (slot i.pipes.items q)
    ∙ ap is_some (sym (pipe-slot i.memory.ram i.pipes.items q))
    ∙ has

pipes-count : {T : Type 0} (i : Inside T) → length (spaces_of i).pipes ≡ length i.pipes.items
pipes-count i = length-map i.pipes.items (pipe_shown i.memory.ram)

-- the pipe of a slot, read through a borrowed slice of the slots
pub pipe-found : {T : Type 0} (i : Inside T) (q : ℕ) {xs : Pipes} {y : Option Pipe} (o : Option Pipe)
    → has_pipe (spaces_of i) q ≡ true → xs ≡ i.pipes.items → get_or xs q o ≡ y → slot i.pipes.items q ≡ y
pipe-found i q o has same is =
    let hi : q < length i.pipes.items =
    rw (← pipes-count i) (within (spaces_of i).pipes q (bytes_in (spaces_of i) q)
    (some-pipe (slot (spaces_of i).pipes q) has)) in
    get_or_default i.pipes.items q None o hi ∙ ap (λ l. get_or l q o) (sym same) ∙ is

pub pipe-missing : {T : Type 0} (i : Inside T) (q : ℕ) {xs : Pipes} (o : Option Pipe) → has_pipe (spaces_of i) q ≡ true
    → xs ≡ i.pipes.items → get_or xs q o ≡ None → ⊥
pipe-missing i q o has same e =
    let bad : false ≡ true = ap is_some (sym (pipe-found i q o has same e)) ∙ pipe-stands i q has in
    cc

-- ---- one of them changes

one-each : (y : Option Pipe) → (f : ℕ) → count_of f (frames_at y) ≤ 1
one-each None f = omega arith
one-each (Some p) f = omega (arith, one_if-le (eqb f p.frame))

open-is : (p : Pipe) → IsOpen p → (z : Pipe) → Some p ≡ Some z → IsOpen z
open-is p opens z here = let same : p ≡ z = cc in subst IsOpen same opens

-- the fields after a change of one pipe, which shows this then
abbrev pub Piped : {T : Type 0} → (T → Held) → Inside T → Inside T → ℕ → Option (List ℕ) → Type 0
Piped held i j q y = Shows held i j (with_pipe (spaces_of i) q y)

pub piped-as : {T : Type 0} {held : T → Held} {i j : Inside T} (q : ℕ) {y z : Option (List ℕ)} → Piped held i j q y
    → y ≡ z → Piped held i j q z
piped-as {held} {i} {j} q p e = subst (λ o. Piped held i j q o) e p

-- one slot is written, through the slice of all
abbrev pub set_pipe : {T : Type 0} → Inside T → Ram → Frames → Pipes → ℕ → Option Pipe → Inside T
set_pipe i k n xs q y = record i {
  memory = with_holders k n;
  pipes = record { items = refill (length i.pipes.items) i.pipes.items (slice_set xs q y) };
}

module _ {T : Type 0} {held : T → Held} {i : Inside T} (is : IsSpaces held i) where
  pipe-holds : (q : ℕ) (p : Pipe) → slot i.pipes.items q ≡ Some p → 0 < holders_of i.memory.ram i.memory.frames p.frame
  pipe-holds q p e = rest-held i.memory.ram i.memory.frames i.places.items (pipe_frames i.pipes.items) p.frame
      is.machine
      (pipe-held i.pipes.items q p e)

  -- the frame of a pipe isn't free, and is one of the memory's
  pub pipe-frame : (q : ℕ) (p : Pipe) → slot i.pipes.items q ≡ Some p
      → (p.frame < length i.memory.ram) × (among p.frame (free_of i.memory.ram i.memory.frames) ≡ false)
  pipe-frame q p e = held-inside i.memory.ram i.memory.frames p.frame is.machine.free (pipe-holds q p e)

  piped : {k : Ram} {n : Frames} {xs : Pipes} {z : Option Pipe} (q : ℕ) (y : Option Pipe) → q < length i.pipes.items
      → xs ≡ i.pipes.items → z ≡ y → IsFreeList k n
      → Trades i.memory.ram k i.memory.frames n (frames_at (slot i.pipes.items q)) (frames_at y)
      → ((p : Pipe) → y ≡ Some p → IsOpen p) → Piped held i (set_pipe i k n xs q z) q (pipe_shown k y)
  piped {k} {n} {xs} {z} q y hi same new free trades here =
      let ps = i.pipes.items in
      let e : refill (length ps) ps (slice_set xs q z) ≡ slice_set ps q y = refilled q same new in
      let all = rest-untouched i.memory.ram k i.memory.frames n i.places.items (pipe_frames ps) (frames_at (slot ps q))
      (frames_at y)
      is.machine (λ f. one-place frames_at f ps q refl) trades in
      let kept : (r : ℕ) (p : Pipe) → r ≢ q → slot ps r ≡ Some p
      → frame_of k p.frame ≡ frame_of i.memory.ram p.frame = λ r p ne at. (
      let one : count_of p.frame (frames_at (slot ps r)) ≡ 1 + count_of p.frame [] =
      rw at (count_of-first p.frame p.frame [] refl) in
      let machine = is.machine in
      trades.others p.frame (omega (
        arith,
        one,
        two-places frames_at p.frame ps q r refl ne,
        machine.shared.each p.frame,
        count_of-append p.frame (flat_map (shares.held_at i.memory.ram) i.places.items) (pipe_frames ps),
      ))) in
      let sound : IsSpaces held (set_pipe i k n xs q z) = record {
        machine = rw e (rest-machine i.memory.ram k i.memory.frames n i.places.items (pipe_frames ps)
            (pipe_frames (slice_set ps q y)) (frames_at (slot ps q)) (frames_at y) is.machine free
            (λ f. one-place frames_at f ps q refl) trades (one-each y)
            (λ f. set-place frames_at frames_at f ps q y hi (λ r ne. refl)));
        all = is.all;
        loaded = still-loaded (held i.translator) (held i.translator) i.memory.ram k i.hart.root.0 i.places.items
            i.places.items i.loaded (λ j a run. runs-on run run.stands (all j run.space run.stands) (λ t h. h))
            is.loaded;
        active = is.active;
        inside = λ x h. let old = is.inside x h in let count = trades.count in omega (arith, old, count);
        pipes = ap length e ∙ length-set ps q y ∙ is.pipes;
        both = rw e (each-set IsOpen ps q y hi here (λ r p ne at. is.both r p at));
      } in
      let shows : map (shown k) i.places.items ≡ map (shown i.memory.ram) i.places.items =
      map-same (shown i.memory.ram) (shown k) i.places.items
      (λ j. same-shown i.memory.ram k (slot i.places.items j) (all j))
      in
      let view : spaces_of (set_pipe i k n xs q z) ≡ with_pipe (spaces_of i) q (pipe_shown k y) =
      rw (e, shows, pipes-placed i.memory.ram k ps q y kept, trades.count) refl in
      record {
        sound = sound;
        view = view;
        fits = omega (arith, ap taken_frames view, taken-fits held (set_pipe i k n xs q z) sound, trades.count);
      }

  -- a pipe goes
  pub piped-gone : {k : Ram} {n : Frames} {xs : Pipes} {z : Option Pipe} (q : ℕ) (p : Pipe)
      → slot i.pipes.items q ≡ Some p → xs ≡ i.pipes.items → z ≡ None
      → IsFreeList k n → ((f : ℕ)
      → holders_of k n f + count_of f (p.frame ∷ []) ≡ holders_of i.memory.ram i.memory.frames f)
      → SameBut (p.frame ∷ []) i.memory.ram k → (0 < further_at i.memory.frames p.frame → k ≡ i.memory.ram)
      → Piped held i (set_pipe i k n xs q z) q None
  piped-gone {k} {n} q p at same gone free given others stays =
      piped q None (within i.pipes.items q p at) same gone free
      (rw at (Trades-give i.memory.ram k i.memory.frames n p.frame is.machine.free given others stays
      (pipe-holds q p at)))
      (λ z bad. absurd (let no : None ≡ Some z = bad in cc))

  -- a pipe changes, and keeps its frame and its ends
  pub piped-written : {k : Ram} {xs : Pipes} (q : ℕ) (p z : Pipe) (w : List ℕ) → slot i.pipes.items q ≡ Some p
      → xs ≡ i.pipes.items → Stays p z → k ≡ slice_set i.memory.ram p.frame w
      → Piped held i (set_pipe i k i.memory.frames xs q (Some z)) q (Some (bytes_of k z))
  piped-written {k} q p z w at same stays wrote =
      let both = Trades-write i.memory.ram k i.memory.frames p.frame w is.machine.free (pipe-holds q p at)
      (is.machine.alone p.frame (pipe-held i.pipes.items q p at)) wrote in
      let opens = is.both q p at in
      piped q (Some z) (within i.pipes.items q p at) same refl both.1 (rw (at, stays.frame) both.0)
      (open-is z (record { read = stays.read_open ∙ opens.read; write = stays.write_open ∙ opens.write }))

  free-place : (q : ℕ) → q < 100 → has_pipe (spaces_of i) q ≡ false
      → (q < length i.pipes.items) × (slot (spaces_of i).pipes q ≡ None)
  free-place q low free = (let all = is.pipes in omega (arith, low, all), none-of (slot (spaces_of i).pipes q) free)

  -- a pipe is made in a free slot
  pub piped-there : {n : Frames} {xs : Pipes} (q : ℕ) (p : Pipe) → q < 100 → has_pipe (spaces_of i) q ≡ false
      → xs ≡ i.pipes.items
      → IsFreeList i.memory.ram n → free_of i.memory.ram i.memory.frames ≡ p.frame ∷ free_of i.memory.ram n
      → extra_of n ≡ extra_of i.memory.frames
      → IsOpen p → Piped held i (set_pipe i i.memory.ram n xs q (Some p)) q (Some (bytes_of i.memory.ram p))
  piped-there {n} q p low free same valid taken extra opens =
      let place = free-place q low free in
      let none = pipe-free i.memory.ram (slot i.pipes.items q) (sym (pipe-slot i.memory.ram i.pipes.items q) ∙ place.1)
      in
      piped q (Some p) place.0 same refl valid
      (rw none (Trades-take i.memory.ram i.memory.frames n p.frame is.machine.free valid taken extra)) (open-is p opens)

  -- or no frame is left for it
  pub over-free : (q : ℕ) → q < 100 → has_pipe (spaces_of i) q ≡ false → free_count i.memory.ram i.memory.frames ≡ 0
      → length i.memory.ram < taken_frames (with_pipe (spaces_of i) q (Some []))
  over-free q low free full =
      let place = free-place q low free in
      omega (arith, free-taken held i is, full, taken-piped (spaces_of i) q [] (rw (pipes-count i) place.0) place.1)

-- an end that is open adds nothing to the test
pub or-open : (b w : Bool) → w ≡ true → (b || not w) ≡ b
or-open true w open_end = refl
or-open false w open_end = rw open_end refl
