-- One slot trades frames: what is left of the fields, and what they show then; and spaces over duplicates.
use Rattle.spaces.proofs.Common.{Ram, Held, ◌+◌, ◌++◌, ◌-◌, ◌<◌, [], ap, arith, Bool, Err, false, get_or-set_other, inl}
use Rattle.spaces.proofs.Common.{inr, length, length-append, length-set, List, map, None, Ok, Option, refl, replicate}
use Rattle.spaces.proofs.Common.{Result, slice_set, Some, subst, sym, take, true, ℕ, ◌∙◌, ◌≡◌, ◌≢◌, ◌≤◌, ◌⊎◌, cases_eq}
use Rattle.spaces.proofs.Common.{length-replicate, take_all, OnFalse, OnTrue, OnErr, OnOk, free_count, IsFreeList}
use Rattle.spaces.proofs.Common.{Trades, Frames, coherent-nothing, IsCoherent, page_frames, slot, Memory, Perm}
use Rattle.spaces.proofs.Common.{shared_memory, zero_page, HoldsNothing, Translation, length-mapping, fork-machine}
use Rattle.spaces.proofs.Common.{trade-machine, trade-others, frames_for, entry_marks, IsMachine, IsPlace, entries_of}
use Rattle.spaces.proofs.Common.{holds, IsSpace, pages_in, pages_of, Reframes, Stands, Space, VmFault, forked}
use Rattle.spaces.proofs.Common.{frames_in, grown, has_space, no_pages, SpaceView, taken_frames, with_place, IsLoaded}
use Rattle.spaces.proofs.Common.{IsSpaces, pipe_frames, Runs, shown, spaces_of, view_with, Inside, copied}
use Rattle.spaces.proofs.Common.{nil_from_length, FrameNo, IfSome, IsActive}
use Rattle.frames.specs.Owned.{IsDuplicate}
use Rattle.frames.specs.declared.memory.Memory.{Memory as FrameMemory}
use Rattle.spaces.proofs.Places.{pipes-beside, frames-shown, frames_for-pages, free-is, free-taken, held-is}
use Rattle.spaces.proofs.Places.{length-pages_of, places-count, slot-is, taken-fits}
use Rattle.spaces.proofs.SpacesLemmas.{Places, map-placed, place-free, refilled, taken-forked, taken-placed, within}
use Rattle.spaces.proofs.Shown.{Placed, Shows, placed-as, runs-changed, runs-on, same-place, set_in, shown-as}
use Rattle.spaces.proofs.Shown.{shown-placed, still-loaded, with_holders}
use Rattle.frames.proofs.TradeLemmas.{Trades-none}
use Rattle.vm.specs.Owned.{Grows, Resizes}
use Rattle.vm.specs.Shares as shares
use Rattle.vm.specs.declared.Perm.{Perm as MarksGiven}
use Rattle.vm.proofs.SharesLemmas.{same-machine}

module _ {T : Type 0} {held : T → Held} {i : Inside T} (is : IsSpaces held i) where
  -- one slot has another space, where a slot traded with the free frames
  placed : (at from : ℕ) (y : Option Space) (k : Ram) (n : Frames) (t : T) (q : Places) (new : List ℕ)
      (places : List (Option SpaceView))
      → q ≡ slice_set i.places.items at y → IsMachine k n (slice_set i.places.items at y) (pipe_frames i.pipes.items)
      → IsLoaded (held t) k i.hart.root.0 (slice_set i.places.items at y) i.loaded
      → ((x : Translation) → held t x → held i.translator x) → map (shown k) (slice_set i.places.items at y) ≡ places
      → Trades i.memory.ram k i.memory.frames n (shares.held_at i.memory.ram (slot i.places.items from)) new
      → Shows held i (record i { memory = with_holders k n; translator = t; places = record { items = q } })
      (record (spaces_of i) { places = places })
  placed at from y k n t q new places e machine loaded fewer shows trades =
      let j : Inside _ = record i { memory = with_holders k n; translator = t; places = record { items = q } } in
      let sound : IsSpaces held j = record {
        machine = rw e machine;
        all = ap length e ∙ length-set i.places.items at y ∙ is.all;
        loaded = rw e loaded;
        active = is.active;
        inside = λ x h. let old = is.inside x (fewer x h) in let count = trades.count in omega (arith, old, count);
        pipes = is.pipes;
        both = is.both;
      } in
      let view : spaces_of j ≡ record (spaces_of i) { places = places } =
      rw (
        e,
        shows,
        pipes-beside i.memory.ram k i.memory.frames n i.places.items i.pipes.items new from is.machine trades,
        trades.count,
      ) refl in
      record {
        sound = sound;
        view = view;
        fits = omega (arith, ap taken_frames view, taken-fits held j sound, trades.count);
      }

  traded : (at : ℕ) (y : Option Space) (k : Ram) (n : Frames) (t : T) (q : Places) → at < length i.places.items
      → q ≡ slice_set i.places.items at y → IsPlace k y n
      → Trades i.memory.ram k i.memory.frames n (shares.held_at i.memory.ram (slot i.places.items at))
      (shares.held_at k y)
      → ((x : Translation) → held t x → held i.translator x)
      → (i.loaded ≡ Some at → Runs (held i.translator) i.memory.ram i.hart.root.0 i.places.items
      at → Runs (held t) k i.hart.root.0 (slice_set i.places.items at y) at)
      → Placed held i (record i { memory = with_holders k n; translator = t; places = record { items = q } })
      at (shown k y)
  traded at y k n t q hi e place trades fewer here =
      let others = trade-others i.memory.ram k i.memory.frames n i.places.items (pipe_frames i.pipes.items)
      (shares.held_at k y)
      at is.machine trades in
      let P : ℕ → Type 0 = λ j. Runs (held t) k i.hart.root.0 (slice_set i.places.items at y) j in
      let loaded = still-loaded (held i.translator) (held t) i.memory.ram k i.hart.root.0 i.places.items
      (slice_set i.places.items at y) i.loaded (λ j a run. elim (cases_eq j at) [
        | inl same ↦ subst P (sym same)
            (here (a ∙ ap Some same)
            (subst (λ (j : ℕ). Runs (held i.translator) i.memory.ram i.hart.root.0 i.places.items j) same run))
        | inr ne ↦ runs-on run (get_or-set_other i.places.items at j y None ne ∙ run.stands)
            (others j run.space ne run.stands) fewer
      ]) is.loaded in
      placed at at y k n t q (shares.held_at k y) (slice_set (map (shown i.memory.ram) i.places.items) at (shown k y)) e
      (trade-machine i.memory.ram k i.memory.frames n i.places.items (pipe_frames i.pipes.items)
      at y is.machine hi place trades)
      loaded fewer (shown-placed i.memory.ram k i.places.items at y others) trades

  free-place : (at : ℕ) → at < 64 → has_space (spaces_of i) at ≡ false
      → (at < length i.places.items) × (slot i.places.items at ≡ None)
  free-place at low free =
      (let all = is.all in omega (arith, low, all), free-is i at (place-free (spaces_of i) at free))

  -- a space that was made is put in a free slot
  pub settled-there : {k : Ram} {n : Frames} {xs : Places} (at : ℕ) (z : Space) → at < 64
      → has_space (spaces_of i) at ≡ false → xs ≡ i.places.items → IsSpace k z n
      → Trades i.memory.ram k i.memory.frames n [] (holds k z) → z.size ≡ 0
      → Placed held i (set_in i (with_holders k n) i.translator xs at (Some z)) at (Some no_pages)
  settled-there {k} {n} at z low free same space trades bare =
      let place = free-place at low free in
      let none = nil_from_length (pages_of k z) (length-pages_of k z ∙ ap pages_in bare) in
      placed-as at (traded at (Some z) k n i.translator _ place.0 (refilled at same refl) space (rw place.1 trades)
      (λ x h. h) (λ a run. absurd (let bad : None ≡ Some run.space = sym place.1 ∙ run.stands in cc)))
      (shown-as k z [] 0 none bare)

  -- or one that shares the frames of another
  pub shared-there : {k : Ram} {n : Frames} {xs : Places} (from to : ℕ) (x z : Space) (t : T) → to < 64
      → has_space (spaces_of i) to ≡ false → xs ≡ i.places.items → slot i.places.items from ≡ Some x
      → IsSpace k x n → IsSpace k z n
      → Trades i.memory.ram k i.memory.frames n (holds i.memory.ram x) (holds k x ++ holds k z)
      → ((u : Translation) → held t u → held i.translator u) → (i.loaded ≡ Some from → HoldsNothing (held t))
      → pages_of k x ≡ shared_memory (pages_of i.memory.ram x) → pages_of k z ≡ shared_memory (pages_of i.memory.ram x)
      → z.size ≡ x.size → Shows held i (set_in i (with_holders k n) t xs to (Some z)) (copied (spaces_of i) from to)
  shared-there {k} {n} from to x z t low free same stands parent child trades fewer fenced marked pages size =
      let place = free-place to low free in
      let all = i.places.items in
      let now = Some (forked (view_with (pages_of i.memory.ram x) x.size)) in
      let first : Trades i.memory.ram k i.memory.frames n (shares.held_at i.memory.ram (slot all from))
      (holds k x ++ holds k z) =
      rw stands trades in
      let others = trade-others i.memory.ram k i.memory.frames n all (pipe_frames i.pipes.items)
      (holds k x ++ holds k z) from
      is.machine first in
      let loaded = still-loaded (held i.translator) (held t) i.memory.ram k i.hart.root.0 all
      (slice_set all to (Some z))
      i.loaded (λ j a run. (
      let apart : j ≢ to = λ (e : j ≡ to). let bad : None ≡ Some run.space = sym place.1 ∙ ap (slot all) (sym e)
      ∙ run.stands in cc in
      let there = get_or-set_other all to j (Some z) None apart ∙ run.stands in
      elim (cases_eq j from) [
        | inl same ↦ record {
          space = run.space;
          stands = there;
          same = run.same;
          coherent = coherent-nothing (held t) run.space.root.0 (entries_of k run.space) (fenced (a ∙ ap Some same));
        }
        | inr ne ↦ runs-on run there (others j run.space ne run.stands) fewer
      ])) is.loaded in
      let shows = map-placed (shown k) (shown k) all to (Some z) (λ j ne. refl)
      ∙ ap (λ (l : List (Option SpaceView)). slice_set l to (shown k (Some z)))
      (ap (map (shown k)) (same-place all from x stands) ∙ shown-placed i.memory.ram k all from (Some x) others)
      ∙ ap (λ (o : Option SpaceView). slice_set (slice_set (spaces_of i).places from o) to (shown k (Some z)))
      (shown-as k x (shared_memory (pages_of i.memory.ram x)) x.size marked refl)
      ∙ ap (slice_set (slice_set (spaces_of i).places from now) to)
      (shown-as k z (shared_memory (pages_of i.memory.ram x)) x.size pages size) in
      rw (held-is i _ stands) (placed to from (Some z) k n t _ (holds k x ++ holds k z)
      (slice_set (slice_set (spaces_of i).places from now) to now) (refilled to same refl)
      (fork-machine i.memory.ram k i.memory.frames n all (pipe_frames i.pipes.items) from to x z is.machine stands
      place.0 place.1
      parent child trades) loaded fewer shows first)

  -- fewer slots are loaded
  pub less-loaded : (at : ℕ) (l : Option ℕ) → IfSome l (λ j. i.loaded ≡ Some j)
      → ((j : ℕ) → j ≢ at → i.loaded ≡ Some j → l ≡ Some j) → i.active ≢ Some at
      → IsSpaces held (record i { loaded = l })
  less-loaded at l same others idle = record {
    machine = is.machine;
    all = is.all;
    loaded = loads l same;
    active = runs i.active refl is.active;
    inside = is.inside;
    pipes = is.pipes;
    both = is.both;
  } where
    loads : (o : Option ℕ) → IfSome o (λ j. i.loaded ≡ Some j)
        → IsLoaded (held i.translator) i.memory.ram i.hart.root.0 i.places.items o
    loads None same = tt
    loads (Some j) same = rw same at is.loaded

    runs : (a : Option ℕ) → i.active ≡ a → IsActive a i.loaded → IsActive a l
    runs None e active = tt
    runs (Some j) e active = others j (λ same. idle (e ∙ ap Some same)) active

  -- another slot is loaded, or the same again
  pub loads-there : (at : ℕ) (x : Space) (t : T) (root : FrameNo) → slot i.places.items at ≡ Some x → root ≡ x.root
      → ((u : Translation) → held t u → held i.translator u) → (i.loaded ≢ Some at → HoldsNothing (held t))
      → IsLoaded (held t) i.memory.ram root.0 i.places.items (Some at)
  loads-there at x t root stands same fewer fenced = record {
    space = x;
    stands = stands;
    same = ap (λ (f : FrameNo). f.0) same;
    coherent = holds-there i.loaded refl is.loaded;
  } where
    nothing : i.loaded ≢ Some at → IsCoherent (held t) x.root.0 (entries_of i.memory.ram x)
    nothing other = coherent-nothing (held t) x.root.0 (entries_of i.memory.ram x) (fenced other)

    holds-there : (o : Option ℕ) → i.loaded ≡ o
        → IsLoaded (held i.translator) i.memory.ram i.hart.root.0 i.places.items o
        → IsCoherent (held t) x.root.0 (entries_of i.memory.ram x)
    holds-there None e loaded = nothing (λ other. absurd (let bad : None ≡ Some at = sym e ∙ other in cc))
    holds-there (Some j) e run = elim (cases_eq j at) [
      | inl same ↦
          let both : Some run.space ≡ Some x = sym run.stands ∙ ap (slot i.places.items) same ∙ stands in
          let is : run.space ≡ x = cc in
          subst (λ (d : Space). IsCoherent (held t) d.root.0 (entries_of i.memory.ram d)) is
          (record { walks = λ u h root. run.coherent.walks u (fewer u h) root })
      | inr other ↦ nothing (λ there. other (let both : Some j ≡ Some at = sym e ∙ there in cc))
    ]

  -- a slot that isn't loaded loses its space
  pub destroyed : {k : Ram} {n : Frames} {xs : Places} {y : Option Space} (at : ℕ) (x : Space)
      → slot i.places.items at ≡ Some x → i.loaded ≢ Some at → xs ≡ i.places.items → y ≡ None → IsFreeList k n
      → Trades i.memory.ram k i.memory.frames n (holds i.memory.ram x) []
      → Placed held i (set_in i (with_holders k n) i.translator xs at y) at None
  destroyed {k} {n} at x stands idle same gone free trades =
      traded at None k n i.translator _ (within i.places.items at x stands) (refilled at same gone) free
      (rw stands trades) (λ t h. h) (λ a run. absurd (idle a))

  -- the space of a slot changes, and keeps its root
  pub changed : {k : Ram} {n : Frames} {q : Places} (at : ℕ) (x z : Space) (t : T) → slot i.places.items at ≡ Some x
      → q ≡ slice_set i.places.items at (Some z) → IsSpace k z n
      → Trades i.memory.ram k i.memory.frames n (holds i.memory.ram x) (holds k z)
      → z.root ≡ x.root → ((u : Translation) → held t u → held i.translator u)
      → (i.loaded ≡ Some at → IsCoherent (held i.translator) x.root.0 (entries_of i.memory.ram x)
      → IsCoherent (held t) x.root.0 (entries_of k z))
      → Placed held i (record i { memory = with_holders k n; translator = t; places = record { items = q } })
      at (shown k (Some z))
  changed {k} {n} {q} at x z t stands e space trades root fewer coherent =
      let hi = within i.places.items at x stands in
      traded at (Some z) k n t q hi e space (rw stands trades) fewer
      (λ a run. runs-changed (held i.translator) (held t) i.memory.ram k i.hart.root.0 i.places.items
      at x z hi stands root (coherent a) run)

  -- pages of a space are written, and may have other frames: then nothing is held for the loaded slot, which shows this
  -- memory
  pub reframed-showing : (at : ℕ) (x : Space) (k : Ram) (n : Frames) (t : T) (memory : Memory)
      → slot i.places.items at ≡ Some x → Reframes i.memory.ram k x i.memory.frames n
      → ((u : Translation) → held t u → held i.translator u)
      → (i.loaded ≡ Some at → HoldsNothing (held t)) → pages_of k x ≡ memory
      → Placed held i (record i { memory = with_holders k n; translator = t }) at (Some (view_with memory x.size))
  reframed-showing at x k n t memory e r fewer fenced pages =
      placed-as at (changed at x x t e (same-place i.places.items at x e) r.space r.trades refl fewer
      (λ a was. coherent-nothing (held t) x.root.0 (entries_of k x) (fenced a)))
      (shown-as k x memory x.size pages refl)

  -- a page of a space is written in its own frame, so what is held stays: the slot shows this memory then
  pub stood-showing : (at : ℕ) (x : Space) (k : Ram) (memory : Memory) → slot i.places.items at ≡ Some x
      → Stands i.memory.ram k x
      → pages_of k x ≡ memory → Placed held i (record i { memory = with_holders k i.memory.frames })
      at (Some (view_with memory x.size))
  stood-showing at x k memory e s pages =
      let space = is.machine.each at x e in
      placed-as at (changed at x x i.translator e (same-place i.places.items at x e) (s.space i.memory.frames space)
      (s.trades i.memory.frames space) refl (λ u h. h) (λ a was. rw s.entries was))
      (shown-as k x memory x.size pages refl)

-- nothing changed
pub view-same : {T : Type 0} (i : Inside T) (at : ℕ) (x : Space) (k : FrameMemory) (z : Space) (q : Places)
    → (k ≡ i.memory) × (z ≡ x) → slot i.places.items at ≡ Some x
    → q ≡ slice_set i.places.items at (Some z)
    → spaces_of (record i { memory = k; places = record { items = q } }) ≡ spaces_of i
view-same i at x k z q u e same =
    let stays : q ≡ i.places.items = same ∙ ap (λ y. slice_set i.places.items at (Some y)) u.1
    ∙ sym (same-place i.places.items at x e) in
    rw (u.0, stays) refl

-- ---- what spaces show

-- the first pages of a space that grew, or didn't, are mapped as they were
pub grown-front : (bytes : ℕ) (perm : MarksGiven) (m k : FrameMemory) (x z : Space) (r : Result (Unit {0}) VmFault)
    → OnOk r (Grows m k x z bytes perm) → OnErr r ((k ≡ m) × (z ≡ x))
    → take (length (entries_of m.ram x)) (entries_of k.ram z) ≡ entries_of m.ram x
grown-front bytes perm m k x z (Ok u) grows same =
    rw (length-mapping entry_marks m.ram x.root.0 (pages_in x.size)) grows.entries
grown-front bytes perm m k x z (Err f) grows same =
    rw (same.0, same.1) (take_all (length (entries_of m.ram x)) (entries_of m.ram x) (omega arith))

-- and the space is intact
pub resized : (bytes : ℕ) (perm : MarksGiven) (m k : FrameMemory) (x z : Space) (r : Result (Unit {0}) VmFault)
    → IsSpace m.ram x m.frames → OnOk r (Grows m k x z bytes perm) → OnErr r ((k ≡ m) × (z ≡ x)) → Resizes m k x z
resized bytes perm m k x z (Ok u) is grows same = grows.resizes
resized bytes perm m k x z (Err f) is grows same = rw (same.0, same.1) (record {
  space = is;
  root = refl;
  registers = refl;
  opens = λ first h. h;
  trades = Trades-none m.ram m.frames (holds m.ram x);
})

-- ---- refusals

module _ {T : Type 0} {held : T → Held} {i : Inside T} (is : IsSpaces held i) where
  -- the frames don't suffice for what a slot would have
  over : (at : ℕ) (o : Option Space) (y : Option SpaceView) → at < length i.places.items → slot i.places.items at ≡ o
      → frames_in (shown i.memory.ram o) + free_count i.memory.ram i.memory.frames < frames_in y
      → length i.memory.ram < taken_frames (with_place (spaces_of i) at y)
  over at o y hi e more =
      let within : at < length (spaces_of i).places = rw (places-count i) hi in
      omega (arith, free-taken held i is, taken-placed (spaces_of i) at y within, ap frames_in (slot-is i at o e), more)

  -- nor for one more space
  pub over-free : (at : ℕ) (y : Option SpaceView) → at < 64 → has_space (spaces_of i) at ≡ false
      → free_count i.memory.ram i.memory.frames < frames_in y
      → length i.memory.ram < taken_frames (with_place (spaces_of i) at y)
  over-free at y low free more = let place =
      free-place is at low free in over at None y place.0 place.1 (omega (arith, more))

  -- nor for a fork
  pub over-forked : (from to : ℕ) (x : Space) → slot i.places.items from ≡ Some x → to < 64
      → has_space (spaces_of i) to ≡ false → free_count i.memory.ram i.memory.frames < frames_for (pages_in x.size)
      → length i.memory.ram < taken_frames (copied (spaces_of i) from to)
  over-forked from to x stands low free more =
      let y = view_with (pages_of i.memory.ram x) x.size in
      let less = over-free to (Some y) low free (rw (frames-shown i.memory.ram x) more) in
      let same = taken-forked (spaces_of i) from to y (slot-is i from (Some x) stands) free
      (rw (places-count i) (free-place is to low free).0) in
      rw (held-is i _ stands) (omega (arith, less, same))

  -- nor for a space of more bytes, which is refused where it would pass the greatest size or takes more frames than are
  -- free
  pub over-grown : (at : ℕ) (x : Space) (bytes : ℕ) (marks : Perm) → slot i.places.items at ≡ Some x
      → length i.memory.ram ≤ 32768 → (274877898752 < x.size + bytes)
      ⊎ (frames_for (pages_in x.size) + free_count i.memory.ram i.memory.frames
      < frames_for (pages_in (x.size + bytes)))
      → length i.memory.ram < taken_frames
      (with_place (spaces_of i) at (Some (grown (view_with (pages_of i.memory.ram x) x.size) bytes marks)))
  over-grown at x bytes marks e small why =
      let all = free-taken held i is in
      let now = frames-shown i.memory.ram x in
      let more = frames_for-pages (pages_in (x.size + bytes)) in
      let old = length-pages_of i.memory.ram x in
      let new : length (grown (view_with (pages_of i.memory.ram x) x.size) bytes marks).memory
      ≡ pages_in (x.size + bytes) =
      length-append (pages_of i.memory.ram x)
      (replicate (pages_in (x.size + bytes) - pages_in x.size) (zero_page marks))
      ∙ omega (arith, old, length-replicate (pages_in (x.size + bytes) - pages_in x.size) (zero_page marks)) in
      let takes : frames_in (Some (grown (view_with (pages_of i.memory.ram x) x.size) bytes marks))
      ≡ 4 + page_frames (pages_in (x.size + bytes)) = ap (λ n. 4 + page_frames n) new in
      let hi = within i.places.items at x e in
      let rest = taken-placed (spaces_of i) at None (rw (places-count i) hi) in
      let here = ap frames_in (slot-is i at (Some x) e) in
      over at (Some x) (Some (grown (view_with (pages_of i.memory.ram x) x.size) bytes marks)) hi e (elim why [
        | inl large ↦ omega (arith, all, small, rest, here, takes, large)
        | inr full ↦ omega (arith, now, takes, more, full)
      ])

-- ---- spaces over duplicates of the memory and the frames

-- the parts of a duplicate, with a translator that is fenced
pub record IsParts {T U : Type 0} (held : U → Held) (i : Inside T) (j : Inside U) : Type 0 where
  pub memory : IsDuplicate i.memory j.memory
  pub places : j.places ≡ i.places
  pub hart : j.hart ≡ i.hart
  pub active : j.active ≡ i.active
  pub loaded : j.loaded ≡ i.loaded
  pub pipes : j.pipes ≡ i.pipes
  pub fenced : HoldsNothing (held j.translator)

pub parts-sound : {T U : Type 0} (old : T → Held) (new : U → Held) (i : Inside T) (j : Inside U) → IsParts new i j
    → IsSpaces old i → IsSpaces new j
parts-sound old new i j is spaces = record {
  machine = rw (is.memory.ram, is.places, is.pipes)
      (same-machine i.memory.ram i.memory.frames j.memory.frames i.places.items (pipe_frames i.pipes.items)
      is.memory.frames
      spaces.machine);
  all = rw is.places spaces.all;
  loaded = rw (is.memory.ram, is.places, is.hart, is.loaded)
      (still-loaded (old i.translator) (new j.translator) i.memory.ram i.memory.ram i.hart.root.0 i.places.items
      i.places.items
      i.loaded
      (λ k a run. record {
        space = run.space;
        stands = run.stands;
        same = run.same;
        coherent = coherent-nothing (new j.translator) run.space.root.0 (entries_of i.memory.ram run.space) is.fenced;
      })
      spaces.loaded);
  active = rw (is.active, is.loaded) spaces.active;
  inside = λ t held. absurd (is.fenced t held);
  pipes = rw is.pipes spaces.pipes;
  both = rw is.pipes spaces.both;
}
