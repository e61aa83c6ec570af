-- What the fields show where one slot changes.
use Rattle.spaces.proofs.Common.{Ram, Held, ◌<◌, ap, get_or-set_same, length, map, None, Option, refl, slice_set, Some}
use Rattle.spaces.proofs.Common.{subst, sym, ℕ, ◌∙◌, ◌≡◌, ◌≤◌, set-get_or, refill, Frames, FrameNo, IsCoherent, slot}
use Rattle.spaces.proofs.Common.{Memory, Translation, OthersUntouched, entries_of, IsUntouched, pages_of, Space}
use Rattle.spaces.proofs.Common.{SpaceView, taken_frames, with_place, IsLoaded, IsSpaces, Runs, shown, Spaces}
use Rattle.spaces.proofs.Common.{spaces_of, view_with, Inside, List, frame_of}
use Rattle.frames.specs.declared.memory.Memory.{Memory as FrameMemory}
use Rattle.spaces.proofs.SpacesLemmas.{Places, map-placed}
use Rattle.hart.specs.declared.decoded.Decoded.{Decoded}
use Rattle.hart.specs.Recalled.{Knows}

-- a memory of these bytes, and who holds its frames
abbrev pub with_holders : Ram → Frames → FrameMemory
with_holders k n = record { ram = k; frames = n }

-- a slot that stays
pub same-place : (xs : Places) (at : ℕ) (x : Space) → slot xs at ≡ Some x → xs ≡ slice_set xs at (Some x)
same-place xs at x e = sym (ap (slice_set xs at) (sym e) ∙ set-get_or xs at None)

-- ---- what the slots show

pub same-shown : (m k : Ram) (o : Option Space) → ((x : Space) → o ≡ Some x → IsUntouched m k x) → shown k o ≡ shown m o
same-shown m k None h = refl
same-shown m k (Some x) h = ap (λ p. Some (view_with p x.size)) (h x refl).pages

pub shown-placed : (m k : Ram) (places : Places) (at : ℕ) (y : Option Space)
    → OthersUntouched m k places at → map (shown k) (slice_set places at y)
    ≡ slice_set (map (shown m) places) at (shown k y)
shown-placed m k places at y others =
    map-placed (shown m) (shown k) places at y (λ j ne. same-shown m k (slot places j) (λ x e. others j x ne e))

-- ---- what the hart runs

-- what the active slot runs, from what holds of any slot
pub still-loaded : (old new : Held) (m k : Ram) (root : ℕ) (places q : Places) (a : Option ℕ)
    → ((j : ℕ) → a ≡ Some j → Runs old m root places j → Runs new k root q j) → IsLoaded old m root places a
    → IsLoaded new k root q a
still-loaded old new m k root places q None each run = tt
still-loaded old new m k root places q (Some j) each run = each j refl run

-- a space that stays, where no more is held of its tables
pub runs-on : {old new : Held} {m k : Ram} {root j : ℕ} {places q : Places} (run : Runs old m root places j)
    → slot q j ≡ Some run.space → IsUntouched m k run.space → ((t : Translation) → new t → old t) → Runs new k root q j
runs-on run stands stays fewer =
    record {
      space = run.space;
      stands = stands;
      same = run.same;
      coherent = rw stays.entries (record { walks = λ t h root. run.coherent.walks t (fewer t h) root });
    }

-- the space of the active slot changes, and keeps its root
pub runs-changed : (old new : Held) (m k : Ram) (root : ℕ) (places : Places) (at : ℕ) (x z : Space) → at < length places
    → slot places at ≡ Some x → z.root ≡ x.root
    → (IsCoherent old x.root.0 (entries_of m x) → IsCoherent new x.root.0 (entries_of k z))
    → Runs old m root places at → Runs new k root (slice_set places at (Some z)) at
runs-changed old new m k root places at x z hi e same coherent run =
    let both : Some run.space ≡ Some x = sym run.stands ∙ e in
    let is : run.space ≡ x = cc in
    let root_is : z.root.0 ≡ x.root.0 = ap (λ (r : FrameNo). r.0) same in
    let was = subst (λ (d : Space). IsCoherent old d.root.0 (entries_of m d)) is run.coherent in
    let now : IsCoherent new z.root.0 (entries_of k z) =
    subst (λ (r : ℕ). IsCoherent new r (entries_of k z)) (sym root_is) (coherent was) in
    record {
      space = z;
      stands = get_or-set_same places at (Some z) None hi;
      same = run.same
          ∙ ap (λ (d : Space). d.root.0) is ∙ sym root_is;
      coherent = now;
    }

-- ---- all of it

pub shown-as : (k : Ram) (z : Space) (memory : Memory) (size : ℕ) → pages_of k z ≡ memory → z.size ≡ size
    → shown k (Some z) ≡ Some (view_with memory size)
shown-as k z memory size p e = ap (λ (m : Memory). Some (view_with m z.size)) p
    ∙ ap (λ (n : ℕ). Some (view_with memory n)) e

-- the fields after a change, which show these values then
pub record Shows {T : Type 0} (held : T → Held) (i j : Inside T) (v : Spaces) : Type 0 where
  pub sound : IsSpaces held j
  pub view : spaces_of j ≡ v
  pub fits : taken_frames v ≤ length i.memory.ram

-- after a change of one slot, which shows this
abbrev pub Placed : {T : Type 0} → (T → Held) → Inside T → Inside T → ℕ → Option SpaceView → Type 0
Placed held i j at y = Shows held i j (with_place (spaces_of i) at y)

pub placed-as : {T : Type 0} {held : T → Held} {i j : Inside T} (at : ℕ) {y z : Option SpaceView}
    → Placed held i j at y → y ≡ z → Placed held i j at z
placed-as {held} {i} {j} at p e = subst (λ (o : Option SpaceView). Placed held i j at o) e p

-- one slot is written, through the slice of all
abbrev pub set_in : {T : Type 0} → Inside T → FrameMemory → T → Places → ℕ → Option Space → Inside T
set_in i k t xs at y =
    record i {
      memory = k;
      translator = t;
      places = record { items = refill (length i.places.items) i.places.items (slice_set xs at y) };
    }

-- what decoded words are is no part of it
pub anew : {T : Type 0} {held : T → Held} {i : Inside T} (d : Decoded) → IsSpaces held i
    → IsSpaces held (record i { decoded = d })
anew d is = record {
  machine = is.machine;
  all = is.all;
  loaded = is.loaded;
  active = is.active;
  inside = is.inside;
  pipes = is.pipes;
  both = is.both;
}

-- one frame was written, and what is known holds of any bytes there
pub known-after : (d : Decoded) (m : Ram) {k : Ram} (f : ℕ) → ((bytes : List ℕ) → Knows d (slice_set m f bytes))
    → k ≡ slice_set m f (frame_of k f) → Knows d k
known-after d m {k} f knows alone = subst (λ n. Knows d n) (sym alone) (knows (frame_of k f))
