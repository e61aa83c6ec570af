-- Steps on the memory of the running process keep what a kernel keeps.
use Rattle.kernel.proofs.Common.{all-set, false, is_within, ◌<◌, ◌≡◌, ◌≤◌, ◌+◌, ◌-◌, ◌∷◌, ◌∙◌, ℕ, zero, suc, Bool, true}
use Rattle.kernel.proofs.Common.{List, [], length, take, drop, is_some, Some, refl, ap, subst, sym, arith, length-set}
use Rattle.kernel.proofs.Common.{Kernel, IsKernel, Keeps, state_of, Process, SpaceView, Spaces, taken_frames, view_at}
use Rattle.kernel.proofs.Common.{Console, put, slot, put_process, State, drew, reheld, resized, sized, wrote, woken_by}
use Rattle.kernel.proofs.Common.{Bytes, grown-with_pages, shrunk-with_pages, some-pipe, with_pipe, with_view, eqb-true}
use Rattle.kernel.proofs.Common.{Taken, Memory, can_write, ceil_div, stack_marks, is_empty, Option, FileTree, IsWhole}
use Rattle.kernel.proofs.Common.{Err, Ok, OnErr, Result, IfOk, DeviceFault, OnOk, HasFetched, HasStored}
use Rattle.std.specs.Bool.{OnFalse, OnTrue}
use Rattle.kernel.proofs.Leaving.{fewer-pipes}
use Rattle.kernel.proofs.Reaping.{over-stands}
use Rattle.kernel.proofs.Runs.{IsRun, moved, moved-kernel, moved-state, run-of, self, set-slot, stands-set, within-run}
use Rattle.kernel.proofs.Runs.{within-space}
use Rattle.kernel.proofs.Steps.{held-run, placed-with, fail-keeps, with-tree}
use Rattle.kernel.proofs.Ending.{counting-kernel}
use Rattle.kernel.proofs.Watching.{kernel-waking, typed-kernel, watched-taken}
use Rattle.kernel.proofs.Asleep.{watched-bytes}
use Rattle.kernel.proofs.FileChanges.{used-changed}
use Rattle.spaces.specs.Spaces.{has_pipe, Fits, Lacks, bytes_in, grown, shrunk, written}
use Rattle.file_transfers.specs.Moved.{IsRead, ReadsSome, with_read, written_from}
use Rattle.tree.specs.Written.{IsFile}
use Rattle.unixmodel.specs.Console.{take_line}
use Rattle.unixmodel.specs.Memory.{write_bytes}
use Rattle.name_rules.specs.Changes.{Changed}
use Rattle.tree.proofs.Keeping.{written-changed}
use Rattle.tree.specs.Calls.{Writes}

-- ---- another space

module _ {k : Kernel} {i : ℕ} {p : Process} {old : SpaceView} (r : IsRun k i p old) (is : IsKernel k) where
  module _ (h : SpaceView) where
    reheld-is : reheld k i h ≡ moved k i p h k.spaces.registers k.spaces.pc
    reheld-is = rw (set-slot _ i _ r.process) refl

    pub reheld-kernel : taken_frames (with_view k.spaces i h) ≤ k.spaces.frames → IsKernel (reheld k i h)
    reheld-kernel fits = rw reheld-is
        (moved-kernel k i p old r is p h _ _ (placed-with k i p old r is h) r.runs refl refl fits)

    pub reheld-state : state_of (reheld k i h) ≡ put_process (state_of k) i (self k p h)
    reheld-state = ap state_of reheld-is ∙ moved-state k i p old r is p h _ _ (placed-with k i p old r is h) r.runs

    -- the frames don't suffice for it
    pub reheld-full : k.spaces.frames < taken_frames (with_view k.spaces i h)
        → is_within (state_of (reheld k i h)) ≡ false
    reheld-full over =
        let to = moved k i p h k.spaces.registers k.spaces.pc in
        let stands = stands-set _ _ i _ _ (within-run k i p old r) (within-space k i p old r is)
        (placed-with k i p old r is h) is.stands in
        subst (λ (y : Kernel). is_within (state_of y) ≡ false) (sym reheld-is) (over-stands to stands over)

  -- bytes are written
  pub wrote-state : (address : ℕ) (bytes : List ℕ)
      → state_of (wrote k i address bytes)
      ≡ put_process (state_of k) i (record (self k p old) { memory = write_bytes old.memory address bytes })
  wrote-state address bytes = rw (held-run k i p old r is) (reheld-state (written old address bytes))

  pub drew-state : (q address count : ℕ)
      → state_of (drew k i q address count)
      ≡ put_process (record (state_of k) { pipes = put k.spaces.pipes q (drop count (bytes_in k.spaces q)) }) i
      (record (self k p old) { memory = write_bytes old.memory address (take count (bytes_in k.spaces q)) })
  drew-state q address count =
      ap (λ (s : State). record s { pipes = put k.spaces.pipes q (drop count (bytes_in k.spaces q)) })
      (wrote-state address _)

  pub resized-state : (size : ℕ)
      → state_of (resized k i size)
      ≡ put_process (state_of k) i (record (self k p old) { size = size; memory = (sized old size).memory })
  resized-state size = rw (held-run k i p old r is) (reheld-state (sized old size))

pub reheld-keeps : {k : Kernel} → Keeps k → {i : ℕ} → k.spaces.active ≡ Some i → (h : SpaceView)
    → taken_frames (with_view k.spaces i h) ≤ k.spaces.frames → Keeps (reheld k i h)
reheld-keeps {k} keeps {i} active h fits =
    record { sound = reheld-kernel (run-of k i keeps.sound active).1.1 keeps.sound h fits; watched = keeps.watched }

pub wrote-keeps : {k : Kernel} → Keeps k → {i : ℕ} → k.spaces.active ≡ Some i → (address : ℕ) (bytes : List ℕ)
    → taken_frames (wrote k i address bytes).spaces ≤ k.spaces.frames → Keeps (wrote k i address bytes)
wrote-keeps {k} keeps {i} active address bytes fits = reheld-keeps keeps active _ fits

-- what is written where all of it may be
pub written-all : {at k : Kernel} → at ≡ k → (i address : ℕ) (bytes : List ℕ) {b : Bool} {new : Spaces}
    → can_write (view_at k.spaces i).memory address (length bytes) ≡ true
    → b ≡ can_write (view_at at.spaces i).memory address (length bytes)
    → OnTrue b (new ≡ (wrote at i address bytes).spaces) → new ≡ (wrote at i address bytes).spaces
written-all {at} same i address bytes {b} {new} can told done =
    subst (λ (c : Bool). OnTrue c (new ≡ (wrote at i address bytes).spaces))
    (told ∙ ap (λ (y : Kernel). can_write (view_at y.spaces i).memory address (length bytes)) same ∙ can) done

-- ---- sizes

pub grown-sized : (h : SpaceView) (bytes : ℕ) → length h.memory ≡ ceil_div h.size 4096
    → grown h bytes (stack_marks true) ≡ sized h (h.size + bytes)
grown-sized h bytes whole =
    ap (λ (m : Memory). let g : SpaceView = record { memory = m; size = h.size + bytes } in g)
    (grown-with_pages h bytes whole)

pub shrunk-sized : (h : SpaceView) (bytes : ℕ) → length h.memory ≡ ceil_div h.size 4096
    → shrunk h bytes ≡ sized h (h.size - bytes)
shrunk-sized h bytes whole =
    ap (λ (m : Memory). let g : SpaceView = record { memory = m; size = h.size - bytes } in g)
    (shrunk-with_pages h bytes whole)

-- over the fields: k is what they show
module _ {k now : Kernel} (keeps : Keeps k) (at : k ≡ now) {i : ℕ} (active : now.spaces.active ≡ Some i) {size : ℕ}
    {h : SpaceView} {new : Spaces} (held : h ≡ sized (view_at k.spaces i) size) where
  pub resized-keeps : new ≡ with_view k.spaces i h → taken_frames new ≤ new.frames → Keeps (record k { spaces = new })
  resized-keeps is fits = rw is (reheld-keeps keeps (rw (← at) at active) h (rw is at fits))

  pub grown-keeps : (b : Bool) → OnTrue b (Fits k.spaces new (with_view k.spaces i h))
      → OnFalse b (Lacks k.spaces new (with_view k.spaces i h)) → Keeps (record k { spaces = new })
  grown-keeps true done lacks = resized-keeps done.1 (rw done.1 done.0)
  grown-keeps false done lacks = rw lacks.1 keeps

module _ (k : Kernel) (i : ℕ) {size : ℕ} {h : SpaceView} (held : h ≡ sized (view_at k.spaces i) size) (new : Spaces)
  where
    pub resized-made : new ≡ with_view k.spaces i h → record k { spaces = new } ≡ resized k i size
    resized-made is = rw (is, held) refl

    pub grown-done : (b : Bool) → OnTrue b (Fits k.spaces new (with_view k.spaces i h))
        → OnTrue b (record k { spaces = new } ≡ resized k i size)
    grown-done true done = resized-made done.1
    grown-done false done = tt

    pub grown-over : (b : Bool) → OnFalse b (Lacks k.spaces new (with_view k.spaces i h))
        → OnFalse b (k.spaces.frames < taken_frames (resized k i size).spaces)
    grown-over true lacks = tt
    grown-over false lacks = rw (← held) lacks.0

-- ---- what was typed

-- a read of no bytes takes none, and leaves none
taken-empty : (has : Bool) (n : ℕ) (bytes : List ℕ) → is_empty bytes ≡ true
    → is_empty (take_line has n bytes).rest ≡ true
unfolding take_line
taken-empty has zero bytes empty = empty
taken-empty has (suc n) [] empty = refl
taken-empty has (suc n) (b ∷ bs) empty =
    absurd (let none : length (b ∷ bs) ≡ 0 = eqb-true (length (b ∷ bs)) 0 empty in omega arith)

pub line-keeps : {k : Kernel} → Keeps k → (has : Bool) (n : ℕ) {bytes : List ℕ} {over : Bool} {new : Console}
    → take_line has n k.console.committed ≡ record { bytes = bytes; rest = new.committed; over = over }
    → Keeps (record k { console = new })
line-keeps {k} keeps has n {new = new} took = record {
  sound = typed-kernel keeps.sound new k.ticks;
  watched = watched-taken _ _ _ new _ _
      (λ empty. ap (λ (t : Taken). is_empty t.rest) (sym took) ∙ taken-empty has n _ empty) keeps.watched;
}

-- ---- pipes

-- an existing pipe gets other bytes
piped-kernel : {k : Kernel} → IsKernel k → (q : ℕ) (old new : List ℕ) → slot k.spaces.pipes q ≡ Some old
    → IsKernel (record k { spaces = with_pipe k.spaces q (Some new) })
piped-kernel {k} is q old new at = let stays =
    all-set (λ r o. is_some o ≡ is_some (slot k.spaces.pipes r)) _ q _ (sym (ap is_some at)) (λ r. refl) in record {
      all = is.all;
      spaces = is.spaces;
      stands = is.stands;
      runs = is.runs;
      used = is.used;
      fits = omega (
        arith,
        is.fits,
        fewer-pipes _ _ (length-set k.spaces.pipes q (Some new)) (λ r bytes there. sym (stays r) ∙ ap is_some there),
      );
      opened = record {
        table = is.opened.table;
        counted = is.opened.counted;
        each = is.opened.each;
        all = length-set k.spaces.pipes q (Some new) ∙ is.opened.all;
        piped = λ r. stays r ∙ is.opened.piped r;
        waits = is.opened.waits;
      };
    }

-- and who waits for bytes is woken
pub pipe-keeps : {k now : Kernel} → Keeps k → k ≡ now → (q : ℕ) → has_pipe now.spaces q ≡ true → (new : List ℕ)
    → Keeps (record k { spaces = with_pipe k.spaces q (Some new); table = woken_by Bytes k.table })
pipe-keeps {k} keeps same q stands new = record {
  sound = kernel-waking (piped-kernel keeps.sound q _ new (some-pipe _ (rw (← same) at stands))) _;
  watched = watched-bytes keeps.watched _ refl;
}

pub drew-keeps : {k now : Kernel} → Keeps k → k ≡ now → {i : ℕ} → now.spaces.active ≡ Some i → (q : ℕ)
    → has_pipe now.spaces q ≡ true → (address count : ℕ)
    → taken_frames (drew k i q address count).spaces ≤ k.spaces.frames
    → Keeps (record (drew k i q address count) { table = woken_by Bytes k.table })
drew-keeps {k} keeps same {i} active q stands address count fits =
    wrote-keeps (pipe-keeps keeps same q stands _) (rw (← same) at active) _ _ fits

-- ---- a read into the memory of the running process

module _ (k : Kernel) (i n offset address count : ℕ) (t : FileTree) (s : Spaces) where
  pub fetch-keeps : Keeps k → k.spaces.active ≡ Some i → (r : Result ℕ DeviceFault)
      → IfOk r (IsRead k.tree t n offset count) → OnErr r (t.failed ≡ true)
      → OnOk r (s ≡ with_read k.spaces i address k.tree.files n offset count)
      → OnErr r (ReadsSome k.spaces s i address k.tree.files n offset count)
      → taken_frames s ≤ s.frames → Keeps (record k { tree = t; spaces = s })
  fetch-keeps keeps active (Ok v) told down come some fits =
      let kept = wrote-keeps keeps active _ _ (rw come at fits) in
      rw (told.same, come) (record { sound = counting-kernel _ _ kept.sound; watched = kept.watched })
  fetch-keeps keeps active (Err fault) told down come some fits =
      rw some.2 (fail-keeps (wrote-keeps keeps active _ _ (rw some.2 at fits)) t down)

  pub fetch-told : (r : Result ℕ DeviceFault) → IfOk r (IsRead k.tree t n offset count)
      → OnOk r (s ≡ with_read k.spaces i address k.tree.files n offset count)
      → IfOk r (HasFetched k (record k { tree = t; spaces = s }) i n offset address count)
  fetch-told (Ok v) told come =
      record {
        same = rw come (ap
            (λ (u : FileTree). record k { tree = u; spaces = with_read k.spaces i address k.tree.files n offset count })
            told.same);
        counted = told.count;
      }
  fetch-told (Err fault) told come = tt

-- ---- a write from it

module _ (k : Kernel) (i n offset address count : ℕ) (t : FileTree) where
  pub store-keeps : Keeps k → k.tree.failed ≡ false → IsFile k.tree.files n → (r : Result (Option ℕ) DeviceFault)
      → IfOk r (Writes k.tree t (written_from k.spaces i address count k.tree n offset)) → OnErr r (t.failed ≡ true)
      → OnOk r (IsWhole t) → Keeps (record k { tree = t })
  store-keeps keeps up file (Ok v) told down whole =
      let used = keeps.sound.used up in
      let changed = subst (λ (u : FileTree). Changed k.tree.files u.files) (sym told.0)
      (written-changed used.rules k.tree.block_limit n offset _ file) in
      record {
        sound = with-tree keeps.sound t
            (λ good. used-changed used t changed (ap (λ (u : FileTree). u.holds) told.0) whole.zero whole.within);
        watched = keeps.watched;
      }
  store-keeps keeps up file (Err fault) told down whole = fail-keeps keeps t down

  pub store-told : (r : Result (Option ℕ) DeviceFault)
      → IfOk r (Writes k.tree t (written_from k.spaces i address count k.tree n offset))
      → IfOk r (HasStored k (record k { tree = t }) i n offset address count)
  store-told (Ok v) told = record { same = ap (λ (u : FileTree). record k { tree = u }) told.0; counted = told.1 }
  store-told (Err fault) told = tt
