-- What nothing names any more: a kernel's state has none of it. And the frames that its processes and pipes take.
use Rattle.kernel.proofs.Common.{Bool, ◌≡◌, ℕ, ◌<◌, ◌≤◌, true, length, Option, Some, None, refl, ap, sym, ◌∙◌, is_some}
use Rattle.kernel.proofs.Common.{with_space, option_map, Kernel, loaded, on_hart, rest_of, state_of, IsKernel, IsPlace}
use Rattle.kernel.proofs.Common.{home_in, Process, Places, SpaceView, taken_frames, Mode, slot, is_zombie_mode, State}
use Rattle.kernel.proofs.Common.{IsMode, Memory, false, suc, ◌&&◌, nat_le, [], ◌∷◌, arith, ◌+◌, sum_by, le-leb, lt-leb}
use Rattle.kernel.proofs.Common.{sum_by-cons, state_with, IsOpened, Counts, without_pipes-same, IsTable, opens_of}
use Rattle.kernel.proofs.Common.{length-opens, without_opens-same, changed_at, joined, Spaces, frames_in, blocks_of}
use Rattle.kernel.proofs.Common.{frames_of, is_within, process_frames, taken, reap, without_nodes, without_opens}
use Rattle.kernel.proofs.Common.{without_pipes, Zombie, IsInUse}
use Rattle.kernel.proofs.Releasing.{fewer-nodes, LetsGo}
use Rattle.kernel.proofs.Holding.{used-put, AreAway, IsAway, map-same, Processes, Views}
use Rattle.kernel.proofs.Joined.{active-by, active-same, count-joined, few-taken, opened-active}
use Rattle.kernel.proofs.Runs.{space-of}

-- ---- what nothing names any more: a kernel's state has none of it. And the frames that its processes and pipes take

-- ---- processes and spaces

-- a slot has a process exactly where it has a space
abbrev pub IsMatch : Option Process → Option SpaceView → Type 0
IsMatch o q = is_some o ≡ is_some q

pub match-place : (o : Option Process) (q : Option SpaceView) → IsPlace o q → IsMatch o q
match-place None None is = refl
match-place (Some p) (Some h) is = refl
match-place _ _ is = absurd is

pub match-active : (k : Kernel) (o : Option ℕ) → ((j : ℕ) → IsMatch (slot k.table.places j) (slot k.spaces.places j))
    → (j : ℕ) → IsMatch (slot (changed_at k.table (on_hart k.spaces) o).places j) (slot k.spaces.places j)
match-active k o is j = active-same is_some k (λ p. refl) o j ∙ is j

pub match-loaded : (k : Kernel) → IsKernel k → (j : ℕ) → IsMatch (slot (loaded k).places j) (slot k.spaces.places j)
match-loaded k is j = match-active k _ (λ a. match-place _ _ (is.stands a)) j

pub opened-loaded : (k : Kernel) → IsKernel k → IsOpened k.files k.spaces.pipes (loaded k).places
opened-loaded k is = opened-active k _ _ _ is.opened

-- ---- nothing is given up

-- a zombie works nowhere
away-in : (o : Option Process) (q : Option SpaceView) → IsPlace o q → IsAway o
away-in None q is = tt
away-in (Some p) q is = λ zombie. let h = space-of _ q p refl is in go _ _ h.1.1.mode zombie where
  go : (m : Memory) (mode : Mode) → IsMode p m mode → is_zombie_mode mode ≡ true → p.directory ≡ 0
  go m (Zombie status) is zombie = is.directory
  go m _ is zombie = absurd (let bad : false ≡ true = zombie in cc)

pub are-away : (os : Processes) (hs : Views) → ((j : ℕ) → IsPlace (slot os j) (slot hs j)) → AreAway os
are-away os hs stands j = away-in _ _ (stands j)

pub reap-with : (k : Kernel) (t : Places) (hs : Views) → IsOpened k.files k.spaces.pipes t.places
    → IsInUse k.tree k.files t.places → AreAway t.places
    → reap (state_with t hs (rest_of k)) ≡ state_with t hs (rest_of k)
unfolding reap
reap-with k t hs is used away =
    let s = state_with t hs (rest_of k) in
    let counts : Counts k.files s.places = λ n. is.counted n ∙ sym (count-joined t.places hs n) in
    let opens : without_opens s ≡ s = without_opens-same s _ is.table counts in
    let none : LetsGo k.files t.places k.files t.places [] =
    record { counts = λ m. omega arith; files = λ k c at. (c, (at, refl)); homes = λ j d at. at } in
    let pipes : without_pipes s ≡ s = without_pipes-same s is.piped in
    ap (λ (x : State). without_nodes (without_pipes x)) opens ∙ ap without_nodes pipes
    ∙ fewer-nodes used none s hs away refl refl refl

-- ---- frames

sum-joined : (os : Processes) (hs : Views) → ((i : ℕ) → IsMatch (slot os i) (slot hs i))
    → sum_by process_frames (taken (joined os hs)) ≡ sum_by frames_in hs
unfolding joined
sum-joined [] [] stands = refl
sum-joined [] (None ∷ hs) stands = omega (arith, sum_by-cons frames_in None hs, sum-joined [] hs (λ i. stands (suc i)))
sum-joined (None ∷ os) [] stands = sum-joined os [] (λ i. stands (suc i))
sum-joined (None ∷ os) (None ∷ hs) stands =
    omega (arith, sum_by-cons frames_in None hs, sum-joined os hs (λ i. stands (suc i)))
sum-joined (Some p ∷ os) (Some h ∷ hs) stands =
    omega (
      arith,
      sum_by-cons frames_in (Some h) hs,
      sum_by-cons process_frames (with_space h p) (taken (joined os hs)),
      sum-joined os hs (λ i. stands (suc i)),
    )
sum-joined _ _ stands = absurd (let bad = stands 0 in cc)

pub frames-with : (k : Kernel) (t : Places) → ((i : ℕ) → IsMatch (slot t.places i) (slot k.spaces.places i))
    → frames_of (state_with t k.spaces.places (rest_of k)) ≡ taken_frames k.spaces
unfolding frames_of
frames-with k t stands = ap (λ (n : ℕ). n + length (taken k.spaces.pipes)) (sum-joined _ _ stands)

and-trues : (b : Bool) → (b && true) && true ≡ b
and-trues true = refl
and-trues false = refl

-- the limits are kept where the frames suffice
pub within-state_with : (k : Kernel) (t : Places) → blocks_of k.tree.files ≤ k.tree.block_limit → IsTable k.files
    → ((i : ℕ) → IsMatch (slot t.places i) (slot k.spaces.places i))
    → is_within (state_with t k.spaces.places (rest_of k)) ≡ nat_le (taken_frames k.spaces) k.spaces.frames
within-state_with k t fits is stands =
    let few : length (taken (opens_of k.files)) ≤ 100 =
    omega (arith, few-taken (opens_of k.files), length-opens k.files, is.all) in
    let opens : nat_le (length (taken (opens_of k.files))) 100 ≡ true = le-leb _ _ few in
    let blocks : nat_le (blocks_of k.tree.files) k.tree.block_limit ≡ true = le-leb _ _ fits in
    rw (frames-with k t stands, opens, blocks) (and-trues (nat_le (taken_frames k.spaces) k.spaces.frames))

-- ---- a kernel's state

pub used-active : (k : Kernel) (o : Option ℕ) → IsInUse k.tree k.files k.table.places
    → IsInUse k.tree k.files (changed_at k.table (on_hart k.spaces) o).places
used-active k None is = is
used-active k (Some i) is =
    used-put is i (option_map (on_hart k.spaces) (slot k.table.places i))
    (map-same home_in (on_hart k.spaces) (λ p. refl) _)

pub used-loaded : (k : Kernel) → IsKernel k → k.tree.failed ≡ false → IsInUse k.tree k.files (loaded k).places
used-loaded k is up = used-active k k.spaces.active (is.used up)

away-hart : (s : Spaces) (o : Option Process) → IsAway o → IsAway (option_map (on_hart s) o)
away-hart s None away = tt
away-hart s (Some p) away = away

pub away-loaded : (k : Kernel) → IsKernel k → AreAway (loaded k).places
away-loaded k is = active-by (λ j o. IsAway o) k (λ j. away-hart k.spaces) _ (are-away _ _ is.stands)

pub reap-state : (k : Kernel) → IsKernel k → k.tree.failed ≡ false → reap (state_of k) ≡ state_of k
reap-state k is up = reap-with k (loaded k) k.spaces.places (opened-loaded k is) (used-loaded k is up)
    (away-loaded k is)

pub within-state : (k : Kernel) → IsKernel k → k.tree.failed ≡ false → is_within (state_of k) ≡ true
within-state k is up = within-state_with k (loaded k) (is.used up).within is.opened.table (match-loaded k is)
    ∙ le-leb _ _ is.fits

pub over-state : (k : Kernel) → ((i : ℕ) → IsMatch (slot (loaded k).places i) (slot k.spaces.places i))
    → k.spaces.frames < taken_frames k.spaces → is_within (state_of k) ≡ false
over-state k is over = let full : nat_le (taken_frames k.spaces) k.spaces.frames ≡ false =
    lt-leb _ _ over in rw (frames-with k (loaded k) is, full) refl

pub over-stands : (k : Kernel) → ((j : ℕ) → IsPlace (slot k.table.places j) (slot k.spaces.places j))
    → k.spaces.frames < taken_frames k.spaces → is_within (state_of k) ≡ false
over-stands k stands = over-state k (match-active k _ (λ j. match-place _ _ (stands j)))
