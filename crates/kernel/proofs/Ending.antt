-- A process ends: its nodes are let go, one after the other, and the kernel keeps what it keeps.
use Rattle.kernel.proofs.Common.{true, false, ◌≡◌, ℕ, ◌≤◌, ◌%◌, Some, refl, ap, subst, sym, ◌∙◌, slice_index, Kernel}
use Rattle.kernel.proofs.Common.{FileTree, IsKernel, Process, SpaceView, suc, List, Option, Err, Ok, None, same_Some}
use Rattle.kernel.proofs.Common.{◌<◌, ℤ, ended, counting, arith, le_trans, IfOk, OnErr, Result, DeviceFault, Serves}
use Rattle.kernel.proofs.Common.{Bool, [], ◌∷◌, ◌++◌, AreHeld, gone_nodes, loaded, waking, IsAlive, Places, exited}
use Rattle.kernel.proofs.Common.{slot, drop-cons, ◌+◌, drop, length, all_dropped, dropped}
use Rattle.kernel.proofs.Runs.{run-of, with_process, there-of}
use Rattle.kernel.proofs.Changes.{ended-is, last-run, IsLast, ended-held, ended-kernel, ended-made, ended_of, last-idle}
use Rattle.kernel.proofs.Steps.{fail-kernel, serves-as, with-tree}
use Rattle.std.specs.Prelude.{IsErr}
use Rattle.kernel.specs.Sound.{CanEnd, CanEndIn}

-- ---- the end of a process that runs, or where none runs

-- ---- nodes are let go one after the other, and the device counts its failures on the way

-- the tree with another count
abbrev pub counted : FileTree → ℕ → FileTree
counted t failures = record t { failures = failures }

pub all-counted : (t : FileTree) (ns : List ℕ) (failures : ℕ)
    → all_dropped (counted t failures) ns ≡ counted (all_dropped t ns) failures
all-counted t [] failures = refl
all-counted t (n ∷ ns) failures = all-counted (dropped t n) ns failures

held-counted : (t : FileTree) (ns : List ℕ) (failures : ℕ) → AreHeld t ns → AreHeld (counted t failures) ns
held-counted t [] failures held = tt
held-counted t (n ∷ ns) failures held = (held.0, (held.1.0, held-counted (dropped t n) ns failures held.1.1))

-- the first i were let go
pub record IsLetting (old : FileTree) (nodes : List ℕ) (now : FileTree) (i : ℕ) : Type 0 where
  pub up : now.failed ≡ false
  pub held : AreHeld now (drop i nodes)
  pub goes : (failures : ℕ)
      → counted (all_dropped now (drop i nodes)) failures ≡ counted (all_dropped old nodes) failures
  pub same_device : now.identity ≡ old.identity
  pub later : old.failures ≤ now.failures

drop-next : (ns : List ℕ) (i : ℕ) → i < length ns → drop i ns ≡ slice_index ns i ∷ drop (i + 1) ns
drop-next ns i h = let next : suc i ≡ i + 1 = omega arith in drop-cons ns i 0 h
    ∙ ap (λ j. slice_index ns i ∷ drop j ns) next

module _ {old now : FileTree} {nodes : List ℕ} {i : ℕ} (is : IsLetting old nodes now i) (h : i < length nodes) where
  abbrev n : ℕ
  n = slice_index nodes i

  pub held-next : AreHeld now (n ∷ drop (i + 1) nodes)
  held-next = subst (AreHeld now) (drop-next nodes i h) is.held

  -- one more was let go
  pub lets-next : (t : FileTree) → t ≡ counted (dropped now n) t.failures → t.failed ≡ false
      → now.failures ≤ t.failures → IsLetting old nodes t (i + 1)
  lets-next t told up later = record {
    up = up;
    held = subst (λ x. AreHeld x (drop (i + 1) nodes)) (sym told) (held-counted _ _ _ held-next.1.1);
    goes = λ failures.
        ap (λ x. counted (all_dropped x (drop (i + 1) nodes)) failures) told
        ∙ ap (λ x. counted x failures) (all-counted (dropped now n) (drop (i + 1) nodes) t.failures)
        ∙ ap (λ ns. counted (all_dropped now ns) failures) (sym (drop-next nodes i h))
        ∙ is.goes failures;
    same_device = ap (λ (x : FileTree). x.identity) told ∙ is.same_device;
    later = omega (arith, later, is.later);
  }

-- a node was let go
pub lets-more : {old now : FileTree} {nodes : List ℕ} {i : ℕ} (is : IsLetting old nodes now i) (h : i < length nodes)
    (t : FileTree) (r : Result (Unit {0}) DeviceFault)
    → Serves now t r (λ done. t ≡ counted (dropped now (slice_index nodes i)) t.failures) → (done : Unit {0})
    → r ≡ Ok done → IsLetting old nodes t (i + 1)
lets-more is h t (Ok done) serves x e = lets-next is h t serves.told serves.up serves.cause.later
lets-more is h t (Err fault) serves x e = absurd (let bad : Err fault ≡ Ok x = e in cc)

-- an access failed on the way
pub lets-fails : {old now : FileTree} {nodes : List ℕ} {i : ℕ} {P Q : Unit {0} → Type 0} → IsLetting old nodes now i
    → (t : FileTree) (r s : Result (Unit {0}) DeviceFault) → Serves now t r P → (fault : DeviceFault) → r ≡ Err fault
    → IsErr s → Serves old t s Q
lets-fails {old} {now} {nodes} {i} {P} {Q} is t (Err _) (Err _) serves fault bad worse = record {
  told = tt;
  up = tt;
  down = serves.down;
  same_device = serves.same_device ∙ is.same_device;
  cause = record {
    later = le_trans is.later serves.cause.later;
    failed = λ e. let rises = serves.cause.failed refl in omega (arith, rises, is.later);
  };
}
lets-fails is t (Ok done) s serves fault bad worse = absurd (cc)
lets-fails is t (Err _) (Ok done) serves fault bad worse = absurd (let none : false ≡ true = worse in cc)

-- ---- the end of a process

last-go : (k : Kernel) (i : ℕ) (q : Process) (o : Option ℕ) → IsKernel k → k.spaces.active ≡ o → CanEndIn k i o
    → slot (loaded k).places i ≡ Some q → (h : SpaceView) × IsLast k i q h
last-go k i q (Some j) is active can at =
    let run = run-of k i is (active ∙ ap Some can) in
    let last = last-run k i run.0 _ run.1.1 in
    (run.1.0, subst (λ (x : Process). IsLast k i x run.1.0) (same_Some _ q (sym last.there ∙ at)) last)
last-go k i q None is active can at =
    let there : slot k.table.places i ≡ Some q = rw active at at in
    let h = there-of k i q is there in
    (h.0, last-idle k i q h.0 active h.1 (subst IsAlive there can))

-- it is put back, its descriptors are closed, and it ends
abbrev pub finished : Kernel → ℕ → Process → ℤ → Kernel
finished k i q status = record (ended_of k i status q) { table = exited (with_process k.table i q) i status }

-- the count of the device's failures has no part in the rest
pub counting-kernel : (k : Kernel) (failures : ℕ) → IsKernel k → IsKernel (counting k failures)
counting-kernel k failures is = with-tree is _ (λ up.
    let used = is.used up in
    record {
      rules = used.rules;
      zero = used.zero;
      within = used.within;
      holds = used.holds;
      held = used.held;
      fits = used.fits;
      homes = used.homes;
    })

-- a step of the disk that leaves this tree, or fails
pub told-kernel : {k : Kernel} → IsKernel k → (t : FileTree) (r : Result (Unit {0}) DeviceFault)
    → IfOk r (λ done. t ≡ counted k.tree t.failures) → OnErr r (t.failed ≡ true) → IsKernel (record k { tree = t })
told-kernel {k} is t (Ok done) told down =
    subst (λ (u : FileTree). IsKernel (record k { tree = u })) (sym told) (counting-kernel k _ is)
told-kernel is t (Err fault) told down = fail-kernel is t down

-- in terms of the fields: k is what they show, now is the kernel's value
module _ {k now : Kernel} {i : ℕ} {q : Process} (status : ℤ) (same : k ≡ now) (is : IsKernel now) (can : CanEnd now i)
    (said : Some q ≡ slot (loaded now).places i) where
  last : (h : SpaceView) × IsLast now i q h
  last = last-go now i q _ is refl can.can (sym said)

  finish-is : finished now i q status ≡ ended now i status
  finish-is = ap (λ (t : Places). record (finished now i q status) { table = exited t i status }) (sym last.1.put)
      ∙ ended-made now i q _ last.1 status

  module _ (z : slice_index now.spaces.registers 0 ≡ 0) (a : now.spaces.pc % 4 ≡ 0) where
    -- it let go all, or an access failed on the way
    pub finish-closes : (t : FileTree) (r : Result (Unit {0}) DeviceFault)
        → IfOk r (λ done. t ≡ counted (finished k i q status).tree t.failures) → OnErr r (t.failed ≡ true)
        → IsKernel (record (finished k i q status) { tree = t })
    finish-closes = told-kernel {k = finished k i q status} (
        let ends : IsKernel (ended now i status) =
        rw (ended-is now is z a i q _ last.1 status) (ended-kernel now is z a i q _ last.1 status) in
        let keeps : IsKernel (finished now i q status) = rw finish-is ends in
        rw same keeps)

    -- it held the nodes that it lets go
    pub finish-held : AreHeld k.tree (gone_nodes k.files q.descriptors ++ q.directory ∷ [])
    finish-held = rw same (ended-held now is z a i q _ last.1 status can.up)

  pub finish-serves : (t : FileTree) (r : Result (Unit {0}) DeviceFault) (awake : List Bool)
      → Serves k.tree t r (λ done. t ≡ counted (finished k i q status).tree t.failures) → (meant : ℤ) → status ≡ meant
      → Serves now.tree t r (λ done. waking (record (finished k i q status) { tree = t }) awake
      ≡ waking (counting (ended now i meant) t.failures) awake)
  finish-serves t r awake serves meant e =
      serves-as (ap (λ (x : Kernel). x.tree.identity) same) (ap (λ (x : Kernel). x.tree.failures) same)
      (λ done told. ap (λ x. waking (record (finished k i q status) { tree = x }) awake) told
      ∙ ap (λ x. waking (counting x t.failures) awake) (ap (λ (x : Kernel). finished x i q status) same ∙ finish-is)
      ∙ ap (λ n. waking (counting (ended now i n) t.failures) awake) e)
      serves
