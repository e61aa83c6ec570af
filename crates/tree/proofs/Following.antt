-- The steps of a call on files, one after the other.
use Rattle.tree.proofs.Common.{◌≡◌, ◌≢◌, ◌≤◌, ◌∙◌, ℕ, Err, List, Ok, Result, ap, arith, false, refl, subst, sym, true}
use Rattle.tree.proofs.Common.{IfOk, IsSome, None, OnErr, Option, Some, false≢true, DeviceFault, IsFolder, Reads, Tries}
use Rattle.tree.proofs.Common.{Turns, Acts, FileTree, TreeFault, Files, Node, lookup, slot, Serves}
use Rattle.cache.proofs.Using.{rises-before}
use Rattle.std.specs.Result.{is_err, IsErrAnd}
use Rattle.std.proofs.lemmas.Result.{err_from_is_err_and, IfOk-at_ok}
use Rattle.unixmodel.specs.Failures.{Rises}

-- what no step changes
pub record Beside (old new : FileTree) : Type 0 where
  pub size : new.size ≡ old.size
  pub limit : new.block_limit ≡ old.block_limit
  pub holds : new.holds ≡ old.holds
  pub device : new.identity ≡ old.identity
  pub later : old.failures ≤ new.failures

pub beside-then : {old mid new : FileTree} → Beside old mid → Beside mid new → Beside old new
beside-then one two = record {
  size = two.size ∙ one.size;
  limit = two.limit ∙ one.limit;
  holds = two.holds ∙ one.holds;
  device = two.device
      ∙ one.device;
  later = let l = one.later in let m = two.later in omega arith;
}

pub beside-tried : {old new : FileTree} {T : Type 0} {r : Result T DeviceFault} {Told : T → Type 0}
    → Tries old new r Told
    → Beside old new
beside-tried tries = record {
  size = tries.size;
  limit = tries.limit;
  holds = tries.holds;
  device = tries.serves.same_device;
  later = tries.serves.cause.later;
}

pub beside-acted : {old new : FileTree} {T : Type 0} {r : Result T TreeFault} {Done : T → Type 0} {Refused : Type 0}
    {Why : TreeFault → Type 0} → Acts old new r Done Refused Why → Beside old new
beside-acted acts = record
    { size = acts.size; limit = acts.limit; holds = acts.holds; device = acts.same_device; later = acts.later }

-- ---- a step returns

module _ {old new : FileTree} {T : Type 0} {Told : T → Type 0} (beside : Beside old new) where
  pub tried : {x : T} → new.failed ≡ false → Told x → Tries old new (Ok x) Told
  tried up told = record {
    serves = record {
      told = told;
      up = up;
      down = tt;
      same_device = beside.device;
      cause = record { later = beside.later; failed = λ e. absurd (false≢true e) };
    };
    size = beside.size;
    limit = beside.limit;
    holds = beside.holds;
  }

  pub failed : {e : DeviceFault} → new.failed ≡ true → Rises old.failures new.failures → Tries old new (Err e) Told
  failed down rises = record {
    serves = record {
      told = tt;
      up = tt;
      down = down;
      same_device = beside.device;
      cause = record { later = beside.later; failed = λ _. rises };
    };
    size = beside.size;
    limit = beside.limit;
    holds = beside.holds;
  }

-- after steps that succeeded: these are the files, and all else is as it was
pub record IsNow (old now : FileTree) (files : Files) : Type 0 where
  pub is : now ≡ record old { files = files; failures = now.failures }
  pub later : old.failures ≤ now.failures

pub now-begin : {t : FileTree} → IsNow t t t.files
now-begin = record { is = refl; later = omega arith }

pub beside-now : {old now : FileTree} {files : Files} → IsNow old now files → Beside old now
beside-now now = record {
  size = ap (λ (t : FileTree). t.size) now.is;
  limit = ap (λ (t : FileTree). t.block_limit) now.is;
  holds = ap (λ (t : FileTree). t.holds) now.is;
  device = ap (λ (t : FileTree). t.identity) now.is;
  later = now.later;
}

-- equal files
pub now-wanted : {old now : FileTree} {files wanted : Files} → IsNow old now files → files ≡ wanted
    → IsNow old now wanted
now-wanted {old} {now} is e = subst (IsNow old now) e is

module _ {old mid : FileTree} {files : Files} (now : IsNow old mid files) where
  pub now-up : old.failed ≡ false → mid.failed ≡ false
  now-up up = ap (λ (t : FileTree). t.failed) now.is ∙ up

  pub now-files : mid.files ≡ files
  now-files = ap (λ (t : FileTree). t.files) now.is

  pub now-limit : mid.block_limit ≡ old.block_limit
  now-limit = (beside-now now).limit

  pub used-now : (n : ℕ) → IsSome (slot files n) → IsSome (slot mid.files n)
  used-now n = subst (λ (fs : Files). IsSome (slot fs n)) (sym now-files)

  pub now-node : (n : ℕ) → (x : Node) × (slot files n ≡ Some x) → (x : Node) × (slot mid.files n ≡ Some x)
  now-node n = subst (λ (fs : Files). (x : Node) × (slot fs n ≡ Some x)) (sym now-files)

  pub some-now : (n : ℕ) → slot files n ≢ None → slot mid.files n ≢ None
  some-now n = subst (λ (fs : Files). slot fs n ≢ None) (sym now-files)

  -- what holds of a node of the current tree holds of the node in `files`
  pub told-now : (n : ℕ) {P : Node → Type 0} → ((x : Node) → slot mid.files n ≡ Some x → P x) → (x : Node)
      → slot files n ≡ Some x → P x
  told-now n told x here = told x (ap (λ (fs : Files). slot fs n) now-files ∙ here)

  -- a directory of `files` is one of the current tree
  abbrev pub folder-now : {d : ℕ} → IsFolder files d → IsFolder mid.files d
  folder-now {d} f = record
      { links = f.links; places = f.places; here = ap (λ (fs : Files). slot fs d) now-files ∙ f.here }

  abbrev pub folder-was : {d : ℕ} → IsFolder mid.files d → IsFolder files d
  folder-was {d} f = record
      { links = f.links; places = f.places; here = ap (λ (fs : Files). slot fs d) (sym now-files) ∙ f.here }

  module _ {new : FileTree} where
    module _ {T : Type 0} {r : Result T DeviceFault} where
      pub now-served : {Was : T → Type 0} → Serves mid new r Was → {x : T} → r ≡ Ok x → {next : Files}
          → (Was x → new ≡ record mid { files = next; failures = new.failures }) → IsNow old new next
      now-served {Was} serves is {next} so = record {
        is = so (IfOk-at_ok Was is serves.told)
            ∙ ap (λ (t : FileTree). record t { files = next; failures = new.failures }) now.is;
        later = let l = now.later in let m = serves.cause.later in omega arith;
      }

      pub now-read : {x : T} {Told : T → Type 0} → Reads mid new r Told → r ≡ Ok x → IsNow old new files
      now-read reads is = now-wanted (now-served reads.serves is (λ told. told.0)) now-files

      pub now-turned : {x : T} {next : Files} → Turns mid new r next → r ≡ Ok x → IsNow old new next
      now-turned turns is = now-served turns.serves is (λ told. told)

    -- the number that a name has, looked up in the current tree
    pub looked : (d : ℕ) (name : List ℕ) {r : Result (Option ℕ) DeviceFault} {o x : Option ℕ}
        → Reads mid new r (λ n. n ≡ lookup mid.files d name) → r ≡ Ok o → o ≡ x → lookup files d name ≡ x
    looked d name reads was is =
        let told = subst (λ (q : Result (Option ℕ) DeviceFault). IfOk q
        (λ o. (new ≡ record mid { failures = new.failures }) × (o ≡ lookup mid.files d name))) was
        reads.serves.told in
        sym (told.1 ∙ ap (λ (fs : Files). lookup fs d name) now-files) ∙ is

    -- a step failed
    pub end-lost : {T U : Type 0} {Was : U → Type 0} {Told : T → Type 0} {r : Result U DeviceFault} {e f : DeviceFault}
        {s : Result T DeviceFault} → Tries mid new r Was → r ≡ Err e → IsErrAnd s (λ x. x ≡ f) → Tries old new s Told
    end-lost {U = U} {s = s} tries was told =
        let down = subst (λ (q : Result U DeviceFault). OnErr q (new.failed ≡ true)) was tries.serves.down in
        rw (err_from_is_err_and s told).1
        (failed (beside-then (beside-now now) (beside-tried tries)) down
        (rises-before now.later (tries.serves.cause.failed (ap is_err was))))
