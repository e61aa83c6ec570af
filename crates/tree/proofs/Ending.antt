-- How a call on files ends, and steps that turn the files into others.
use Rattle.tree.proofs.Common.{set, ◌≡◌, ◌≢◌, ◌∙◌, ℕ, Err, List, Ok, Result, ap, arith, false, refl, subst, sym, true}
use Rattle.tree.proofs.Common.{IfOk, None, OnErr, Option, Some, IsRefusal, false≢true, DeviceFault, Reads, Tries, Turns}
use Rattle.tree.proofs.Common.{Acts}
use Rattle.layout.specs.declared.Kind.{Kind}
use Rattle.tree.proofs.Common.{FileTree, TreeFault, Files, slot, fresh, Rewrites, TakesNode, IsFile, free_number, put}
use Rattle.tree.proofs.Common.{Directory, Serves, Entry}
use Rattle.tree.proofs.Following.{Beside, IsNow, beside-acted, beside-now, beside-then, beside-tried, end-lost}
use Rattle.tree.proofs.Following.{now-files, now-read, now-served, now-turned, now-up, now-wanted, tried}
use Rattle.cache.proofs.Using.{rises-before}
use Rattle.std.specs.Result.{is_err, IsErrAnd}
use Rattle.std.proofs.lemmas.Result.{err_from_is_err_and, IfOk-at_ok}
use Rattle.tree.specs.Tree.{is_device, has_failed}
use Rattle.tree.specs.declared.TreeFault.TheVariants.{Device}
use Rattle.unixmodel.specs.Failures.{Rises}

-- ---- the result of the last step

last-is : {old mid new : FileTree} {files : Files} (now : IsNow old mid files) {T : Type 0} {Was Told : T → Type 0}
    (r : Result T DeviceFault) → Tries mid new r Was → ((x : T) → r ≡ Ok x → Told x) → Tries old new r Told
last-is now (Err e) tries so = end-lost now tries refl refl
last-is now (Ok x) tries so = tried (beside-then (beside-now now) (beside-tried tries)) tries.serves.up (so x refl)

pub end-last : {old mid new : FileTree} (now : IsNow old mid old.files) {T : Type 0} {Was Told : T → Type 0}
    (r : Result T DeviceFault) → Reads mid new r Was → ((x : T) → Was x → Told x) → Reads old new r Told
end-last {old} {mid} {new} now {T} {Was} {Told} r reads so = last-is now r reads (λ x is.
    let told : (new ≡ record mid { failures = new.failures }) × Was x =
    subst (λ (q : Result T DeviceFault). IfOk q (λ x. (new ≡ record mid { failures = new.failures }) × Was x))
    is reads.serves.told in
    ((now-read now reads is).is, so x told.1))

pub turned-last : {old mid new : FileTree} {files : Files} (now : IsNow old mid files) {T : Type 0}
    (r : Result T DeviceFault) {next wanted : Files} → Turns mid new r next → next ≡ wanted → Turns old new r wanted
turned-last {old} {new = new} now {T} r turns same =
    last-is now r turns (λ x is. (now-turned now turns is).is
    ∙ ap (λ fs. record old { files = fs; failures = new.failures }) same)

-- ---- it is done

end-done : {old now : FileTree} {T : Type 0} {Told : T → Type 0} {files : Files} {x : T} → old.failed ≡ false
    → IsNow old now files → Told x → Tries old now (Ok x) Told
end-done up now told = tried (beside-now now) (now-up now up) told

pub end-read : {old now : FileTree} {T : Type 0} {Told : T → Type 0} {x : T} → old.failed ≡ false
    → IsNow old now old.files → Told x → Reads old now (Ok x) Told
end-read up now told = end-done up now (now.is, told)

end-turned : {old now : FileTree} {T : Type 0} {files : Files} {x : T} → old.failed ≡ false → IsNow old now files
    → Turns old now (Ok x) files
end-turned up now = end-done up now now.is

-- ---- a call on names

abbrev fault_or : {T : Type 0} → Result T TreeFault → TreeFault → TreeFault
fault_or (Ok x) other = other
fault_or (Err fault) other = fault

err-is : {T : Type 0} (e f : TreeFault) → ◌≡◌ {A = Result T TreeFault} (Err e) (Err f) → e ≡ f
err-is e f h = ap (λ r. fault_or r e) h

module _ {old now : FileTree} {T : Type 0} {Done : T → Type 0} {Refused : Type 0} {Why : TreeFault → Type 0} where
  acted : {x : T} → Beside old now → now.failed ≡ false → Done x → Acts old now (Ok x) Done Refused Why
  acted beside up done =
      record {
        done = done;
        refused = tt;
        failed = up;
        size = beside.size;
        limit = beside.limit;
        holds = beside.holds;
        same_device = beside.device;
        later = beside.later;
        cause = λ e. cc;
      }

  refused : {fault : TreeFault} → Beside old now → now.failed ≡ is_device fault
      → (fault ≢ Device → IsRefusal old now Refused (Why fault)) → (fault ≡ Device → Rises old.failures now.failures)
      → Acts old now (Err fault) Done Refused Why
  refused {fault} beside failed why cause = record {
    done = tt;
    refused = why;
    failed = failed;
    size = beside.size;
    limit = beside.limit;
    holds = beside.holds;
    same_device = beside.device;
    later = beside.later;
    cause = λ e. cause (err-is fault Device e);
  }

  pub acts-done : {files : Files} {x : T} → old.failed ≡ false → IsNow old now files → Done x
      → Acts old now (Ok x) Done Refused Why
  acts-done up is done = acted (beside-now is) (now-up is up) done

  pub acts-not : {fault : TreeFault} → old.failed ≡ false → IsNow old now old.files → is_device fault ≡ false → Refused
      → Why fault → Acts old now (Err fault) Done Refused Why
  acts-not {fault} up is known less why =
      refused (beside-now is) (now-up is up ∙ sym known)
      (λ _. record { refused = less; why = why; same = now-files is })
      (λ e. absurd (false≢true (sym known ∙ ap is_device e)))

  -- an access failed
  pub acts-lost : {mid : FileTree} {files : Files} (is : IsNow old mid files) {U : Type 0} {Was : U → Type 0}
      {r : Result U DeviceFault} {e : DeviceFault} {s : Result T TreeFault} → Tries mid now r Was → r ≡ Err e
      → IsErrAnd s (λ f. f ≡ Device)
      → Acts old now s Done Refused Why
  acts-lost is {U} {s = s} tries was told =
      let err = err_from_is_err_and s told in
      let down = subst (λ (q : Result U DeviceFault). OnErr q (now.failed ≡ true)) was tries.serves.down in
      let rises = rises-before is.later (tries.serves.cause.failed (ap is_err was)) in
      rw (err.1 ∙ ap Err err.2)
      (refused (beside-then (beside-now is) (beside-tried tries)) down (λ known. absurd (known refl)) (λ _. rises))

  -- a part was refused, and so is the whole
  pub acts-refused : {mid : FileTree} → IsNow old mid old.files
      → {U : Type 0} {Part : U → Type 0} {Less : Type 0} {Cause : TreeFault → Type 0} {r : Result U TreeFault}
      {s : Result T TreeFault} {fault : TreeFault} → Acts mid now r Part Less Cause → r ≡ Err fault
      → (fault ≢ Device → Less → Cause fault → Refused × Why fault) → IsErrAnd s (λ f. f ≡ fault)
      → Acts old now s Done Refused Why
  acts-refused {mid} is {Part = Part} {Less = Less} {Cause = Cause} {s = s} acts was so told =
      let part = subst (λ q. Acts mid now q Part Less Cause) was acts in
      let err = err_from_is_err_and s told in
      rw (err.1 ∙ ap Err err.2) (refused (beside-then (beside-now is) (beside-acted part)) part.failed
      (λ known.
      let no = part.refused known in
      let both = so known no.refused no.why in
      record { refused = both.0; why = both.1; same = no.same ∙ now-files is })
      (λ e. let rises = part.cause (ap Err e) in rises-before is.later rises))

-- ---- steps that turn files into others, and what holds of equal files

module _ {old mid : FileTree} {files : Files} (now : IsNow old mid files) where
  -- a property of the current tree, as one of the tree that the old one became
  pub was-now : (P : FileTree → Type 0) → P mid → P (record old { files = files; failures = mid.failures })
  was-now P = subst P now.is

  -- and the other way round
  pub at-now : (P : FileTree → Type 0) → P (record old { files = files; failures = mid.failures }) → P mid
  at-now P = subst P (sym now.is)

  module _ {new : FileTree} {T : Type 0} {r : Result T DeviceFault} (change : Files → Files)
      (turns : Turns mid new r (change mid.files)) where
    pub now-changed : {x : T} → r ≡ Ok x → IsNow old new (change files)
    now-changed is = subst (IsNow old new) (ap change (now-files now)) (now-turned now turns is)

    pub end-changed : {goal : Files} → change files ≡ goal → Turns old new r goal
    end-changed e = turned-last now r turns (ap change (now-files now) ∙ e)

  -- a node was taken
  module _ {new : FileTree} {r : Result (Option ℕ) DeviceFault} (kind : Kind)
      (takes : Tries mid new r (TakesNode mid new kind)) {o : Option ℕ} (is : r ≡ Ok o) where
    told : TakesNode mid new kind o
    told = IfOk-at_ok (TakesNode mid new kind) is takes.serves.told

    pub now-took : {n : ℕ} → o ≡ Some n → (free_number files ≡ Some n) × IsNow old new (set files n (fresh kind))
    now-took {n} some =
        let t = subst (TakesNode mid new kind) some told in (
          ap free_number (sym (now-files now))
              ∙ t.0,
          now-wanted (now-served now takes.serves is (λ _. t.1))
              (ap (λ fs. set fs n (fresh kind)) (now-files now)),
        )

    pub now-none : o ≡ None → (free_number files ≡ None) × IsNow old new files
    now-none none = let t = subst (TakesNode mid new kind) none told
        in (
          ap free_number (sym (now-files now))
              ∙ t.0,
          now-wanted (now-served now takes.serves is (λ _. t.1)) (now-files now),
        )

  -- after a call on names
  module _ {new : FileTree} {T : Type 0} {r : Result T TreeFault} {Done : T → Type 0} {Refused : Type 0}
      {Why : TreeFault → Type 0} (acts : Acts mid new r Done Refused Why) where
    pub now-passed : old.failed ≡ false → {x : T} → r ≡ Ok x → {next : Files} → new.files ≡ next → IsNow old new next
    now-passed up is {next} same =
        let all = beside-then (beside-now now) (beside-acted acts) in
        let up : new.failed ≡ old.failed = acts.failed ∙ ap has_failed is ∙ sym up in
        record {
          is = λ i. record {
            files = same i;
            size = all.size i;
            block_limit = all.limit i;
            holds = all.holds i;
            failed = up i;
            failures = new.failures;
            identity = all.device i;
          };
          later = all.later;
        }

  -- a call that left the files as they were
  pub now-kept : {new : FileTree} {T : Type 0} {r : Result T TreeFault} {Done : T → Type 0} {Refused : Type 0}
      {Why : TreeFault → Type 0} → Acts mid new r (λ x. Done x × (new.files ≡ mid.files)) Refused Why
      → old.failed ≡ false → {x : T} → r ≡ Ok x → IsNow old new files
  now-kept {new} {Done = Done} acts up is =
      now-passed acts up is ((IfOk-at_ok (λ x. Done x × (new.files ≡ mid.files)) is acts.done).1 ∙ now-files now)

-- a file of `files` is one of the current tree
abbrev pub file-now : {old mid : FileTree} {files : Files} → IsNow old mid files → {n : ℕ} → IsFile files n
    → IsFile mid.files n
file-now now {n} f = record
    { links = f.links; bytes = f.bytes; here = ap (λ (fs : Files). slot fs n) (now-files now) ∙ f.here }

-- ---- equal files, at the end

pub end-still : {old now : FileTree} {T : Type 0} {files goal : Files} {x : T} → old.failed ≡ false
    → IsNow old now files → files ≡ goal → Turns old now (Ok x) goal
end-still up is e = end-turned up (now-wanted is e)

-- ---- slots of a directory are written

-- writing these bytes to the directory makes these files
pub record Becomes (t : FileTree) (d at : ℕ) (bytes : List ℕ) (goal : Files) : Type 0 where
  pub next : List (Option Entry)
  pub able : Rewrites t d at bytes next
  pub is : put t.files d (Directory able.links next) ≡ goal

told-done : {T : Type 0} {Was Told : T → Type 0} (r : Result T DeviceFault) → ((x : T) → Was x → Told x) → IfOk r Was
    → IfOk r Told
told-done (Ok x) so was = so x was
told-done (Err e) so was = tt

-- a weaker condition on the result
pub tells-more : {old new : FileTree} {T : Type 0} {Was Told : T → Type 0} {r : Result T DeviceFault}
    → ((x : T) → Was x → Told x) → Tries old new r Was → Tries old new r Told
tells-more {r = r} so tries = record {
  serves = record {
    told = told-done r so tries.serves.told;
    up = tries.serves.up;
    down = tries.serves.down;
    same_device = tries.serves.same_device;
    cause = tries.serves.cause;
  };
  size = tries.size;
  limit = tries.limit;
  holds = tries.holds;
}

pub turns-become : {t new : FileTree} {d at : ℕ} {bytes : List ℕ} {goal : Files} {T : Type 0}
    {r : Result T DeviceFault} (b : Becomes t d at bytes goal)
    → Tries t new r (λ _. (next : List (Option Entry)) → (r : Rewrites t d at bytes next)
    → new ≡ record t { files = put t.files d (Directory r.links next); failures = new.failures })
    → Turns t new r goal
turns-become {t} {new} b =
    tells-more (λ x is. is b.next b.able ∙ ap (λ (fs : Files). record t { files = fs; failures = new.failures }) b.is)

-- ---- calls that serve, of which nothing else is known

module _ {old mid new : FileTree} {files : Files} (now : IsNow old mid files) {T : Type 0} {r : Result T DeviceFault}
    {Was : T → Type 0} (serves : Serves mid new r Was) where
  pub lost-served : {U : Type 0} {Told : U → Type 0} {e f : DeviceFault} {s : Result U DeviceFault} → r ≡ Err e
      → IsErrAnd s (λ x. x ≡ f) → Serves old new s Told
  lost-served {s = s} was told =
      let err = (err_from_is_err_and s told).1 in
      let failed = subst (λ (q : Result T DeviceFault). OnErr q (new.failed ≡ true)) was serves.down in
      record {
        told = rw err tt;
        up = rw err tt;
        down = rw err failed;
        same_device = serves.same_device
            ∙ (beside-now now).device;
        cause =
            record {
              later = let l = now.later in let m = serves.cause.later in omega arith;
              failed = λ _. rises-before now.later (serves.cause.failed (ap is_err was));
            };
      }
