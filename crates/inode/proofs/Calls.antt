-- What steps of a disk mean for a volume's nodes.
use Rattle.inode.proofs.Common.{◌≡◌, ◌∙◌, ℕ, Bool, List, None, Option, Some, ap, arith, length, refl, subst, sym}
use Rattle.inode.proofs.Common.{IsSome, false≢true, Disk, Blocks, raw_at, store_over, Geometry, IsInode, nodes_of}
use Rattle.inode.proofs.Common.{IsSound, slot, ◌+◌, ◌<◌, ◌≤◌, false, take_all, splice, Changes, Store, IsFull, Writes}
use Rattle.inode.proofs.Common.{WritesSome, with_bytes, WritesAt, free_blocks, longest, Err, Ok, Result, IfOk, OnOk}
use Rattle.inode.proofs.Common.{true, rises-before, AsBefore, Reads, Steps, Flushed, Follows, IsLaidOut, Looks, Serves}
use Rattle.inode.proofs.Common.{Tries, has_failed}
use Rattle.inode.proofs.Nodes.{inode-some, kept}
use Rattle.balloc.specs.Inodes.{TakesInode}
use Rattle.layout.specs.declared.Kind.{Kind}
use Rattle.inode.specs.declared.write.Outcome.{Outcome}
use Rattle.inode.specs.declared.write.Outcome.TheVariants.{PastEnd, TooLong, Written}
use Rattle.std.specs.Result.{IsErrAnd, is_err}
use Rattle.std.proofs.lemmas.Result.{err_from_is_err_and}
use Rattle.blockdev.specs.declared.DeviceFault.{DeviceFault}

-- ---- what holds of a volume is so of its disk

module _ {D : Type 0} {s seen : Store D} (is : s ≡ seen) where
  pub up-inside : seen.failed ≡ false → s.failed ≡ false
  up-inside up = ap (λ (s : Store D). s.failed) is ∙ up

  pub at-inside : (P : Store D → Type 0) → P seen → P s
  at-inside P = subst P (sym is)

-- a call on a node
pub asked : {D : Type 0} {g : Geometry} {d : Disk D} {f : Bool} {seen : Store D} (is : store_over g d f ≡ seen)
    → (f ≡ false → IsSound g d.blocks) → seen.failed ≡ false → (n : ℕ) → IsSome (slot seen.nodes n)
    → record { sound : IsSound g d.blocks; inode : IsInode d.blocks g.inodes n }
asked {g = g} {d} is sound up n some =
    record {
      sound = sound (up-inside is up);
      inode = inode-some d.blocks g.inodes n (at-inside is (λ s. IsSome (slot s.nodes n)) some);
    }

-- the disk is still sound
module _ {g : Geometry} {old new : Blocks} where
  pub takes-sound : (kind : Kind) (links : ℕ) → IsSound g old → (o : Option ℕ) → TakesInode g old new kind links o
      → IsSound g new
  takes-sound kind links sound (Some n) takes = takes.1.sets.sound
  takes-sound kind links sound None all = subst (IsSound g) (sym all.1) sound

  pub writes-sound : (n at : ℕ) (bytes : List ℕ) → IsSound g old → (o : Outcome) → WritesAt g old new n at bytes o
      → IsSound g new
  writes-sound n at bytes sound PastEnd past = subst (IsSound g) (sym past.0) sound
  writes-sound n at bytes sound TooLong long = subst (IsSound g) (sym long.0) sound
  writes-sound n at bytes sound (Written k) wrote = wrote.2.wrote.sound

-- ---- bytes are written

module _ {D : Type 0} {old new : Store D} {n at : ℕ} {bytes : List ℕ} (k : ℕ) (some : WritesSome old new n at bytes k)
    (within : at ≤ length (raw_at old.nodes n).bytes) (short : at + length bytes ≤ longest) where
  pub writes-all : length bytes ≤ k → Writes old new n at bytes
  writes-all all = record {
    within = within;
    short = short;
    changes = subst (λ xs. Changes old new n
        (Some (with_bytes (raw_at old.nodes n) (splice at xs (raw_at old.nodes n).bytes)))) (take_all k bytes all)
        some.changes;
  }

  pub writes-part : k < length bytes → IsFull old new n at bytes k
  writes-part less = record
      { some_left = less; within = within; short = short; changes = some.changes; few = some.few less }

-- ---- a step of the disk, of a volume that is up

module _ {D : Type 0} {identity : D → List ℕ} {g : Geometry} {d d' : Disk D} {b : Bool} {T : Type 0} {Was : T → Type 0}
  where
    pub tries : {f : Bool} {Done : T → Type 0} (r : Result T DeviceFault) → Steps identity d d' r Was → b ≡ is_err r
        → ((x : T) → Was x → Done x) → Tries identity (store_over g d f) (store_over g d' b) r Done
    tries (Ok x) step e so =
        record {
          done = so x step.done;
          refused = tt;
          follows = record { geometry = refl; same_device = step.goes.same_device; later = step.goes.later };
          failed = e;
          cause = λ q. absurd (false≢true q);
        }
    tries (Err fault) step e so =
        record {
          done = tt;
          refused = λ q. tt;
          follows = record { geometry = refl; same_device = step.goes.same_device; later = step.goes.later };
          failed = e;
          cause = λ _. step.failed refl;
        }

    -- the disk stays sound
    pub sound-after : (r : Result T DeviceFault) → Steps identity d d' r Was → b ≡ is_err r
        → ((x : T) → Was x → IsSound g d'.blocks) → b ≡ false → IsSound g d'.blocks
    sound-after (Ok x) step e so up = so x step.done
    sound-after (Err fault) step e so up = absurd (false≢true (sym up ∙ e))

-- a step that only reads
module _ {D : Type 0} {identity : D → List ℕ} {g : Geometry} {d d' : Disk D} {b : Bool} {T : Type 0} {Was : T → Type 0}
  where
    pub looks : {f : Bool} {Told : T → Type 0} (r : Result T DeviceFault) → Reads identity d d' r Was → b ≡ is_err r
        → ((x : T) → Was x → Told x) → Looks identity (store_over g d f) (store_over g d' b) r Told
    looks r step e so = tries r step e (λ x was. (kept was.same, so x was.told))

    pub sound-same : (r : Result T DeviceFault) → Reads identity d d' r Was → b ≡ is_err r → IsSound g d.blocks
        → b ≡ false → IsSound g d'.blocks
    sound-same r step e sound up = sound-after r step e (λ x was. subst (IsSound g) (sym was.same) sound) up

-- ---- calls on a volume, one after the other

module _ {D : Type 0} {identity : D → List ℕ} where
  pub follows-after : {a b c : Store D} → Follows identity a b → Follows identity b c → Follows identity a c
  follows-after one two = record {
    geometry = two.geometry ∙ one.geometry;
    same_device = two.same_device ∙ one.same_device;
    later = omega (arith, one.later, two.later);
  }

  pub follows-stays : {a : Store D} → Follows identity a a
  follows-stays = record { geometry = refl; same_device = refl; later = omega arith }

  -- what a call that did it leaves up
  pub still-up : {T : Type 0} {mid new : Store D} {r : Result T DeviceFault} {Was : T → Type 0} {x : T}
      → Tries identity mid new r Was → r ≡ Ok x → new.failed ≡ false
  still-up {r = r} tries is = tries.failed ∙ ap (has_failed (λ _. true)) is

  module _ {T E : Type 0} {is_lost : E → Bool} {old new : Store D} {Done : T → Type 0} {Why : E → Type 0} where
    -- it is done
    pub serves-done : {x : T} → Follows identity old new → new.failed ≡ false → Done x
        → Serves identity is_lost old new (Ok x) Done Why
    serves-done follows up done =
        record { done = done; refused = tt; follows = follows; failed = up; cause = λ q. absurd (false≢true q) }

    -- it is refused
    pub serves-not : {fault : E} → Follows identity old new → new.failed ≡ false → is_lost fault ≡ false → Why fault
        → Serves identity is_lost old new (Err fault) Done Why
    serves-not follows up known why =
        record {
          done = tt;
          refused = λ _. why;
          follows = follows;
          failed = up ∙ sym known;
          cause = λ q. absurd (false≢true (sym known ∙ q));
        }

    -- a call after others failed
    pub serves-lost : {mid : Store D} {U : Type 0} {Was : U → Type 0} {r : Result U DeviceFault} {e : DeviceFault}
        {s : Result T E} (fault : E) → Follows identity old mid → Tries identity mid new r Was → r ≡ Err e
        → is_lost fault ≡ true → IsErrAnd s (λ f. f ≡ fault) → Serves identity is_lost old new s Done Why
    serves-lost {s = s} fault follows step was lost told =
        let err = err_from_is_err_and s told in
        let is : s ≡ Err fault = err.1 ∙ ap Err err.2 in
        let rises = rises-before follows.later (step.cause (ap (has_failed (λ _. true)) was)) in
        rw is (record {
          done = tt;
          refused = λ q. absurd (false≢true (sym q ∙ lost));
          follows = follows-after follows step.follows;
          failed = step.failed ∙ ap (has_failed (λ _. true)) was ∙ sym lost;
          cause = λ _. rises;
        })

  -- the last call has the result of all
  pub tries-last : {T : Type 0} {old mid new : Store D} {r : Result T DeviceFault} {Was Done : T → Type 0}
      → Follows identity old mid → ((x : T) → Was x → Done x) → Tries identity mid new r Was
      → Tries identity old new r Done
  tries-last {r = Ok x} follows so step = serves-done (follows-after follows step.follows) step.failed (so x step.done)
  tries-last {r = Err e} follows so step =
      record {
        done = tt;
        refused = λ q. tt;
        follows = follows-after follows step.follows;
        failed = step.failed;
        cause = λ q. rises-before follows.later (step.cause q);
      }

-- ---- the disk is given up

pub flushed : {D : Type 0} {g : Geometry} {d d' : Disk D} {f : Bool} {left : D} (content : D → Blocks)
    (failures : D → ℕ) {identity : D → List ℕ} (r : Result Unit DeviceFault)
    → Reads identity d d' r (λ _. content d'.device ≡ d.blocks)
    → left ≡ d'.device → failures left ≡ d'.failures → IsSound g d.blocks
    → Flushed content failures identity (store_over g d f) left r
flushed {g = g} {d} {d'} {left = left} content failures {identity} r step is count sound = record {
  stored = laid r step.done;
  same_device = ap identity is ∙ step.goes.same_device;
  cause = record { later = omega (arith, step.goes.later); failed = λ e. omega (arith, step.failed e) };
} where
  laid : (r : Result Unit DeviceFault) → IfOk r (λ _. AsBefore d d' (content d'.device ≡ d.blocks))
      → OnOk r (IsLaidOut g (content left) (nodes_of d.blocks g.inodes) (free_blocks g d.blocks))
  laid (Ok x) before =
      let e : content left ≡ d.blocks = ap content is ∙ before.told in
      subst (λ bs. IsLaidOut g bs (nodes_of d.blocks g.inodes) (free_blocks g d.blocks)) (sym e)
      (record { sound = sound; nodes = refl; free = refl })
  laid (Err fault) before = tt
