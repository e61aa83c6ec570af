-- A tree that is only read, and what a read of it returns.
use Rattle.programs.proofs.Common.{◌++◌, ◌-◌, ap, arith, drop, Err, false, IsErrAnd, le_trans, length, List, Ok, refl}
use Rattle.programs.proofs.Common.{Result, Some, subst, sym, ℕ, ◌∙◌, ◌≡◌, ◌≤◌, IfOk, min, OnErr, OnOk, part}
use Rattle.programs.proofs.Common.{DeviceFault, InodeStat, FileTree, Serves, IsFile, Files, Node, node_bytes, slot}
use Rattle.programs.proofs.Common.{file_at, Leaves, ◌+◌, ◌^◌, append-nil, Option, drop_all, IfSome, ElfFault}
use Rattle.programs.proofs.Common.{LoadSegment, File, bytes_or_none, end_behind, end_by, IsRead, segment_behind}
use Rattle.programs.proofs.Common.{TellsProgram, Program}
use Rattle.std.proofs.lemmas.Result.{err_from_is_err_and}
use Rattle.file_transfers.proofs.Fits.{serves-told}
use Rattle.tree.specs.Telling as telling
use Rattle.programs.specs.Headed.{Tells}

-- ---- what steps return

-- what a read returns
abbrev pub HasRead : FileTree → FileTree → ℕ → ℕ → List ℕ → List ℕ → ℕ → Type 0
HasRead old new n at out out' k =
    (new ≡ record old { failures = new.failures })
    × ((node : Node) → slot old.files n ≡ Some node
    → (k ≡ min (length out) (length (node_bytes node) - at)) × (out' ≡ part at k (node_bytes node) ++ drop k out))

-- what a look at a node returns
abbrev pub HasSeen : FileTree → FileTree → ℕ → InodeStat → Type 0
HasSeen old new n s = (new ≡ record old { failures = new.failures })
    × ((node : Node) → slot old.files n ≡ Some node → telling.Tells s node)

-- ---- a tree that is only read

-- the reads so far left the files as they were, and none of them failed
pub record IsKept (old now : FileTree) : Type 0 where
  pub same : now ≡ record old { failures = now.failures }
  pub up : now.failed ≡ false
  pub later : old.failures ≤ now.failures

pub kept-none : (tree : FileTree) → tree.failed ≡ false → IsKept tree tree
kept-none tree up = record { same = refl; up = up; later = omega arith }

pub kept-one : {A : Type 0} {old new : FileTree} {x : A} {Told : A → Type 0}
    → new ≡ record old { failures = new.failures } → Serves old new (Ok x) Told → IsKept old new
kept-one same serves = record { same = same; up = serves.up; later = serves.cause.later }

pub kept-more : {A : Type 0} {old mid new : FileTree} {x : A} {Told : A → Type 0} → IsKept old mid
    → new ≡ record mid { failures = new.failures } → Serves mid new (Ok x) Told → IsKept old new
kept-more {new = new} kept same serves =
    record {
      same = same ∙ ap (λ (t : FileTree). record t { failures = new.failures }) kept.same;
      up = serves.up;
      later = le_trans kept.later serves.cause.later;
    }

module _ {old now : FileTree} (kept : IsKept old now) where
  pub kept-file : (number : ℕ) → file_at now.files number ≡ file_at old.files number
  kept-file number = ap (λ (t : FileTree). file_at t.files number) kept.same

  pub kept-is-file : {number : ℕ} → IsFile old.files number → IsFile now.files number
  kept-is-file {number} file =
      subst (λ (files : Files). IsFile files number) (sym (ap (λ (t : FileTree). t.files) kept.same)) file

  -- a value is returned
  kept-told : {B : Type 0} {Told : B → Type 0} {y : B} → Told y → Serves old now (Ok y) Told
  kept-told {y} told = serves-told y told kept.up (ap (λ (t : FileTree). t.identity) kept.same) kept.later

  pub kept-leaves : {B : Type 0} {y : B} → Serves old now (Ok y) (Leaves old now)
  kept-leaves {y} = kept-told kept.same

  -- the next step failed
  pub lost-then : {A B : Type 0} {new : FileTree} {fault given : DeviceFault} {Told : A → Type 0} {Left : B → Type 0}
      → Serves now new (Err given) Told → Serves old new (Err fault) Left
  lost-then serves =
      let first = kept.later in
      let after = serves.cause.later in
      record {
        told = tt;
        up = tt;
        down = serves.down;
        same_device = serves.same_device ∙ ap (λ (t : FileTree). t.identity) kept.same;
        cause = record {
          later = le_trans first after;
          failed = λ e. let rises = serves.cause.failed e in omega (arith, rises, first);
        };
      }

-- ---- the exit of a `?`

module _ {B : Type 0} (r : Result B DeviceFault) (Q : DeviceFault → Type 0) (exit : IsErrAnd r Q) where
  pub is : r ≡ Err (err_from_is_err_and r exit).0
  is = (err_from_is_err_and r exit).1

  pub err-told : (P : B → Type 0) → IfOk r P
  err-told P = subst (λ (x : Result B DeviceFault). IfOk x P) (sym is) tt

  pub err-done : (P : Type 0) → OnOk r P
  err-done P = subst (λ (x : Result B DeviceFault). OnOk x P) (sym is) tt

  pub err-left : (P : Type 0) → P → OnErr r P
  err-left P p = subst (λ (x : Result B DeviceFault). OnErr x P) (sym is) p

  pub lost : {A : Type 0} {old mid new : FileTree} {given : DeviceFault} {Told : A → Type 0} (P : B → Type 0)
      → IsKept old mid → Serves mid new (Err given) Told → Serves old new r P
  lost {old = old} {new = new} P kept serves =
      subst (λ (x : Result B DeviceFault). Serves old new x P) (sym is) (lost-then kept serves)

-- ---- results

-- what was read is the result
pub read-serves : {T : Type 0} {old new : FileTree} {told is : T} → IsKept old new → told ≡ is
    → Serves old new (Ok told) (λ t. IsRead old new t is)
read-serves {told = told} kept value = kept-told kept (record { same = kept.same; value = value })

pub program-serves : {old new : FileTree} {told is : Option Program} → IsKept old new → told ≡ is
    → IfSome told (λ program. program.pages ≤ 2 ^ 52) → Serves old new (Ok told) (TellsProgram old new is)
program-serves {told = told} kept value few = kept-told kept (record { same = kept.same; value = value }, few)

-- a read of bytes that the file has
pub whole-read : {old new : FileTree} {number : ℕ} (at : ℕ) {out out' : List ℕ} {k : ℕ} → IsFile old.files number
    → at + length out ≤ length (file_at old.files number)
    → Serves old new (Ok k) (HasRead old new number at out out')
    → Serves {T = Unit {0}} old new (Ok tt)
    (λ done. IsRead old new out' (part at (length out) (file_at old.files number)))
whole-read {old} {number} at {out} {out'} {k} file within serves =
    let bytes : file_at old.files number ≡ file.bytes = ap bytes_or_none file.here in
    let told = serves.told.1 (File file.links file.bytes) file.here in
    let count : k ≡ length out = omega (arith, told.0, within, ap length bytes) in
    let value : out' ≡ part at (length out) (file_at old.files number) = told.1
    ∙ rw (count, drop_all (length out) out (omega arith), bytes) (append-nil (part at (length out) file.bytes))
    in
    kept-told (kept-one serves.told.0 serves) (record { same = serves.told.0; value = value })

-- where what is loaded ends, by the segment of a program header
pub end-told : {old new : FileTree} {told : Result (Option LoadSegment) ElfFault} (file : List ℕ) (at end : ℕ)
    {o : Option ℕ} → Serves old new (Ok told) (Tells old new (segment_behind file at end)) → o ≡ end_by end told
    → Serves old new (Ok o) (Tells old new (end_behind file at end))
end-told file at end serves is = read-serves (kept-one serves.told.same serves) (is ∙ ap (end_by end) serves.told.value)
