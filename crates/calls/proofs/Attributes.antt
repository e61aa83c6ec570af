-- fstat: the attributes of the node of an open file.
use Rattle.calls.proofs.Common.{[], Acts, Answers, answers, ap, argument, Bool, can_write, counting, descriptors_at}
use Rattle.calls.proofs.Common.{Done, Err, false, file-opens, file_at, file_of, FitsNode, Fstat, fstat_row, given}
use Rattle.calls.proofs.Common.{HasRead, Here, here-in, InodeStat, IsKernel, Kernel, le, length, limited, List, low, me}
use Rattle.calls.proofs.Common.{memory_at, Node, node_of, node_on, None, none-some, Ok, Option, option_map, Outcome}
use Rattle.calls.proofs.Common.{provided, put_process, refl, Refused, Refuses, row_of, slot, Some, stat_bytes}
use Rattle.calls.proofs.Common.{stat_told, State, state_of, subst, sym, Target, target_of, Tells, true, write_bytes}
use Rattle.calls.proofs.Common.{wrote, wrote-state, zeros, ℕ, ◌%◌, ◌/◌, ◌∙◌, ◌∷◌, ◌≡◌}
use Rattle.unixmodel.specs.FileCalls.{node_number}
use Rattle.files.specs.declared.file.OpenFile.{OpenFile}
use Rattle.files.specs.Places.{node_at, node_from}
use Rattle.calls.proofs.Acts.{refused, can-here, descriptor-is, does}
use Rattle.calls.proofs.Transfers.{fits-at}
use Rattle.files.specs.declared.file.Target.TheVariants as target
use Rattle.unixmodel.specs.OpenFiles as unix_files
use Rattle.std.proofs.Math.Nat.{div-div-eq-div-mul}
use Rattle.files.specs.declared.table.FileFault.{FileFault}

-- ---- fstat: the attributes of a node

-- ---- bytes of numbers

pub le-4 : (x : ℕ) → x % 256 ∷ x / 256 % 256 ∷ x / 65536 % 256 ∷ x / 16777216 % 256 ∷ [] ≡ le 4 x
le-4 x = simp div-div-eq-div-mul

pub le-8 : (x : ℕ) → x % 256 ∷ x / 256 % 256 ∷ x / 65536 % 256 ∷ x / 16777216 % 256 ∷ x / 4294967296 % 256
    ∷ x / 1099511627776 % 256 ∷ x / 281474976710656 % 256 ∷ x / 72057594037927936 % 256 ∷ [] ≡ le 8 x
le-8 x = simp div-div-eq-div-mul

-- ---- the node of an open file

from-ok : (o : Option ℕ) (n : ℕ) → node_from o ≡ Ok n → o ≡ Some n
from-ok None n e = absurd (cc)
from-ok (Some m) n e = let same : m ≡ n = cc in ap Some same

node-named : (o : Option OpenFile) (n : ℕ) → node_at o ≡ Ok n
    → (f : OpenFile) × (o ≡ Some f) × (node_number (target_of f.target) ≡ Some n)
node-named None n e = absurd (cc)
node-named (Some f) n e = (f, refl, from-ok (node_number (target_of f.target)) n e)

no-number : (o : Option ℕ) (fault : FileFault) → node_from o ≡ Err fault → (rest : ℕ → Outcome)
    → limited (given o rest) ≡ Refused
no-number None fault e rest = refl
no-number (Some n) fault e rest = absurd (cc)

no-node : (o : Option OpenFile) (fault : FileFault) → node_at o ≡ Err fault
    → (rest : unix_files.OpenFile → ℕ → Outcome)
    → limited (given (option_map file_of o) (λ f. given (node_number f.target) (rest f))) ≡ Refused
no-node None fault e rest = refl
no-node (Some f) fault e rest = no-number (node_number (target_of f.target)) fault e (rest (file_of f))

node-on : (t : Target) → node_on t ≡ node_number (target_of t)
node-on (target.Pipe q e) = refl
node-on _ = refl

-- it is there
node-there : (f : OpenFile) (t : Target) (n : ℕ) (o : Option Node) → node_on t ≡ Some n → FitsNode f t o
    → (node : Node) × (o ≡ Some node)
node-there f t n (Some node) on fits = (node, refl)
node-there f (target.Pipe q e) n None on fits = absurd (none-some n on)
node-there f _ n None on fits = absurd fits

told-is : (n : ℕ) (told : InodeStat) (node : Node) → Tells told node → stat_told n told ≡ stat_bytes n node
unfolding stat_told stat_bytes
told-is n told node t = rw (t.0, t.1, t.2) refl

length-told : (n : ℕ) (told : InodeStat) → length (stat_told n told) ≡ 24
unfolding stat_told zeros
length-told n _ = refl

-- ---- the row

module _ {k : Kernel} {i : ℕ} (x : Here k i) {d id : ℕ} (is : d ≡ low (argument k 0))
    (named : Some id ≡ slot (descriptors_at k i) d) where
  named-here : slot x.process.descriptors (low (argument k 0)) ≡ Some id
  named-here = descriptor-is x is named

  pub fstat-nodeless : {fault : FileFault} → Err fault ≡ node_at (file_at k.files id) → Acts k k i (Some Fstat) Refuses
  unfolding fstat_row
  fstat-nodeless {fault} none =
      refused x (Some Fstat) (rw (named-here, file-opens k.files id) (no-node (file_at k.files id) fault (sym none) _))

  module _ {n : ℕ} (on : Ok n ≡ node_at (file_at k.files id)) where
    open-on : (f : OpenFile) × (file_at k.files id ≡ Some f) × (node_number (target_of f.target) ≡ Some n)
    open-on = node-named (file_at k.files id) n (sym on)

    pub fstat-there : (node : Node) × (slot k.tree.files n ≡ Some node)
    fstat-there =
        let f = open-on.0 in
        let used = x.sound.used x.up in
        let on = node-on f.target ∙ open-on.2 in
        node-there f f.target n (slot k.tree.files n) on
        (subst (λ o. FitsNode f f.target (node_of k.tree.files o)) on (fits-at used id f open-on.1))

    abbrev told_bytes : List ℕ
    told_bytes = stat_bytes n fstat-there.0

    abbrev writes : Outcome
    writes = answers (put_process (state_of k) i
        (record (me x) { memory = write_bytes x.held.memory (argument k 1) told_bytes })) 0

    fstat-row : row_of x Fstat ≡ provided (can_write x.held.memory (argument k 1) 24) writes
    unfolding fstat_row
    fstat-row = rw (named-here, file-opens k.files id, open-on.1, open-on.2, fstat-there.1) refl

    pub fstat-unwritable : false ≡ can_write (memory_at k i) (argument k 1) 24 → Acts k k i (Some Fstat) Refuses
    fstat-unwritable cannot =
        refused x (Some Fstat) (ap limited
        (fstat-row ∙ ap (λ (b : Bool). provided b writes) (can-here x (argument k 1) 24 cannot)))

    -- the node's attributes are known, and its bytes are written
    module _ (can : true ≡ can_write (memory_at k i) (argument k 1) 24) {read : Kernel} (has : HasRead k read) {a : ℕ}
        (is-a : a ≡ argument k 1) (told : InodeStat) {bytes : List ℕ} (numbers : bytes ≡ stat_told n told) where
      pub fstat-can : can_write (memory_at read i) a (length bytes) ≡ true
      fstat-can = ap (λ (y : Kernel). can_write (memory_at y i) a (length bytes)) has.same
          ∙ rw (is-a, ap length numbers ∙ length-told n told) (sym can)

      pub fstat-acts : ((node : Node) → slot k.tree.files n ≡ Some node → Tells told node) → {new : Kernel}
          → new ≡ wrote read i a bytes → IsKernel new → Acts k new i (Some Fstat) (Answers 0)
      fstat-acts tells {new} is sound =
          let from = counting k read.tree.failures in
          let made : new ≡ wrote from i (argument k 1) told_bytes =
          is ∙ ap (λ (y : Kernel). wrote y i a bytes) has.same ∙ ap (λ m. wrote from i m bytes) is-a
          ∙ ap (wrote from i (argument k 1))
          (numbers ∙ told-is n told fstat-there.0 (tells fstat-there.0 fstat-there.1)) in
          rw made (does x Fstat 0 (here-in (subst IsKernel made sound) x.run.active x.up)
          (record { up = x.up; same_device = refl; later = has.later }) (
          fstat-row ∙ ap (λ (b : Bool). provided b writes) (can-here x (argument k 1) 24 can)
          ∙ ap (λ (s : State). Done s 0 []) (sym (wrote-state x.run x.sound (argument k 1) told_bytes))))
