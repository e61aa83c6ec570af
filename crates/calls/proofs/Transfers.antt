-- How a read and a write begin, and how they go on: their tests are the same.
use Rattle.calls.proofs.Common.{Acts, ActsOnDisk, Answers, ap, arg, argument, arith, Bool, bytes_given, bytes_in, Came}
use Rattle.calls.proofs.Common.{can_write, CanWait, cast_signed, cast_unsigned, cond_some, Counted, descriptors_at}
use Rattle.calls.proofs.Common.{descriptors_in, DeviceFault, Directory, Err, false, false≢true, File, file-opens}
use Rattle.calls.proofs.Common.{file_at, file_named, file_of, Files, FileTree, FitsFiles, FitsNode, given, goes_on}
use Rattle.calls.proofs.Common.{GoesOnDisk, held-here, Here, here-of, IfSome, if◌then◌else◌, int_of, is_on_pipe}
use Rattle.calls.proofs.Common.{is_some, IsFresh, IsInUse, IsPending, IsSome, Kernel, leb-true, length, length-take-le}
use Rattle.calls.proofs.Common.{limited, List, Load, low, me, Memory, memory_at, nat_le, natural, negsuc, Node, node_of}
use Rattle.calls.proofs.Common.{node_on, None, none-some, of_z-to_z, Ok, Option, option_and_then, option_map, Outcome}
use Rattle.calls.proofs.Common.{Pending, pending_arg, pending_for, pending_of, pos, Process, provided, reach}
use Rattle.calls.proofs.Common.{read_bytes, read_row, refl, Refused, Refuses, Result, result_ok, row, row_of, RunsAt}
use Rattle.calls.proofs.Common.{same_Some, slot, Some, some-pipe, SpaceView, Stands, stands-open, State, state_of}
use Rattle.calls.proofs.Common.{subst, suc, sym, take, Target, target_of, Transfers, true, wanted, write_row, zero, ℕ}
use Rattle.calls.proofs.Common.{ℤ, ◌&&◌, ◌<◌, ◌^◌, ◌∙◌, ◌≡◌, ◌≢◌}
use Rattle.unixmodel.specs.FileCalls.{is_usable, is_usable_node, unless_empty}
use Rattle.calls.specs.Transfers.{Begins, call_on, can_transfer, target_for, target_named}
use Rattle.calls.specs.declared.transfer_calls.Transfer.{Transfer}
use Rattle.std.specs.Int.{w32}
use Rattle.kernel.proofs.Joined.{IsNamed, file-at, IsFileAt, open-named}
use Rattle.files.specs.declared.file.End.{End}
use Rattle.files.specs.declared.file.End.TheVariants.{Read, Write}
use Rattle.files.specs.declared.file.OpenFile.{OpenFile}
use Rattle.files.specs.Places.{opens_of, usable}
use Rattle.unixmodel.specs.Files.Node.{Device}
use Rattle.calls.proofs.Acts.{going, going-here, makes, outcome-here, refused}
use Rattle.files.specs.declared.file.Target.TheVariants as target
use Rattle.unixmodel.specs.OpenFiles as unix_files
use Rattle.unixmodel.specs.Process as unix

-- ---- numbers

natural-pos : (z : ℤ) (c : ℕ) → natural z ≡ Some c → z ≡ pos c
natural-pos (pos n) c is = let e : n ≡ c = cc in ap pos e
natural-pos (negsuc n) c is = absurd cc

natural-cast : (n c : ℕ) → n < 2 ^ 32 → natural (cast_signed w32 n) ≡ Some c → n ≡ c
natural-cast n c small is = sym (of_z-to_z w32 n small) ∙ ap (cast_unsigned w32) (natural-pos (cast_signed w32 n) c is)

-- the number that an int stands for, if it is not below 0
int-low : (x c : ℕ) → natural (int_of x) ≡ Some c → low x ≡ c
int-low x c is = natural-cast (low x) c (omega arith) is

-- ---- what is open

usable-node : (f : OpenFile) (t : Target) (n : ℕ) (o : Option Node) → node_on t ≡ Some n → FitsNode f t o
    → is_usable_node o ≡ is_some (result_ok (usable t))
usable-node f (target.Pipe q end) n o on fits = absurd (none-some n on)
usable-node f (target.File m offset) n (Some (File links bytes)) on fits = refl
usable-node f (target.File m offset) n (Some (Directory links places)) on fits = refl
usable-node f (target.Console m) n (Some (Device links major minor)) on fits = rw fits refl
usable-node f (target.Device m) n (Some (Device links major minor)) on fits = fits
usable-node f _ n _ on fits = absurd fits

-- what is open may be read and written, except for a device that isn't the console
usable-open : (files : Files) (f : OpenFile) (t : Target) → FitsNode f t (node_of files (node_on t))
    → is_usable files (target_of t) ≡ is_some (result_ok (usable t))
usable-open files f (target.File n offset) fits = usable-node f (target.File n offset) n (slot files n) refl fits
usable-open files f (target.Console n) fits = usable-node f (target.Console n) n (slot files n) refl fits
usable-open files f (target.Device n) fits = usable-node f (target.Device n) n (slot files n) refl fits
usable-open files f (target.Pipe q end) fits = refl

-- the console is a device
console-device : (f : OpenFile) (n : ℕ) (o : Option Node) → FitsNode f (target.Console n) o
    → (links : ℕ) × (major : ℕ) × (minor : ℕ) × (o ≡ Some (Device links major minor))
console-device f n (Some (Device links major minor)) fits = (links, major, minor, refl)
console-device f n _ fits = absurd fits

-- what an open file is on fits it
module _ {t : FileTree} {opens : List (Option Counted)} {places : List (Option Process)} (is : IsInUse t opens places)
  where
    fits-of : (n : ℕ) → IfSome (file_at opens n) (λ f. FitsFiles t.files f)
    fits-of n = go (slot opens n) refl where
      go : (o : Option Counted) → slot opens n ≡ o
          → IfSome (option_map (λ (c : Counted). c.file) o) (λ f. FitsFiles t.files f)
      go None at = tt
      go (Some c) at = is.fits n c at

    pub fits-at : (n : ℕ) (f : OpenFile) → file_at opens n ≡ Some f → FitsFiles t.files f
    fits-at n f at = subst (λ (o : Option OpenFile). IfSome o (λ f. FitsFiles t.files f)) at (fits-of n)

    fits-named : (o : Option ℕ) → IfSome (option_and_then (file_at opens) o) (λ f. FitsFiles t.files f)
    fits-named None = tt
    fits-named (Some n) = fits-of n

-- ---- an open file, for reading or for writing

abbrev may : End → OpenFile → Bool
may Read f = f.readable
may Write f = f.writable

-- such a call may be made on it, and it is open on t
pub record IsFor (e : End) (f : OpenFile) (t : Target) : Type 0 where
  pub may : may e f ≡ true
  pub on : f.target ≡ t

may-is : (e : End) (f : OpenFile) (b : Bool) → may e f ≡ b
    → target_for e (Some f) ≡ (if b then result_ok (usable f.target) else None)
may-is Read f true is = rw is refl
may-is Read f false is = rw is refl
may-is Write f true is = rw is refl
may-is Write f false is = rw is refl

usable-is : (x t : Target) → result_ok (usable x) ≡ Some t → x ≡ t
usable-is (target.Device n) t is = absurd (none-some t is)
usable-is x t is = same_Some x t is

may-go : (e : End) (f : OpenFile) (t : Target) (b : Bool) → may e f ≡ b → target_for e (Some f) ≡ Some t → IsFor e f t
may-go e f t true flag is =
    record { may = flag; on = usable-is f.target t (sym (may-is e f true flag) ∙ is) }
may-go e f t false flag is = absurd (none-some t (sym (may-is e f false flag) ∙ is))

pub is-for : (e : End) (f : OpenFile) (t : Target) → target_for e (Some f) ≡ Some t → IsFor e f t
is-for e f t is = may-go e f t (may e f) refl is

for-of : (e : End) (o : Option OpenFile) (t : Target) → target_for e o ≡ Some t
    → (f : OpenFile) × (o ≡ Some f) × IsFor e f t
for-of Read None t is = absurd (none-some t is)
for-of Write None t is = absurd (none-some t is)
for-of e (Some f) t is = (f, refl, is-for e f t is)

-- ---- the row

-- what is tested after the descriptor, and after the file
abbrev filed : End → State → Option OpenFile → Outcome → Outcome
filed e s o rest = given o (λ f. provided (may e f && is_usable s.files (target_of f.target)) rest)

abbrev counted : End → State → ℕ → unix.Process → Outcome
counted e s i p = given (natural (int_of (arg p 2)))
    (λ c. unless_empty s c (provided (can_transfer e p.memory (arg p 1) c)
    (goes_on s i p (pending_of (call_on e) s p) (call_on e))))

given-file : (o : Option OpenFile) (rest : unix_files.OpenFile → Outcome)
    → given (option_map file_of o) rest ≡ given o (λ f. rest (file_of f))
given-file None rest = refl
given-file (Some f) rest = refl

given-named : (opens : List (Option Counted)) (o : Option ℕ) (rest : unix_files.OpenFile → Outcome)
    → given o (λ n. given (slot (opens_of opens) n) rest)
    ≡ given (option_and_then (file_at opens) o) (λ f. rest (file_of f))
given-named opens None rest = refl
given-named opens (Some n) rest = ap (λ o. given o rest) (file-opens opens n) ∙ given-file (file_at opens n) rest

row-files : (e : End) (k : Kernel) (i : ℕ) (p : unix.Process)
    → row (state_of k) i p (call_on e)
    ≡ filed e (state_of k) (file_named k.files p.descriptors (low (arg p 0))) (counted e (state_of k) i p)
unfolding read_row write_row
row-files Read k i p = given-named k.files (slot p.descriptors (low (arg p 0)))
    (λ (f : unix_files.OpenFile). provided (f.readable && is_usable k.tree.files f.target)
    (counted Read (state_of k) i p))
row-files Write k i p = given-named k.files (slot p.descriptors (low (arg p 0)))
    (λ (f : unix_files.OpenFile). provided (f.writable && is_usable k.tree.files f.target)
    (counted Write (state_of k) i p))

-- the file's test is what the kernel returns
filed-is : (o : Option OpenFile) (e : End) (s : State) (rest : Outcome) → IfSome o (λ f. FitsFiles s.files f)
    → filed e s o rest ≡ given (target_for e o) (λ t. rest)
filed-is (Some f) e s rest fits = ap (λ b. provided (may e f && b) rest) (usable-open s.files f f.target fits)
    ∙ go (may e f) refl (result_ok (usable f.target)) refl where
      go : (b : Bool) → may e f ≡ b → (u : Option Target) → result_ok (usable f.target) ≡ u
          → provided (may e f && is_some (result_ok (usable f.target))) rest ≡ given (target_for e (Some f)) (λ t. rest)
      go false flag u on = rw (flag, may-is e f false flag) refl
      go true flag (Some t) on = rw (flag, may-is e f true flag, on) refl
      go true flag None on = rw (flag, may-is e f true flag, on) refl
filed-is None Read s rest fits = refl
filed-is None Write s rest fits = refl

unless-some : (s : State) (n : ℕ) (rest : Outcome) → 0 < n → unless_empty s n rest ≡ rest
unless-some s zero rest some = absurd (omega (arith, some))
unless-some s (suc n) rest some = refl

-- a pending call that begins
pending-can : (e : End) (k : Kernel) (ds : List (Option ℕ)) (mem : Memory) (n : ℕ)
    → is_some (slot ds (low (argument k 0))) ≡ true → natural (int_of (argument k 2)) ≡ Some n → 0 < n
    → can_transfer e mem (argument k 1) n ≡ true
    → IsPending ds mem (pending_for k (call_on e)) (call_on e)
pending-can Read k ds mem n named count some can =
    let same : low (argument k 2) ≡ n = int-low (argument k 2) n count in
    record { named = named; buffer = ap (can_write mem (argument k 1)) same ∙ can; left = omega (arith, same, some) }
pending-can Write k ds mem n named count some can =
    let same : low (argument k 2) ≡ n = int-low (argument k 2) n count in
    record {
      named = named;
      readable = ap (λ (m : ℕ). is_some (read_bytes mem (argument k 1) m)) same ∙ can;
      left = omega (arith, same, some);
    }

fresh-go : (o : Option OpenFile) (P : Type 0) → P → IfSome o (λ f. is_on_pipe f.target ≡ true → P)
fresh-go None P is = tt
fresh-go (Some f) P is = λ on. is

-- a call that has done nothing yet
start-fresh : (opens : List (Option Counted)) (ds : List (Option ℕ)) (w : Pending) → w.done ≡ 0 → IsFresh opens ds w
start-fresh opens ds w start = λ read. fresh-go (file_named opens ds (low (pending_arg w 0))) (w.done ≡ 0) start

-- ---- the call of the running process

module _ {k : Kernel} {i : ℕ} (x : Here k i) (e : End) where
  abbrev named : Option OpenFile
  named = file_named k.files (descriptors_at k i) (low (argument k 0))

  abbrev rest : Outcome
  rest = counted e (state_of k) i (me x)

  abbrev w : Pending
  w = pending_for k (call_on e)

  row-here : {r : Option Target} → r ≡ target_for e named → row_of x (call_on e) ≡ given r (λ t. rest)
  row-here found =
      row-files e k i (me x)
      ∙ ap (λ (o : Option Process). filed e (state_of k) (file_named k.files (descriptors_in o) (low (argument k 0)))
      rest) (sym x.run.process)
      ∙ filed-is named e (state_of k) rest
      (fits-named (x.sound.used x.up) (slot (descriptors_at k i) (low (argument k 0))))
      ∙ ap (λ (o : Option Target). given o (λ t. rest)) (sym found)

  refuses : row_of x (call_on e) ≡ Refused → Acts k k i (Some (call_on e)) Refuses
  refuses is = refused x (Some (call_on e)) (ap limited is)

  pub begins-unnamed : None ≡ target_for e named → Acts k k i (Some (call_on e)) Refuses
  begins-unnamed none = refuses (row-here none)

  -- what its descriptor names is open on t, and such a call may be made on it
  module _ {t : Target} (found : Some t ≡ target_for e named) {o : Option ℕ}
      (told : o ≡ natural (int_of (argument k 2))) where
    for-it : (f : OpenFile) × (named ≡ Some f) × IsFor e f t
    for-it = for-of e named t (sym found)

    on : target_named k i (low (argument k 0)) ≡ Some t
    on = ap (option_map (λ (f : OpenFile). f.target)) for-it.1 ∙ ap Some for-it.2.on

    pub begins-below : o ≡ None → Acts k k i (Some (call_on e)) Refuses
    begins-below none = let below : natural (int_of (argument k 2)) ≡ None = sym told
        ∙ none in refuses (row-here found ∙ rw below refl)

    module _ {n : ℕ} (some : o ≡ Some n) where
      count : natural (int_of (argument k 2)) ≡ Some n
      count = sym told ∙ some

      pub begins-nothing : n ≡ 0 → Acts k k i (Some (call_on e)) (Answers 0)
      begins-nothing none = makes x (call_on e) 0 x.sound refl refl refl refl (row-here found ∙ rw (count, none) refl)

      module _ (more : n ≢ 0) {b : Bool} (can : b ≡ can_transfer e (memory_at k i) (argument k 1) n) where
        row-tested : row_of x (call_on e) ≡ provided b (going x w)
        row-tested =
            row-here found
            ∙ rw count (unless-some (state_of k) n
            (provided (can_transfer e x.held.memory (argument k 1) n) (going x w)) (omega arith))
            ∙ ap (λ (b : Bool). provided b (going x w))
            (ap (λ (h : SpaceView). can_transfer e h.memory (argument k 1) n) (sym (held-here x)) ∙ sym can)

        pub begins-unusable : b ≡ false → Acts k k i (Some (call_on e)) Refuses
        begins-unusable failed = refuses (row-tested ∙ ap (λ (b : Bool). provided b (going x w)) failed)

        pub begins-on-it : RunsAt k i → b ≡ true → {id : ℕ} → slot (descriptors_at k i) (low (argument k 0)) ≡ Some id
            → {v : Pending} → v ≡ w → Begins k i e (record { id = id; target = t; pending = v })
        begins-on-it runs passed {id = id} number made = rw made (record {
          uses = record {
            goes = record {
              runs = runs;
              number = refl;
              can = pending-can e k (descriptors_at k i) (memory_at k i) n
                  (ap is_some number) count (omega arith) (sym can ∙ passed);
              fresh = start-fresh k.files (descriptors_at k i) w refl;
              target = on;
            };
            named = number;
            may = ap (λ (o : Option ℕ). target_for e (option_and_then (file_at k.files) o)) (sym number) ∙ sym found;
            start = refl;
          };
          row = outcome-here x (Some (call_on e))
              ∙ ap limited (row-tested ∙ ap (λ (b : Bool). provided b (going x w)) passed ∙ sym (going-here x w));
        })

-- ---- it goes on

-- what goes on with the call does the call
pub begun-acts : {k : Kernel} {i : ℕ} {e : End} {x : Transfer} → Begins k i e x → (new : Kernel)
    (r : Result Came DeviceFault) → GoesOnDisk k new i x.pending r → ActsOnDisk k new i (Some (call_on e)) r
begun-acts b new (Ok came) goes = rw (b.row ∙ goes.within) goes.comes
begun-acts b new (Err fault) lost = lost

module _ {k : Kernel} {i : ℕ} {e : End} {t : Target} {w : Pending} (g : Transfers k i e t w) where
  abbrev pub here : Here k i
  here = here-of g.runs

  -- its open file, which is also what the process's descriptor names
  pub file : IsFileAt k.files (descriptors_at k i) (low (pending_arg w 0)) t
  file = file-at k.files (descriptors_at k i) (low (pending_arg w 0)) t g.target

  abbrev pub file-named : IsNamed (state_of k) (me here) (low (pending_arg w 0)) (file_of file.file)
  file-named = record {
    number = file.number;
    named = ap (λ (o : Option Process). slot (descriptors_in o) (low (pending_arg w 0))) (sym here.run.process)
        ∙ file.named;
    opened = file-opens k.files file.number ∙ ap (option_map file_of) file.opened;
  }

  -- its node fits it
  pub file-fits : FitsNode file.file t (node_of k.tree.files (node_on t))
  file-fits = subst (λ (y : Target). FitsNode file.file y (node_of k.tree.files (node_on y))) file.on
      (fits-at (here.sound.used here.up) file.number file.file file.opened)

  -- the pipe that it is an end of is there
  pub transfer-stands : Stands k.spaces (target_of t)
  transfer-stands = stands-open k.spaces (opens_of k.files) file.number (file_of file.file) (target_of t)
      g.runs.sound.opened.piped (file-opens k.files file.number ∙ ap (option_map file_of) file.opened)
      (ap target_of file.on)

  -- the number of its open file
  pub named-number : {n : ℕ} → slot (descriptors_at k i) (low (pending_arg w 0)) ≡ Some n → n ≡ file.number
  named-number {n = n} is = same_Some n file.number (sym is ∙ file.named)

  pub going-is : going here w ≡ goes_on (state_of k) i (me here) w (call_on e)
  going-is = ap (goes_on (state_of k) i (me here) w) g.number

  -- what holds of the open file that is named
  pub named-file : (P : OpenFile → Type 0) → IfSome (file_named k.files (descriptors_at k i) (low (pending_arg w 0))) P
      → P file.file
  named-file P is = subst (λ o. IfSome o P) (ap (option_and_then (file_at k.files)) file.named ∙ file.opened) is

-- the console is a device
pub console-here : {k : Kernel} {i n : ℕ} {e : End} {w : Pending} → Transfers k i e (target.Console n) w
    → (links : ℕ) × (major : ℕ) × (minor : ℕ) × (slot k.tree.files n ≡ Some (Device links major minor))
console-here {k = k} {n = n} g = console-device (file g).file n (slot k.tree.files n) (file-fits g)

-- what is in the pipe
pub pipe-here : {k : Kernel} {i q : ℕ} {e d : End} {w : Pending} → Transfers k i e (target.Pipe q d) w
    → slot k.spaces.pipes q ≡ Some (bytes_in k.spaces q)
pipe-here {k = k} {q = q} g = some-pipe (slot k.spaces.pipes q) (transfer-stands g)

-- the bytes that a write puts
module _ {k : Kernel} {i : ℕ} {t : Target} {w : Pending} (g : Transfers k i Write t w) where
  abbrev pub given_bytes : List ℕ
  given_bytes = bytes_given k.spaces i (pending_arg w 1) (wanted w)

  pub read-given : read_bytes (here g).held.memory (pending_arg w 1) (wanted w) ≡ Some given_bytes
  read-given = ap (λ (h : SpaceView). read_bytes h.memory (pending_arg w 1) (wanted w)) (sym (held-here (here g)))
      ∙ some-pipe (read_bytes (memory_at k i) (pending_arg w 1) (wanted w)) g.can.readable

  -- as many as were requested
  pub length-given : length given_bytes ≡ wanted w
  length-given =
      let n = wanted w in
      let all = reach Load (here g).held.memory (pending_arg w 1) in
      let parts = cond_some (nat_le n (length all)) (take n all) given_bytes read-given in
      ap length (sym parts.1) ∙ length-take-le n all (leb-true n (length all) parts.0)

-- ---- a pending call that goes on

pending-named : (e : End) (ds : List (Option ℕ)) (memory : Memory) (w : Pending) → IsPending ds memory w (call_on e)
    → is_some (slot ds (low (pending_arg w 0))) ≡ true
pending-named Read ds memory w is = is.named
pending-named Write ds memory w is = is.named

some-named : (o : Option ℕ) → is_some o ≡ true → (n : ℕ) × (o ≡ Some n)
some-named None some = absurd (cc)
some-named (Some n) some = (n, refl)

some-file : (o : Option OpenFile) → IsSome (option_map file_of o) → option_map (λ (f : OpenFile). f.target) o ≡ None → ⊥
some-file None some none = false≢true some
some-file (Some f) some none = none-some f.target (sym none)

-- r is what its descriptor d is open on
module _ {k : Kernel} {i : ℕ} {w : Pending} (e : End) (runs : RunsAt k i) (can : CanWait k i w)
    (number : w.number ≡ call_on e) {d : ℕ} (place : d ≡ low (pending_arg w 0)) (r : Option Target)
    (told : r ≡ target_named k i d) where
  pending : IsPending (descriptors_at k i) (memory_at k i) w (call_on e)
  pending = subst (IsPending (descriptors_at k i) (memory_at k i) w) number can.0

  open-on : (s : Option Target) → r ≡ s → target_named k i (low (pending_arg w 0)) ≡ s
  open-on s is = ap (target_named k i) (sym place) ∙ sym told ∙ is

  target-not_none : r ≡ None → ⊥
  target-not_none none =
      let x = here-of runs in
      let n = some-named (slot (descriptors_at k i) (low (pending_arg w 0)))
      (pending-named e (descriptors_at k i) (memory_at k i) w pending) in
      let there = open-named k.files k.spaces.pipes k.table.places x.sound.opened i x.process (low (pending_arg w 0))
      n.0 x.run.process (ap (λ (o : Option Process). slot (descriptors_in o) (low (pending_arg w 0)))
      (sym x.run.process) ∙ n.1) in
      let named : file_named k.files (descriptors_at k i) (low (pending_arg w 0)) ≡ file_at k.files n.0 =
      ap (option_and_then (file_at k.files)) n.1 in
      some-file (file_at k.files n.0) (ap is_some (sym (file-opens k.files n.0) ∙ there.1.0))
      (sym (ap (option_map (λ (f : OpenFile). f.target)) named) ∙ open-on None none)

  -- it is open on something
  pub target-some : is_some r ≡ true
  target-some = go r refl where
    go : (o : Option Target) → r ≡ o → is_some o ≡ true
    go None is = absurd (target-not_none is)
    go (Some t) is = refl

  pub goes-transfers : {t : Target} → r ≡ Some t → Transfers k i e t w
  goes-transfers {t = t} is =
      record { runs = runs; number = number; can = pending; fresh = can.1.fresh; target = open-on (Some t) is }
