-- The frames after a store show the memory after it, and nothing else is new.
use Rattle.hart.proofs.Common.{Ram, act, act_word, ap, arith, Bool, Cause, Computed, cond, cycle, Effect, Err, extend}
use Rattle.hart.proofs.Common.{false, fetched, IllegalInstruction, inl, inr, Instr, InstructionPageFault, is_taken}
use Rattle.hart.proofs.Common.{IsSize, le, length, List, load_from, load_size, LoadOp, Memory, None, Ok, Option, Page}
use Rattle.hart.proofs.Common.{page_for, plus, refl, slice_index, Some, Store, store_size, store_to, StoreOp, Stores}
use Rattle.hart.proofs.Common.{subst, suc, trap, true, zero, ℕ, ◌%◌, ◌*◌, ◌/◌, ◌==◌, ◌≡◌, [], append_assoc, Bytes}
use Rattle.hart.proofs.Common.{cases_eq, Change, changed, drop, frame_of, get_or, get_or-set_other, get_or-set_same}
use Rattle.hart.proofs.Common.{get_or_from_slice_get, IsAlone, IsMemory, IsSound, IsStore, length-set, Mapped}
use Rattle.hart.proofs.Common.{memory_of, Nothing, option_map, overwrite, page_in, permits, permitted, put, put_bytes}
use Rattle.hart.proofs.Common.{put_in, set, slice_get, slice_get-get_or, slice_get-map, slice_get_within}
use Rattle.hart.proofs.Common.{slice_index_or, slice_set, sym, take, write_bytes, write_from, WritesOnly, WritesPage}
use Rattle.hart.proofs.Common.{◌++◌, ◌+◌, ◌-◌, ◌<◌, ◌∙◌, ◌∷◌, ◌≢◌, ◌≤◌, ◌⊎◌, Follows, Hart, Trap}
use Rattle.std.proofs.lemmas.Bool.Decides.{nat_tests}
use Rattle.unixmodel.specs.declared.instr.StoreOp.TheVariants.{Sb, Sd, Sh, Sw}
use Rattle.unixmodel.specs.declared.instr.Instr.TheVariants as instr
use Rattle.std.proofs.Math.Seq.{drop-cons}
use Rattle.std.proofs.lemmas.List.{drop_all, length-map, same_lists, set_split, take_all}
use Rattle.unixmodel.specs.Next.{memory_after}
use Rattle.ram.proofs.MemoryLemmas.{length-put_bytes}

-- ---- what holds of traps and of each instruction's effect holds of a cycle's

at_word : (P : Effect → Type 0) (regs : List ℕ) (pc : ℕ) (mem : Memory) (found : Option Instr)
    → ((c : Cause) (address : ℕ) → P (trap c address)) → ((i : Instr) → P (act i regs pc mem))
    → P (act_word found regs pc mem)
at_word P regs pc mem None traps acts = traps IllegalInstruction pc
at_word P regs pc mem (Some i) traps acts = acts i

at_page : (P : Effect → Type 0) (regs : List ℕ) (pc : ℕ) (mem : Memory) (page : Option Page)
    → ((c : Cause) (address : ℕ) → P (trap c address)) → ((i : Instr) → P (act i regs pc mem))
    → P (fetched page regs pc mem)
at_page P regs pc mem None traps acts = traps InstructionPageFault pc
at_page P regs pc mem (Some p) traps acts = at_word P _ pc _ _ traps acts

at_cycle : (P : Effect → Type 0) (regs : List ℕ) (pc : ℕ) (mem : Memory)
    → ((c : Cause) (address : ℕ) → P (trap c address)) → ((i : Instr) → P (act i regs pc mem)) → P (cycle regs pc mem)
unfolding cycle
at_cycle P regs pc mem traps acts = at_page P _ pc _ _ traps acts

at_test : (P : Effect → Type 0) (b : Bool) {d e : Effect} → (b ≡ true → P d) → P e → P (cond b d e)
at_test P true f g = f refl
at_test P false f g = g

is_zero : {n : ℕ} → (n == 0) ≡ true → n ≡ 0
is_zero h = grind (arith, nat_tests)

-- ---- the change of the memory

abbrev Leaves : Memory → Effect → Type 0
Leaves mem (Ok d) = Stores mem d.change
Leaves mem (Err t) = Unit {0}

length-le : (n x : ℕ) → length (le n x) ≡ n
length-le zero x = refl
length-le (suc n) x = ap suc (length-le n _)

store_size-is : (op : StoreOp) → IsSize (store_size op)
store_size-is Sb = inl refl
store_size-is Sh = inr (inl refl)
store_size-is Sw = inr (inr (inl refl))
store_size-is Sd = inr (inr (inr refl))

load-leaves : (regs : List ℕ) (pc : ℕ) (mem : Memory) (op : LoadOp) (rd address : ℕ) (page : Option Page)
    → Leaves mem (load_from regs pc op rd address page)
load-leaves regs pc mem op rd address None = tt
load-leaves regs pc mem op rd address (Some p) = tt

store-leaves : (regs : List ℕ) (pc : ℕ) (mem : Memory) (op : StoreOp) (address value : ℕ) (page : Option Page)
    → page_for Store mem address ≡ page → address % store_size op ≡ 0
    → Leaves mem (store_to regs pc address (le (store_size op) value) page)
store-leaves regs pc mem op address value None found aligned = tt
store-leaves regs pc mem op address value (Some p) found aligned =
    let count : length (le (store_size op) value) ≡ store_size op = length-le (store_size op) _ in
    record { page = p; found = found; size = rw count (store_size-is op); aligned = rw count aligned }

act-leaves : (regs : List ℕ) (pc : ℕ) (mem : Memory) (i : Instr) → Leaves mem (act i regs pc mem)
unfolding act
act-leaves regs pc mem (instr.Jal rd offset) = let target =
    plus pc (extend 21 offset) in at_test (Leaves mem) (target % 4 == 0) (λ _. tt) tt
act-leaves regs pc mem (instr.Jalr rd rs1 imm) = let target =
    plus (slice_index regs rs1) (extend 12 imm) / 2 * 2 in at_test (Leaves mem) (target % 4 == 0) (λ _. tt) tt
act-leaves regs pc mem (instr.Branch op rs1 rs2 offset) =
    let target = plus pc (extend 13 offset) in
    at_test (Leaves mem) (is_taken op (slice_index regs rs1) (slice_index regs rs2))
    (λ _. at_test (Leaves mem) (target % 4 == 0) (λ _. tt) tt) tt
act-leaves regs pc mem (instr.Load op rd rs1 imm) =
    let address = plus (slice_index regs rs1) (extend 12 imm) in
    at_test (Leaves mem) (address % load_size op == 0) (λ _. load-leaves _ pc _ op rd _ _) tt
act-leaves regs pc mem (instr.Store op rs1 rs2 imm) =
    let address = plus (slice_index regs rs1) (extend 12 imm) in
    at_test (Leaves mem) (address % store_size op == 0)
    (λ h. store-leaves _ pc _ op _ _ (page_for Store mem address) refl (is_zero h)) tt
act-leaves regs pc mem _ = tt

-- what an instruction writes is what a store may write
pub cycle-stores : (regs : List ℕ) (pc : ℕ) (mem : Memory) (d : Computed) → cycle regs pc mem ≡ Ok d
    → Stores mem d.change
cycle-stores regs pc mem d h =
    subst (Leaves mem) h (at_cycle (Leaves mem) _ pc _ (λ c address. tt) (act-leaves _ pc mem))

-- ---- what a store needs

-- the bytes of a store lie in one page, and there is at least one
size-fits : (address : ℕ) {n : ℕ} → IsSize n → address % n ≡ 0 → (0 < n) × (address % 4096 + n ≤ 4096)
size-fits address (inl one) aligned = (omega arith, omega arith)
size-fits address (inr (inl two)) aligned = let even : address % 2 ≡ 0 =
    rw (sym two) aligned in (omega arith, omega arith)
size-fits address (inr (inr (inl four))) aligned = let even : address % 4 ≡ 0 =
    rw (sym four) aligned in (omega arith, omega arith)
size-fits address (inr (inr (inr eight))) aligned = let even : address % 8 ≡ 0 =
    rw (sym eight) aligned in (omega arith, omega arith)

store-fits : {mem : Memory} {address : ℕ} {bytes : List ℕ} → IsStore mem address bytes
    → (0 < length bytes) × (address % 4096 + length bytes ≤ 4096)
store-fits {address} {bytes} is = size-fits _ is.size is.aligned

chosen : (b : Bool) (d : Page) (p : Page) → cond b (Some d) None ≡ Some p → b ≡ true
chosen true d p h = refl
chosen false d p h = absurd (cc)

-- ---- which frame is new

-- the entry of a page that a store is allowed on
allowed-entry : (ram : Ram) (o : Option Mapped) {p : Page} → permitted Store (option_map (page_in ram) o) ≡ Some p
    → (e : Mapped) × (o ≡ Some e) × (permits Store e.marks ≡ true)
allowed-entry ram None h = absurd (cc)
allowed-entry ram (Some e) {p} h = (e, refl, chosen (permits Store e.marks) (page_in ram e) p h)

pub stored-entry : (ram : Ram) (mapping : List Mapped) {address : ℕ} {bytes : List ℕ}
    → IsStore (memory_of ram mapping) address bytes
    → (e : Mapped) × (slice_get mapping (address / 4096) ≡ Some e) × (permits Store e.marks ≡ true)
stored-entry ram mapping {address} is =
    allowed-entry _ (slice_get mapping (address / 4096))
    (ap (permitted Store) (sym (slice_get-map (page_in ram) mapping (address / 4096))) ∙ is.found)

-- in terms of the memory
changed-put : (ram : Ram) (mapping : List Mapped) (address : ℕ) (bytes : List ℕ) (e : Mapped)
    → slice_get mapping (address / 4096) ≡ Some e
    → changed ram mapping (Bytes address bytes) ≡ put ram e.frame (address % 4096) bytes
unfolding put put_bytes
changed-put ram mapping address bytes e mapped =
    let at : ℕ = address % 4096 in
    let frame : List ℕ = slice_index_or ram e.frame [] in
    ap (λ o. put_in ram o at bytes) mapped
    ∙ ap (slice_set ram e.frame) (append_assoc (take at frame) bytes (drop (at + length bytes) frame))

written-page : {ram : Ram} {mapping : List Mapped} (page at : ℕ) (bytes : List ℕ) (e : Mapped) → IsMemory ram
    → e.frame < length ram → slice_get mapping page ≡ Some e → permits Store e.marks ≡ true
    → at + length bytes ≤ 4096 → WritesPage ram mapping (put ram e.frame at bytes)
unfolding put
written-page {ram} page at bytes e is within mapped permitted fits =
    let full : length (frame_of ram e.frame) ≡ 4096 = is.sized e.frame within in
    record {
      page = page;
      entry = e;
      bytes = put_bytes (frame_of ram e.frame) at bytes;
      mapped = mapped;
      permitted = permitted;
      whole = length-put_bytes _ at _ (omega arith) ∙ full;
      is = refl;
    }

-- a store writes one frame of the mapping, whose page may be written
changed-only : {ram : Ram} {mapping : List Mapped} (change : Change) → IsMemory ram → IsSound ram mapping
    → Stores (memory_of ram mapping) change → WritesOnly ram mapping (changed ram mapping change)
changed-only Nothing is sound stores = inl refl
changed-only {ram} {mapping} (Bytes address bytes) is sound stores =
    let entry = stored-entry _ _ stores in
    let e : Mapped = entry.0 in
    inr (rw (changed-put ram mapping address bytes e entry.1)
    (written-page _ _ _ e is (sound.inside (address / 4096) e entry.1) entry.1 entry.2 (store-fits stores).1))

-- the same for what an instruction leaves
pub cycle-only : {ram : Ram} {mapping : List Mapped} (regs : List ℕ) (pc : ℕ) {d : Computed} → IsMemory ram
    → IsSound ram mapping → cycle regs pc (memory_of ram mapping) ≡ Ok d
    → WritesOnly ram mapping (changed ram mapping d.change)
cycle-only {ram} {mapping} regs pc {d} is sound h = changed-only d.change is sound (cycle-stores _ pc _ d h)

-- ---- the memory that is shown

-- page k of the memory
page_at : (ram : Ram) (mapping : List Mapped) (k : ℕ) {e : Mapped} (d : Page) → slice_get mapping k ≡ Some e
    → get_or (memory_of ram mapping) k d ≡ page_in ram e
page_at ram mapping k {e} d h =
    get_or_from_slice_get _ k _ d (slice_get-map (page_in ram) mapping k ∙ ap (option_map (page_in ram)) h)

-- page k after the frame of page n is new
shown_at : (ram : Ram) (mapping : List Mapped) {n : ℕ} (e : Mapped) (new : List ℕ) → slice_get mapping n ≡ Some e
    → e.frame < length ram → IsAlone mapping n
    → (k : ℕ) {f : Mapped} (d : Page) → slice_get mapping k ≡ Some f → (k ≡ n) ⊎ (k ≡ n → ⊥)
    → get_or (memory_of (set ram e.frame new) mapping) k d
    ≡ get_or (set (memory_of ram mapping) n (record { bytes = new; marks = e.marks })) k d
shown_at ram mapping {n} e new found within alone k {f} d at (inl same) =
    let entry : Some f ≡ Some e = sym at ∙ ap (slice_get mapping) same ∙ found in
    let is : f ≡ e = cc in
    let written : get_or (set ram e.frame new) e.frame [] ≡ new = get_or-set_same ram e.frame new [] within in
    let there : n < length (memory_of ram mapping) = rw length-map (slice_get_within mapping n e found) in
    page_at _ _ k d at
    ∙ ap (page_in (set ram e.frame new)) is
    ∙ ap (λ bytes. record { bytes = bytes; marks = e.marks }) written
    ∙ sym (ap (λ j. get_or (set (memory_of ram mapping) n (record { bytes = new; marks = e.marks })) j d) same
    ∙ rw get_or-set_same)
shown_at ram mapping e new found within alone k {f} d at (inr other) =
    let apart : f.frame ≢ e.frame = λ same. other (alone k e f found at same) in
    let kept : get_or (set ram e.frame new) f.frame [] ≡ get_or ram f.frame [] = rw get_or-set_other in
    page_at _ _ k d at
    ∙ ap (λ bytes. record { bytes = bytes; marks = f.marks }) kept
    ∙ sym (page_at _ _ k d at)
    ∙ sym (rw get_or-set_other)

-- where the frame of a page is new, and no other page has it, that page is new
memory_of-set : (ram : Ram) (mapping : List Mapped) (n : ℕ) (e : Mapped) (new : List ℕ) → slice_get mapping n ≡ Some e
    → e.frame < length ram → IsAlone mapping n
    → memory_of (set ram e.frame new) mapping ≡ set (memory_of ram mapping) n (record { bytes = new; marks = e.marks })
memory_of-set ram mapping n e new found within alone =
    same_lists _ _ (rw (length-set, length-map, length-map)) (λ k d below.
    let fits : k < length mapping = rw length-map at below in
    shown_at _ _ e _ found within alone k d (slice_get-get_or _ k e fits) (cases_eq k n))

write_from-none : (pages : List Page) → write_from pages 0 [] ≡ pages
write_from-none [] = refl
write_from-none (p ∷ ps) = refl

-- bytes that end on the first page
write_from-first : (p : Page) {ps : List Page} (at : ℕ) (new : List ℕ) → 0 < length new → at + length new ≤ 4096
    → write_from (p ∷ ps) at new ≡ record p { bytes = overwrite p.bytes at new } ∷ ps
write_from-first p at [] some fits = absurd (omega arith)
write_from-first p {ps} at (b ∷ bs) some fits =
    let all : take (4096 - at) (b ∷ bs) ≡ b ∷ bs = take_all (4096 - at) (b ∷ bs) (omega arith) in
    let none : drop (4096 - at) (b ∷ bs) ≡ [] = drop_all (4096 - at) (b ∷ bs) (omega arith) in
    ap (λ new. record p { bytes = overwrite p.bytes at new } ∷ write_from ps 0 (drop (4096 - at) (b ∷ bs))) all
    ∙ ap (λ rest. record p { bytes = overwrite p.bytes at (b ∷ bs) } ∷ write_from ps 0 rest) none
    ∙ ap (λ rest. record p { bytes = overwrite p.bytes at (b ∷ bs) } ∷ rest) (write_from-none ps)

-- bytes in one page make that page new
write_bytes-page : (mem : Memory) (address : ℕ) (new : List ℕ) {p : Page} → slice_get mem (address / 4096) ≡ Some p
    → 0 < length new → address % 4096 + length new ≤ 4096
    → write_bytes mem address new
    ≡ set mem (address / 4096) (record { bytes = overwrite p.bytes (address % 4096) new; marks = p.marks })
unfolding write_bytes
write_bytes-page mem address new {p} found some fits =
    let n : ℕ = address / 4096 in
    let there : n < length mem = slice_get_within mem n p found in
    ap (λ pages. take n mem ++ write_from pages (address % 4096) new)
    (drop-cons mem n p there ∙ ap (λ q. q ∷ drop (suc n) mem) (get_or_from_slice_get _ n p p found))
    ∙ ap (λ pages. take n mem ++ pages) (write_from-first p _ _ some fits)
    ∙ sym (set_split mem n (record { bytes = overwrite p.bytes (address % 4096) new; marks = p.marks }) there)

-- the frames after a change show the memory after it
memory_of-changed : {ram : Ram} {mapping : List Mapped} (change : Change) → IsSound ram mapping
    → Stores (memory_of ram mapping) change
    → memory_of (changed ram mapping change) mapping ≡ memory_after (memory_of ram mapping) change
memory_of-changed Nothing sound stores = refl
memory_of-changed {ram} {mapping} (Bytes address bytes) sound stores =
    let n : ℕ = address / 4096 in
    let at : ℕ = address % 4096 in
    let entry = stored-entry _ _ stores in
    let e : Mapped = entry.0 in
    let fits = store-fits stores in
    let shown : slice_get (memory_of ram mapping) n ≡ Some (page_in ram e) = slice_get-map (page_in ram) mapping n
    ∙ ap (option_map (page_in ram)) entry.1 in
    ap (λ o. memory_of (put_in ram o at bytes) mapping) entry.1
    ∙ memory_of-set _ _ n e _ entry.1 (sound.inside n e entry.1) (sound.alone n e entry.1 entry.2)
    ∙ sym (write_bytes-page _ _ _ shown fits.0 fits.1)

-- the same for what an instruction leaves
pub memory_of-cycle : (ram : Ram) (mapping : List Mapped) (regs : List ℕ) (pc : ℕ) (d : Computed) → IsSound ram mapping
    → cycle regs pc (memory_of ram mapping) ≡ Ok d
    → memory_of (changed ram mapping d.change) mapping ≡ memory_after (memory_of ram mapping) d.change
memory_of-cycle ram mapping regs pc d sound h = memory_of-changed d.change sound (cycle-stores _ pc _ d h)

-- ---- for the caller of a step

-- an instruction was done
pub record IsDone (effect : Effect) (mapping : List Mapped) (result : Option Trap) (old new : Hart) (ram ram' : Ram)
    : Type 0 where
  pub done : Computed
  pub is : effect ≡ Ok done
  pub result_is : result ≡ None
  pub registers : new.registers ≡ done.regs
  pub pc : new.pc ≡ done.pc
  pub root : new.root ≡ old.root
  pub memory : ram' ≡ changed ram mapping done.change

-- a trap was raised, and nothing is new
pub record IsTrapped (effect : Effect) (result : Option Trap) (old new : Hart) (ram ram' : Ram) : Type 0 where
  pub cause : Trap
  pub is : effect ≡ Err cause
  pub result_is : result ≡ Some cause
  pub hart : new ≡ old
  pub memory : ram' ≡ ram

-- either of the two
pub follows-cases : (effect : Effect) (mapping : List Mapped) (result : Option Trap) (old new : Hart) (ram ram' : Ram)
    → Follows effect mapping result old new ram ram'
    → IsDone effect mapping result old new ram ram' ⊎ IsTrapped effect result old new ram ram'
follows-cases (Ok d) mapping result old new ram ram' h =
    inl (record { done = d; is = refl; result_is = h.0; registers = h.1; pc = h.2; root = h.3; memory = h.4 })
follows-cases (Err t) mapping result old new ram ram' h =
    inr (record { cause = t; is = refl; result_is = h.0; hart = h.1; memory = h.2 })

-- a step writes at most one frame of the mapping, and only where its page may be written
pub follows-only : (regs : List ℕ) (pc : ℕ) (mapping : List Mapped) (result : Option Trap) (old new : Hart)
    (ram ram' : Ram) → IsMemory ram → IsSound ram mapping
    → Follows (cycle regs pc (memory_of ram mapping)) mapping result old new ram ram' → WritesOnly ram mapping ram'
follows-only regs pc mapping result old new ram ram' is sound h =
    elim (follows-cases _ _ _ _ _ _ _ h) [
      | inl did ↦ rw did.memory (cycle-only _ pc is sound did.is)
      | inr trapped ↦ inl trapped.memory
    ]
