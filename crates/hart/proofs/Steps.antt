-- Steps whose accesses a translator serves.
use Rattle.hart.proofs.Common.{Ram, Access, Acts, allowed, At, Behind, Leaves, Next, pc_after, Stop, Stored, trap_of}
use Rattle.hart.proofs.Common.{Within, word_in, ap, cond, false, Held, HoldsInside, inl, inr, IsKept, List, Mapped}
use Rattle.hart.proofs.Common.{memory_of, None, Option, option_map, page_for, page_in, permits, permitted, refl}
use Rattle.hart.proofs.Common.{slice_get, slice_get-map, Some, true, walk_page-inside, ℕ, ◌/◌, ◌∙◌, ◌≡◌, act, act_by}
use Rattle.hart.proofs.Common.{act_word, and_parts, Answers, AreAllowed, arith, Bool, Bytes, bytes_at, Change, changed}
use Rattle.hart.proofs.Common.{Computed, cycle, cycle_by, Effect, eq-eqb, eqb-true, Err, extend, Fetch, fetched}
use Rattle.hart.proofs.Common.{fetched_by, Follows, frame_for, given, Hart, HasEffect, IfSome, if◌then◌else◌, Instr}
use Rattle.hart.proofs.Common.{instruction_of, InstructionPageFault, IsAnswer, IsStep, Load, load_size, LoadMisaligned}
use Rattle.hart.proofs.Common.{Memory, Nothing, number, Ok, Page, place_in, plus, put_at, put_in, seen, Shows, Sight}
use Rattle.hart.proofs.Common.{slice_index, Store, store_size, stored, StoreMisaligned, Stores, subst, sym, Trap, trap}
use Rattle.hart.proofs.Common.{walk_page, word_by, ◌%◌, ◌&&◌, ◌-◌, ◌==◌}
use Rattle.hart.proofs.ChangeLemmas.{stored-entry, cycle-stores}
use Rattle.hart.proofs.Again.{Alike, load-same, store-same}
use Rattle.unixmodel.specs.declared.instr.Instr.TheVariants as instr

-- ---- a mapping and the memory that it shows

permitted-page_in : (ram : Ram) (access : Access) (o : Option Mapped)
    → permitted access (option_map (page_in ram) o) ≡ option_map (page_in ram) (allowed access o)
permitted-page_in ram access None = refl
permitted-page_in ram access (Some e) =
    elim (permits access e.marks) as
    (λ b. cond b (Some (page_in ram e)) None ≡ option_map (page_in ram) (cond b (Some e) None))
    [ true ↦ refl | false ↦ refl ]

-- the page of an address is that of its entry
pub page_for-memory_of : (ram : Ram) (mapping : List Mapped) (access : Access) (address : ℕ)
    → page_for access (memory_of ram mapping) address
    ≡ option_map (page_in ram) (allowed access (slice_get mapping (address / 4096)))
page_for-memory_of ram mapping access address =
    ap (permitted access) (slice_get-map (page_in ram) mapping (address / 4096)) ∙ permitted-page_in _ _ _

-- the walk gives frames of the memory only
pub inside-kept : {old new : Held} (ram : Ram) {root : ℕ} → HoldsInside old ram → IsKept old new ram root
    → HoldsInside new ram
inside-kept ram inside kept t h =
    elim (kept t h) [
      | inl before ↦ inside t before
      | inr now ↦ walk_page-inside ram t.root t.page t.access t.frame
          now.1
    ]

-- ---- one result of a translator

frame_in : (va : ℕ) {frame pa : ℕ} → pa ≡ place_in va frame → pa / 4096 - 0x80000 ≡ frame
frame_in va is = omega (arith, is)

walked-frame : (va : ℕ) {pa : ℕ} (o : Option ℕ) → Some pa ≡ option_map (place_in va) o
    → Some (place_in va (pa / 4096 - 0x80000)) ≡ option_map (place_in va) o
walked-frame va None h = absurd (cc)
walked-frame va {pa} (Some f) h =
    ap (λ n. Some (place_in va n)) (frame_in va cc)

-- an address that was returned is an offset in a frame
pub answered-frame : (held : Held) (ram : Ram) {root : ℕ} (va : ℕ) {pa : ℕ} {access : Access}
    → IsAnswer held ram root va access (Some pa)
    → IsAnswer held ram root va access (Some (place_in va (pa / 4096 - 0x80000)))
answered-frame held ram {root} va {pa} {access} (inl now) = inl (walked-frame va _ now)
answered-frame held ram va {pa} (inr kept) =
    inr (kept.0, kept.1, ap (λ n. Some (place_in va n)) (frame_in va (cc kept.2)))

-- what may be returned later may be returned earlier
answered-kept : {old new : Held} (ram : Ram) {root : ℕ} (va : ℕ) {access : Access} {answer : Option ℕ}
    → IsKept old new ram root → IsAnswer new ram root va access answer → IsAnswer old ram root va access answer
answered-kept ram va kept (inl walked) = inl walked
answered-kept ram {root} va {access} kept (inr held) =
    elim (kept (record { root = root; page = va / 4096; access = access; frame = held.0 }) held.1) [
      | inl before ↦ inr (held.0, before, held.2)
      | inr now ↦ inl (held.2 ∙ ap (option_map (place_in va)) (sym now.1))
    ]

-- ---- the results of a translator

-- those of the walk
abbrev pub walked : Ram → ℕ → Answers
walked ram root access address = (walk_page ram root (address / 4096) access).frame

abbrev same : Access → Access → Bool
same Fetch Fetch = true
same Load Load = true
same Store Store = true
same _ _ = false

same-is : (a b : Access) → same a b ≡ true → a ≡ b
same-is Fetch Fetch h = refl
same-is Load Load h = refl
same-is Store Store h = refl
same-is _ _ h = absurd cc

same-self : (a : Access) → same a a ≡ true
same-self Fetch = refl
same-self Load = refl
same-self Store = refl

-- with another result for one access
abbrev pub with_answer : Access → ℕ → Option ℕ → Answers → Answers
with_answer access address o answers a b = if same access a && (address == b) then o else answers a b

with_answer-itself : (access : Access) (address : ℕ) {o : Option ℕ} (answers : Answers)
    → with_answer access address o answers access address ≡ o
with_answer-itself access address answers = rw (same-self access, eq-eqb address address refl) refl

chosen : (held : Held) (ram : Ram) (root va : ℕ) (access : Access) (t : Bool) (o p : Option ℕ)
    → (t ≡ true → IsAnswer held ram root va access (option_map (place_in va) o))
    → IsAnswer held ram root va access (option_map (place_in va) p)
    → IsAnswer held ram root va access (option_map (place_in va) (if t then o else p))
chosen held ram root va access true o p f g = f refl
chosen held ram root va access false o p f g = g

with_answer-allowed : (held : Held) (ram : Ram) {root : ℕ} {access : Access} (address : ℕ) (o : Option ℕ)
    (answers : Answers) → AreAllowed held ram root answers
    → IsAnswer held ram root address access (option_map (place_in address) o)
    → AreAllowed held ram root (with_answer access address o answers)
with_answer-allowed held ram {root} {access} address o answers allowed is a b =
    chosen held ram root b a (same access a && (address == b)) o (answers a b)
    (λ h.
    let both = and_parts (same access a) (address == b) h in
    let P : Access → Type 0 = λ x. IsAnswer held ram root b x (option_map (place_in b) o) in
    let Q : ℕ → Type 0 = λ n. IsAnswer held ram root n access (option_map (place_in n) o) in
    subst P (same-is access a both.0) (subst Q (eqb-true address b both.1) is))
    (allowed a b)

-- some allowed results have this one
pub one-answer : (held : Held) (ram : Ram) {root : ℕ} {access : Access} {address : ℕ} {o : Option ℕ}
    → IsAnswer held ram root address access (option_map (place_in address) o)
    → (answers : Answers) × AreAllowed held ram root answers × (answers access address ≡ o)
one-answer held ram {root} {access} {address} {o} is = (
  with_answer access address o (walked ram root),
  with_answer-allowed held ram address o (walked ram root) (λ a b. inl refl) is,
  with_answer-itself access address (walked ram root),
)

-- ---- traps

pub trap-still : (effect : Effect) (answers : Answers) (result : Option Trap) (old new : Hart) (ram ram' : Ram)
    → HasEffect effect answers result old new ram ram'
    → IfSome result (λ t. (new ≡ old) × (ram' ≡ ram))
trap-still (Ok d) answers result old new ram ram' h = rw h.0 tt
trap-still (Err t) answers result old new ram ram' h = rw h.0 (h.1, h.2)

-- ---- the instruction at the pc

-- nothing was fetched
pub step-unfetched : {held : Held} {ram : Ram} {hart : Hart} → IsAnswer held ram hart.root.0 hart.pc Fetch None
    → IsStep held (cycle_by hart.registers hart.pc) (Some (record { cause = InstructionPageFault; address = hart.pc }))
    hart hart ram ram
unfolding cycle_by
step-unfetched {held} {ram} is =
    let one = one-answer held ram {o = None} is in
    record { answers = one.0; allowed = one.1; does = rw one.2 (refl, refl, refl) }

-- except for a fetch a word looks at the same results
act_by-fetch : (i : Instr) (regs : List ℕ) (pc at : ℕ) (ram : Ram) (o : Option ℕ) (answers : Answers)
    → act_by i regs pc (seen ram (with_answer Fetch at o answers)) ≡ act_by i regs pc (seen ram answers)
unfolding act_by
act_by-fetch (instr.Load op rd rs1 imm) regs pc at ram o answers = refl
act_by-fetch _ regs pc at ram o answers = refl

word_by-fetch : (found : Option Instr) (regs : List ℕ) (pc at : ℕ) (ram : Ram) (o : Option ℕ) (answers : Answers)
    → word_by found regs pc (seen ram (with_answer Fetch at o answers)) ≡ word_by found regs pc (seen ram answers)
word_by-fetch None regs pc at ram o answers = refl
word_by-fetch (Some i) regs pc at ram o answers = act_by-fetch i _ _ _ _ _ _

stored-fetch : (ram : Ram) (at : ℕ) (o : Option ℕ) (answers : Answers) (change : Change)
    → stored ram (with_answer Fetch at o answers) change ≡ stored ram answers change
stored-fetch ram at o answers Nothing = refl
stored-fetch ram at o answers (Bytes address bytes) = refl

-- a hart is where its operation goes on, and after a trap as it was
abbrev pub Arrives : Next → ℕ → Hart → Hart → Type 0
Arrives (Stop t) pc hart new = new ≡ hart
Arrives next pc hart new = (new.registers ≡ hart.registers) × (new.pc ≡ pc_after next pc) × (new.root ≡ hart.root)

leaves-effect : (effect : Effect) (at : ℕ) (o : Option ℕ) (answers : Answers) (next : Next) (pc : ℕ)
    (old hart new : Hart) (ram ram' : Ram) → Leaves effect answers next pc old hart ram ram' → Arrives next pc hart new
    → HasEffect effect (with_answer Fetch at o answers) (trap_of next) old new ram ram'
leaves-effect (Ok d) at o answers Behind pc old hart new ram ram' h a =
    (refl, a.0 ∙ h.1, a.1 ∙ h.2, a.2 ∙ h.3, h.4 ∙ sym (stored-fetch ram at o answers d.change))
leaves-effect (Ok d) at o answers (Stored f doubleword) pc old hart new ram ram' h a =
    (refl, a.0 ∙ h.1, a.1 ∙ h.2, a.2 ∙ h.3, h.4 ∙ sym (stored-fetch ram at o answers d.change))
leaves-effect (Ok d) at o answers (Within to) pc old hart new ram ram' h a =
    (refl, a.0 ∙ h.1, a.1 ∙ h.2, a.2 ∙ h.3, h.4 ∙ sym (stored-fetch ram at o answers d.change))
leaves-effect (Ok d) at o answers (At to) pc old hart new ram ram' h a =
    (refl, a.0 ∙ h.1, a.1 ∙ h.2, a.2 ∙ h.3, h.4 ∙ sym (stored-fetch ram at o answers d.change))
leaves-effect (Err t) at o answers (Stop s) pc old hart new ram ram' h a = (h.0, a ∙ h.1, h.2)
leaves-effect (Ok d) at o answers (Stop s) pc old hart new ram ram' h a = absurd (cc h.0)
leaves-effect (Err t) at o answers next pc old hart new ram ram' h a = absurd (cc h.0)

pub arrives-on : (next : Next) (pc : ℕ) (hart new : Hart) → trap_of next ≡ None → new.registers ≡ hart.registers
    → new.pc ≡ pc_after next pc → new.root ≡ hart.root → Arrives next pc hart new
arrives-on (Stop t) pc hart new none registers at root = absurd (cc none)
arrives-on _ pc hart new none registers at root = (registers, at, root)

pub arrives-not : (next : Next) (pc : ℕ) (hart : Hart) {t : Trap} → trap_of next ≡ Some t → Arrives next pc hart hart
arrives-not (Stop s) pc hart some = refl
arrives-not _ pc hart some = absurd (cc some)

-- the word that was fetched is done
pub step-done : {held mid held' : Held} {ram ram' : Ram} {old hart new : Hart} (next : Next) (f : ℕ)
    {result : Option Trap}
    → IsAnswer held ram old.root.0 old.pc Fetch (Some (place_in old.pc f)) → IsKept held mid ram old.root.0
    → Acts mid held' (word_by (instruction_of (word_in ram f old.pc)) old.registers old.pc) next old.pc old hart ram
    ram' → Arrives next old.pc hart new → trap_of next ≡ result
    → IsStep held (cycle_by old.registers old.pc) result old new ram ram'
unfolding cycle_by
step-done {held} {ram} {ram'} {old} {hart} {new} next f is kept acts arrives stopped =
    let word : Option Instr = instruction_of (word_in ram f old.pc) in
    let before : AreAllowed held ram old.root.0 acts.answers =
    λ access address. answered-kept _ _ kept (acts.allowed access address) in
    let itself : with_answer Fetch old.pc (Some f) acts.answers Fetch old.pc ≡ Some f =
    with_answer-itself Fetch old.pc acts.answers in
    record {
      answers = with_answer Fetch old.pc (Some f) acts.answers;
      allowed = with_answer-allowed held ram old.pc (Some f) acts.answers before is;
      does = rw (← stopped, itself, word_by-fetch word old.registers old.pc old.pc ram (Some f) acts.answers)
          (leaves-effect (word_by word old.registers old.pc (seen ram acts.answers)) old.pc (Some f) acts.answers next
          old.pc old hart new ram ram' acts.does arrives);
    }

-- ---- where all allowed results are a mapping's

pub place-frame : (va : ℕ) (o p : Option ℕ) → option_map (place_in va) o ≡ option_map (place_in va) p → o ≡ p
place-frame va None None h = refl
place-frame va (Some f) (Some g) h =
    let is : place_in va f ≡ place_in va g = cc in
    ap Some (omega (arith, is))
place-frame _ _ _ h = absurd cc

pub shown-answer : (held : Held) (ram : Ram) {root : ℕ} (mapping : List Mapped) (answers : Answers)
    → Shows held ram root mapping → AreAllowed held ram root answers
    → (access : Access) (address : ℕ) → answers access address ≡ frame_for mapping (address / 4096) access
shown-answer held ram mapping answers shows allowed access address =
    place-frame _ (answers access address) (frame_for mapping (address / 4096) access)
    (shows address access _ (allowed access address))

given-alike : (ram : Ram) (o : Option Mapped)
    → Alike (option_map (given ram) (option_map (λ (e : Mapped). e.frame) o)) (option_map (page_in ram) o)
given-alike ram None = refl
given-alike ram (Some e) = refl

pub seen-alike : (held : Held) (ram : Ram) {root : ℕ} (mapping : List Mapped) (answers : Answers)
    → Shows held ram root mapping → AreAllowed held ram root answers
    → (access : Access) (address : ℕ)
    → Alike (seen ram answers access address) (page_for access (memory_of ram mapping) address)
seen-alike held ram {root} mapping answers shows allowed_all access address =
    let o : Option Mapped = allowed access (slice_get mapping (address / 4096)) in
    ap (λ f. option_map (λ (a : Page). a.bytes) (option_map (given ram) f))
    (shown-answer held ram mapping answers shows allowed_all access address)
    ∙ given-alike _ o
    ∙ ap (option_map (λ (a : Page). a.bytes)) (sym (page_for-memory_of ram mapping access address))

act_by-alike : (i : Instr) (regs : List ℕ) (pc : ℕ) (see : Sight) (mem : Memory)
    → ((access : Access) (address : ℕ) → Alike (see access address) (page_for access mem address))
    → act_by i regs pc see ≡ act i regs pc mem
unfolding act_by act
act_by-alike (instr.Load op rd rs1 imm) regs pc see mem h =
    let address : ℕ = plus (slice_index regs rs1) (extend 12 imm) in
    ap (λ e. if address % load_size op == 0 then e else trap LoadMisaligned address)
    (load-same _ pc op rd _ (see Load address) (page_for Load mem address) (h Load address))
act_by-alike (instr.Store op rs1 rs2 imm) regs pc see mem h =
    let address : ℕ = plus (slice_index regs rs1) (extend 12 imm) in
    ap (λ e. if address % store_size op == 0 then e else trap StoreMisaligned address)
    (store-same _ pc _ _ (see Store address) (page_for Store mem address) (h Store address))
act_by-alike _ regs pc see mem h = refl

pub word_by-alike : (found : Option Instr) (regs : List ℕ) (pc : ℕ) (see : Sight) (mem : Memory)
    → ((access : Access) (address : ℕ) → Alike (see access address) (page_for access mem address))
    → word_by found regs pc see ≡ act_word found regs pc mem
word_by-alike None regs pc see mem h = refl
word_by-alike (Some i) regs pc see mem h = act_by-alike i _ pc _ _ h

fetched_by-alike : (o p : Option Page) (regs : List ℕ) (pc : ℕ) (see : Sight) (mem : Memory) → Alike o p
    → ((access : Access) (address : ℕ) → Alike (see access address) (page_for access mem address))
    → fetched_by o regs pc see ≡ fetched p regs pc mem
fetched_by-alike None None regs pc see mem same h = refl
fetched_by-alike (Some o) (Some p) regs pc see mem same h =
    let bytes : o.bytes ≡ p.bytes = cc same in
    ap (λ bs. word_by (instruction_of (number (bytes_at 4 pc (record { bytes = bs; marks = p.marks })))) regs pc see)
    bytes
    ∙ word_by-alike _ _ pc _ _ h
fetched_by-alike _ _ regs pc see mem same h = absurd (cc same)

-- the same sight means the same
cycle_by-alike : (regs : List ℕ) (pc : ℕ) (see : Sight) (mem : Memory)
    → ((access : Access) (address : ℕ) → Alike (see access address) (page_for access mem address))
    → cycle_by regs pc see ≡ cycle regs pc mem
unfolding cycle_by cycle
cycle_by-alike regs pc see mem h = fetched_by-alike (see Fetch pc) (page_for Fetch mem pc) _ pc _ _ (h Fetch pc) h

-- the frame that a store was given is that of the mapping
pub stored-changed : (ram : Ram) (mapping : List Mapped) {answers : Answers} (change : Change)
    → ((access : Access) (address : ℕ) → answers access address ≡ frame_for mapping (address / 4096) access)
    → Stores (memory_of ram mapping) change → stored ram answers change ≡ changed ram mapping change
stored-changed ram mapping Nothing shown stores = refl
stored-changed ram mapping {answers} (Bytes address bytes) shown stores =
    let entry = stored-entry _ _ stores in
    let e : Mapped = entry.0 in
    let found : allowed Store (slice_get mapping (address / 4096)) ≡ Some e = ap (allowed Store) entry.1
    ∙ ap (λ t. if t then Some e else None) entry.2 in
    let frame : answers Store address ≡ Some e.frame = shown Store address
    ∙ ap (option_map (λ (d : Mapped). d.frame)) found in
    ap (λ o. put_at ram o (address % 4096) bytes) frame
    ∙ sym (ap (λ o. put_in ram o (address % 4096) bytes) entry.1)

does-follows : (effect : Effect) (mapping : List Mapped) {answers : Answers} (result : Option Trap) (old new : Hart)
    (ram ram' : Ram)
    → ((access : Access) (address : ℕ) → answers access address ≡ frame_for mapping (address / 4096) access)
    → ((d : Computed) → effect ≡ Ok d → Stores (memory_of ram mapping) d.change)
    → HasEffect effect answers result old new ram ram' → Follows effect mapping result old new ram ram'
does-follows (Ok d) mapping {answers} result old new ram ram' shown stores h =
    (h.0, h.1, h.2, h.3, h.4 ∙ stored-changed _ _ d.change shown (stores d refl))
does-follows (Err t) mapping result old new ram ram' shown stores h = h

-- a step is the cycle on the memory of each mapping that all allowed results agree with
pub step-follows : {held : Held} (mapping : List Mapped) {result : Option Trap} {old new : Hart} {ram ram' : Ram}
    → Shows held ram old.root.0 mapping
    → IsStep held (cycle_by old.registers old.pc) result old new ram ram'
    → Follows (cycle old.registers old.pc (memory_of ram mapping)) mapping result old new ram ram'
step-follows {held} mapping {result} {old} {new} {ram} {ram'} shows step =
    let mem : Memory = memory_of ram mapping in
    let is : cycle_by old.registers old.pc (seen ram step.answers) ≡ cycle old.registers old.pc mem =
    cycle_by-alike old.registers old.pc (seen ram step.answers) mem
    (seen-alike held ram mapping step.answers shows step.allowed) in
    does-follows (cycle old.registers old.pc mem) _ _ _ _ _ _
    (shown-answer held ram mapping step.answers shows step.allowed)
    (cycle-stores _ _ _)
    (rw is at step.does)
