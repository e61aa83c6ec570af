-- Operations of a page, one after the other; indexes of words in a page, and the words there.
use Rattle.hart.proofs.Common.{Ram, Access, act_word, Acts, Answers, ap, changed, Computed, cycle, Effect, Err, Fetch}
use Rattle.hart.proofs.Common.{fetched, frame_for, Goes, Hart, Held, HoldsInside, inl, inr, instruction_of}
use Rattle.hart.proofs.Common.{InstructionPageFault, IsAnswer, IsKept, IsMemory, Leaves, List, Mapped, Memory}
use Rattle.hart.proofs.Common.{memory_of, Next, None, Ok, Option, option_map, page_in, pc_after, place_in, Point}
use Rattle.hart.proofs.Common.{point_at, Reaches, refl, RunsTo, seen, Shows, Sight, Some, Stores, subst, suc, sym, Trap}
use Rattle.hart.proofs.Common.{trap, trap_of, walk_page-inside, word_by, word_in, ℕ, ◌/◌, ◌∙◌, ◌≡◌, [], arith, Behind}
use Rattle.hart.proofs.Common.{GoesOn, IsOp, number, Op, op_by, pc_at, plus, slice_index_or, slice_range, StaysWhole}
use Rattle.hart.proofs.Common.{word_of, ◌%◌, ◌*◌, ◌+◌, ◌-◌, ◌<◌, ◌^◌, ◌≤◌, IsClear, IsPast, At, IfNone, IfSome, goes_to}
use Rattle.hart.proofs.Common.{MovesOn, Stop, Stored, Within}
use Rattle.sv39.proofs.Placed.{coherent-kept, shows-coherent}
use Rattle.hart.proofs.ChangeLemmas.{cycle-only, cycle-stores}
use Rattle.hart.proofs.Steps.{page_for-memory_of, place-frame, seen-alike, shown-answer, stored-changed, word_by-alike}
use Rattle.ram.specs.declared.FrameNo.{FrameNo}
use Rattle.hart.proofs.Bytes.{number_of_word}
use Rattle.hart.proofs.Stopping.{clear-past, less-clear}

-- ---- what holds of a program that was run so far

module _ {held : Held} {root : ℕ} {mapping : List Mapped} {stops : List ℕ} {n : ℕ} {first now : Point}
    (g : Goes held root mapping stops n first now) where
  shows-now : Shows held now.ram root mapping
  shows-now = shows-coherent _ _ _ _ (g.steady.walks n now.ram g.reaches) g.coherent

  -- something was looked up
  pub goes-kept : (held' : Held) → IsKept held held' now.ram root → Goes held' root mapping stops n first now
  goes-kept held' kept = record {
    steady = g.steady;
    coherent = coherent-kept _ _ _ _ _ (g.steady.walks n now.ram g.reaches) g.coherent kept;
    runs = g.runs;
    reaches = g.reaches;
    count = g.count;
  }

  -- a translator's result for a fetch is the mapping's
  pub frame-found : (o : Option ℕ) → IsAnswer held now.ram root now.pc Fetch (option_map (place_in now.pc) o)
      → frame_for mapping (now.pc / 4096) Fetch ≡ o
  frame-found o is = sym (place-frame _ o (frame_for mapping (now.pc / 4096) Fetch)
      (shows-now now.pc Fetch (option_map (place_in now.pc) o) is))

-- ---- one instruction

at-entry : (ram : Ram) (mem : Memory) (regs : List ℕ) (pc : ℕ) {f : ℕ} (o : Option Mapped)
    → option_map (λ (e : Mapped). e.frame) o ≡ Some f
    → fetched (option_map (page_in ram) o) regs pc mem ≡ act_word (instruction_of (word_in ram f pc)) regs pc mem
at-entry ram mem regs pc None h = absurd (cc)
at-entry ram mem regs pc {f} (Some e) h =
    let same : e.frame ≡ f = cc h in
    ap (λ k. act_word (instruction_of (word_in ram k pc)) regs pc mem) same

-- what is at the pc is the word in the frame of its page
cycle-worded : (ram : Ram) (mapping : List Mapped) (regs : List ℕ) (pc f : ℕ)
    → frame_for mapping (pc / 4096) Fetch ≡ Some f
    → cycle regs pc (memory_of ram mapping)
    ≡ act_word (instruction_of (word_in ram f pc)) regs pc (memory_of ram mapping)
unfolding cycle
cycle-worded ram mapping regs pc f at = rw (page_for-memory_of ram mapping Fetch pc) (at-entry _ _ _ pc _ at)

-- where no frame is found there is a page fault
at-none : (ram : Ram) (mem : Memory) (regs : List ℕ) (pc : ℕ) (o : Option Mapped)
    → option_map (λ (e : Mapped). e.frame) o ≡ None
    → fetched (option_map (page_in ram) o) regs pc mem ≡ trap InstructionPageFault pc
at-none ram mem regs pc None h = refl
at-none ram mem regs pc (Some e) h = absurd (cc)

pub cycle-unfound : (ram : Ram) (mapping : List Mapped) (regs : List ℕ) (pc : ℕ)
    → frame_for mapping (pc / 4096) Fetch ≡ None → cycle regs pc (memory_of ram mapping) ≡ trap InstructionPageFault pc
unfolding cycle
cycle-unfound ram mapping regs pc at = rw (page_for-memory_of ram mapping Fetch pc) (at-none _ _ _ pc _ at)

abbrev IsPoint : Point → Point → Type 0
IsPoint new point = new ≡ point

leaves-done : (effect : Effect) (mapping : List Mapped) {answers : Answers} (next : Next) (pc : ℕ) (old new : Hart)
    {ram ram' : Ram}
    → ((access : Access) (address : ℕ) → answers access address ≡ frame_for mapping (address / 4096) access)
    → ((d : Computed) → effect ≡ Ok d → Stores (memory_of ram mapping) d.change)
    → trap_of next ≡ None → Leaves effect answers next pc old new ram ram'
    → (d : Computed) × (effect ≡ Ok d)
    × IsPoint (record { registers = new.registers; pc = pc_after next pc; ram = ram' })
    (record { registers = d.regs; pc = d.pc; ram = changed ram mapping d.change })
leaves-done (Ok d) mapping {answers} next pc old new {ram} {ram'} shown stores none h =
    let memory : ram' ≡ changed ram mapping d.change = h.4 ∙ stored-changed _ _ d.change shown (stores d refl) in
    (d, refl, rw (h.1, h.2, memory) refl)
leaves-done (Err t) mapping next pc old new shown stores none h = absurd (cc (none, h.0))

leaves-not : (effect : Effect) (answers : Answers) (next : Next) (pc : ℕ) (old new : Hart) {ram ram' : Ram} {t : Trap}
    → trap_of next ≡ Some t → Leaves effect answers next pc old new ram ram'
    → (effect ≡ Err t) × (new.registers ≡ old.registers) × (ram' ≡ ram)
leaves-not (Ok d) answers next pc old new some h = absurd (cc (some, h.0))
leaves-not (Err s) answers next pc old new {t} some h =
    let same : s ≡ t = cc (some, h.0) in
    (ap Err same, ap (λ (hart : Hart). hart.registers) h.1, h.2)

-- the word at a pc is done by what a translator returns
module _ {held held' : Held} {mapping : List Mapped} {stops : List ℕ} {n : ℕ} {first : Point} {next : Next} {pc f : ℕ}
    {old new : Hart} {ram ram' : Ram} (g : Goes held old.root.0 mapping stops n first (point_at old pc ram))
    (at : frame_for mapping (pc / 4096) Fetch ≡ Some f)
    (acts : Acts held held' (word_by (instruction_of (word_in ram f pc)) old.registers pc) next pc old new ram
    ram') where
  -- the instruction does what the word means
  cycle-leaves : Leaves (cycle old.registers pc (memory_of ram mapping)) acts.answers next pc old new ram ram'
  cycle-leaves =
      let means = word_by-alike (instruction_of (word_in ram f pc)) old.registers pc (seen ram acts.answers)
      (memory_of ram mapping) (seen-alike held ram mapping acts.answers (shows-now g) acts.allowed) in
      subst (λ (e : Effect). Leaves e acts.answers next pc old new ram ram') (means ∙ sym (cycle-worded _ _ _ pc f at))
      acts.does

  -- one more is done
  goes-on : IsMemory ram → trap_of next ≡ None → IsPast stops n pc
      → Goes held' old.root.0 mapping stops (suc n) first (point_at new (pc_after next pc) ram')
  unfolding RunsTo Reaches
  goes-on is none past =
      let mem : Memory = memory_of ram mapping in
      let shown = shown-answer held ram mapping acts.answers (shows-now g) acts.allowed in
      let did = leaves-done (cycle old.registers pc mem) mapping next pc old new shown (cycle-stores _ pc _) none
      cycle-leaves in
      let memory : ram' ≡ changed ram mapping did.0.change = ap (λ (p : Point). p.ram) did.2 in
      let sound = g.steady.sound in
      let only = cycle-only _ pc is
      (record { inside = λ k e found. rw g.count (sound.inside k e found); alone = sound.alone }) did.1 in
      record {
        steady = g.steady;
        coherent = (goes-kept g held' acts.kept).coherent;
        runs = (
          point_at old pc ram,
          g.runs,
          record { done = did.0; means = did.1; leaves = did.2; writes = rw memory only },
          past,
        );
        reaches = (ram, g.reaches, rw memory only);
        count = acts.count ∙ g.count;
      }

  -- none is done, because of a trap
  goes-not : (t : Trap) → trap_of next ≡ Some t
      → Goes held' old.root.0 mapping stops n first (point_at new pc ram')
      × (cycle new.registers pc (memory_of ram' mapping) ≡ Err t)
  goes-not t some =
      let not = leaves-not (cycle old.registers pc (memory_of ram mapping)) acts.answers next pc old new some
      cycle-leaves in
      rw (not.1, not.2) (goes-kept g held' acts.kept, not.0)

-- what is held stays inside
acts-inside : {held held' : Held} {meaning : Sight → Effect} {next : Next} {pc : ℕ} {old new : Hart} {ram ram' : Ram}
    → Acts held held' meaning next pc old new ram ram' → HoldsInside held ram → HoldsInside held' ram'
acts-inside {ram} acts inside t holds = elim (acts.kept t holds) [
  | inl was ↦ rw acts.count (inside t was)
  | inr now ↦ rw acts.count (walk_page-inside ram t.root t.page t.access t.frame now.1)
]

-- ---- indexes

pc-whole : {base k : ℕ} → base % 4096 ≡ 0 → base < 2 ^ 64 → k < 1024 → pc_at base k ≡ base + 4 * k
pc-whole even small within = omega (arith, even, small, within)

pc-page : {base : ℕ} (k : ℕ) → base % 4096 ≡ 0 → base < 2 ^ 64 → k < 1024 → pc_at base k / 4096 ≡ base / 4096
pc-page {base} k even small within = rw (pc-whole even small within) (omega (arith, even, within))

pc-place : {base : ℕ} (k : ℕ) → base % 4096 ≡ 0 → base < 2 ^ 64 → k < 1024 → pc_at base k % 4096 ≡ 4 * k
pc-place {base} k even small within = rw (pc-whole even small within) (omega (arith, even, within))

-- an address determines its page and the index there
pub place-of : {base address : ℕ} (j : ℕ) → base % 4096 ≡ 0 → base < 2 ^ 64 → j < 1024 → address ≡ pc_at base j
    → (address / 4096 * 4096 ≡ base) × (address % 4096 / 4 ≡ j)
place-of j even small within e =
    let page = ap (λ x. x / 4096) e ∙ pc-page j even small within in
    let place = ap (λ x. x % 4096) e ∙ pc-place j even small within in
    (omega (arith, even, page), omega (arith, place))

pub pc-next : (base k : ℕ) → plus (pc_at base k) 4 ≡ pc_at base (k + 1)
pc-next base k = omega arith

-- the index of a pc in its page
pub pc-of : {base pc k : ℕ} → pc < 2 ^ 64 → pc % 4 ≡ 0 → pc / 4096 * 4096 ≡ base → k ≡ pc % 4096 / 4 → pc_at base k ≡ pc
pc-of small even page place = omega (arith, small, even, page, place)

-- ---- words

pub word-at : (ram : Ram) (f : ℕ) {base : ℕ} (k : ℕ) → base % 4096 ≡ 0 → base < 2 ^ 64 → k < 1024
    → word_of ram f (4 * k) 4 ≡ word_in ram f (pc_at base k)
word-at ram f {base} k even small within =
    number_of_word _ f _ 4 ∙ ap (λ p. number (slice_range (slice_index_or ram f []) p (p + 4)))
    (sym (pc-place k even small within))

-- an operation does what its word means
pub acts-meant : {held held' : Held} (o : Op) (word : ℕ) {next : Next} {pc : ℕ} {old new : Hart} {ram ram' : Ram}
    → IsOp o word → Acts held held' (op_by o old.registers pc) next pc old new ram ram'
    → Acts held held' (word_by (instruction_of word) old.registers pc) next pc old new ram ram'
acts-meant o word {next} {pc} {old} {new} {ram} {ram'} is acts =
    let P : Effect → Type 0 = λ e. Leaves e acts.answers next pc old new ram ram' in
    record {
      answers = acts.answers;
      allowed = acts.allowed;
      does = subst P (is old.registers pc (seen ram acts.answers)) acts.does;
      kept = acts.kept;
      count = acts.count;
    }

-- a word that is the one at a pc
pub acts-at : {held held' : Held} {word : ℕ} (f : ℕ) {next : Next} {pc : ℕ} {old new : Hart} {ram ram' : Ram}
    → word ≡ word_in ram f pc
    → Acts held held' (word_by (instruction_of word) old.registers pc) next pc old new ram ram'
    → Acts held held' (word_by (instruction_of (word_in ram f pc)) old.registers pc) next pc old new ram ram'
acts-at {held} {held'} f {next} {pc} {old} {new} {ram} {ram'} same acts =
    subst (λ w. Acts held held' (word_by (instruction_of w) old.registers pc) next pc old new ram ram') same acts

pub acts-worded : {held held' : Held} (o : Op) {word : ℕ} (f : ℕ) {next : Next} {pc : ℕ} {old new : Hart}
    {ram ram' : Ram} → IsOp o word → word ≡ word_in ram f pc
    → Acts held held' (op_by o old.registers pc) next pc old new ram ram'
    → Acts held held' (word_by (instruction_of (word_in ram f pc)) old.registers pc) next pc old new ram ram'
acts-worded o {word} f is same acts = acts-at f same (acts-meant o word is acts)

-- ---- where it goes on

-- not all is done because of a trap
pub stops-early : (next : Next) {words done : ℕ} {t : Trap} → MovesOn words done next → trap_of next ≡ Some t
    → done < words
stops-early (Stop s) moves some = moves
stops-early _ moves some = absurd (cc some)

-- and it is where a program stays
pub stops-there : (next : Next) {pc : ℕ} {t : Trap} → trap_of next ≡ Some t → goes_to pc next ≡ pc
stops-there (Stop s) some = refl
stops-there _ some = absurd (cc some)

-- else something is
pub moves-some : (next : Next) {words done : ℕ} → MovesOn words done next → trap_of next ≡ None → 0 < words → 0 < done
moves-some Behind moves none more = rw moves more
moves-some (Stored g doubleword) moves none more = moves
moves-some (Within to) moves none more = moves
moves-some (At to) moves none more = moves
moves-some (Stop t) moves none more = absurd (cc none)

pub if-some : (P : Trap → Type 0) (o : Option Trap) → ((t : Trap) → o ≡ Some t → P t) → IfSome o P
if-some P None h = tt
if-some P (Some t) h = h t refl

pub if-none : (P : Type 0) (o : Option Trap) → (o ≡ None → P) → IfNone o P
if-none P None h = h refl
if-none P (Some t) h = tt

-- ---- the operations of a page, in their order

-- the words from one index to another are done
pub record GoesStraight (held held' : Held) (old new : Hart) (ram ram' : Ram) (base from k f : ℕ) : Type 0 where
  pub whole : StaysWhole held' old new ram ram'
  pub goes : (mapping : List Mapped) (stops : List ℕ) → frame_for mapping (base / 4096) Fetch ≡ Some f
      → IsClear stops base from k
      → GoesOn held held' old.root.0 mapping stops (point_at old (pc_at base from) ram)
      (point_at new (pc_at base k) ram') (k - from) None

pub straight-begins : {held : Held} {hart : Hart} {ram : Ram} {base from f : ℕ} → HoldsInside held ram
    → GoesStraight held held hart hart ram ram base from from f
straight-begins {from} inside = record {
  whole = record { inside = inside; count = refl; root = refl };
  goes = λ mapping stops at clear n first past g. (let none : n + (from - from) ≡ n = omega arith in rw none g, tt);
}

acts-root : (effect : Effect) (answers : Answers) (next : Next) (pc : ℕ) (old new : Hart) (ram ram' : Ram)
    → Leaves effect answers next pc old new ram ram' → new.root ≡ old.root
acts-root (Ok d) answers next pc old new ram ram' h = h.3
acts-root (Err t) answers next pc old new ram ram' h = ap (λ (hart : Hart). hart.root) h.1

pub whole-after : {held' held'' : Held} {meaning : Sight → Effect} {next : Next} {pc : ℕ} {first old new : Hart}
    {ram ram' ram'' : Ram} → StaysWhole held' first old ram ram' → Acts held' held'' meaning next pc old new ram' ram''
    → StaysWhole held'' first new ram ram''
whole-after {held'} {held''} {meaning} {next} {pc} {old} {new} {ram'} {ram''} whole acts = record {
  inside = acts-inside acts whole.inside;
  count = acts.count ∙ whole.count;
  root = acts-root (meaning (seen ram' acts.answers)) acts.answers next pc old new ram' ram'' acts.does ∙ whole.root;
}

-- the effect of the operation at the next index
module _ {held held' held'' : Held} {next : Next} {first old new : Hart} {ram ram' ram'' : Ram} {base from k f : ℕ}
    (even : base % 4096 ≡ 0) (small : base < 2 ^ 64) (within : k < 1024)
    (straight : GoesStraight held held' first old ram ram' base from k f)
    (acts : Acts held' held''
    (word_by (instruction_of (word_in ram' f (pc_at base k))) old.registers (pc_at base k)) next (pc_at base k) old
    new ram' ram'')
    (mapping : List Mapped) (stops : List ℕ) (at : frame_for mapping (base / 4096) Fetch ≡ Some f) where
  root-first : old.root.0 ≡ first.root.0
  root-first = ap (λ (r : FrameNo). r.0) straight.whole.root

  place-found : frame_for mapping (pc_at base k / 4096) Fetch ≡ Some f
  place-found = rw (pc-page k even small within) at

  -- one more is done, and the program jumps or goes on
  pub straight-on : IsMemory ram' → trap_of next ≡ None → from ≤ k → IsClear stops base from (k + 1)
      → GoesOn held held'' first.root.0 mapping stops (point_at first (pc_at base from) ram)
      (point_at new (pc_after next (pc_at base k)) ram'') (k - from + 1) None
  straight-on is none since clear n start past g =
      let count : n + (k - from + 1) ≡ suc (n + (k - from)) = omega arith in
      rw (← root-first, count) (
        goes-on (rw (← root-first)
            at (straight.goes mapping stops at (less-clear stops base (omega arith) clear) n start past g).0)
            place-found
            acts is none (clear-past stops base n since clear past),
        tt,
      )

  -- none is done
  pub straight-stops : {t : Trap} → trap_of next ≡ Some t → IsClear stops base from k
      → GoesOn held held'' first.root.0 mapping stops (point_at first (pc_at base from) ram)
      (point_at new (pc_at base k) ram'') (k - from) (Some t)
  straight-stops {t} some clear n start past g =
      rw (← root-first) (goes-not (rw (← root-first) at (straight.goes mapping stops at clear n start past g).0)
      place-found acts t some)

-- what comes after the words of a part changes nothing
pub straight-ends : {held held' held'' : Held} {meaning : Sight → Effect} {t : Trap} {pc : ℕ} {first old new : Hart}
    {ram ram' ram'' : Ram} {base from k f : ℕ} → GoesStraight held held' first old ram ram' base from k f
    → Acts held' held'' meaning (Stop t) pc old new ram' ram''
    → GoesStraight held held'' first new ram ram'' base from k f
straight-ends {held''} {meaning} {t} {pc} {first} {old} {new} {ram'} straight acts =
    let root : old.root.0 ≡ first.root.0 = ap (λ (r : FrameNo). r.0) straight.whole.root in
    let not = leaves-not (meaning (seen ram' acts.answers)) acts.answers (Stop t) pc old new refl acts.does in
    record {
      whole = whole-after straight.whole acts;
      goes = λ mapping stops at clear n start past g.
          rw (not.1, not.2) (
            goes-kept (straight.goes mapping stops at clear n start past g).0 held''
                (rw root at acts.kept),
            tt,
          );
    }

-- the next index
pub straight-more : {held held' held'' : Held} {first old new : Hart} {ram ram' ram'' : Ram} {base from k f : ℕ}
    → IsMemory ram' → base % 4096 ≡ 0 → base < 2 ^ 64 → k < 1024 → from ≤ k
    → GoesStraight held held' first old ram ram' base from k f
    → Acts held' held'' (word_by (instruction_of (word_in ram' f (pc_at base k))) old.registers (pc_at base k))
    Behind (pc_at base k) old new ram' ram''
    → GoesStraight held held'' first new ram ram'' base from (k + 1) f
straight-more {base} {from} {k} is even small within since straight acts = record {
  whole = whole-after straight.whole acts;
  goes = λ mapping stops at clear.
      let count : k + 1 - from ≡ k - from + 1 = omega (arith, since) in
      rw (count, ← pc-next base k) (straight-on even small within straight acts mapping stops at is refl since clear);
}
