-- A cycle that faulted at a store is done again where the store is let through.
use Rattle.hart.proofs.Common.{act, act_word, ap, Bool, bytes_at, cond, cycle, Effect, Err, extend, false, Fetch}
use Rattle.hart.proofs.Common.{fetched, inl, inr, Instr, instruction_of, le, List, Load, load_from, load_size, LoadOp}
use Rattle.hart.proofs.Common.{Memory, None, number, Ok, Option, Page, page_for, plus, refl, slice_index, Some, Store}
use Rattle.hart.proofs.Common.{store_size, store_to, trap, true, ℕ, ◌%◌, ◌==◌, ◌≡◌, option_map, sym, ◌∙◌, ◌⊎◌}
use Rattle.hart.proofs.Common.{StoreMisaligned, StorePageFault}
use Rattle.unixmodel.specs.declared.instr.Instr.TheVariants as instr

-- ---- what is done at a memory that lets fewer stores through

-- two pages with the same bytes, or none
abbrev pub Alike : Option Page → Option Page → Type 0
Alike p q = option_map (λ (a : Page). a.bytes) p ≡ option_map (λ (a : Page). a.bytes) q

-- one memory has the pages of another with the same bytes, and lets fewer stores through
pub record Narrows (low high : Memory) : Type 0 where
  pub fetch : (address : ℕ) → Alike (page_for Fetch low address) (page_for Fetch high address)
  pub load : (address : ℕ) → Alike (page_for Load low address) (page_for Load high address)
  pub store : (address : ℕ)
      → (page_for Store low address ≡ None) ⊎ Alike (page_for Store low address) (page_for Store high address)

-- Something does the same at both, or faults at a store that the first doesn't let through; at each memory between them
-- that treats this store as the second does it does what it does there.
abbrev pub Retries : (Memory → Effect) → Memory → Memory → Type 0
Retries e low high = (e low ≡ e high)
    ⊎ ((address : ℕ) × (e low ≡ trap StorePageFault address) × (page_for Store low address ≡ None)
    × ((mid : Memory) → Narrows mid high → Alike (page_for Store mid address) (page_for Store high address)
    → e mid ≡ e high))

pub load-same : (regs : List ℕ) (pc : ℕ) (op : LoadOp) (rd address : ℕ) (p q : Option Page) → Alike p q
    → load_from regs pc op rd address p ≡ load_from regs pc op rd address q
load-same regs pc op rd address None None h = refl
load-same regs pc op rd address (Some p) (Some q) h =
    let same : p.bytes ≡ q.bytes = cc in
    ap (λ bytes. load_from regs pc op rd address (Some (record { bytes = bytes; marks = q.marks }))) same
load-same regs pc op rd address p q h = absurd cc

pub store-same : (regs : List ℕ) (pc address : ℕ) (bytes : List ℕ) (p q : Option Page) → Alike p q
    → store_to regs pc address bytes p ≡ store_to regs pc address bytes q
store-same regs pc address bytes None None h = refl
store-same regs pc address bytes (Some p) (Some q) h = refl
store-same regs pc address bytes p q h = absurd cc

fetched-same : (p q : Option Page) (regs : List ℕ) (pc : ℕ) (mem : Memory) → Alike p q
    → fetched p regs pc mem ≡ fetched q regs pc mem
fetched-same None None regs pc mem h = refl
fetched-same (Some p) (Some q) regs pc mem h =
    let same : p.bytes ≡ q.bytes = cc in
    ap (λ bytes. act_word (instruction_of (number (bytes_at 4 pc (record { bytes = bytes; marks = q.marks })))) regs pc
    mem) same
fetched-same p q regs pc mem h = absurd cc

cond-same : (b : Bool) {d e : Effect} (f : Effect) → d ≡ e → cond b d f ≡ cond b e f
cond-same true f h = h
cond-same false f h = refl

cycle-at : (regs : List ℕ) (pc : ℕ) (mem : Memory) (o : Option Page) → Alike (page_for Fetch mem pc) o
    → cycle regs pc mem ≡ fetched o regs pc mem
unfolding cycle
cycle-at regs pc mem o same = fetched-same (page_for Fetch mem pc) o _ pc _ same

-- ---- the one store that may differ

-- what is done is a store of these bytes, whatever page is found
record StoresAt (e : Memory → Effect) (high : Memory) : Type 0 where
  pub regs : List ℕ
  pub pc : ℕ
  pub address : ℕ
  pub bytes : List ℕ
  pub is : (mid : Memory) → Narrows mid high → e mid ≡ store_to regs pc address bytes (page_for Store mid address)

-- or it is the same at all memories below
abbrev Sees : (Memory → Effect) → Memory → Type 0
Sees e high = ((mid : Memory) → Narrows mid high → e mid ≡ e high) ⊎ StoresAt e high

store-sees : (b : Bool) (regs : List ℕ) (pc address : ℕ) (bytes : List ℕ) (f : Effect) {high : Memory}
    → Sees (λ mem. cond b (store_to regs pc address bytes (page_for Store mem address)) f) high
store-sees false regs pc address bytes f = inl (λ mid h. refl)
store-sees true regs pc address bytes f =
    inr (record { regs = regs; pc = pc; address = address; bytes = bytes; is = λ mid h. refl })

act-sees : (i : Instr) (regs : List ℕ) (pc : ℕ) {high : Memory} → Sees (act i regs pc) high
unfolding act
act-sees (instr.Load op rd rs1 imm) regs pc {high} =
    let address = plus (slice_index regs rs1) (extend 12 imm) in
    inl (λ mid h. cond-same (address % load_size op == 0) _
    (load-same regs pc op rd address (page_for Load mid address) (page_for Load high address) (h.load address)))
act-sees (instr.Store op rs1 rs2 imm) regs pc {high} =
    let address = plus (slice_index regs rs1) (extend 12 imm) in
    store-sees (address % store_size op == 0) regs pc address (le (store_size op) (slice_index regs rs2))
    (trap StoreMisaligned address)
act-sees _ regs pc = inl (λ mid h. refl)

word-sees : (found : Option Instr) (regs : List ℕ) (pc : ℕ) {high : Memory} → Sees (act_word found regs pc) high
word-sees None regs pc = inl (λ mid h. refl)
word-sees (Some i) regs pc {high} = act-sees i _ pc

fetched-sees : (o : Option Page) (regs : List ℕ) (pc : ℕ) {high : Memory} → Sees (fetched o regs pc) high
fetched-sees None regs pc = inl (λ mid h. refl)
fetched-sees (Some p) regs pc {high} = word-sees _ _ pc

cycle-sees : (regs : List ℕ) (pc : ℕ) {high : Memory} → Sees (cycle regs pc) high
cycle-sees regs pc {high} =
    let o = page_for Fetch high pc in
    elim (fetched-sees o _ pc) [
      | inl same ↦ inl (λ mid h. cycle-at _ pc _ o (h.fetch pc) ∙ same mid h ∙ sym (cycle-at _ pc _ o refl))
      | inr s ↦ inr (record {
        regs = s.regs;
        pc = s.pc;
        address = s.address;
        bytes = s.bytes;
        is = λ mid h. cycle-at _ pc _ o (h.fetch pc) ∙ s.is mid h;
      })
    ]

-- it does the same where the page is alike
store-alike : {e : Memory → Effect} {mid high : Memory} (s : StoresAt e high) → Narrows mid high
    → Alike (page_for Store mid s.address) (page_for Store high s.address) → e mid ≡ e high
store-alike {mid} {high} s h same =
    s.is mid h ∙ store-same _ _ _ _ (page_for Store mid s.address) (page_for Store high s.address) same
    ∙ sym (s.is high (record { fetch = λ address. refl; load = λ address. refl; store = λ address. inr refl }))

pub cycle-retries : (regs : List ℕ) (pc : ℕ) (low high : Memory) → Narrows low high → Retries (cycle regs pc) low high
cycle-retries regs pc low high h = elim (cycle-sees _ pc) [
  | inl same ↦ inl (same low h)
  | inr s ↦ elim (h.store s.address) [
    | inl none ↦ inr (
      s.address,
      s.is low h
          ∙ ap (store_to s.regs s.pc s.address s.bytes) none,
      none,
      λ mid nm same. store-alike s nm same,
    )
    | inr same ↦ inl (store-alike s h same)
  ]
]

-- ---- again, where the store is let through then

abbrev fault_at : Effect → ℕ
fault_at (Ok d) = 0
fault_at (Err t) = t.address

-- a store faults at its own address
store-fault : (o : Option Page) (regs : List ℕ) (pc : ℕ) {address a : ℕ} (bytes : List ℕ)
    → store_to regs pc address bytes o ≡ trap StorePageFault a → address ≡ a
store-fault None regs pc bytes e = ap fault_at e
store-fault (Some p) regs pc bytes e = absurd cc

-- An instruction that faulted at a store does, at a memory that treats this store as the second does, what it does
-- there.
pub cycle-again : (regs : List ℕ) (pc a : ℕ) (low mid high : Memory) → Narrows low high → Narrows mid high
    → Alike (page_for Store mid a) (page_for Store high a) → cycle regs pc low ≡ trap StorePageFault a
    → cycle regs pc mid ≡ cycle regs pc high
cycle-again regs pc a low mid high down between lets fault = elim (cycle-sees _ pc) [
  | inl same ↦ same mid between
  | inr s ↦
      let same : s.address ≡ a = store-fault _ _ _ _ (sym (s.is low down) ∙ fault) in
      store-alike s between (rw same lets)
]
