-- How the cycle of a process that is seen traps.
use Rattle.std.proofs.Common.{ap, refl, sym, ◌∙◌, ◌≡◌, ℕ, Option, Some, None, option_and_then, option_map, arith, zero}
use Rattle.std.proofs.Common.{suc, ◌+◌, ◌-◌, ◌*◌, List, [], ◌∷◌, drop, take, slice_get, slice_range}
use Rattle.std.proofs.lemmas.Option.{none-some, same_Some}
use Rattle.next_fault.specs.Causes.{fault_shown, memory_of, trap_of, trap_shown}
use Rattle.next_fault.specs.DataAccesses.{access_read, access_shown}
use Rattle.machine.specs.declared.seen.Seen.{Seen}
use Rattle.machine.specs.Seen.{seen_of}
use Rattle.unixmodel.specs.Cycle.{act_word, cycle, fetched}
use Rattle.unixmodel.specs.declared.trap.Access.TheVariants.{Fetch}
use Rattle.unixmodel.specs.declared.trap.Cause.TheVariants.{InstructionPageFault}
use Rattle.unixmodel.specs.declared.trap.Trap.{Trap}
use Rattle.unixmodel.specs.Memory.{Memory, Page, bytes_at, page_for}
use Rattle.unixmodel.specs.Next.{effect_of}
use Rattle.unixmodel.specs.Numbers.{number}
use Rattle.unixmodel.specs.Process.{Process}
use Rattle.unixmodel.specs.Words.{instruction_of}
use Rattle.std.specs.Option.{unwrap_or}

-- the word at the pc, where it may be fetched
abbrev word_at : Memory → ℕ → Option ℕ
word_at mem pc = option_map (λ page. number (bytes_at 4 pc page)) (page_for Fetch mem pc)

abbrev page_fault : ℕ → Trap
page_fault pc = record { cause = InstructionPageFault; address = pc }

traps-unfetched : (p : Process) → None ≡ word_at p.memory p.pc → trap_shown p ≡ Some (page_fault p.pc)
unfolding effect_of cycle
traps-unfetched p h = go (page_for Fetch p.memory p.pc) h where
  go : (found : Option Page) → None ≡ option_map (λ page. number (bytes_at 4 p.pc page)) found
      → trap_of (fetched found p.registers p.pc p.memory) ≡ Some (page_fault p.pc)
  go None none = refl
  go (Some page) none = absurd (none-some (number (bytes_at 4 p.pc page)) none)

traps-word : (p : Process) (word : ℕ) → Some word ≡ word_at p.memory p.pc
    → trap_of (act_word (instruction_of word) p.registers p.pc p.memory) ≡ trap_shown p
unfolding effect_of cycle
traps-word p word h = go (page_for Fetch p.memory p.pc) h where
  go : (found : Option Page) → Some word ≡ option_map (λ page. number (bytes_at 4 p.pc page)) found
      → trap_of (act_word (instruction_of word) p.registers p.pc p.memory)
      ≡ trap_of (fetched found p.registers p.pc p.memory)
  go None some = absurd (none-some word (sym some))
  go (Some page) some = ap (λ w. trap_of (act_word (instruction_of w) p.registers p.pc p.memory))
      (same_Some word (number (bytes_at 4 p.pc page)) some)

pub shown-unfetched : (o : Option Process) (seen : Seen) → Some seen ≡ option_map seen_of o
    → None ≡ word_at (memory_of o) seen.pc
    → Some (page_fault seen.pc) ≡ option_and_then trap_shown o
shown-unfetched None seen is h = absurd (none-some seen (sym is))
shown-unfetched (Some p) seen is h =
    let pc : seen.pc ≡ p.pc = ap (λ (s : Seen). s.pc) (same_Some seen (seen_of p) is) in
    rw pc (sym (traps-unfetched p (h ∙ ap (λ pc. word_at p.memory pc) pc)))

pub shown-word : (o : Option Process) (seen : Seen) (word : ℕ) → Some seen ≡ option_map seen_of o
    → Some word ≡ word_at (memory_of o) seen.pc
    → trap_of (act_word (instruction_of word) seen.registers seen.pc (memory_of o)) ≡ option_and_then trap_shown o
shown-word None seen word is h = absurd (none-some seen (sym is))
shown-word (Some p) seen word is h =
    let same : seen ≡ seen_of p = same_Some seen (seen_of p) is in
    ap (λ (s : Seen). trap_of (act_word (instruction_of word) s.registers s.pc p.memory)) same
    ∙ traps-word p word (h ∙ ap (λ (s : Seen). word_at p.memory s.pc) same)

-- ---- what is seen of a process says what its next instruction loads or stores

pub access-seen : (o : Option Process) (seen : Seen) → Some seen ≡ option_map seen_of o
    → access_read seen.registers seen.pc (memory_of o) ≡ option_and_then access_shown o
access-seen None seen is = absurd (none-some seen (sym is))
access-seen (Some p) seen is =
    ap (λ (s : Seen). access_read s.registers s.pc p.memory) (same_Some seen (seen_of p) is)

-- ---- a fault is that trap, at the pc

pub fault-shown : (o : Option Process) (seen : Seen) (trap : Trap) → Some seen ≡ option_map seen_of o
    → Some trap ≡ option_and_then trap_shown o → Some (trap, seen.pc) ≡ option_and_then fault_shown o
fault-shown None seen trap is h = absurd (none-some seen (sym is))
fault-shown (Some p) seen trap is h =
    let pc : seen.pc ≡ p.pc = ap (λ (s : Seen). s.pc) (same_Some seen (seen_of p) is) in
    rw pc (ap (option_map (λ t. (t, p.pc))) h)

pub without-trap : (o : Option Process) → None ≡ option_and_then trap_shown o → None ≡ option_and_then fault_shown o
without-trap None h = refl
without-trap (Some p) h = ap (option_map (λ t. (t, p.pc))) h

pub unseen : (o : Option Process) → None ≡ option_map seen_of o → None ≡ option_and_then fault_shown o
unseen None h = refl
unseen (Some p) h = absurd (none-some (seen_of p) h)

-- ---- four bytes from an offset in a page on, and their number

-- byte k, and 0 after the end
abbrev byte : List ℕ → ℕ → ℕ
byte xs k = unwrap_or (slice_get xs k) 0

number-four : (xs : List ℕ)
    → number (take 4 xs) ≡ byte xs 0 + 256 * byte xs 1 + 65536 * byte xs 2 + 16777216 * byte xs 3
number-four [] = refl
number-four (a ∷ []) = omega arith
number-four (a ∷ b ∷ []) = omega arith
number-four (a ∷ b ∷ c ∷ []) = omega arith
number-four (a ∷ b ∷ c ∷ d ∷ xs) = omega arith

-- a byte after an offset is one of the list
byte-drop : (at k n : ℕ) (xs : List ℕ) → n ≡ at + k → byte (drop at xs) k ≡ byte xs n
byte-drop zero k n xs h = let same : n ≡ k = omega arith in rw same refl
byte-drop (suc at) k n [] h = refl
byte-drop (suc at) k zero (x ∷ xs) h = omega arith
byte-drop (suc at) k (suc n) (x ∷ xs) h = byte-drop at k n xs (omega arith)

pub word-is : (at : ℕ) (xs : List ℕ)
    → number (slice_range xs at (at + 4))
    ≡ byte xs at + 256 * byte xs (at + 1) + 65536 * byte xs (at + 2) + 16777216 * byte xs (at + 3)
word-is at xs =
    let four : at + 4 - at ≡ 4 = omega arith in
    let first : byte (drop at xs) 0 ≡ byte xs at = byte-drop at 0 at xs (omega arith) in
    ap (λ k. number (take k (drop at xs))) four ∙ number-four (drop at xs)
    ∙ rw (first, byte-drop at 1 (at + 1) xs refl, byte-drop at 2 (at + 2) xs refl, byte-drop at 3 (at + 3) xs refl) refl
