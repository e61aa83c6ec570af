-- Programs of bytes alone: one that prints hi and ends with status 0 in nine steps, one of no bytes, some that
-- access what isn't theirs, and the longest that 64 frames hold.
use Rattle.model_examples.proofs.Common.{Event, Step, Tick, After, le, run, Trap, effect_of, Process, process_at, Cause}
use Rattle.model_examples.proofs.Common.{Directory, File, overwrite, read_bytes, zeros}
use Rattle.std.specs.Prelude.{◌*◌, ◌+◌, ◌++◌, ◌-◌, [], ◌^◌, Bool, codes, false, is_some, length, List, map, negsuc}
use Rattle.std.specs.Prelude.{None, Option, option_and_then, option_map, pos, refl, replicate, slice_index, Some, true}
use Rattle.std.specs.Prelude.{ℕ, ℤ, ◌∷◌, ◌≡◌}
use Rattle.unixmodel.specs.ElfFile.{elf_file, elf_header, program_header}
use Rattle.unixmodel.specs.Files.{dot, dot_dot, Files}
use Rattle.unixmodel.specs.Start.{init_path, flat_files, start, start_flat}
use Rattle.unixmodel.specs.declared.trap.Cause.TheVariants.{Breakpoint, IllegalInstruction, LoadPageFault}
use Rattle.unixmodel.specs.declared.trap.Cause.TheVariants.{StorePageFault}
use Rattle.unixmodel.specs.Turn.{turn}
use Rattle.model_examples.proofs.InstructionRows.{trap, trap_of}
use Rattle.model_examples.proofs.Scripts.{all_opened}
use Rattle.unixmodel.specs.Plan.{Plan, plan, plan_flat}
use Rattle.unixmodel.specs.Translation.{walk, walk_count}
use Rattle.unixmodel.specs.declared.trap.Access.{Access}
use Rattle.unixmodel.specs.declared.trap.Access.TheVariants.{Fetch, Load, Store}

-- the file: seven instructions and ecalls, then the bytes of hi and a line feed
abbrev hi_program : List ℕ
hi_program =
    le 4 0x00100513 ++ le 4 0x02000593 ++ le 4 0x00300613 ++ le 4 0x01000893 ++ le 4 0x00000073
    ++ le 4 0x00000513 ++ le 4 0x00200893 ++ le 4 0x00000073 ++ 0x68 ∷ 0x69 ∷ 0x0a ∷ []

abbrev run_flat : List ℕ → ℕ → List Event → Option After
run_flat bytes frame_limit events = option_map (λ s. run s events) (start_flat bytes frame_limit)

abbrev bytes_and_end : After → List ℕ × Option ℤ
bytes_and_end a = (a.bytes, a.state.halted)

abbrev told_after : List ℕ → List Event → Option (List ℕ × Option ℤ)
told_after program events = option_map bytes_and_end (run_flat program 256 events)

abbrev hi : List ℕ
hi = 0x68 ∷ 0x69 ∷ 0x0a ∷ []

hi_and_empty : record {
  hi_start : is_some (start_flat hi_program 256) ≡ true;
  hi_turn : option_map (λ s. turn s) (start_flat hi_program 256) ≡ Some (Some 0);
  hi_steps : map (λ n. told_after hi_program (replicate n Step)) (0 ∷ 2 ∷ 5 ∷ 6 ∷ 8 ∷ 9 ∷ [])
      ≡ Some ([], None) ∷ Some ([], None) ∷ Some ([], None) ∷ Some (hi, None) ∷ Some (hi, None)
      ∷ Some (hi, Some (pos 0)) ∷ [];
  -- with a tick after three steps hi comes in the seventh step, and the end in the tenth
  hi_tick : map (λ n. told_after hi_program (replicate 3 Step ++ Tick ∷ replicate n Step)) (3 ∷ 4 ∷ 6 ∷ 7 ∷ [])
      ≡ Some ([], None) ∷ Some (hi, None) ∷ Some (hi, None) ∷ Some (hi, Some (pos 0)) ∷ [];
  -- the empty file: pc 0 is the guard page, so the step after the turn ends it
  empty_file : map (λ n. told_after [] (replicate n Step)) (1 ∷ 2 ∷ []) ≡ Some ([], None) ∷ Some ([], Some (negsuc 0))
      ∷ [];
}
unfolding all_opened
hi_and_empty = record { hi_start = refl; hi_turn = refl; hi_steps = refl; hi_tick = refl; empty_file = refl }

-- ---- accesses that are refused: each ends the process with -1

-- after `steps` steps: what the next instruction raises, and the status once one more step is done
abbrev next_trap : List ℕ → ℕ → Option Trap
next_trap program steps =
    option_and_then (λ (p : Process). trap_of (effect_of p))
    (option_and_then (λ (a : After). process_at a.state 0) (run_flat program 256 (replicate steps Step)))

abbrev end_after : List ℕ → ℕ → Option (Option ℤ)
end_after program steps = option_map (λ (a : After). a.state.halted) (run_flat program 256 (replicate steps Step))

-- both, and the status before that step
abbrev meets : List ℕ → ℕ → Option Trap × Option (Option ℤ) × Option (Option ℤ)
meets program steps = (next_trap program steps, end_after program steps, end_after program (steps + 1))

abbrev refused : Cause → ℕ → Option Trap × Option (Option ℤ) × Option (Option ℤ)
refused cause address = (trap cause address, Some None, Some (Some (negsuc 0)))

-- lw a0, 16(x0); sw a0, 8(x0); 0; 0; addi a1, x0, 1
abbrev writes_itself : List ℕ
writes_itself = le 4 0x01002503 ++ le 4 0x00a02423 ++ le 4 0 ++ le 4 0 ++ le 4 0x00100593

abbrev register_11 : After → Option ℕ
register_11 a = option_map (λ (p : Process). slice_index p.registers 11) (process_at a.state 0)

refusals : record {
  -- words that are no instruction (of zeros, of ones, fence.i), and ebreak
  illegal : map (λ word. meets (le 4 word) 1) (0x00000000 ∷ 0xffffffff ∷ 0x0000100f ∷ 0x00100073 ∷ [])
      ≡ refused IllegalInstruction 0 ∷ refused IllegalInstruction 0 ∷ refused IllegalInstruction 0
      ∷ refused Breakpoint 0 ∷ [];
  -- lui a0, 1; sb x0, 0(a0): the guard page of a program of one page
  guard_store : meets (le 4 0x00001537 ++ le 4 0x00050023) 2 ≡ refused StorePageFault 0x1000;
  -- addi a0, x0, 1; slli a0, a0, 38; lui a1, 2; sub a0, a0, a1; sb x0, 0(a0): the page of the trap frame
  trap_frame_store : meets
      (le 4 0x00100513 ++ le 4 0x02651513 ++ le 4 0x000025b7 ++ le 4 0x40b50533 ++ le 4 0x00050023) 5
      ≡ refused StorePageFault 0x3fffffe000;
  -- addi a0, x0, 1; slli a0, a0, 38; lb a0, 0(a0): the first address past those that a program can have
  far_load : meets (le 4 0x00100513 ++ le 4 0x02651513 ++ le 4 0x00050503) 3 ≡ refused LoadPageFault 0x4000000000;
  -- a fetch reads what a store has written
  written_is_done : option_and_then register_11 (run_flat writes_itself 256 (replicate 4 Step)) ≡ Some 1;
  then_illegal : next_trap writes_itself 4 ≡ trap IllegalInstruction 12;
  -- 64 frames hold 58 pages of one process, so a program of 56
  longest_program : map (λ count. is_some (start_flat (replicate count 0) 64)) (229376 ∷ 229377 ∷ []) ≡ true ∷ false
      ∷ [];
}
unfolding all_opened
refusals = record {
  illegal = refl;
  guard_store = refl;
  trap_frame_store = refl;
  far_load = refl;
  written_is_done = refl;
  then_illegal = refl;
  longest_program = refl;
}

-- ---- small cases of programs

abbrev numbers_of : Plan → List ℕ
numbers_of new = length new.memory ∷ new.size ∷ new.pc ∷ new.argc ∷ new.sp ∷ []

abbrev header_with : ℕ → ℕ → List ℕ
header_with phoff phnum = overwrite (overwrite elf_header 32 (le 8 phoff)) 56 (le 2 phnum)

-- /init alone on a disk: it has no descriptors, so it prints nothing, and ends with 0
abbrev init_files : Files
init_files = None ∷ Some
    (Directory 1 (Some (record { name = dot; number = 1 }) ∷ Some (record { name = dot_dot; number = 1 })
    ∷ Some (record { name = codes "init"; number = 2 }) ∷ []))
    ∷ Some (File 1 (elf_file hi_program)) ∷ replicate 13 None

plans : record {
  -- /init of one page: its argument is at 12272, and the pointers at 12256
  init_numbers : option_map numbers_of (plan (elf_file hi_program) (init_path ∷ []))
      ≡ Some (3 ∷ 12288 ∷ 0 ∷ 1 ∷ 12256 ∷ []);
  init_stack : option_map (λ (new : Plan). read_bytes new.memory 12256 22) (plan (elf_file hi_program) (init_path ∷ []))
      ≡ Some (Some (0xf0 ∷ 0x2f ∷ zeros 14 ++ init_path ++ 0 ∷ []));
  -- the flat plan is that of the file
  same_plan : plan (elf_file hi_program) [] ≡ plan_flat hi_program;
  -- the longest argument, and one that is too long
  longest_argument : map (λ n. option_map numbers_of (plan (elf_file hi_program) (replicate n 0x61 ∷ [])))
      (4079 ∷ 4080 ∷ []) ≡ Some (3 ∷ 12288 ∷ 0 ∷ 1 ∷ 8192 ∷ []) ∷ None ∷ [];
  -- no program header; too many, or one too far; one byte of the file over no memory
  odd_headers : map (λ file. option_map numbers_of (plan file []))
      (header_with 64 0 ∷ (header_with 64 65535 ++ program_header 0)
      ∷ (header_with 0xfffffffffffffff0 1 ++ program_header 0)
      ∷ (header_with 64 1 ++ overwrite (program_header 1) 40 (le 8 0) ++ zeros 4000) ∷ [])
      ≡ Some (2 ∷ 8192 ∷ 0 ∷ 0 ∷ 8176 ∷ []) ∷ None ∷ None ∷ None ∷ [];
  init_run : option_map (λ s. bytes_and_end (run s (replicate 9 Step))) (start init_files 27 256)
      ≡ Some ([], Some (pos 0));
  no_init : is_some (start flat_files 27 256) ≡ false;
}
unfolding all_opened
plans = record {
  init_numbers = refl;
  init_stack = refl;
  same_plan = refl;
  longest_argument = refl;
  odd_headers = refl;
  init_run = refl;
  no_init = refl;
}

-- ---- small cases of the page-table walk

-- where an access at an address leads by the tables from a root, and how many entries were read
abbrev walked : List (List ℕ) → ℕ × ℕ × Access → Option ℕ × ℕ
walked ram way = (walk ram way.0 way.1 way.2, walk_count ram way.0 way.1 way.2)

abbrev table_with : ℕ → ℕ → List ℕ
table_with k e = zeros (8 * k) ++ le 8 e ++ zeros (4088 - 8 * k)

abbrev entry_to : ℕ → ℕ → ℕ
entry_to frame bits = (0x80000 + frame) * 2 ^ 10 + bits

-- root, two tables and a page, in frames 0 to 3; page 0 has these bits
abbrev ram_with : ℕ → List (List ℕ)
ram_with bits = table_with 0 (entry_to 1 1) ∷ table_with 0 (entry_to 2 1) ∷ table_with 0 (entry_to 3 bits) ∷ zeros 4096
    ∷ []

-- a leaf at the highest level takes 30 bits of the address as they are
abbrev giant_ram : List (List ℕ)
giant_ram = table_with 0 (0x80000 * 2 ^ 10 + 0xdf) ∷ zeros 4096 ∷ []

-- ---- the bits of a leaf: what a fetch, a load and a store at 0x123 of page 0 reach

abbrev reached : ℕ → List Bool
reached bits = map (λ access. is_some (walk (ram_with bits) 0 0x123 access)) (Fetch ∷ Load ∷ Store ∷ [])

-- a leaf at the middle level takes 21 bits of the address, and the low 9 bits of its frame number must be 0
abbrev large_ram : ℕ → List (List ℕ)
large_ram frame = table_with 0 (entry_to 1 1) ∷ table_with 0 (entry_to frame 0xdf) ∷ zeros 4096 ∷ []

walking : record {
  -- page 0, which is R, W, X, U; page 1; another gigabyte; an address that is not canonical; a root outside
  walks : map (walked (ram_with 0xdf))
      ((0, 0x123, Fetch) ∷ (0, 0x1000, Load) ∷ (0, 0x40000000, Load) ∷ (0, 0x4000000000, Load) ∷ (9, 0, Load) ∷ [])
      ≡ (Some 0x80003123, 3) ∷ (None, 3) ∷ (None, 1) ∷ (None, 0) ∷ (None, 0) ∷ [];
  giant_walks : map (walked giant_ram) ((0, 0x1005, Store) ∷ (0, 0x2005, Store) ∷ []) ≡ (Some 0x80001005, 1)
      ∷ (None, 1) ∷ [];
  -- V, R, W, X, U, A and D; G and the two bits for the kernel beside them
  all_bits : (reached 0x0df ∷ reached 0x3ff ∷ []) ≡ replicate 2 (true ∷ true ∷ true ∷ []);
  -- without X, without W, without R and W
  some_bits : (reached 0xd7 ∷ reached 0xdb ∷ reached 0xd9 ∷ []) ≡ (false ∷ true ∷ true ∷ [])
      ∷ (true ∷ true ∷ false ∷ []) ∷ (true ∷ false ∷ false ∷ []) ∷ [];
  -- D = 0 refuses a store, A = 0 all
  used_bits : (reached 0x5f ∷ reached 0x9f ∷ []) ≡ (true ∷ true ∷ false ∷ []) ∷ (false ∷ false ∷ false ∷ []) ∷ [];
  -- without U, without V, W without R, a bit of 54 to 63, and an entry at the lowest level that names a table
  refused_bits : (reached 0xcf ∷ reached 0xde ∷ reached 0xdd ∷ reached (0xdf + 2 ^ 54) ∷ reached (0xdf + 2 ^ 63)
      ∷ reached 1 ∷ [])
      ≡ replicate 6 (false ∷ false ∷ false ∷ []);
  large_page : (walk (large_ram 0) 0 0x2005 Load ∷ walk (large_ram 0) 0 0x3005 Load ∷ walk (large_ram 1) 0 0x1005 Load
      ∷ []) ≡ Some 0x80002005 ∷ None ∷ None ∷ [];
}
unfolding all_opened
walking = record {
  walks = refl;
  giant_walks = refl;
  all_bits = refl;
  some_bits = refl;
  used_bits = refl;
  refused_bits = refl;
  large_page = refl;
}
