-- Calls of process 1 in a row, and what they return.
use Rattle.model_examples.proofs.Common.{Running, After, call, quiet, free_frames, read_bytes, write_bytes, number}
use Rattle.model_examples.proofs.Common.{Process, State, process_at, put_process}
use Rattle.std.specs.Prelude.{◌+◌, ◌++◌, ◌-◌, [], ◌^◌, List, map, None, Option, option_map, slice_index, slice_set}
use Rattle.std.specs.Prelude.{Some, unwrap_or, ℕ, ◌∷◌}
use Rattle.unixmodel.specs.Start.{first_process, first_state, start_flat}
use Rattle.unixmodel.specs.declared.process.Mode.{Mode}
use Rattle.std.specs.Fmt.{digits}
use Rattle.unixmodel.specs as m
use Rattle.unixmodel.specs.NameCalls as names

-- a call: its number, a path that is at 8192, one that is at 8448, and its arguments
pub record Asked : Type 0 where
  pub number : ℕ
  pub path : List ℕ
  pub other : List ℕ
  pub args : List ℕ

abbrev pub with_args_in : List ℕ → ℕ → List ℕ → List ℕ
with_args_in registers r [] = registers
with_args_in registers r (a ∷ args) = with_args_in (slice_set registers r a) (r + 1) args

abbrev pub asking : Process → Asked → Process
asking p c = record p {
  registers = slice_set (with_args_in p.registers 10 c.args) 17 c.number;
  memory = write_bytes (write_bytes p.memory 8192 (c.path ++ 0 ∷ [])) 8448 (c.other ++ 0 ∷ []);
  mode = Running;
}

-- the process in slot i asks
abbrev pub ask : State → ℕ → Asked → After
ask s i c = elim (process_at s i) [ None ↦ quiet s | Some p ↦ call (put_process s i (asking p c)) i (asking p c) ]

abbrev pub answer_at : State → ℕ → ℕ
answer_at s i = elim (process_at s i) [ None ↦ 0 | Some p ↦ slice_index p.registers 10 ]

-- the bytes at an address of the process in slot i
abbrev pub bytes_in : State → ℕ → ℕ → ℕ → List ℕ
bytes_in s i at n = elim (process_at s i) [ None ↦ [] | Some p ↦ unwrap_or (read_bytes p.memory at n) [] ]

abbrev pub mode_at : State → ℕ → Option Mode
mode_at s i = option_map (λ (p : Process). p.mode) (process_at s i)

-- whether the process in slot 0 runs, and what its call returned
abbrev pub runs_with : State → Option ℕ
runs_with s = elim (mode_at s 0) [ Some Running ↦ Some (answer_at s 0) | _ ↦ None ]

-- the state after these calls of process 1, the states after each of them, and what they return
abbrev pub ask_all : State → List Asked → State
ask_all s [] = s
ask_all s (c ∷ cs) = ask_all (ask s 0 c).state cs

abbrev pub states_of : State → List Asked → List State
states_of s [] = []
states_of s (c ∷ cs) = (ask s 0 c).state ∷ states_of (ask s 0 c).state cs

abbrev pub answers_to : State → List Asked → List ℕ
answers_to s cs = map (λ t. answer_at t 0) (states_of s cs)

abbrev pub free_after : State → List Asked → List ℕ
free_after s cs = map free_frames (states_of s cs)

-- a call with numbers alone
abbrev pub plain : ℕ → List ℕ → Asked
plain number args = record { number = number; path = []; other = []; args = args }

abbrev pub fork : Asked
fork = plain 1 []

abbrev pub read : ℕ → ℕ → ℕ → Asked
read fd address count = plain 5 (fd ∷ address ∷ count ∷ [])

abbrev pub sbrk : ℕ → Asked
sbrk d = plain 12 (d ∷ [])

abbrev pub below_zero : ℕ → ℕ
below_zero d = 2 ^ 64 - d

-- the flat program of one byte, 0, with this many frames
abbrev pub flat_state : ℕ → State
flat_state frames = unwrap_or (start_flat (0 ∷ []) frames)
    (first_state [] 0 0 [] (first_process (record { memory = []; size = 0; pc = 0; argc = 0; sp = 0 }) []))

abbrev pub on_flat : ℕ → List Asked → List ℕ
on_flat frames calls = answers_to (flat_state frames) calls

-- ---- all that a row computes with, opened by one name

unfoldable pub all_opened : Unit {0}
unfolding m.Calls.call m.Calls.resume m.Console.key m.Console.take_line m.Counts.frames_of m.Counts.blocks_of
    m.ElfFile.elf_header m.ElfFile.program_header
    m.ElfFile.elf_file m.FileCalls.dup_row m.FileCalls.close_row m.FileCalls.pipe_row m.FileCalls.stat_bytes
    m.FileCalls.fstat_row m.FileCalls.read_on
    m.FileCalls.read_row m.FileCalls.room_for m.FileCalls.write_on m.FileCalls.write_row m.Files.free_slots
    m.Files.parts m.Files.place_of m.Files.lookup
    m.Files.find m.Files.spot_of m.Files.free_number m.Files.with_entry m.Files.enter m.Files.erase m.Slots.in_record
    m.Slots.address_of m.Slots.holder_of
    m.Slots.place_of m.Slots.first_of m.Slots.asked_slot m.Image.number_in m.Image.data_blocks m.Image.named_by
    m.Image.named_blocks m.Image.contents_in
    m.Image.bit_of m.Image.is_named m.Image.all_entries m.Image.names_of m.Image.subdirectories m.Image.parent_of
    m.Meaning.act m.Memory.reach
    m.Memory.write_bytes m.Memory.string_at m.Memory.path_at m.Memory.zeros m.Memory.pages_of m.Cycle.cycle
    m.Next.effect_of m.Next.execute m.Next.next
    m.Outcome.no_descriptors m.Outcome.end_process m.Plan.segment_at m.Plan.segment_pages m.Plan.load_segments
    m.Plan.push m.Plan.push_strings
    m.Plan.push_pointers m.Plan.with_stack m.Plan.with_args m.Plan.plan m.Plan.plan_flat m.ProcessCalls.fork_row
    m.ProcessCalls.wait_on
    m.ProcessCalls.wait_row m.ProcessCalls.kill_row m.ProcessCalls.words_before_zero m.ProcessCalls.args_at
    m.ProcessCalls.exec_row
    m.ProcessCalls.with_pages m.ProcessCalls.sbrk_row m.ProcessCalls.sleep_on m.Reap.without_opens m.Reap.without_pipes
    m.Reap.without_nodes m.Reap.reap
    m.Run.run m.Run.turns m.Start.init_plan m.Start.start m.Start.flat_files m.Start.flat_opens
    m.Start.flat_descriptors m.Start.start_flat
    m.Translation.walk_from m.Turn.is_ready m.Turn.round_from m.Turn.turn m.Words.instruction_of m.Manifest.added
    m.Manifest.bare_files
    m.Manifest.files_made m.Manifest.with_entries m.Manifest.with_manifest_entry m.Assembly.codes_from
    m.Assembly.definition m.Assembly.line_code
    m.Assembly.object m.Assembly.placed m.Assembly.placed_from m.Assembly.statement_code m.Disassembly.instruction_text
    m.Disassembly.word_text
    m.Names.register_names m.Names.register_numbers m.Operands.memory_called m.Operands.number_called
    m.Operands.register_called m.Operands.target_called
    m.Statements.form_called m.Statements.line_of m.Statements.statement_in m.Tokens.parts_of m.Tokens.symbols_in digits
all_opened = tt

-- and what a row of the calls on names does
unfoldable pub names_opened : Unit {0}
unfolding names.open_row names.mknod_row names.mkdir_row names.link_row names.unlink_row names.chdir_row names.make_at
    names.made_at names.made_directory names.linked names.unlinked
names_opened = tt
