-- Small cases of descriptors, pipes and turns.
use Rattle.model_examples.proofs.Common.{range_with_len, Step, Tick, minus_one, run, turns, State, Event, Key, Waiting}
use Rattle.model_examples.proofs.Common.{After, Zombie, free_frames, write_bytes, change_process, process_at, frames_of}
use Rattle.model_examples.proofs.Common.{Page, Process, String, blocks_of, File, zeros}
use Rattle.std.specs.Prelude.{◌+◌, ◌++◌, [], Bool, codes, false, length, List, map, negsuc, None, Option, option_map}
use Rattle.std.specs.Prelude.{pos, refl, replicate, Some, true, unwrap_or, ℕ, ℤ, ◌∷◌, ◌≡◌}
use Rattle.unixmodel.specs.FileCalls.{with_descriptor}
use Rattle.unixmodel.specs.Files.{blocks_for, put, slot, enter}
use Rattle.unixmodel.specs.Shown.{shown_process}
use Rattle.model_examples.proofs.Scripts.{all_opened, Asked, answer_at, ask, ask_all, bytes_in, flat_state, on_flat}
use Rattle.model_examples.proofs.Scripts.{plain, runs_with, fork, free_after, read, sbrk, answers_to, mode_at}
use Rattle.model_examples.proofs.Scripts.{states_of, below_zero}
use Rattle.unixmodel.specs.declared.call.Call.TheVariants.{Read}
use Rattle.unixmodel.specs.OpenFiles.Target.{OnNode}

abbrev dup : ℕ → Asked
dup fd = plain 10 (fd ∷ [])

abbrev close : ℕ → Asked
close fd = plain 21 (fd ∷ [])

abbrev pipe : ℕ → Asked
pipe address = plain 4 (address ∷ [])

abbrev write : ℕ → ℕ → ℕ → Asked
write fd address count = plain 16 (fd ∷ address ∷ count ∷ [])

-- ---- descriptors

descriptors : record {
  -- thirteen more descriptors, and then none; the lowest free one comes again
  dups : on_flat 256 (replicate 14 (dup 1) ++ close 0 ∷ dup 1 ∷ close 16 ∷ [])
      ≡ range_with_len 3 13 ++ minus_one ∷ 0 ∷ 0 ∷ minus_one ∷ [];
  -- with 0 to 13 in use a pipe has 14 and 15, with fifteen in use it is refused
  last_pipe : on_flat 256 (replicate 11 (dup 1) ++ pipe 8200 ∷ []) ≡ range_with_len 3 11 ++ 0 ∷ [];
  last_ends : bytes_in (ask_all (flat_state 256) (replicate 11 (dup 1) ++ pipe 8200 ∷ [])) 0 8200 8 ≡ 14 ∷ 0 ∷ 0 ∷ 0
      ∷ 15 ∷ 0 ∷ 0 ∷ 0 ∷ [];
  no_pipe : on_flat 256 (replicate 12 (dup 1) ++ pipe 8200 ∷ []) ≡ range_with_len 3 12 ++ minus_one ∷ [];
  -- a pipe takes a frame until both ends are closed
  pipe_frames : free_after (flat_state 64) (pipe 8200 ∷ close 3 ∷ close 4 ∷ []) ≡ 54 ∷ 54 ∷ 55 ∷ [];
  -- six children of 3 pages leave a frame for one pipe
  two_pipes : on_flat 64 (replicate 6 fork ++ pipe 8200 ∷ pipe 8200 ∷ []) ≡ range_with_len 2 6 ++ 0 ∷ minus_one ∷ [];
}
unfolding all_opened
descriptors = record {
  dups = refl;
  last_pipe = refl;
  last_ends = refl;
  no_pipe = refl;
  pipe_frames = refl;
  two_pipes = refl;
}

-- ---- a writer that waits, two readers and one byte

-- process 1 has a pipe and a child, and waits in a write of 513 bytes
abbrev writing : State
writing = ask_all (flat_state 256) (sbrk 4096 ∷ pipe 8200 ∷ fork ∷ write 4 12288 513 ∷ [])

abbrev held_in : State → ℕ
held_in s = length (unwrap_or (slot s.pipes 0) [])

-- the child reads 10
abbrev ten_read : State
ten_read = (ask writing 1 (read 3 8200 10)).state

abbrev turned : State → State
turned s = (run s (Tick ∷ Step ∷ [])).state

-- the writer has no read end, and the child closes the last
abbrev broken : State
broken = (ask (ask_all (flat_state 256) (sbrk 4096 ∷ pipe 8200 ∷ fork ∷ close 3 ∷ write 4 12288 513 ∷ [])) 1
    (close 3)).state

abbrev two_readers : State
two_readers =
    let forked = ask_all (flat_state 256) (pipe 8200 ∷ fork ∷ fork ∷ []) in
    let first = (ask forked 1 (read 3 8200 1)).state in
    let second = (ask first 2 (read 3 8200 1)).state in
    record (ask second 0 (write 4 8200 1)).state { last = 0 }

-- a reader whose last write end closes while it waits
abbrev left_alone : State
left_alone =
    let forked = ask_all (flat_state 256) (pipe 8200 ∷ fork ∷ close 4 ∷ read 3 8200 1 ∷ []) in
    (ask forked 1 (close 4)).state

waits : record {
  writer_waits : runs_with writing ≡ None;
  reader_gets : (answer_at ten_read 1 ∷ held_in writing ∷ held_in ten_read ∷ []) ≡ 10 ∷ 512 ∷ 502 ∷ [];
  writer_ends : runs_with (turned ten_read) ≡ Some 513;
  one_is_put : held_in (turned ten_read) ≡ 503;
  writer_broken : runs_with (turned broken) ≡ Some minus_one;
  one_is_picked : turns two_readers (Tick ∷ Step ∷ Tick ∷ Step ∷ []) ≡ 1 ∷ 0 ∷ [];
  its_answer : answer_at (turned two_readers) 1 ≡ 1;
  reads_nothing : runs_with (turned left_alone) ≡ Some 0;
}
unfolding all_opened
waits = record {
  writer_waits = refl;
  reader_gets = refl;
  writer_ends = refl;
  one_is_put = refl;
  writer_broken = refl;
  one_is_picked = refl;
  its_answer = refl;
  reads_nothing = refl;
}

-- ---- small cases of the console

abbrev keys : List ℕ → List Event
keys = map Key

abbrev typed : List ℕ → After
typed ks = run (flat_state 256) (keys ks)

-- 129 keys: 128 are echoed, and a read of 200 takes them and waits
abbrev many_keys : After
many_keys = typed (replicate 129 0x61)

-- a typed byte waits for its reader's turn
abbrev reading : State
reading = (ask (flat_state 256) 0 (read 0 8192 10)).state

console : record {
  -- ab, delete, c and return
  edited_line : (typed (0x61 ∷ 0x62 ∷ 0x7f ∷ 0x63 ∷ 0x0d ∷ [])).bytes ≡ 0x61 ∷ 0x62 ∷ 8 ∷ 0x20 ∷ 8 ∷ 0x63 ∷ 0x0a ∷ [];
  line_is_read : (let s = (ask (typed (0x61 ∷ 0x62 ∷ 0x7f ∷ 0x63 ∷ 0x0d ∷ [])).state 0 (read 0 8192 10)).state
      in bytes_in s 0 8192 (answer_at s 0)) ≡ 0x61 ∷ 0x63 ∷ 0x0a ∷ [];
  many_echoed : many_keys.bytes ≡ replicate 128 0x61;
  many_wait : mode_at (ask many_keys.state 0 (read 0 8192 200)).state 0
      ≡ Some (Waiting (record { number = Read; args = 0 ∷ 8192 ∷ 200 ∷ []; done = 128; since = 0 }));
  -- x and ^D: a read of 10 returns 1, the next 0
  end_of_input : answers_to (typed (0x78 ∷ 4 ∷ [])).state (read 0 8192 10 ∷ read 0 8192 10 ∷ []) ≡ 1 ∷ 0 ∷ [];
  end_echoed : (typed (0x78 ∷ 4 ∷ [])).bytes ≡ 0x78 ∷ 4 ∷ [];
  not_at_once : bytes_in (run reading (keys (0x61 ∷ 0x0a ∷ []))).state 0 8192 2 ≡ 0 ∷ 0 ∷ [];
  at_its_turn : answer_at (run reading (keys (0x61 ∷ 0x0a ∷ []) ++ Step ∷ [])).state 0 ≡ 2;
}
unfolding all_opened
console = record {
  edited_line = refl;
  line_is_read = refl;
  many_echoed = refl;
  many_wait = refl;
  end_of_input = refl;
  end_echoed = refl;
  not_at_once = refl;
  at_its_turn = refl;
}

-- ---- small cases of processes, memory and frames

-- ---- sbrk: 3 pages take 9 frames of the 64

abbrev size_and_pages : State → ℕ × ℕ
size_and_pages s = elim (process_at s 0) [ None ↦ (0, 0) | Some p ↦ (p.size, length p.memory) ]

-- what each call returns, the free frames after it, and the size and the pages of process 1
abbrev told_by_each : State → List Asked → List (ℕ × ℕ × ℕ × ℕ)
told_by_each s cs = map (λ t. (answer_at t 0, free_frames t, (size_and_pages t).0, (size_and_pages t).1))
    (states_of s cs)

-- a page that stays keeps its bytes, and one that comes is 0
abbrev marked : State
marked = change_process (flat_state 64) 0 (λ p. record p { memory = write_bytes p.memory 12286 (0x5a ∷ 0x5b ∷ []) })

sizes : record {
  frames_before : free_frames (flat_state 64) ≡ 55;
  small : told_by_each (flat_state 64)
      (sbrk 1 ∷ sbrk 4095 ∷ sbrk (below_zero 4097) ∷ sbrk 1 ∷ sbrk (below_zero 12289) ∷ sbrk (below_zero 12288) ∷ [])
      ≡ (12288, 54, 12289, 4) ∷ (12289, 54, 16384, 4) ∷ (16384, 55, 12287, 3) ∷ (12287, 55, 12288, 3)
      ∷ (minus_one, 55, 12288, 3) ∷ (12288, 60, 0, 0) ∷ [];
  large : map (λ bytes. told_by_each (flat_state 64) (sbrk bytes ∷ [])) (225280 ∷ 229376 ∷ [])
      ≡ ((12288, 0, 237568, 58) ∷ []) ∷ ((minus_one, 55, 12288, 3) ∷ []) ∷ [];
  -- 512 pages take one table, 513 two
  second_table : map (λ frames. on_flat frames (sbrk 2084864 ∷ sbrk 4096 ∷ [])) (519 ∷ 520 ∷ [])
      ≡ (12288 ∷ minus_one ∷ []) ∷ (12288 ∷ 2097152 ∷ []) ∷ [];
  kept_bytes : bytes_in (ask_all marked (sbrk 1 ∷ sbrk 4095 ∷ sbrk (below_zero 4097) ∷ sbrk 1 ∷ [])) 0 12286 2 ≡ 0x5a
      ∷ 0x5b ∷ [];
  fresh_bytes : bytes_in (ask_all marked (sbrk (below_zero 4096) ∷ sbrk 4096 ∷ [])) 0 12286 2 ≡ 0 ∷ 0 ∷ [];
  -- without pages the next instruction ends it
  nothing_left : (run (ask_all (flat_state 64) (sbrk (below_zero 12288) ∷ [])) (Step ∷ [])).state.halted
      ≡ Some (negsuc 0);
}
unfolding all_opened
sizes = record {
  frames_before = refl;
  small = refl;
  large = refl;
  second_table = refl;
  kept_bytes = refl;
  fresh_bytes = refl;
  nothing_left = refl;
}

-- ---- exit, getpid and uptime, and numbers

abbrev status_after : ℕ → Option ℤ
status_after a0 = (ask_all (flat_state 64) (plain 2 (a0 ∷ []) ∷ [])).halted

abbrev uptime_after : State → List Event → List ℕ
uptime_after s events = answers_to (run s events).state (plain 14 [] ∷ [])

ends_and_numbers : record {
  -- the status is the low 32 bits, read as signed
  statuses : (status_after 0 ∷ status_after 7 ∷ status_after 0x100000007 ∷ status_after minus_one
      ∷ status_after 0x80000000 ∷ [])
      ≡ Some (pos 0) ∷ Some (pos 7) ∷ Some (pos 7) ∷ Some (negsuc 0) ∷ Some (negsuc 0x7fffffff) ∷ [];
  ends : mode_at (ask_all (flat_state 64) (plain 2 (7 ∷ []) ∷ [])) 0 ≡ Some (Zombie (pos 7));
  own_pid : on_flat 64 (plain 11 [] ∷ []) ≡ 1 ∷ [];
  ticks_counted : (uptime_after (flat_state 64) [] ++ uptime_after (flat_state 64) (Tick ∷ Step ∷ Tick ∷ [])) ≡ 0 ∷ 2
      ∷ [];
  ticks_wrap : uptime_after (record (flat_state 64) { ticks = 0xffffffff }) (Tick ∷ []) ≡ 0 ∷ [];
  -- of numbers of calls and arguments the low 32 bits count
  numbers : on_flat 256 (
      plain 0x100000010 (0x100000001 ∷ 8192 ∷ 0x100000001 ∷ []) ∷ plain 0x10000000b [] ∷ plain 0 [] ∷ plain 22 []
      ∷ plain 0xffffffff [] ∷ plain 11 [] ∷ plain 14 [] ∷ [])
      ≡ 1 ∷ 1 ∷ minus_one ∷ minus_one ∷ minus_one ∷ 1 ∷ 0 ∷ [];
}
unfolding all_opened
ends_and_numbers = record
    { statuses = refl; ends = refl; own_pid = refl; ticks_counted = refl; ticks_wrap = refl; numbers = refl }

-- ---- small cases of many processes: fork, exit, wait, kill, sleep and the turn

abbrev exit : ℕ → Asked
exit status = plain 2 (status ∷ [])

abbrev wait : ℕ → Asked
wait address = plain 3 (address ∷ [])

abbrev kill : ℕ → Asked
kill pid = plain 6 (pid ∷ [])

-- ---- fork: 64 frames hold seven processes of 3 pages

-- it marks the pages of both, and none that comes later
abbrev shared_in : State → ℕ → List Bool
shared_in s i = elim (process_at s i) [ None ↦ [] | Some p ↦ map (λ (page : Page). page.marks.shared) p.memory ]

forks : record {
  seven_forks : on_flat 64 (replicate 7 fork) ≡ 2 ∷ 3 ∷ 4 ∷ 5 ∷ 6 ∷ 7 ∷ minus_one ∷ [];
  -- a fork that is refused uses no pid
  seven_forked : (let s = ask_all (flat_state 64) (replicate 7 fork) in frames_of s ∷ s.next_pid ∷ []) ≡ 63 ∷ 8 ∷ [];
  fork_marks : (let s = ask_all (flat_state 64) (fork ∷ sbrk 4096 ∷ []) in shared_in s 0 ++ shared_in s 1) ≡ true
      ∷ true ∷ true ∷ false ∷ true ∷ true ∷ true ∷ [];
}
unfolding all_opened
forks = record { seven_forks = refl; seven_forked = refl; fork_marks = refl }

-- ---- exit and wait: a zombie holds its frames until it is waited for

abbrev child_exits : State
child_exits = (ask (ask_all (flat_state 64) (fork ∷ [])) 1 (exit 7)).state

-- process 2 forks 3 and exits, 3 exits: two waits of process 1 return 2, then 3
abbrev grandchild : State
grandchild =
    let one = ask_all (flat_state 256) (fork ∷ []) in
    let two = (ask one 1 fork).state in
    (ask two 1 (exit 0)).state

-- process 1 waits; its child, whose next word is 0, is picked and killed by it; then process 1 goes on
abbrev waiting : State
waiting = ask_all (flat_state 256) (fork ∷ wait 8200 ∷ [])

children : record {
  fork_frames : free_after (flat_state 64) (fork ∷ []) ++ free_frames child_exits
      ∷ free_after child_exits (wait 0x1000 ∷ wait 0 ∷ []) ≡ 46 ∷ 46 ∷ 46 ∷ 55 ∷ [];
  bad_wait : answers_to child_exits (wait 0x1000 ∷ wait 0 ∷ wait 0 ∷ []) ≡ minus_one ∷ 2 ∷ minus_one ∷ [];
  wait_status : bytes_in (ask_all child_exits (wait 8200 ∷ [])) 0 8200 4 ≡ 7 ∷ 0 ∷ 0 ∷ 0 ∷ [];
  its_parent : option_map (λ (p : Process). p.parent) (shown_process grandchild 3) ≡ Some 1;
  two_waits : answers_to (ask grandchild 2 (exit 0)).state (wait 0 ∷ wait 0 ∷ []) ≡ 2 ∷ 3 ∷ [];
  illegal_child : turns waiting (Step ∷ Step ∷ Step ∷ []) ≡ 1 ∷ 0 ∷ [];
  illegal_child_ends : mode_at (run waiting (Step ∷ Step ∷ [])).state 1 ≡ Some (Zombie (negsuc 0));
  illegal_child_status : bytes_in (run waiting (Step ∷ Step ∷ Step ∷ [])).state 0 8200 4 ≡ 255 ∷ 255 ∷ 255 ∷ 255 ∷ [];
}
unfolding all_opened
children = record {
  fork_frames = refl;
  bad_wait = refl;
  wait_status = refl;
  its_parent = refl;
  two_waits = refl;
  illegal_child = refl;
  illegal_child_ends = refl;
  illegal_child_status = refl;
}

-- ---- kill, sleep and the turn

-- a process that is killed while it sleeps is picked, and ends
abbrev killed_sleeper : State
killed_sleeper =
    let one = ask_all (flat_state 256) (fork ∷ []) in
    let two = (ask one 1 (plain 13 (1000 ∷ []))).state in
    record (ask two 0 (kill 2)).state { last = 0 }

abbrev sleeping : State
sleeping = ask_all (flat_state 256) (plain 13 (2 ∷ []) ∷ [])

-- three that never wait are picked in turn
abbrev three : State
three = record (ask_all (flat_state 256) (fork ∷ fork ∷ [])) { last = 0 }

kill_sleep_and_turn : record {
  -- a zombie can be marked; pid 0, -1 and one that is not in use can't; a process that marks itself gets its result and
  -- ends
  kills : answers_to child_exits (kill 2 ∷ kill 0 ∷ kill (below_zero 1) ∷ kill 3 ∷ kill 1 ∷ []) ≡ 0 ∷ minus_one
      ∷ minus_one ∷ minus_one ∷ 0 ∷ [];
  kills_first : (ask_all (flat_state 256) (kill 1 ∷ [])).halted ≡ Some (negsuc 0);
  killed_ends : mode_at (run killed_sleeper (Tick ∷ Step ∷ [])).state 1 ≡ Some (Zombie (negsuc 0));
  still_asleep : runs_with (run sleeping (Tick ∷ Step ∷ [])).state ≡ None;
  awake : runs_with (run sleeping (Tick ∷ Step ∷ Tick ∷ Step ∷ [])).state ≡ Some 0;
  no_sleep : on_flat 256 (plain 13 (0xffffffff ∷ []) ∷ []) ≡ 0 ∷ [];
  in_turn : turns three (Tick ∷ Step ∷ Tick ∷ Step ∷ Tick ∷ Step ∷ Tick ∷ Step ∷ []) ≡ 1 ∷ 2 ∷ 0 ∷ 1 ∷ [];
}
unfolding all_opened
kill_sleep_and_turn = record {
  kills = refl;
  kills_first = refl;
  killed_ends = refl;
  still_asleep = refl;
  awake = refl;
  no_sleep = refl;
  in_turn = refl;
}

-- ---- small cases of writes to the console and to files

-- a flat disk with a file f of some bytes, and this limit of data blocks
abbrev with_f : State → List ℕ → ℕ → State
with_f s bytes limit = record s {
  files = put (unwrap_or (enter s.files (record { directory = 1; name = codes "f" }) 3) []) 3 (File 1 bytes);
  block_limit = limit;
}

-- the open file 1 is f at an offset, for reading and writing, as descriptor 3
abbrev at_offset : State → ℕ → State
at_offset s offset = record (change_process s 0 (λ p. with_descriptor p 3 1)) {
  opens = put s.opens 1 (record { target = OnNode 3 offset; readable = true; writable = true });
}

abbrev write_one : Asked
write_one = plain 16 (3 ∷ 8192 ∷ 1 ∷ [])

-- a file of `size` bytes to which one more is written, where `free` blocks are free: the root takes one
abbrev with_free : ℕ → ℕ → State
with_free size free = at_offset (with_f (flat_state 256) (zeros size) (1 + blocks_for size + free)) size

-- ---- the console is open as descriptors 0, 1 and 2

-- a write of `count` bytes to a descriptor, from an address on; the text is at 8192
abbrev write_text : String → ℕ → ℕ → ℕ → Asked
write_text text descriptor address count =
    record { number = 16; path = codes text; other = []; args = descriptor ∷ address ∷ count ∷ [] }

-- what the call returns, and the bytes that it gives the console
abbrev answered : Asked → ℕ × List ℕ
answered c = let after = ask (flat_state 64) 0 c in (answer_at after.state 0, after.bytes)

writes : record {
  -- the blocks of a file of that many bytes, with its index blocks
  file_blocks : map blocks_for (11264 ∷ 11265 ∷ 273408 ∷ 273409 ∷ 535552 ∷ 535553 ∷ 67382272 ∷ []) ≡ 11 ∷ 13 ∷ 268
      ∷ 271 ∷ 526 ∷ 528 ∷ 66061 ∷ [];
  blocks_free : map (λ (g : ℕ × ℕ). answers_to (with_free g.0 g.1) (write_one ∷ []))
      ((11264, 1) ∷ (11264, 2) ∷ (12288, 0) ∷ (12288, 1) ∷ [])
      ≡ (minus_one ∷ []) ∷ (1 ∷ []) ∷ (minus_one ∷ []) ∷ (1 ∷ []) ∷ [];
  one_block_stays : blocks_of (ask_all (with_free 11264 1) (write_one ∷ [])).files ≡ 12;
  each_descriptor : map answered (write_text "hi" 0 8192 2 ∷ write_text "hi" 1 8192 2 ∷ write_text "hi" 2 8192 1 ∷ [])
      ≡ (2, codes "hi") ∷ (2, codes "hi") ∷ (1, codes "h") ∷ [];
  no_bytes : map answered (write_text "hi" 1 8192 0 ∷ write_text "hi" 1 minus_one 0 ∷ []) ≡ (0, []) ∷ (0, []) ∷ [];
  not_open : map answered (write_text "hi" 3 8192 2 ∷ write_text "hi" 16 8192 2 ∷ write_text "hi" minus_one 8192 2 ∷ [])
      ≡ (minus_one, []) ∷ (minus_one, []) ∷ (minus_one, []) ∷ [];
  below_zero_bytes : map answered (write_text "hi" 1 8192 0xffffffff ∷ write_text "hi" 1 8192 0x80000000 ∷ [])
      ≡ (minus_one, []) ∷ (minus_one, []) ∷ [];
  -- the buffer has to lie in pages that the program may read: neither the guard page nor what follows the stack is one
  outside : map answered (write_text "" 1 4095 1 ∷ write_text "" 1 4095 2 ∷ write_text "" 1 4096 1
      ∷ write_text "" 1 12287 1 ∷ write_text "" 1 12287 2 ∷ write_text "" 1 minus_one 1 ∷ [])
      ≡ (1, 0 ∷ []) ∷ (minus_one, []) ∷ (minus_one, []) ∷ (1, 0 ∷ []) ∷ (minus_one, []) ∷ (minus_one, []) ∷ [];
}
unfolding all_opened
writes = record {
  file_blocks = refl;
  blocks_free = refl;
  one_block_stays = refl;
  each_descriptor = refl;
  no_bytes = refl;
  not_open = refl;
  below_zero_bytes = refl;
  outside = refl;
}
