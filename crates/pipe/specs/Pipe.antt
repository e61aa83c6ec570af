-- A pipe: where its bytes are in a memory, and which of its ends are open.
use Rattle.std.specs.Prelude.{Bool, IfNone, IfSome, IsNone, List, Option, [], drop, false, length, min, slice_set, take}
use Rattle.std.specs.Prelude.{true, ℕ, ◌++◌, ◌-◌, ◌∷◌, ◌≡◌, ◌↔◌}
use Rattle.ram.specs.Memory.{frame_of}
use Rattle.unixmodel.specs.OpenFiles.{pipe_room}
use Rattle.files.specs.declared.file.End.{End}
use Rattle.files.specs.declared.file.End.TheVariants.{Read, Write}
use Rattle.ring_laws.specs.Ring.{ring}

pub record Pipe : Type 0 where
  pub frame : ℕ
  pub from : ℕ
  pub held : ℕ
  pub read_open : Bool
  pub write_open : Bool

-- the bytes that it holds, the oldest first
abbrev pub bytes_of : List (List ℕ) → Pipe → List ℕ
bytes_of m p = ring pipe_room (frame_of m p.frame) p.from p.held

-- `held` bytes of the ring in a frame, from an index on
abbrev pub ring_in : List (List ℕ) → ℕ → ℕ → ℕ → List ℕ
ring_in m frame from held = ring pipe_room (frame_of m frame) from held

-- as many of these bytes as fit
abbrev pub fitting : List (List ℕ) → Pipe → List ℕ → List ℕ
fitting m p new = take (pipe_room - length (bytes_of m p)) new

-- its bytes, and after them what fits
abbrev pub joined : List (List ℕ) → Pipe → List ℕ → List ℕ
joined m p new = bytes_of m p ++ fitting m p new

-- the frames that it holds
abbrev pub holds : Pipe → List ℕ
holds p = p.frame ∷ []

abbrev pub is_open : Pipe → End → Bool
is_open p Read = p.read_open
is_open p Write = p.write_open

abbrev pub closed : Pipe → End → Pipe
closed p Read = record p { read_open = false }
closed p Write = record p { write_open = false }

-- it has the same frame and the same ends
pub record Stays (old new : Pipe) : Type 0 where
  pub frame : new.frame ≡ old.frame
  pub read_open : new.read_open ≡ old.read_open
  pub write_open : new.write_open ≡ old.write_open

-- What fits of these bytes was put in, or nothing where no read end is open. No other frame of the memory was written.
pub record PutsIn (m k : List (List ℕ)) (old new : Pipe) (given : List ℕ) (result : Option ℕ) : Type 0 where
  pub refused : IsNone result ↔ old.read_open ≡ false
  pub unchanged : IfNone result ((k ≡ m) × (new ≡ old))
  pub bytes : IfSome result (λ n. bytes_of k new ≡ joined m old given)
  pub count : IfSome result (λ n. n ≡ length (fitting m old given))
  pub stays : Stays old new
  pub memory : k ≡ slice_set m old.frame (frame_of k old.frame)

-- As many bytes were taken into a buffer as there are and fit, or none where the reader has to wait.
pub record TakesOut (m : List (List ℕ)) (old new : Pipe) (buffer filled : List ℕ) (result : Option ℕ) : Type 0 where
  pub waits : IsNone result ↔ ((bytes_of m old ≡ []) × (old.write_open ≡ true))
  pub unchanged : IfNone result ((filled ≡ buffer) × (new ≡ old))
  pub taken : IfSome result (λ n. filled ≡ take (length buffer) (bytes_of m old) ++ drop n buffer)
  pub count : IfSome result (λ n. n ≡ min (length buffer) (length (bytes_of m old)))
  pub rest : bytes_of m new ≡ drop (length buffer) (bytes_of m old)
  pub stays : Stays old new
