-- Packets: a word, and what it is about. Text is named by the offset in the body at which it begins.
use Rattle.std.specs.Prelude.{◌==◌, ◌≡◌, ◌<◌, ◌++◌, ◌∷◌, ◌+◌, ◌^◌, ℕ, ⊤, List, [], None, Option, Some, bytes_eq, codes}
use Rattle.std.specs.Prelude.{drop, if◌then◌else◌, length, map, nat_eq, nat_lt, not, option_and_then, option_map, take}
use Rattle.std.specs.List.{prefix_len, starts_with}
use Rattle.gdbwire.specs.Hex.{hex_number, number_of}
use Rattle.gdbwire.specs.declared.packets.Head.{Head}
use Rattle.gdbwire.specs.declared.packets.Head.TheVariants as head
use Rattle.gdbwire.specs.declared.packets.Word.TheVariants as word
use Rattle.gdbwire.specs.declared.packets.Numbered.TheVariants as numbered
use Rattle.gdbwire.specs.declared.packets.Threaded.TheVariants as threaded
use Rattle.gdbwire.specs.declared.packets.Parted.TheVariants as parted
use Rattle.gdbwire.specs.declared.packets.Texted.TheVariants as texted
use Rattle.gdbwire.specs.declared.packets.Point.TheVariants as point
use Rattle.gdbwire.specs.declared.packets.Id.{Id}
use Rattle.gdbwire.specs.declared.packets.Id.TheVariants.{All, One}
use Rattle.gdbwire.specs.declared.packets.Packet.{Packet}
use Rattle.gdbwire.specs.declared.packets.Packet.TheVariants as packet
use Rattle.gdbwire.specs.declared.packets.Part.{Part}
use Rattle.gdbwire.specs.declared.packets.Thread.{Thread}

infixl 10 ◌>>=◌
abbrev pub ◌>>=◌ : {A B : Type 0} → Option A → (A → Option B) → Option B
o >>= f = option_and_then f o

-- what comes before byte n, and after it
abbrev pub cut_from : List ℕ → ℕ → Option (List ℕ × List ℕ)
cut_from text n = if nat_lt n (length text) then Some (take n text, drop (n + 1) text) else None

unfoldable pub cut : ℕ → List ℕ → Option (List ℕ × List ℕ)
cut at text = cut_from text (prefix_len (λ b. not (b == at)) text)

-- ---- threads

unfoldable pub id_of : List ℕ → Option Id
id_of text = if bytes_eq text (codes "-1") then Some All else option_map One (number_of text)

-- of a process alone all threads are meant
abbrev pub process_thread : List ℕ → Option (List ℕ × List ℕ) → Option Thread
process_thread text None = option_map (λ process. record { process = process; thread = All }) (id_of text)
process_thread text (Some two) = do
  process ← id_of two.0
  thread ← id_of two.1
  Some (record { process = process; thread = thread })

-- of a thread without its process any process is meant
unfoldable pub thread_of : List ℕ → Option Thread
thread_of text = if starts_with nat_eq text (codes "p") then process_thread (drop 1 text) (cut 46 (drop 1 text))
    else option_map (λ thread. record { process = One 0; thread = thread }) (id_of text)

-- ---- parts

unfoldable pub part_of : List ℕ → Option Part
part_of text = do
  two ← cut 44 text
  from ← number_of two.0
  count ← number_of two.1
  Some (record { from = from; count = count })

-- ---- packets

-- the first of these heads whose word a body begins with, and what follows the word
abbrev pub head_among : List (List ℕ × Head) → List ℕ → Option (Head × List ℕ)
head_among [] body = None
head_among (row ∷ rows) body =
    if starts_with nat_eq body row.0 then Some (row.1, drop (length row.0) body) else head_among rows body

-- a process, and a part of the path of its program
unfoldable pub program_part_of : List ℕ → Option (ℕ × Part)
program_part_of text = do
  two ← cut 58 text
  pid ← number_of two.0
  part ← part_of two.1
  Some (pid, part)

-- an open file, and a part of it, of which the count comes first
unfoldable pub file_part_of : List ℕ → Option (ℕ × Part)
file_part_of text = do
  two ← cut 44 text
  file ← number_of two.0
  part ← part_of two.1
  Some (file, record { from = part.count; count = part.from })

-- at which addresses a program stops, and how many bytes its conditions have
abbrev pub point_with : List ℕ → Option (List ℕ × List ℕ) → Option (Part × ℕ)
point_with text None = option_map (λ part. (part, 0)) (part_of text)
point_with text (Some two) = option_map (λ part. (part, length two.1)) (part_of two.0)

unfoldable pub point_of : List ℕ → Option (Part × ℕ)
point_of text = point_with text (cut 59 text)

-- the packet with a head, and what follows its word
abbrev pub packet_for : Head → List ℕ → Option Packet
packet_for (head.Word word) rest = if length rest == 0 then Some (packet.Word word) else None
packet_for (head.Numbered kind) rest = option_map (λ n. packet.Numbered kind n) (number_of rest)
packet_for (head.Threaded kind) rest = option_map (λ thread. packet.Threaded kind thread) (thread_of rest)
packet_for (head.Parted kind) rest = option_map (λ part. packet.Parted kind part) (part_of rest)
packet_for (head.Texted kind) rest = Some (packet.Texted kind (length rest))
packet_for head.ProgramPath rest = option_map (λ two. packet.ProgramPath two.0 two.1) (program_part_of rest)
packet_for head.ReadFile rest = option_map (λ two. packet.ReadFile two.0 two.1) (file_part_of rest)
packet_for (head.Set kind) rest = option_map (λ two. packet.Set kind two.0 two.1) (point_of rest)
packet_for (head.Clear kind) rest = option_map (λ two. packet.Clear kind two.0 two.1) (point_of rest)

abbrev pub packet_after : Option (Head × List ℕ) → Option Packet
packet_after None = None
packet_after (Some two) = packet_for two.0 two.1

-- ---- words

-- the word of a head
abbrev pub word_of : Head → List ℕ
word_of (head.Word word.StartNoAcks) = codes "QStartNoAckMode"
word_of (head.Word word.Extend) = codes "!"
word_of (head.Word word.LastStop) = codes "?"
word_of (head.Word word.FirstThreads) = codes "qfThreadInfo"
word_of (head.Word word.MoreThreads) = codes "qsThreadInfo"
word_of (head.Word word.CurrentThread) = codes "qC"
word_of (head.Numbered numbered.IsAttachedTo) = codes "qAttached:"
word_of (head.Word word.IsAttached) = codes "qAttached"
word_of (head.Word word.Registers) = codes "g"
word_of (head.Word word.ResumeKinds) = codes "vCont?"
word_of (head.Word word.StepBack) = codes "bs"
word_of (head.Word word.ContinueBack) = codes "bc"
word_of (head.Word word.Kill) = codes "k"
word_of (head.Word word.HostInfo) = codes "qHostInfo"
word_of (head.Word word.ProcessInfo) = codes "qProcessInfo"
word_of (head.Numbered numbered.FileSystem) = codes "vFile:setfs:"
word_of (head.Numbered numbered.FileStatus) = codes "vFile:fstat:"
word_of (head.Numbered numbered.CloseFile) = codes "vFile:close:"
word_of (head.Numbered numbered.Register) = codes "p"
word_of (head.Numbered numbered.Detach) = codes "D;"
word_of (head.Numbered numbered.KillProcess) = codes "vKill;"
word_of (head.Threaded threaded.Words) = codes "qThreadExtraInfo,"
word_of (head.Threaded threaded.IsAlive) = codes "T"
word_of (head.Threaded threaded.Looks) = codes "Hg"
word_of (head.Threaded threaded.Steps) = codes "Hc"
word_of (head.Parted parted.Memory) = codes "m"
word_of (head.Parted parted.Description) = codes "qXfer:features:read:target.xml:"
word_of (head.Texted texted.Supported) = codes "qSupported:"
word_of (head.Texted texted.Command) = codes "qRcmd,"
word_of (head.Texted texted.Resume) = codes "vCont;"
word_of (head.Texted texted.Run) = codes "vRun;"
word_of (head.Texted texted.OpenFile) = codes "vFile:open:"
word_of (head.Texted texted.WriteMemory) = codes "M"
word_of (head.Texted texted.WriteBytes) = codes "X"
word_of (head.Texted texted.WriteRegisters) = codes "G"
word_of (head.Texted texted.WriteRegister) = codes "P"
word_of head.ProgramPath = codes "qXfer:exec-file:read:"
word_of head.ReadFile = codes "vFile:pread:"
word_of (head.Set point.Break) = codes "Z0,"
word_of (head.Set point.HardwareBreak) = codes "Z1,"
word_of (head.Set point.Write) = codes "Z2,"
word_of (head.Set point.Read) = codes "Z3,"
word_of (head.Set point.Access) = codes "Z4,"
word_of (head.Clear point.Break) = codes "z0,"
word_of (head.Clear point.HardwareBreak) = codes "z1,"
word_of (head.Clear point.Write) = codes "z2,"
word_of (head.Clear point.Read) = codes "z3,"
word_of (head.Clear point.Access) = codes "z4,"

-- the heads; one whose word begins with that of another comes before it
abbrev pub all_heads : List Head
all_heads =
    head.Word word.StartNoAcks
    ∷ head.Word word.Extend
    ∷ head.Word word.LastStop
    ∷ head.Word word.FirstThreads
    ∷ head.Word word.MoreThreads
    ∷ head.Word word.CurrentThread
    ∷ head.Numbered numbered.IsAttachedTo
    ∷ head.Word word.IsAttached
    ∷ head.Word word.Registers
    ∷ head.Word word.ResumeKinds
    ∷ head.Word word.StepBack
    ∷ head.Word word.ContinueBack
    ∷ head.Word word.Kill
    ∷ head.Word word.HostInfo
    ∷ head.Word word.ProcessInfo
    ∷ head.Numbered numbered.FileSystem
    ∷ head.Numbered numbered.FileStatus
    ∷ head.Numbered numbered.CloseFile
    ∷ head.Numbered numbered.Register
    ∷ head.Numbered numbered.Detach
    ∷ head.Numbered numbered.KillProcess
    ∷ head.Threaded threaded.Words
    ∷ head.Threaded threaded.IsAlive
    ∷ head.Threaded threaded.Looks
    ∷ head.Threaded threaded.Steps
    ∷ head.Parted parted.Memory
    ∷ head.Parted parted.Description
    ∷ head.Texted texted.Supported
    ∷ head.Texted texted.Command
    ∷ head.Texted texted.Resume
    ∷ head.Texted texted.Run
    ∷ head.Texted texted.OpenFile
    ∷ head.Texted texted.WriteMemory
    ∷ head.Texted texted.WriteBytes
    ∷ head.Texted texted.WriteRegisters
    ∷ head.Texted texted.WriteRegister
    ∷ head.ProgramPath
    ∷ head.ReadFile
    ∷ head.Set point.Break
    ∷ head.Set point.HardwareBreak
    ∷ head.Set point.Write
    ∷ head.Set point.Read
    ∷ head.Set point.Access
    ∷ head.Clear point.Break
    ∷ head.Clear point.HardwareBreak
    ∷ head.Clear point.Write
    ∷ head.Clear point.Read
    ∷ head.Clear point.Access
    ∷ []

abbrev pub heads : List (List ℕ × Head)
heads = map (λ h. (word_of h, h)) all_heads

-- the packet that a body is
unfoldable pub packet_of : List ℕ → Option Packet
packet_of body = packet_after (head_among heads body)

-- ---- packets as they are sent

abbrev pub id_sent : Id → List ℕ
id_sent All = codes "-1"
id_sent (One n) = hex_number n

abbrev pub thread_sent : Thread → List ℕ
thread_sent t = codes "p" ++ (id_sent t.process ++ (codes "." ++ id_sent t.thread))

abbrev pub part_sent : Part → List ℕ
part_sent p = hex_number p.from ++ (codes "," ++ hex_number p.count)

-- conditions, where there are any
abbrev pub conditions_sent : List ℕ → List ℕ
conditions_sent [] = []
conditions_sent (b ∷ bs) = codes ";" ++ (b ∷ bs)

-- what follows the word of a packet; text is its text
abbrev pub behind_word : Packet → List ℕ → List ℕ
behind_word (packet.Word word) text = []
behind_word (packet.Numbered kind n) text = hex_number n
behind_word (packet.Threaded kind thread) text = thread_sent thread
behind_word (packet.Parted kind part) text = part_sent part
behind_word (packet.Texted kind n) text = text
behind_word (packet.ProgramPath pid part) text = hex_number pid ++ (codes ":" ++ part_sent part)
behind_word (packet.ReadFile file part) text =
    hex_number file ++ (codes "," ++ (hex_number part.count ++ (codes "," ++ hex_number part.from)))
behind_word (packet.Set kind part n) text = part_sent part ++ conditions_sent text
behind_word (packet.Clear kind part n) text = part_sent part ++ conditions_sent text

abbrev pub head_of : Packet → Head
head_of (packet.Word word) = head.Word word
head_of (packet.Numbered kind n) = head.Numbered kind
head_of (packet.Threaded kind thread) = head.Threaded kind
head_of (packet.Parted kind part) = head.Parted kind
head_of (packet.Texted kind n) = head.Texted kind
head_of (packet.ProgramPath pid part) = head.ProgramPath
head_of (packet.ReadFile file part) = head.ReadFile
head_of (packet.Set kind part n) = head.Set kind
head_of (packet.Clear kind part n) = head.Clear kind

abbrev pub packet_sent : Packet → List ℕ → List ℕ
packet_sent p text = word_of (head_of p) ++ behind_word p text

-- a packet's numbers have 64 bits, and its text has as many bytes as it says
abbrev pub IsId : Id → Type 0
IsId All = ⊤
IsId (One n) = n < 2 ^ 64

pub record IsThread (t : Thread) : Type 0 where
  pub process : IsId t.process
  pub thread : IsId t.thread

pub record IsPart (p : Part) : Type 0 where
  pub from : p.from < 2 ^ 64
  pub count : p.count < 2 ^ 64

abbrev pub IsSent : Packet → List ℕ → Type 0
IsSent (packet.Word word) text = ⊤
IsSent (packet.Numbered kind n) text = n < 2 ^ 64
IsSent (packet.Threaded kind thread) text = IsThread thread
IsSent (packet.Parted kind part) text = IsPart part
IsSent (packet.Texted kind n) text = length text ≡ n
IsSent (packet.ProgramPath pid part) text = (pid < 2 ^ 64) × IsPart part
IsSent (packet.ReadFile file part) text = (file < 2 ^ 64) × IsPart part
IsSent (packet.Set kind part n) text = IsPart part × (length text ≡ n)
IsSent (packet.Clear kind part n) text = IsPart part × (length text ≡ n)

-- what is sent is read as what it was
abbrev pub PacketsAreRead : Type 0
PacketsAreRead = (p : Packet) (text : List ℕ) → IsSent p text → packet_of (packet_sent p text) ≡ Some p
