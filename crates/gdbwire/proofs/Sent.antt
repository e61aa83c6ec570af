-- Packets that are sent are read as what they were.
use Rattle.std.proofs.Common.{◌≡◌, ◌+◌, ◌*◌, ◌/◌, ◌%◌, ◌<◌, ◌==◌, ◌++◌, ◌∷◌, ◌∙◌, ◌^◌, ℕ, zero, suc, [], List, None}
use Rattle.std.proofs.Common.{Option, Some, ap, append-nil, arith, bytes_eq, codes, drop, eq-eqb, false, if◌then◌else◌}
use Rattle.std.proofs.Common.{inl, inr, length, length-append, option_map, refl, sym, take}
use Rattle.std.specs.Prelude.{nat_lt, ⊤}
use Rattle.std.specs.List.{prefix_len}
use Rattle.std.proofs.lemmas.Bool.{le-ltb, lt-ltb, cases_lt}
use Rattle.gdbwire.specs.Hex.{BytesAreRead, bytes_of, hex_byte, hex_digit, hex_number, hex_up_to, number_from}
use Rattle.gdbwire.specs.Hex.{number_of, pair_of, value_of, with_digit}
use Rattle.gdbwire.specs.Packets.{PacketsAreRead, IsId, IsPart, IsSent, IsThread, behind_word, conditions_sent, cut}
use Rattle.gdbwire.specs.Packets.{file_part_of, head_among, head_of, heads, id_of, id_sent, packet_after, packet_for}
use Rattle.gdbwire.specs.Packets.{packet_of, part_of, part_sent, point_of, program_part_of, thread_of, thread_sent}
use Rattle.gdbwire.specs.Packets.{word_of}
use Rattle.gdbwire.specs.Actions.{ActionsAreRead, IsGoing, IsNamed, action_of, going_of, going_sent, named}
use Rattle.gdbwire.specs.declared.actions.Going.{Going}
use Rattle.gdbwire.specs.declared.actions.Going.TheVariants.{Continue, Range, Step}
use Rattle.gdbwire.proofs.Bodies.{digit-read}
use Rattle.gdbwire.proofs.Cuts.{other}
use Rattle.gdbwire.proofs.Numbers.{begins, no-number, whole}
use Rattle.gdbwire.specs.declared.packets.Head.{Head}
use Rattle.gdbwire.specs.declared.packets.Head.TheVariants as head
use Rattle.gdbwire.specs.declared.packets.Word.TheVariants as word
use Rattle.gdbwire.specs.declared.packets.Numbered.TheVariants as numbered
use Rattle.gdbwire.specs.declared.packets.Threaded.TheVariants as threaded
use Rattle.gdbwire.specs.declared.packets.Parted.TheVariants as parted
use Rattle.gdbwire.specs.declared.packets.Texted.TheVariants as texted
use Rattle.gdbwire.specs.declared.packets.Point.TheVariants as point
use Rattle.gdbwire.specs.declared.packets.Id.{Id}
use Rattle.gdbwire.specs.declared.packets.Id.TheVariants.{All, One}
use Rattle.gdbwire.specs.declared.packets.Packet.{Packet}
use Rattle.gdbwire.specs.declared.packets.Packet.TheVariants as packet
use Rattle.gdbwire.specs.declared.packets.Part.{Part}
use Rattle.gdbwire.specs.declared.packets.Thread.{Thread}

-- ---- words

-- a word alone is followed by nothing
abbrev IsFollowed : Head → List ℕ → Type 0
IsFollowed (head.Word word) rest = rest ≡ []
IsFollowed _ rest = ⊤

headed : (h : Head) (rest : List ℕ) → IsFollowed h rest → head_among heads (word_of h ++ rest) ≡ Some (h, rest)
headed (head.Word word.StartNoAcks) rest is = refl
headed (head.Word word.Extend) rest is = refl
headed (head.Word word.LastStop) rest is = refl
headed (head.Word word.FirstThreads) rest is = refl
headed (head.Word word.MoreThreads) rest is = refl
headed (head.Word word.CurrentThread) rest is = refl
headed (head.Numbered numbered.IsAttachedTo) rest is = refl
headed (head.Word word.IsAttached) rest is = rw is refl
headed (head.Word word.Registers) rest is = refl
headed (head.Word word.ResumeKinds) rest is = refl
headed (head.Word word.StepBack) rest is = refl
headed (head.Word word.ContinueBack) rest is = refl
headed (head.Word word.Kill) rest is = refl
headed (head.Word word.HostInfo) rest is = refl
headed (head.Word word.ProcessInfo) rest is = refl
headed (head.Numbered numbered.FileSystem) rest is = refl
headed (head.Numbered numbered.FileStatus) rest is = refl
headed (head.Numbered numbered.CloseFile) rest is = refl
headed (head.Numbered numbered.Register) rest is = refl
headed (head.Numbered numbered.Detach) rest is = refl
headed (head.Numbered numbered.KillProcess) rest is = refl
headed (head.Threaded threaded.Words) rest is = refl
headed (head.Threaded threaded.IsAlive) rest is = refl
headed (head.Threaded threaded.Looks) rest is = refl
headed (head.Threaded threaded.Steps) rest is = refl
headed (head.Parted parted.Memory) rest is = refl
headed (head.Parted parted.Description) rest is = refl
headed (head.Texted texted.Supported) rest is = refl
headed (head.Texted texted.Command) rest is = refl
headed (head.Texted texted.Resume) rest is = refl
headed (head.Texted texted.Run) rest is = refl
headed (head.Texted texted.OpenFile) rest is = refl
headed (head.Texted texted.WriteMemory) rest is = refl
headed (head.Texted texted.WriteBytes) rest is = refl
headed (head.Texted texted.WriteRegisters) rest is = refl
headed (head.Texted texted.WriteRegister) rest is = refl
headed head.ProgramPath rest is = refl
headed head.ReadFile rest is = refl
headed (head.Set point.Break) rest is = refl
headed (head.Set point.HardwareBreak) rest is = refl
headed (head.Set point.Write) rest is = refl
headed (head.Set point.Read) rest is = refl
headed (head.Set point.Access) rest is = refl
headed (head.Clear point.Break) rest is = refl
headed (head.Clear point.HardwareBreak) rest is = refl
headed (head.Clear point.Write) rest is = refl
headed (head.Clear point.Read) rest is = refl
headed (head.Clear point.Access) rest is = refl

-- ---- numbers

-- one digit more
abbrev more : Option ℕ → ℕ → Option ℕ
more (Some n) code = with_digit n (value_of code)
more None code = None

ended : (o : Option ℕ) → number_from o [] ≡ o
ended (Some n) = whole n
ended None = no-number []

last-digit : (o : Option ℕ) (xs : List ℕ) (code : ℕ) → number_from o (xs ++ code ∷ []) ≡ more (number_from o xs) code
unfolding number_from
last-digit None xs code = no-number (xs ++ code ∷ []) ∙ ap (λ o. more o code) (sym (no-number xs))
last-digit (Some n) [] code = ended (with_digit n (value_of code))
last-digit (Some n) (x ∷ xs) code = last-digit (with_digit n (value_of x)) xs code

with-digit : (n digit : ℕ) → n < 1152921504606846976 → with_digit n (Some digit) ≡ Some (16 * n + digit)
with-digit n digit small = rw (lt-ltb n 1152921504606846976 small) refl

digits-read : (most n : ℕ) → n < 16 ^ most → n < 2 ^ 64 → number_from (Some 0) (hex_up_to most n) ≡ Some n
unfolding hex_up_to
digits-read zero n few small = let none : n ≡ 0 = omega (arith, few) in rw none (whole 0)
digits-read (suc most) n few small =
    let digit = digit-read (n % 16) (omega arith) in
    elim (cases_lt n 16) [
      | inl less ↦
          let same : 16 * 0 + n % 16 ≡ n = omega (arith, less) in
          rw (lt-ltb n 16 less) (last-digit (Some 0) [] (hex_digit (n % 16))
          ∙ ap (λ o. more o (hex_digit (n % 16))) (whole 0) ∙ ap (with_digit 0) digit
          ∙ with-digit 0 (n % 16) (omega arith) ∙ ap (λ x. Some x) same)
      | inr least ↦
          let fewer : n / 16 < 16 ^ most = omega (arith, few) in
          let same : 16 * (n / 16) + n % 16 ≡ n = omega arith in
          rw (le-ltb n 16 least) (
          last-digit (Some 0) (hex_up_to most (n / 16)) (hex_digit (n % 16))
          ∙ ap (λ o. more o (hex_digit (n % 16))) (digits-read most (n / 16) fewer (omega (arith, small)))
          ∙ ap (with_digit (n / 16)) digit ∙ with-digit (n / 16) (n % 16) (omega (arith, small))
          ∙ ap (λ x. Some x) same)
    ]

some-digits : (n : ℕ) → 0 < length (hex_number n)
unfolding hex_up_to
some-digits n = rw (length-append (if nat_lt n 16 then [] else hex_up_to 15 (n / 16)) (hex_digit (n % 16) ∷ []))
    (omega arith)

pub number-read : (n : ℕ) → n < 2 ^ 64 → number_of (hex_number n) ≡ Some n
number-read n small = begins (hex_number n) (some-digits n) ∙ digits-read 16 n small small

pub bytes-read : BytesAreRead
unfolding bytes_of hex_byte
bytes-read [] are = refl
bytes-read (b ∷ bs) are =
    let small = are 0 in
    let whole_byte : 16 * (b / 16) + b % 16 ≡ b = omega arith in
    let both : pair_of (value_of (hex_digit (b / 16))) (value_of (hex_digit (b % 16))) ≡ Some b =
    rw (digit-read (b / 16) (omega (arith, small)), digit-read (b % 16) (omega arith))
    (ap (λ x. Some x) whole_byte) in
    rw (both, bytes-read bs (λ i. are (suc i))) refl

-- ---- texts that lack a byte

abbrev Lacks : ℕ → List ℕ → Type 0
Lacks at [] = ⊤
Lacks at (b ∷ bs) = ((b == at) ≡ false) × Lacks at bs

lacks-more : (at : ℕ) (xs ys : List ℕ) → Lacks at xs → Lacks at ys → Lacks at (xs ++ ys)
lacks-more at [] ys none all = all
lacks-more at (x ∷ xs) ys (first, rest) all = (first, lacks-more at xs ys rest all)

-- no digit
pub record IsOther (at : ℕ) : Type 0 where
  pub differs : (n : ℕ) → n < 16 → (hex_digit n == at) ≡ false

digits-lack : {at : ℕ} → IsOther at → (most n : ℕ) → Lacks at (hex_up_to most n)
unfolding hex_up_to
digits-lack is zero n = tt
digits-lack {at} is (suc most) n = elim (cases_lt n 16) [
  | inl less ↦ rw (lt-ltb n 16 less) (is.differs (n % 16) (omega arith), tt)
  | inr least ↦ rw (le-ltb n 16 least)
      (lacks-more at (hex_up_to most (n / 16)) _ (digits-lack is most (n / 16)) (is.differs (n % 16) (omega arith), tt))
]

lacks-all : (at : ℕ) (xs : List ℕ) → Lacks at xs → prefix_len (other at) xs ≡ length xs
lacks-all at [] none = refl
lacks-all at (x ∷ xs) (first, rest) = rw (first, lacks-all at xs rest) (omega arith)

lacks-front : (at : ℕ) (xs rest : List ℕ) → Lacks at xs → prefix_len (other at) (xs ++ at ∷ rest) ≡ length xs
lacks-front at [] rest none = rw (eq-eqb at at refl) refl
lacks-front at (x ∷ xs) rest (first, others) = rw (first, lacks-front at xs rest others) (omega arith)

take-front : (xs ys : List ℕ) → take (length xs) (xs ++ ys) ≡ xs
take-front [] ys = refl
take-front (x ∷ xs) ys = ap (λ t. x ∷ t) (take-front xs ys)

drop-front : (xs rest : List ℕ) (at : ℕ) → drop (suc (length xs)) (xs ++ at ∷ rest) ≡ rest
drop-front [] rest at = refl
drop-front (x ∷ xs) rest at = drop-front xs rest at

pub cut-none : (at : ℕ) (xs : List ℕ) → Lacks at xs → cut at xs ≡ None
unfolding cut
cut-none at xs lacks = rw (lacks-all at xs lacks, le-ltb (length xs) (length xs) (omega arith)) refl

pub cut-some : (at : ℕ) (xs rest : List ℕ) → Lacks at xs → cut at (xs ++ at ∷ rest) ≡ Some (xs, rest)
unfolding cut
cut-some at xs rest lacks =
    let less : length xs < length (xs ++ at ∷ rest) = rw (length-append xs (at ∷ rest)) (omega arith) in
    let one : length xs + 1 ≡ suc (length xs) = omega arith in
    rw (
      lacks-front at xs rest lacks,
      lt-ltb (length xs) (length (xs ++ at ∷ rest)) less,
      one,
      take-front xs (at ∷ rest),
      drop-front xs rest at,
    ) refl

-- ---- separators are no digits

comma : IsOther 44
unfolding hex_digit
comma = record { differs = λ n less. grind arith }

dot : IsOther 46
unfolding hex_digit
dot = record { differs = λ n less. grind arith }

colon : IsOther 58
unfolding hex_digit
colon = record { differs = λ n less. grind arith }

semicolon : IsOther 59
unfolding hex_digit
semicolon = record { differs = λ n less. grind arith }

minus : IsOther 45
unfolding hex_digit
minus = record { differs = λ n less. grind arith }

-- ---- what follows words

not-all : (xs : List ℕ) → Lacks 45 xs → bytes_eq xs (codes "-1") ≡ false
not-all [] none = refl
not-all (x ∷ xs) (first, rest) = rw first refl

id-read : (i : Id) → IsId i → id_of (id_sent i) ≡ Some i
unfolding id_of
id-read All is = refl
id-read (One n) small = rw (not-all (hex_number n) (digits-lack minus 16 n))
    (ap (λ o. option_map (λ x. One x) o) (number-read n small))

id-lacks : (i : Id) → Lacks 46 (id_sent i)
id-lacks All = (refl, (refl, tt))
id-lacks (One n) = digits-lack dot 16 n

thread-read : (t : Thread) → IsThread t → thread_of (thread_sent t) ≡ Some t
unfolding thread_of
thread-read t is = rw (
  cut-some 46 (id_sent t.process) (id_sent t.thread) (id-lacks t.process),
  id-read t.process is.process,
  id-read t.thread is.thread,
) refl

pair-read : (x y : ℕ) → x < 2 ^ 64 → y < 2 ^ 64
    → part_of (hex_number x ++ (codes "," ++ hex_number y)) ≡ Some (record { from = x; count = y })
unfolding part_of
pair-read x y small less =
    rw (cut-some 44 (hex_number x) (hex_number y) (digits-lack comma 16 x), number-read x small, number-read y less)
    refl

part-lacks : (p : Part) → Lacks 59 (part_sent p)
part-lacks p = lacks-more 59 (hex_number p.from) (codes "," ++ hex_number p.count) (digits-lack semicolon 16 p.from)
    (refl, digits-lack semicolon 16 p.count)

point-read : (p : Part) (text : List ℕ) → IsPart p
    → point_of (part_sent p ++ conditions_sent text) ≡ Some (p, length text)
unfolding point_of
point-read p [] is = rw (
  append-nil (part_sent p),
  cut-none 59 (part_sent p) (part-lacks p),
  pair-read p.from p.count is.from is.count,
) refl
point-read p (b ∷ bs) is =
    rw (cut-some 59 (part_sent p) (b ∷ bs) (part-lacks p), pair-read p.from p.count is.from is.count) refl

program-read : (pid : ℕ) (p : Part) → pid < 2 ^ 64 → IsPart p
    → program_part_of (hex_number pid ++ (codes ":" ++ part_sent p)) ≡ Some (pid, p)
unfolding program_part_of
program-read pid p small is =
    rw (
      cut-some 58 (hex_number pid) (part_sent p) (digits-lack colon 16 pid),
      number-read pid small,
      pair-read p.from p.count is.from is.count,
    ) refl

file-read : (file : ℕ) (p : Part) → file < 2 ^ 64 → IsPart p
    → file_part_of (hex_number file ++ (codes "," ++ (hex_number p.count ++ (codes "," ++ hex_number p.from))))
    ≡ Some (file, p)
unfolding file_part_of
file-read file p small is =
    rw (
      cut-some 44 (hex_number file) (hex_number p.count ++ (codes "," ++ hex_number p.from))
          (digits-lack comma 16 file),
      number-read file small,
      pair-read p.count p.from is.count is.from,
    ) refl

-- ---- packets

rest-read : (p : Packet) (text : List ℕ) → IsSent p text → packet_for (head_of p) (behind_word p text) ≡ Some p
rest-read (packet.Word word) text is = refl
rest-read (packet.Numbered kind n) text is = ap (option_map (λ n. packet.Numbered kind n)) (number-read n is)
rest-read (packet.Threaded kind thread) text is = ap (option_map (λ t. packet.Threaded kind t)) (thread-read thread is)
rest-read (packet.Parted kind part) text is =
    ap (option_map (λ p. packet.Parted kind p)) (pair-read part.from part.count is.from is.count)
rest-read (packet.Texted kind n) text is = ap (λ n. Some (packet.Texted kind n)) is
rest-read (packet.ProgramPath pid part) text is =
    ap (option_map (λ (two : ℕ × Part). packet.ProgramPath two.0 two.1)) (program-read pid part is.0 is.1)
rest-read (packet.ReadFile file part) text is =
    ap (option_map (λ (two : ℕ × Part). packet.ReadFile two.0 two.1)) (file-read file part is.0 is.1)
rest-read (packet.Set kind part n) text is =
    ap (option_map (λ (two : Part × ℕ). packet.Set kind two.0 two.1)) (point-read part text is.0)
    ∙ ap (λ n. Some (packet.Set kind part n)) is.1
rest-read (packet.Clear kind part n) text is =
    ap (option_map (λ (two : Part × ℕ). packet.Clear kind two.0 two.1)) (point-read part text is.0)
    ∙ ap (λ n. Some (packet.Clear kind part n)) is.1

followed : (p : Packet) (text : List ℕ) → IsFollowed (head_of p) (behind_word p text)
followed (packet.Word word) text = refl
followed (packet.Numbered kind n) text = tt
followed (packet.Threaded kind thread) text = tt
followed (packet.Parted kind part) text = tt
followed (packet.Texted kind n) text = tt
followed (packet.ProgramPath pid part) text = tt
followed (packet.ReadFile file part) text = tt
followed (packet.Set kind part n) text = tt
followed (packet.Clear kind part n) text = tt

pub packets-read : PacketsAreRead
unfolding packet_of
packets-read p text is = ap packet_after (headed (head_of p) (behind_word p text) (followed p text))
    ∙ rest-read p text is

-- ---- actions

going-read : (g : Going) → IsGoing g → going_of (going_sent g) ≡ Some g
unfolding going_of
going-read Continue is = refl
going-read Step is = refl
going-read (Range from end) is =
    rw (
      cut-some 44 (hex_number from) (hex_number end) (digits-lack comma 16 from),
      number-read from is.0,
      number-read end is.1,
    ) refl

going-lacks : (g : Going) → Lacks 58 (going_sent g)
going-lacks Continue = (refl, tt)
going-lacks Step = (refl, tt)
going-lacks (Range from end) = (
  refl,
  lacks-more 58 (hex_number from) (codes "," ++ hex_number end) (digits-lack colon 16 from)
      (refl, digits-lack colon 16 end),
)

with-thread : (going : Going) (named_thread : Option Thread) → IsGoing going → IsNamed named_thread
    → action_of (going_sent going ++ named named_thread) ≡ Some (record { going = going; thread = named_thread })
unfolding action_of
with-thread going None is whose =
    rw (append-nil (going_sent going), cut-none 58 (going_sent going) (going-lacks going), going-read going is) refl
with-thread going (Some thread) is whose =
    rw (
      cut-some 58 (going_sent going) (thread_sent thread) (going-lacks going),
      going-read going is,
      thread-read thread whose,
    ) refl

pub actions-read : ActionsAreRead
actions-read a is whose = with-thread a.going a.thread is whose
