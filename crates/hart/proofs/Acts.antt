-- Operations without an access, and those with one.
use Rattle.hart.proofs.Common.{Ram, Access, Acts, Answers, ap, Behind, Bool, Cause, Effect, Err, false, given, Hart}
use Rattle.hart.proofs.Common.{At, Within, Held, KeepsWords, Operates, seen_in, Stored, ◌==◌}
use Rattle.hart.proofs.Common.{eq-eqb, IsLive, KeepsLive, ne_eqb, seen_live, slice_index, ◌%◌, ◌≢◌}
use Rattle.ram.specs.declared.FrameNo.{FrameNo}
use Rattle.hart.proofs.Common.{if◌then◌else◌, inl, IsAnswer, IsKept, Leaves, length, List, Next, None, Ok, Op, op_by}
use Rattle.hart.proofs.Common.{Option, option_map, Page, place_in, refl, seen, Sight, Stop, stored, sym, trap, true}
use Rattle.hart.proofs.Common.{Turns, ℕ, ◌≡◌}
use Rattle.hart.proofs.Steps.{one-answer, walked}
use Rattle.hart.specs.declared.operation.Op.TheVariants as op

pub turned-leaves : (effect : Effect) (answers : Answers) (next : Next) (pc : ℕ) (old new : Hart) (ram : Ram)
    → Turns effect next pc old new → Leaves effect answers next pc old new ram ram
turned-leaves (Ok d) answers next pc old new ram h = (h.0, h.1, h.2, h.3, ap (stored ram answers) (sym h.4))
turned-leaves (Err t) answers next pc old new ram h = (h.0, h.1, refl)

-- whatever the translator returns
acts-unanswered : {held : Held} {meaning : Sight → Effect} {next : Next} {pc : ℕ} {old new : Hart} {ram : Ram}
    → ((answers : Answers) → Leaves (meaning (seen ram answers)) answers next pc old new ram ram)
    → Acts held held meaning next pc old new ram ram
acts-unanswered {old} {ram} does = record {
  answers = walked ram old.root.0;
  allowed = λ access address. inl refl;
  does = does (walked ram old.root.0);
  kept = λ t h. inl h;
  count = refl;
}

-- the meaning looks at one access alone, with this result of the translator
acts-answered : {held held' : Held} {meaning : Sight → Effect} {next : Next} {pc : ℕ} {old new : Hart} {ram ram' : Ram}
    {access : Access} {address : ℕ} (o : Option ℕ)
    → IsAnswer held ram old.root.0 address access (option_map (place_in address) o) → IsKept held held' ram old.root.0
    → length ram' ≡ length ram
    → ((answers : Answers) → answers access address ≡ o
    → Leaves (meaning (seen ram answers)) answers next pc old new ram ram')
    → Acts held held' meaning next pc old new ram ram'
acts-answered {held} {old} {ram} {access} {address} o is kept count does =
    let one = one-answer held ram is in
    record { answers = one.0; allowed = one.1; does = does one.0 one.2; kept = kept; count = count }

-- nothing is stored
reads-only : {held held' : Held} {meaning : Sight → Effect} {next : Next} {pc : ℕ} {old new : Hart} {ram : Ram}
    → Acts held held' meaning next pc old new ram ram → Operates held held' meaning next pc old new ram ram
reads-only acts = record { acts = acts; only = λ f k other. refl }

-- a store to another frame goes on as other operations do
module _ {held held' : Held} {meaning : Sight → Effect} {pc : ℕ} {old new : Hart} {ram ram' : Ram} where
  acts-if : {g : FrameNo} {doubleword : ℕ} (b : Bool)
      → Acts held held' meaning (Stored g doubleword) pc old new ram ram'
      → Acts held held' meaning (if b then Stored g doubleword else Behind) pc old new ram ram'
  acts-if true acts = acts
  acts-if false acts = record {
    answers = acts.answers;
    allowed = acts.allowed;
    does = acts.does;
    kept = acts.kept;
    count = acts.count;
  }

  pub acts-live : (next : Next) (frames : List ℕ) → Acts held held' meaning next pc old new ram ram'
      → Acts held held' meaning (seen_live next frames) pc old new ram ram'
  acts-live Behind frames acts = acts
  acts-live (Stored g doubleword) frames acts = acts-if (slice_index frames (g.0 % 32) == g.0) acts
  acts-live (Within to) frames acts = acts
  acts-live (At to) frames acts = acts
  acts-live (Stop t) frames acts = acts

-- a store that isn't reported is to no frame whose page is known
keeps-if : (frames : List ℕ) (f : ℕ) (g : FrameNo) (doubleword : ℕ) (ram ram' : Ram) (b : Bool)
    → (slice_index frames (g.0 % 32) == g.0) ≡ b → IsLive frames f
    → KeepsWords (seen_in (Stored g doubleword) f) f ram ram'
    → KeepsWords (seen_in (if b then Stored g doubleword else Behind) f) f ram ram'
keeps-if frames f g doubleword ram ram' true is live keeps = keeps
keeps-if frames f g doubleword ram ram' false is live keeps =
    let other : g.0 ≢ f = λ same.
    (let yes : (slice_index frames (g.0 % 32) == g.0) ≡ true = rw same (eq-eqb _ _ live) in cc (is, yes)) in
    rw (ne_eqb g.0 f other) at keeps

pub keeps-live : (next : Next) (frames : List ℕ) (ram ram' : Ram)
    → ((f : ℕ) → KeepsWords (seen_in next f) f ram ram') → KeepsLive (seen_live next frames) frames ram ram'
keeps-live Behind frames ram ram' only f live = only f
keeps-live (Stored g doubleword) frames ram ram' only f live =
    keeps-if frames f g doubleword ram ram' (slice_index frames (g.0 % 32) == g.0) refl live (only f)
keeps-live (Within to) frames ram ram' only f live = only f
keeps-live (At to) frames ram ram' only f live = only f
keeps-live (Stop t) frames ram ram' only f live = only f

-- ---- operations without an access

abbrev pub has_no_access : Op → Bool
has_no_access (op.Lb rd rs1 i) = false
has_no_access (op.Lh rd rs1 i) = false
has_no_access (op.Lw rd rs1 i) = false
has_no_access (op.Ld rd rs1 i) = false
has_no_access (op.Lbu rd rs1 i) = false
has_no_access (op.Lhu rd rs1 i) = false
has_no_access (op.Lwu rd rs1 i) = false
has_no_access (op.Probe o rs1 i) = false
has_no_access (op.Sb rs1 rs2 i) = false
has_no_access (op.Sh rs1 rs2 i) = false
has_no_access (op.Sw rs1 rs2 i) = false
has_no_access (op.Sd rs1 rs2 i) = false
has_no_access o = true

-- the sight of what looks at nothing
abbrev pub blind : Sight
blind access address = None

op_by-without : (o : Op) (regs : List ℕ) (pc : ℕ) (see : Sight) → has_no_access o ≡ true
    → op_by o regs pc see ≡ op_by o regs pc blind
unfolding op_by
op_by-without (op.Lb rd rs1 i) regs pc see h = absurd (cc)
op_by-without (op.Lh rd rs1 i) regs pc see h = absurd (cc)
op_by-without (op.Lw rd rs1 i) regs pc see h = absurd (cc)
op_by-without (op.Ld rd rs1 i) regs pc see h = absurd (cc)
op_by-without (op.Lbu rd rs1 i) regs pc see h = absurd (cc)
op_by-without (op.Lhu rd rs1 i) regs pc see h = absurd (cc)
op_by-without (op.Lwu rd rs1 i) regs pc see h = absurd (cc)
op_by-without (op.Probe o rs1 i) regs pc see h = absurd (cc)
op_by-without (op.Sb rs1 rs2 i) regs pc see h = absurd (cc)
op_by-without (op.Sh rs1 rs2 i) regs pc see h = absurd (cc)
op_by-without (op.Sw rs1 rs2 i) regs pc see h = absurd (cc)
op_by-without (op.Sd rs1 rs2 i) regs pc see h = absurd (cc)
op_by-without _ regs pc see h = refl

pub op_acts : (held : Held) (o : Op) (next : Next) (pc : ℕ) (old new : Hart) (ram : Ram) → has_no_access o ≡ true
    → Turns (op_by o old.registers pc blind) next pc old new
    → Operates held held (op_by o old.registers pc) next pc old new ram ram
op_acts held o next pc old new ram none h =
    reads-only (acts-unanswered (λ answers.
    rw (op_by-without o old.registers pc (seen ram answers) none)
    (turned-leaves (op_by o old.registers pc blind) answers next pc old new ram h)))

-- ---- loads and stores: at a misaligned address, where nothing is found, and in a frame

pub acts-odd : {held : Held} {ram : Ram} {hart : Hart} {even : Bool} (found : Option Page → Effect) (access : Access)
    {cause : Cause} {address pc : ℕ} → even ≡ false
    → Operates held held (λ see. if even then found (see access address) else trap cause address)
    (Stop (record { cause = cause; address = address })) pc hart hart ram ram
acts-odd {held} {ram} {hart} found access {pc} odd = reads-only (acts-unanswered (λ answers. rw odd (refl, refl, refl)))

pub acts-even : {held held' : Held} {ram ram' : Ram} {old new : Hart} {next : Next} {even : Bool}
    (found : Option Page → Effect) (access : Access) (cause : Cause) {address pc : ℕ} (o : Option ℕ) → even ≡ true
    → IsAnswer held ram old.root.0 address access (option_map (place_in address) o) → IsKept held held' ram old.root.0
    → length ram' ≡ length ram → ((f : ℕ) → KeepsWords (seen_in next f) f ram ram')
    → ((answers : Answers) → answers access address ≡ o
    → Leaves (found (option_map (given ram) o)) answers next pc old new ram ram')
    → Operates held held' (λ see. if even then found (see access address) else trap cause address) next pc old new ram
    ram'
acts-even {held} {held'} {ram} {ram'} {old} {new} {next} found access cause {address} {pc} o aligned is kept count only
    does = record {
      acts = acts-answered o is kept count (λ answers same. rw (aligned, same) (does answers same));
      only = only;
    }
