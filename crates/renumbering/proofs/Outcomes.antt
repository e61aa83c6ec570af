-- What a call comes to, with other numbers of open files and pipes.
use Rattle.std.proofs.Common.{ap, Bool, false, None, Option, refl, Some, subst, sym, true, ℕ, ◌∙◌, ◌≡◌}
use Rattle.std.specs.Prelude.{if◌then◌else◌, is_some, option_map}
use Rattle.renumbering.proofs.Slots.{slot-map}
use Rattle.renumbering.proofs.States.{Fits, Seen, View, within-in}
use Rattle.renumbering.specs.Renumbered.{file_moved, process_moved}
use Rattle.unixmodel.specs.Counts.{is_within}
use Rattle.unixmodel.specs.FileCalls.{descriptor}
use Rattle.unixmodel.specs.Files.{slot}
use Rattle.unixmodel.specs.Numbers.{low}
use Rattle.unixmodel.specs.OpenFiles.{OpenFile}
use Rattle.unixmodel.specs.Outcome.{Outcome, given, limited, provided}
use Rattle.unixmodel.specs.Outcome.Outcome.{Done, Ends, Refused, Waits}
use Rattle.unixmodel.specs.Process.{Process}
use Rattle.unixmodel.specs.State.{State}

-- ---- outcomes

-- what a call comes to in each of the two
abbrev pub Agrees : Outcome → Outcome → Type 0
Agrees Refused Refused = Unit {0}
Agrees (Done s answer bytes) (Done t other more) = Seen s t × (other ≡ answer) × (more ≡ bytes)
Agrees (Waits s w) (Waits t x) = Seen s t × (x ≡ w)
Agrees (Ends s status) (Ends t other) = Seen s t × (other ≡ status)
Agrees _ _ = ⊥

-- what is found, and what is made of it
pub agrees-given : {X Y : Type 0} (f : X → Y) (o : Option X) (u : Option Y) (rest : X → Outcome) (more : Y → Outcome)
    → u ≡ option_map f o → ((x : X) → o ≡ Some x → Agrees (rest x) (more (f x)))
    → Agrees (given o rest) (given u more)
agrees-given f None u rest more is agrees = subst (λ x. Agrees Refused (given x more)) (sym is) tt
agrees-given f (Some x) u rest more is agrees =
    subst (λ y. Agrees (rest x) (given y more)) (sym is) (agrees x refl)

-- what is the same
pub agrees-same : {X : Type 0} (o u : Option X) (rest more : X → Outcome) → u ≡ o
    → ((x : X) → o ≡ Some x → Agrees (rest x) (more x)) → Agrees (given o rest) (given u more)
agrees-same None u rest more is agrees = subst (λ x. Agrees Refused (given x more)) (sym is) tt
agrees-same (Some x) u rest more is agrees =
    subst (λ y. Agrees (rest x) (given y more)) (sym is) (agrees x refl)

-- what is there or not in both
pub agrees-both : {X : Type 0} (o u : Option X) (rest more : X → Outcome) → is_some u ≡ is_some o
    → ((x y : X) → o ≡ Some x → u ≡ Some y → Agrees (rest x) (more y)) → Agrees (given o rest) (given u more)
agrees-both None None rest more same agrees = tt
agrees-both None (Some y) rest more same agrees = absurd cc
agrees-both (Some x) None rest more same agrees = absurd cc
agrees-both (Some x) (Some y) rest more same agrees = agrees x y refl refl

-- what a descriptor names, and what an open file's number
module _ {v : View} {s : State} (fits : Fits v s) where
  pub agrees-named : (p : Process) (a : ℕ) (rest more : ℕ → Outcome)
      → ((k : ℕ) → descriptor p a ≡ Some k → Agrees (rest k) (more (v.files.there k)))
      → Agrees (given (descriptor p a) rest) (given (descriptor (process_moved v.files p) a) more)
  agrees-named p a rest more agrees = agrees-given v.files.there (descriptor p a) _ rest more
      (slot-map v.files.there p.descriptors (low a)) agrees

  pub agrees-open : (k : ℕ) (rest more : OpenFile → Outcome)
      → ((f : OpenFile) → slot s.opens k ≡ Some f → Agrees (rest f) (more (file_moved v.pipes f)))
      → Agrees (given (slot s.opens k) rest) (given (slot v.opens (v.files.there k)) more)
  agrees-open k rest more agrees =
      agrees-given (file_moved v.pipes) (slot s.opens k) _ rest more (fits.opens.holds k) agrees

pub agrees-provided : (test other : Bool) (rest more : Outcome) → other ≡ test → Agrees rest more
    → Agrees (provided test rest) (provided other more)
agrees-provided true other rest more is agrees = subst (λ b. Agrees rest (provided b more)) (sym is) agrees
agrees-provided false other rest more is agrees = subst (λ b. Agrees Refused (provided b more)) (sym is) tt

pub agrees-either : (test other : Bool) (one two first second : Outcome) → other ≡ test → Agrees one first
    → Agrees two second
    → Agrees (if test then one else two) (if other then first else second)
agrees-either true other one two first second is left right =
    subst (λ b. Agrees one (if b then first else second)) (sym is) left
agrees-either false other one two first second is left right =
    subst (λ b. Agrees two (if b then first else second)) (sym is) right

pub agrees-limited : (o u : Outcome) → Agrees o u → Agrees (limited o) (limited u)
agrees-limited Refused Refused agrees = tt
agrees-limited (Done s answer bytes) (Done t other more) agrees =
    agrees-provided (is_within s) (is_within t) (Done s answer bytes) (Done t other more)
    (ap is_within agrees.0.is ∙ within-in agrees.0.fits) agrees
agrees-limited (Waits s w) (Waits t x) agrees = agrees
agrees-limited (Ends s status) (Ends t other) agrees = agrees
agrees-limited Refused (Done t other more) agrees = absurd agrees
agrees-limited Refused (Waits t x) agrees = absurd agrees
agrees-limited Refused (Ends t other) agrees = absurd agrees
agrees-limited (Done s answer bytes) Refused agrees = absurd agrees
agrees-limited (Done s answer bytes) (Waits t x) agrees = absurd agrees
agrees-limited (Done s answer bytes) (Ends t other) agrees = absurd agrees
agrees-limited (Waits s w) Refused agrees = absurd agrees
agrees-limited (Waits s w) (Done t other more) agrees = absurd agrees
agrees-limited (Waits s w) (Ends t other) agrees = absurd agrees
agrees-limited (Ends s status) Refused agrees = absurd agrees
agrees-limited (Ends s status) (Done t other more) agrees = absurd agrees
agrees-limited (Ends s status) (Waits t x) agrees = absurd agrees
