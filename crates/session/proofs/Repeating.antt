-- The events of a run of steps.
use Rattle.std.specs.Prelude.{OnOk, is_ok, IfErr, IsErrOf}
use Rattle.calls.specs.Steps.{IsBusy, IsBusyFor}
use Rattle.machine.specs.Booted.{IsUnbooted}
use Rattle.calls.specs.declared.halt.Halt.{Halt}
use Rattle.machine.proofs.RunLemmas.{Rises-later, SoFar, both, runs_on}
use Rattle.machine.specs.Gives.{IsRefused, RunGives}
use Rattle.machine.specs.View.{IsUp, View}
use Rattle.session.specs.Played.{Advances, IsAsFar, Refuses, Runs, Tells, console_failures, console_of}
use Rattle.session.specs.declared.session.Session.{Session}
use Rattle.unixmodel.specs.Failures.{Rises}
use Rattle.unixmodel.specs.declared.event.Event.{Event}
use Rattle.std.proofs.Common.{◌%◌, ◌+◌, ◌-◌, ◌<◌, [], ap, append-nil, arith, Err, inl, inr, length, List, Ok, Option}
use Rattle.std.proofs.Common.{refl, replicate, Result, Some, subst, sym, true, ℕ, ◌↔◌, ◌∙◌, ◌≡◌, ◌≢◌, ◌≤◌, ◌⊎◌}
use Rattle.std.proofs.lemmas.Bool.{cases_eq, cases_lt}
use Rattle.unixmodel.specs.Run.{run}
use Rattle.std.proofs.lemmas.List.{replicate-append-replicate}
use Rattle.kernel.specs.Idle.{is_idle}
use Rattle.machine.specs.Pieces.{IsPiece}
use Rattle.session.specs.declared.play.Ran.{Ran}
use Rattle.unixmodel.specs.declared.event.Event.TheVariants.{Step}
use Rattle.unixmodel.specs.Calls.{After}
use Rattle.calls.specs.declared.halt.Halt.TheVariants.{Console, Device, Halted, InitEnded}
use Rattle.std.specs.Result.{IsErrAnd}
use Rattle.blockdev.specs.Blocks.{blocks_of}
use Rattle.imagecheck.specs.declared.ImageFault.TheVariants.{Length}
use Rattle.imagerules.specs.Content.{image_of}
use Rattle.imagerules.proofs.Spelling.{image_of-blocks}
use Rattle.machine.specs.declared.fault.BootFault.{BootFault}
use Rattle.machine.specs.declared.fault.BootFault.TheVariants.{FrameCount, Image}

abbrev pub ran_of : ℕ → Result (Unit {0}) Halt → Ran
ran_of steps answer = record { steps = steps; answer = answer }

-- the first steps, and what they make
abbrev pub SoManySteps : View → View → ℕ → Option (List ℕ) → Option (List ℕ) → Type 0
SoManySteps first now n before after = SoFar first now (replicate n Step) before after

-- ---- nobody is idle before the steps

pub busy-at-first : (first : View) → IsBusyFor first.state 0
busy-at-first first k within = absurd (omega arith)

module _ (first now new : View) (most n more : ℕ) (before mid after : Option (List ℕ))
    (h : SoManySteps first now n before mid) where
  busy-behind : (k : ℕ) → (run first.state (replicate (n + k) Step)).state ≡ (run now.state (replicate k Step)).state
  busy-behind k = ap (λ es. (run first.state es).state) (sym (replicate-append-replicate n k Step))
      ∙ ap (λ (a : After). a.state) (both first now (replicate n Step) (replicate k Step) before mid h)

  pub busy-on : IsBusyFor first.state n → IsBusyFor now.state more → IsBusyFor first.state (n + more)
  busy-on so_far busy k within = elim (cases_lt k n) [
    | inl less ↦ so_far k less
    | inr least ↦
        let behind : k ≡ n + (k - n) = omega (arith, least) in
        subst IsBusy (sym (ap (λ j. (run first.state (replicate j Step)).state) behind ∙ busy-behind (k - n)))
        (busy (k - n) (omega (arith, within, least)))
  ]

  runs-behind : (step_rises rises : Type 0) (r : Result (Unit {0}) Halt) → (step_rises → rises)
      → RunGives now new (replicate more Step) mid after step_rises r
      → RunGives first new (replicate (n + more) Step) before after rises r
  runs-behind step_rises rises r rise k =
      subst (λ es. RunGives first new es before after rises r) (replicate-append-replicate n more Step)
      (runs_on first now new (replicate n Step) (replicate more Step) before mid after step_rises rises r h rise k)

  -- more are done
  pub steps-on : (step_rises rises : Type 0) (u : Unit {0}) (r : Result (Unit {0}) Halt) → r ≡ Ok u
      → (step_rises → rises) → RunGives now new (replicate more Step) mid after step_rises r
      → SoManySteps first new (n + more) before after
  steps-on step_rises rises u r ok rise k =
      let all = subst (λ (x : Result (Unit {0}) Halt). RunGives first new (replicate (n + more) Step) before after
      rises x) ok (runs-behind step_rises rises r rise k) in
      record { began = all.0; done = all.1 }

  -- they are the last
  pub ends-by : (step_rises rises : Type 0) (r : Result (Unit {0}) Halt) → IsBusyFor first.state n → n ≤ most
      → (step_rises → rises) → RunGives now new (replicate more Step) mid after step_rises r
      → IsPiece now new (most - n) more r
      → OnOk r (more ≡ 0) → Advances first new most before after rises (ran_of (n + more) r)
  ends-by step_rises rises r busy within rise k piece none = record {
    gives = runs-behind step_rises rises r rise k;
    far = record {
      within = let p = piece.within in omega (arith, p, within);
      busy = busy-on busy piece.busy;
      idle = idle r piece.idle none;
    };
  } where
    idle : (x : Result (Unit {0}) Halt) → OnOk x (more ≡ 0 → is_idle new.state ≡ true) → OnOk x (more ≡ 0)
        → OnOk x (n + more < most → is_idle new.state ≡ true)
    idle (Ok u) still none = λ less. still none
    idle (Err halt) still none = tt

-- all were done
pub ends : (first now : View) (most n : ℕ) (before after : Option (List ℕ)) (rising : Type 0)
    → SoManySteps first now n before after → IsBusyFor first.state n → n ≤ most → most ≤ n
    → Advances first now most before after rising (ran_of n (Ok tt))
ends first now most n before after rising h busy within all =
    record {
      gives = (h.began, h.done);
      far = record { within = within; busy = busy; idle = λ less. absurd (omega (arith, less, all)) };
    }

-- ---- the run of a session

-- where the disk never fails, no answer blames it
tells-of : (old new : View) (events : List Event) (xs ys : List ℕ) (rising : Type 0) (r : Result (Unit {0}) Halt)
    → new.failures ≡ 0 → RunGives old new events (Some xs) (Some ys) rising r → Tells old new events xs ys rising r
tells-of old new events xs ys rising (Ok u) zero k = k
tells-of old new events xs ys rising (Err (InitEnded status)) zero k = k
tells-of old new events xs ys rising (Err Device) zero k =
    absurd (let more = k.1.fails.rises in omega (arith, more, zero))
tells-of old new events xs ys rising (Err Console) zero k = k
tells-of old new events xs ys rising (Err Halted) zero k = k

-- a run of a machine that takes events never returns `Halted`
never : (old new : View) (events : List Event) (before after : Option (List ℕ)) (rising : Type 0) (n : ℕ)
    (r : Result (Unit {0}) Halt) → IsUp old → RunGives old new events before after rising r → IsErrOf r Halted → n ≡ 0
never old new events before after rising n (Ok u) up k is = absurd cc
never old new events before after rising n (Err (InitEnded status)) up k is = absurd cc
never old new events before after rising n (Err Device) up k is = absurd cc
never old new events before after rising n (Err Console) up k is = absurd cc
never old new events before after rising n (Err Halted) up k is = absurd (k.stopped up)

-- the run of a session whose machine takes events
pub runs-on : {old new : Session} {most : ℕ} {ran : Ran} → IsUp old.machine → new.machine.failures ≡ 0
    → Advances old.machine new.machine most (Some (console_of old)) (Some (console_of new))
    (Rises (console_failures old) (console_failures new)) ran → Runs old new most ran
runs-on {old} {new} {ran} up zero a =
    let steps : List Event = replicate ran.steps Step in
    let rises : Type 0 = Rises (console_failures old) (console_failures new) in
    record {
      answers = tells-of old.machine new.machine steps (console_of old) (console_of new) rises ran.answer zero a.gives;
      far = a.far;
      none = never old.machine new.machine steps (Some (console_of old)) (Some (console_of new)) rises ran.steps
          ran.answer up a.gives;
    }

-- a machine that had stopped
pub refused : (old new : View) (xs ys : List ℕ) → (IsUp old → ⊥) → new ≡ old → ys ≡ xs
    → IsRefused old new (Some xs) (Some ys)
refused old new xs ys stopped same bytes =
    record { stopped = stopped; same = same; printed = bytes ∙ sym (append-nil xs) }

-- ---- why a session doesn't begin, and the bytes of its disk

-- bytes that are not whole blocks
pub length-refused : (image : List ℕ) (frames : ℕ) → length image % 1024 ≢ 0 → Refuses image frames (Image Length)
length-refused image frames odd =
    (tt, λ h. odd (let w = h.whole in omega arith), λ files d. odd (let w = d.super.whole in omega arith))

fault-refused : {D : Type 0} (identity : D → List ℕ) (at : D) (image : List ℕ) (frames : ℕ) (f : BootFault)
    → IsUnbooted identity (λ d. 0) at image frames f → Refuses image frames f
fault-refused identity at image frames BootFault.Device why = absurd (let rises = why.1.rises in omega (arith, rises))
fault-refused identity at image frames _ why = why

-- what holds of a fault holds of the result that passes it on
pub refused-on : {T D : Type 0} (identity : D → List ℕ) (at : D) (image disk : List ℕ) (frames : ℕ)
    (r : Result T BootFault) (f : BootFault) → IsErrAnd r (λ e. e ≡ f) → disk ≡ image
    → IsUnbooted identity (λ d. 0) at disk frames f → IfErr r (Refuses image frames)
refused-on identity at image disk frames (Ok x) f is same why = tt
refused-on identity at image disk frames (Err e) f is same why =
    subst (Refuses image frames) (sym is)
    (fault-refused identity at image frames f
    (subst (λ (bs : List ℕ). IsUnbooted identity (λ d. 0) at bs frames f) same why))

-- where a machine booted the count of frames was in range
pub counted : {T : Type 0} (x : T) (frames : ℕ) → 64 ≤ frames → frames ≤ 32768
    → IsErrOf {T = T} (Ok x) FrameCount ↔ ((frames < 64) ⊎ (32768 < frames))
counted x frames least most = (λ e. absurd cc, λ out. absurd (outside out)) where
  outside : ((frames < 64) ⊎ (32768 < frames)) → ⊥
  outside (inl low) = omega (arith, low, least)
  outside (inr high) = omega (arith, high, most)

-- ---- the bytes of a disk

whole-unless : (n : ℕ) (E : Type 0) → (E → ⊥) → (n ≢ 0 → E) → n ≡ 0
whole-unless n E none odd = elim (cases_eq n 0) [ inl whole ↦ whole | inr not ↦ absurd (none (odd not)) ]

-- a disk that was made of a copy
pub disk-image : (image bytes disk : List ℕ) (len : ℕ) → bytes ≡ image → disk ≡ bytes → len ≡ length image
    → len % 1024 ≡ 0 → image_of (blocks_of disk) ≡ image
disk-image image bytes disk len copy made is whole =
    ap (λ bs. image_of (blocks_of bs)) (made ∙ copy) ∙ image_of-blocks image (ap (λ n. n % 1024) (sym is) ∙ whole)

-- a disk that was made of a copy, which is refused only where its bytes are not whole blocks
pub copied : {image bytes disk : List ℕ} {len : ℕ} {E : Type 0} → (len % 1024 ≢ 0 → E) → (E → ⊥) → bytes ≡ image
    → disk ≡ bytes → len ≡ length image → image_of (blocks_of disk) ≡ image
copied {image} {bytes} {disk} {len} {E} odd none copy made is =
    disk-image image bytes disk len copy made is (whole-unless (len % 1024) E none odd)
