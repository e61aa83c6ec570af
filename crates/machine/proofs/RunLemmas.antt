-- How a run goes on by one step or by other events.
use Rattle.machine.proofs.Common.{[], After, ap, append-nil, Appends-nil, arith, Console, Device, drop, Err, false}
use Rattle.machine.proofs.Common.{Halt, Halted, InitEnded, is_err, IsDone, IsUp, length, length-append, List, next}
use Rattle.machine.proofs.Common.{None, Ok, OnOk, Option, refl, Result, RunGives, Some, State, StepGives, subst, sym}
use Rattle.machine.proofs.Common.{take, take-append-drop, take-append-le, true, View, ℕ, ℤ, ◌++◌, ◌+◌, ◌<◌, ◌∙◌, ◌∷◌}
use Rattle.machine.proofs.Common.{◌≡◌}
use Rattle.unixmodel.specs.declared.event.Event.{Event}
use Rattle.console.proofs.Lines.{begins_more}
use Rattle.calls.proofs.Pieces.{run-append, run-more, then_runs}
use Rattle.unixmodel.specs.Run.{after_bytes, run}
use Rattle.std.proofs.Math.Seq.{take-append-add}
pub use Rattle.calls.proofs.Pieces.{Rises-later, then_begins}
use Rattle.std.proofs.KnownBytes.{Appends-kept, Appends-trans}
use Rattle.std.specs.Io.KnownBytes.{Keeps}

-- all events so far are done as the model says, and the machine takes more
pub record SoFar (first now : View) (events : List Event) (before after : Option (List ℕ)) : Type 0 where
  pub began : IsUp first
  pub done : IsDone first now (run first.state events) before after None

pub up_now : (first now : View) (events : List Event) (before after : Option (List ℕ))
    → SoFar first now events before after → IsUp now
up_now first now events before after h = record { sound = h.done.sound; goes = rw h.done.state h.done.halts }

-- before the first event
pub so_far_at_first : (first : View) (at : Option (List ℕ)) → IsUp first → SoFar first first [] at at
unfolding run
so_far_at_first first at up =
    record {
      began = up;
      done = record {
        state = refl;
        halts = up.goes;
        sound = up.sound;
        printed = Appends-nil at;
        same_device = refl;
        later = omega arith;
      };
    }

-- ---- a run over two lists of events

-- the model's run over both
pub both : (first now : View) (xs ys : List Event) (before mid : Option (List ℕ)) → SoFar first now xs before mid
    → run first.state (xs ++ ys) ≡ after_bytes (run first.state xs).bytes (run now.state ys)
unfolding run
both first now xs ys before mid h =
    let goes : then_runs ys (run first.state xs) (run first.state xs).state.halted
    ≡ after_bytes (run first.state xs).bytes (run (run first.state xs).state ys) = rw h.done.halts refl in
    run-append xs ys first.state h.began.goes ∙ goes
    ∙ ap (λ s. after_bytes (run first.state xs).bytes (run s ys)) (sym h.done.state)

-- what the first events print is a beginning of what all print
pub begins_both : (xs ys : List Event) (s : State) → s.halted ≡ None
    → (rest : List ℕ) × ((run s xs).bytes ++ rest ≡ (run s (xs ++ ys)).bytes)
begins_both xs ys s up = rw (run-append xs ys s up) (then_begins ys (run s xs) (run s xs).state.halted)

module _ (first now new : View) (xs ys : List Event) (before mid after : Option (List ℕ)) where
  done_both : (r : Option ℤ) → SoFar first now xs before mid → IsDone now new (run now.state ys) mid after r
      → IsDone first new (run first.state (xs ++ ys)) before after r
  done_both r h k = rw (both first now xs ys before mid h) (record {
    state = k.state;
    halts = k.halts;
    sound = k.sound;
    printed = Appends-trans _ _ _ _ _ h.done.printed k.printed;
    same_device = k.same_device ∙ h.done.same_device;
    later = let l = h.done.later in let m = k.later in omega arith;
  })

  -- a run that goes on
  pub goes_on_by : SoFar first now xs before mid → IsDone now new (run now.state ys) mid after None
      → SoFar first new (xs ++ ys) before after
  goes_on_by h k = record { began = h.began; done = done_both None h k }

  front-both : SoFar first now xs before mid → (n : ℕ)
      → run first.state (take (length xs + n) (xs ++ ys))
      ≡ after_bytes (run first.state xs).bytes (run now.state (take n ys))
  front-both h n = ap (run first.state) (take-append-add xs ys n) ∙ both first now xs (take n ys) before mid h

  -- a run that stops
  pub stops_in : (step_rises rises : Type 0) (halt : Halt) → SoFar first now xs before mid → (step_rises → rises)
      → RunGives now new ys mid after step_rises (Err halt)
      → RunGives first new (xs ++ ys) before after rises (Err halt)
  stops_in step_rises rises (InitEnded status) h r k = (h.began, done_both (Some status) h k.1)
  stops_in step_rises rises Device h r k = (
    h.began,
    record {
      done = length xs + k.1.done;
      more = rw (length-append xs ys) (let m = k.1.more in omega arith);
      goes = rw (front-both h k.1.done) k.1.goes;
      fails = rw (front-both h k.1.done) (record {
        rises = Rises-later _ _ _ h.done.later k.1.fails.rises k.1.fails.later;
        later = let l = h.done.later in let m = k.1.fails.later in omega arith;
        failed = k.1.fails.failed;
        printed = Appends-trans _ _ _ _ _ h.done.printed k.1.fails.printed;
        same_device = k.1.fails.same_device ∙ h.done.same_device;
      });
    },
  )
  stops_in step_rises rises Console h r k = (
    h.began,
    record {
      rises = r k.1.rises;
      failed = k.1.failed;
      printed = rw (both first now xs ys before mid h)
          (begins_more before mid after _ _ [] _ h.done.printed k.1.printed (append-nil _));
      done = length xs + k.1.done;
      more = rw (length-append xs ys) (let m = k.1.more in omega arith);
      goes = rw (front-both h k.1.done) k.1.goes;
      files = rw (front-both h k.1.done) k.1.files;
      same_device = k.1.same_device ∙ h.done.same_device;
      later = let l = h.done.later in let m = k.1.later in omega arith;
    },
  )
  stops_in step_rises rises Halted h r k = absurd (k.stopped (up_now first now xs before mid h))

-- a run that stopped returns the same whatever events follow
pub stops_before : (old new : View) (ys zs : List Event) (before after : Option (List ℕ)) (rises : Type 0) (halt : Halt)
    → RunGives old new ys before after rises (Err halt) → RunGives old new (ys ++ zs) before after rises (Err halt)
stops_before old new ys zs before after rises (InitEnded status) k =
    let whole : run old.state (ys ++ zs) ≡ run old.state ys = run-append ys zs old.state k.0.goes ∙ rw k.1.halts refl in
    (k.0, rw whole k.1)
stops_before old new ys zs before after rises Device k =
    let front : take k.1.done (ys ++ zs) ≡ take k.1.done ys =
    take-append-le k.1.done ys zs (let m = k.1.more in omega arith) in (
      k.0,
      record {
        done = k.1.done;
        more = rw (length-append ys zs) (let m = k.1.more in omega arith);
        goes = rw front k.1.goes;
        fails = rw front k.1.fails;
      },
    )
stops_before old new ys zs before after rises Console k =
    let front : take k.1.done (ys ++ zs) ≡ take k.1.done ys =
    take-append-le k.1.done ys zs (let m = k.1.more in omega arith) in
    let more = begins_both ys zs old.state k.0.goes in (
      k.0,
      record {
        rises = k.1.rises;
        failed = k.1.failed;
        printed = begins_more before before after [] _ more.0 _ (Appends-nil before) k.1.printed more.1;
        done = k.1.done;
        more = rw (length-append ys zs) (let m = k.1.more in omega arith);
        goes = rw front k.1.goes;
        files = rw front k.1.files;
        same_device = k.1.same_device;
        later = k.1.later;
      },
    )
stops_before old new ys zs before after rises Halted k = k

-- ---- one step, which is a run over one event

run-one : (s : State) (e : Event) → s.halted ≡ None → run s (e ∷ []) ≡ next s e
unfolding run
run-one s e up = run-more [] e s up up

pub step-runs : (old new : View) (e : Event) (before after : Option (List ℕ)) (rises : Type 0)
    (r : Result (Unit {0}) Halt) → StepGives old new (next old.state e) before after rises r
    → RunGives old new (e ∷ []) before after rises r
unfolding run
step-runs old new e before after rises (Ok u) k = (k.0, rw (run-one old.state e k.0.goes) k.1)
step-runs old new e before after rises (Err (InitEnded status)) k = (k.0, rw (run-one old.state e k.0.goes) k.1)
step-runs old new e before after rises (Err Device) k =
    (k.0, record { done = 0; more = omega arith; goes = k.0.goes; fails = k.1 })
step-runs old new e before after rises (Err Console) k = (
  k.0,
  record {
    rises = k.1.rises;
    failed = k.1.failed;
    printed = rw (run-one old.state e k.0.goes) k.1.printed;
    done = 0;
    more = omega arith;
    goes = k.0.goes;
    files = k.1.files;
    same_device = k.1.same_device;
    later =
        rw k.1.same (omega arith);
  },
)
step-runs old new e before after rises (Err Halted) k = k

-- a step that is done
pub done_more : (first now new : View) (xs : List Event) (e : Event) (before mid after : Option (List ℕ)) (r : Option ℤ)
    → SoFar first now xs before mid → IsDone now new (next now.state e) mid after r
    → IsDone first new (run first.state (xs ++ e ∷ [])) before after r
done_more first now new xs e before mid after r h k =
    done_both first now new xs (e ∷ []) before mid after r h
    (rw (run-one now.state e (up_now first now xs before mid h).goes) k)

-- a step that goes on
pub goes_on : (first now new : View) (i : ℕ) (es : List Event) (e : Event) (before mid after : Option (List ℕ))
    → i < length es → take (i + 1) es ≡ take i es ++ e ∷ []
    → SoFar first now (take i es) before mid → IsDone now new (next now.state e) mid after None
    → SoFar first new (take (i + 1) es) before after
goes_on first now new i es e before mid after more is h k =
    rw is (record { began = h.began; done = done_more first now new (take i es) e before mid after None h k })

-- a step that stops a run
pub stops : (first now new : View) (i : ℕ) (es : List Event) (e : Event) (before mid after : Option (List ℕ))
    (step_rises rises : Type 0) (halt : Halt)
    → i < length es → take (i + 1) es ≡ take i es ++ e ∷ []
    → SoFar first now (take i es) before mid
    → (step_rises → rises)
    → StepGives now new (next now.state e) mid after step_rises (Err halt)
    → RunGives first new es before after rises (Err halt)
stops first now new i es e before mid after step_rises rises halt more is h r k =
    let whole : (take i es ++ e ∷ []) ++ drop (i + 1) es ≡ es = ap (λ xs. xs ++ drop (i + 1) es) (sym is)
    ∙ take-append-drop (i + 1) es in
    subst (λ xs. RunGives first new xs before after rises (Err halt)) whole
    (stops_before first new (take i es ++ e ∷ []) (drop (i + 1) es) before after rises halt
    (stops_in first now new (take i es) (e ∷ []) before mid after step_rises rises halt h r
    (step-runs now new e mid after step_rises (Err halt) k)))

-- ---- how a run over some events goes on over others

-- the bytes are written out
pub done-kept : {first now : View} {all : After} {before mid after : Option (List ℕ)} {r : Option ℤ}
    → IsDone first now all before mid r → Keeps mid after → IsDone first now all before after r
done-kept h keeps = record {
  state = h.state;
  halts = h.halts;
  sound = h.sound;
  printed = Appends-kept _ _ _ _ h.printed keeps;
  same_device = h.same_device;
  later = h.later;
}

pub so-far-kept : {first now : View} {es : List Event} {before mid after : Option (List ℕ)}
    → SoFar first now es before mid → Keeps mid after → SoFar first now es before after
so-far-kept h keeps = record { began = h.began; done = done-kept h.done keeps }

-- a result that is passed on
pub ends_with : (old new : View) (all ys zs : List Event) (before after : Option (List ℕ)) (rises : Type 0)
    (r : Result (Unit {0}) Halt) (given halt : Halt) → all ≡ ys ++ zs → r ≡ Err given → given ≡ halt
    → RunGives old new ys before after rises (Err halt) → RunGives old new all before after rises r
ends_with old new all ys zs before after rises r given halt whole is same k =
    rw (whole, is, same) (stops_before old new ys zs before after rises halt k)

-- a run that is followed by a second returns what the second does
pub runs_on : (first now new : View) (xs ys : List Event) (before mid after : Option (List ℕ))
    (step_rises rises : Type 0)
    (r : Result (Unit {0}) Halt) → SoFar first now xs before mid → (step_rises → rises)
    → RunGives now new ys mid after step_rises r → RunGives first new (xs ++ ys) before after rises r
runs_on first now new xs ys before mid after step_rises rises (Ok u) h r k =
    let d = goes_on_by first now new xs ys before mid after h k.1 in
    (d.began, d.done)
runs_on first now new xs ys before mid after step_rises rises (Err halt) h r k =
    stops_in first now new xs ys before mid after step_rises rises halt h r k

-- a result that was tested
pub ok-of : (r : Result (Unit {0}) Halt) → is_err r ≡ false → r ≡ Ok tt
ok-of (Ok u) good = refl
ok-of (Err why) good = absurd (cc)

pub on-err : (P : Type 0) (r : Result (Unit {0}) Halt) → is_err r ≡ true → OnOk r P
on-err P (Ok u) bad = absurd (cc)
on-err P (Err why) bad = tt

pub on-all : (P : Type 0) (r : Result (Unit {0}) Halt) → P → OnOk r P
on-all P (Ok u) p = p
on-all P (Err why) p = tt
