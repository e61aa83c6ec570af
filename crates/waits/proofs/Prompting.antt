-- Who is alive above a pid, and whether that is a prompt.
use Rattle.std.proofs.Common.{None, Option, Some, arith, false, inl, inr, is_some, refl, true, ℕ, ◌<◌, ◌≡◌}
use Rattle.std.proofs.Common.{◌≤◌}
use Rattle.std.proofs.lemmas.Bool.{cases_lt}
use Rattle.kernel.specs.Idle.{is_idle}
use Rattle.proc.specs.Next.{IsLeastAbove, IsNextOf, NoneAbove}
use Rattle.unixmodel.specs.declared.process.Mode.{Mode}
use Rattle.unixmodel.specs.declared.process.Mode.TheVariants as mode
use Rattle.unixmodel.specs.Process.{Process}
use Rattle.unixmodel.specs.Shown.{shown_process}
use Rattle.unixmodel.specs.State.{State, holds}
use Rattle.waits.specs.Prompts.{IsAtPrompt, is_alive, is_console, is_living, reads_console}
use Rattle.waits.specs.Waits.{wait_at}

-- ---- the next one that is alive

-- none is alive above one pid up to another
pub record NoneUpTo (s : State) (after last : ℕ) : Type 0 where
  pub later : after ≤ last
  pub none : (pid : ℕ) → after < pid → pid ≤ last → is_alive s pid ≡ false

living-none : (p : Option Process) → is_some p ≡ false → holds is_living p ≡ false
living-none None e = refl
living-none (Some p) e = absurd (cc)

-- where no process is, none is alive
gone : (s : State) (pid : ℕ) → is_some (shown_process s pid) ≡ false → is_alive s pid ≡ false
gone s pid e = living-none (shown_process s pid) e

pub none-yet : (s : State) (after : ℕ) → NoneUpTo s after after
none-yet s after = record { later = omega arith; none = λ pid above below. absurd (omega (arith, above, below)) }

module _ {s : State} {after last : ℕ} (h : NoneUpTo s after last) where
  -- there are no more processes
  pub none-at-all : NoneAbove (λ pid. is_some (shown_process s pid)) last → NoneAbove (is_alive s) after
  none-at-all none pid above = elim (cases_lt last pid) [
    | inl more ↦ gone s pid (none pid more)
    | inr less ↦ h.none pid above less
  ]

  module _ {next : ℕ} (least : IsLeastAbove (λ pid. is_some (shown_process s pid)) last next) where
    none-between : (pid : ℕ) → after < pid → pid < next → is_alive s pid ≡ false
    none-between pid above below = elim (cases_lt last pid) [
      | inl more ↦ gone s pid (least.between pid more below)
      | inr less ↦ h.none pid above less
    ]

    -- the next one is alive
    pub next-is : is_alive s next ≡ true → IsLeastAbove (is_alive s) after next
    next-is alive = record {
      above = (let e = h.later in let f = least.above in omega (arith, e, f));
      stands =
          alive;
      between = none-between;
    }

    up-to : is_alive s next ≡ false → (pid : ℕ) → after < pid → pid ≤ next → is_alive s pid ≡ false
    up-to ended pid above within = elim (cases_lt pid next) [
      | inl less ↦ none-between pid above less
      | inr more ↦ (let e : pid ≡ next = omega (arith, within, more) in rw e ended)
    ]

    -- it has ended
    pub next-ended : is_alive s next ≡ false → NoneUpTo s after next
    next-ended ended = record {
      later = (let e = h.later in let f = least.above in omega (arith, e, f));
      none =
          up-to ended;
    }

-- ---- the prompt

reading-lives : (s : State) (p : Process) (m : Mode) → p.mode ≡ m → is_console (wait_at s p) ≡ true → is_living p ≡ true
reading-lives s p mode.Running is reads = rw is refl
reading-lives s p mode.Ready is reads = rw is refl
reading-lives s p (mode.Waiting w) is reads = rw is refl
reading-lives s p (mode.Zombie status) is reads = absurd (let bad = rw is at reads in cc)

-- who reads is alive
reads-alive : (s : State) (pid : ℕ) → reads_console s pid ≡ true → is_alive s pid ≡ true
reads-alive s pid reads = of (shown_process s pid) refl
  where
    of : (p : Option Process) → shown_process s pid ≡ p → is_alive s pid ≡ true
    of None is = absurd (let bad = rw is at reads in cc)
    of (Some p) is = let it = rw is at reads in rw is (reading-lives s p p.mode refl it)

-- no process above the shell is alive, and none between process 1 and it
shell-alone : (s : State) (shell : ℕ) → IsLeastAbove (is_alive s) 1 shell → NoneAbove (is_alive s) shell
    → (pid : ℕ) → 1 < pid → is_alive s pid ≡ true → pid ≡ shell
shell-alone s shell least none pid above alive = elim (cases_lt pid shell) [
  | inl less ↦ absurd (let e = least.between pid above less in cc)
  | inr more ↦ elim (cases_lt shell pid) [
    | inl beyond ↦ absurd (let e = none pid beyond in cc)
    | inr within ↦ omega (arith, more, within)
  ]
]

module _ {s : State} (idle : is_idle s ≡ true) where
  -- process 1 is the only one
  pub first-prompts : NoneAbove (is_alive s) 1 → reads_console s 1 ≡ true → IsAtPrompt s
  first-prompts none reads = record {
    idle = idle;
    shell = 1;
    named = omega arith;
    reads = reads;
    alone = λ pid above alive. absurd (let e = none pid above in cc);
  }

  module _ {shell : ℕ} (least : IsLeastAbove (is_alive s) 1 shell) where
    -- there is one besides process 1, and no other
    pub shell-prompts : (next : Option ℕ) → IsNextOf (is_alive s) shell next → is_some next ≡ false
        → reads_console s shell ≡ true → IsAtPrompt s
    shell-prompts None none is reads = record {
      idle = idle;
      shell = shell;
      named = (let e = least.above in omega (arith, e));
      reads = reads;
      alone = shell-alone s shell least none;
    }
    shell-prompts (Some other) more is reads = absurd (cc)

module _ {s : State} (h : IsAtPrompt s) where
  -- no process is alive but process 1
  pub reads-first : NoneAbove (is_alive s) 1 → reads_console s 1 ≡ true
  reads-first none = elim (cases_lt 1 h.shell) [
    | inl above ↦ absurd (let e = none h.shell above in let f = reads-alive s h.shell h.reads in cc)
    | inr within ↦ (let n = h.named in let e : h.shell ≡ 1 = omega (arith, within, n) in rw (← e) h.reads)
  ]

  module _ {shell : ℕ} (least : IsLeastAbove (is_alive s) 1 shell) where
    same : shell ≡ h.shell
    same = h.alone shell least.above least.stands

    -- the one besides process 1 doesn't read
    pub no-shell : reads_console s shell ≡ false → ⊥
    no-shell elsewhere = absurd (let reads : reads_console s shell ≡ true = rw same h.reads in cc)

    -- another one is alive
    other-lives : {other : ℕ} → IsLeastAbove (is_alive s) shell other → ⊥
    other-lives {other} more =
        let a = least.above in
        let b = more.above in
        let e = h.alone other (omega (arith, a, b)) more.stands in
        let f = same in
        absurd (omega (arith, b, e, f))

    pub no-other : (next : Option ℕ) → IsNextOf (is_alive s) shell next → is_some next ≡ true → ⊥
    no-other None none is = absurd (cc)
    no-other (Some other) more is = other-lives more
