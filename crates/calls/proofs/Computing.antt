-- Instructions of the process that runs, up to a call or a fault, and no further than to a stop.
use Rattle.calls.proofs.Common.{After, ap, arith, cases_lt, Err, inl, inr, IsKernel, Kernel, List, None, Ok, Option}
use Rattle.calls.proofs.Common.{Runner, runner-of, running-state, Some, Spaces, state_of, suc, true, false, zero, ℕ}
use Rattle.calls.proofs.Common.{◌<◌, ◌∙◌, ◌≡◌, ◌≤◌, refl}
use Rattle.calls.proofs.Pieces.{run-advances}
use Rattle.calls.proofs.Takes.{effect-is}
use Rattle.calls.specs.Computing.{after_steps, Computes, computes, computes_as, is_at, is_done, stands_at}
use Rattle.hart.specs.Stops.{EndsAt, IsPast, is_stop}
use Rattle.kernel.proofs.Steps.{advances-on}
use Rattle.kernel.proofs.Turning.{running-me}
use Rattle.spaces.proofs.SpacesLemmas.{advances-last}
use Rattle.spaces.specs.Instructions.{Advances}
use Rattle.spaces.specs.Spaces.{cycle_at}
use Rattle.std.specs.Prelude.{IfNone, IfSome, ◌⊎◌}
use Rattle.unixmodel.specs.Meaning.{Computed}
use Rattle.unixmodel.specs.Run.{run}
use Rattle.unixmodel.specs.declared.trap.Trap.{Trap}

-- ---- who runs

module _ {k : Kernel} {i : ℕ} (x : Runner k i) where
  computes-now : {d : Computed} → cycle_at k.spaces i ≡ Ok d → computes (state_of k) ≡ true
  computes-now means = ap computes_as (running-me x) ∙ ap is_done (effect-is x means)

  traps-now : {t : Trap} → cycle_at k.spaces i ≡ Err t → computes (state_of k) ≡ false
  traps-now means = ap computes_as (running-me x) ∙ ap is_done (effect-is x means)

  at-now : (stops : List ℕ) → is_at stops (state_of k) ≡ is_stop stops k.spaces.pc
  at-now stops = ap (stands_at stops) (running-me x)

-- ---- nobody does

pub computes-none : {k : Kernel} (stops : List ℕ) (most : ℕ) → IsKernel k → k.spaces.active ≡ None
    → Computes (state_of k) (state_of k) stops most 0
unfolding run
computes-none {k} stops most is idle = record {
  within = omega arith;
  steps = refl;
  computing = λ n less. absurd (omega (arith, less));
  none_between = λ n some less. absurd (omega (arith, less));
  first_stop = λ fewer runs. absurd (let none = running-state k is ∙ idle in cc (none, runs));
}

-- ---- instructions

module _ {k : Kernel} {i : ℕ} (is : IsKernel k) (active : k.spaces.active ≡ Some i) (goes : k.halted ≡ None)
    (stops : List ℕ) where
  -- after some of them another is done
  record IsAmong (n : ℕ) (mid : Spaces) : Type 0 where
    advances : Advances stops n k.spaces i mid
    done : Computed
    means : cycle_at mid i ≡ Ok done
    past : IsPast stops n mid.pc

  among : (n count : ℕ) (new : Spaces) → n < count → Advances stops count k.spaces i new
      → (mid : Spaces) × IsAmong n mid
  among n zero new less all = absurd (omega (arith, less))
  among n (suc count) new less all =
      let last = advances-last stops count k.spaces new i all in
      elim (cases_lt n count) [
        | inl before ↦ among n count last.0 before last.1
        | inr least ↦ let same : n ≡ count =
            omega (arith, less, least)
            in rw same (last.0, record { advances = last.1; done = last.2.done; means = last.2.means; past = last.3 })
      ]

  state-at : (n : ℕ) (mid : Spaces) → Advances stops n k.spaces i mid
      → after_steps (state_of k) n ≡ state_of (record k { spaces = mid })
  state-at n mid all = ap (λ (a : After). a.state) (run-advances is active goes stops n mid all)

  runner-at : (n : ℕ) (mid : Spaces) → Advances stops n k.spaces i mid → Runner (record k { spaces = mid }) i
  runner-at n mid all = let on = advances-on stops n k i mid is active all in runner-of on.sound on.active

  ends : (most count : ℕ) (trap : Option Trap) (new : Spaces) → Runner (record k { spaces = new }) i
      → IfNone trap (EndsAt stops most count new.pc) → IfSome trap (λ t. (count < most) × (cycle_at new i ≡ Err t))
      → count < most
      → (computes (state_of (record k { spaces = new })) ≡ false)
      ⊎ ((0 < count) × (is_at stops (state_of (record k { spaces = new })) ≡ true))
  ends most count None new x (inl all) traps fewer = absurd (omega (arith, all, fewer))
  ends most count None new x (inr at) traps fewer = inr (at.0, at-now x stops ∙ at.1)
  ends most count (Some t) new x all traps fewer = inl (traps-now x traps.1)

  pub computes-some : (most count : ℕ) (trap : Option Trap) (new : Spaces) → Advances stops count k.spaces i new
      → count ≤ most → IfNone trap (EndsAt stops most count new.pc)
      → IfSome trap (λ t. (count < most) × (cycle_at new i ≡ Err t))
      → Computes (state_of k) (state_of (record k { spaces = new })) stops most count
  computes-some most count trap new all within at traps = record {
    within = within;
    steps = run-advances is active goes stops count new all;
    computing = λ n less. (let a = among n count new less all
        in rw (state-at n a.0 a.1.advances) (computes-now (runner-at n a.0 a.1.advances) a.1.means));
    none_between = λ n some less. (let a = among n count new less all
        in rw (state-at n a.0 a.1.advances) (at-now (runner-at n a.0 a.1.advances) stops ∙ a.1.past some));
    first_stop = λ fewer runs. ends most count trap new (runner-at count new all) at traps fewer;
  }
