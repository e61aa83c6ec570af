-- What a walk from one pid to the next finds.
use Rattle.std.proofs.Common.{Bool, List, None, Option, [], ap, append_assoc, arith, false, inl, inr, refl, suc}
use Rattle.std.proofs.Common.{sym, zero, ℕ, ◌++◌, ◌<◌, ◌∙◌, ◌≡◌, ◌≤◌, ◌∷◌}
use Rattle.std.proofs.lemmas.Bool.{cases_lt}
pub use Rattle.proc.specs.Next.{IsLeastAbove, NoneAbove}
use Rattle.waits.specs.Pids.{by_pid, listed}

append-none : {A : Type 0} (xs : List A) → xs ++ [] ≡ xs
append-none [] = refl
append-none (x ∷ xs) = ap (λ ys. x ∷ ys) (append-none xs)

module _ {A : Type 0} (f : ℕ → Option A) where
  -- the first ones are a beginning of all
  pub front : (a b : ℕ) → a ≤ b → (xs : List A) × (by_pid f b ≡ by_pid f a ++ xs)
  unfolding by_pid
  front a zero h = let e : a ≡ 0 = omega (arith, h) in ([], rw e refl)
  front a (suc b) h = elim (cases_lt a (suc b)) [
    | inl less ↦ (
        let (xs, e) = front a b (omega (arith, less)) in (
          xs ++ listed (f (suc b)),
          ap (λ ys. ys ++ listed (f (suc b))) e
              ∙ append_assoc (by_pid f a) xs (listed (f (suc b))),
        ))
    | inr more ↦ (let e : a ≡ suc b = omega (arith, h, more) in ([], rw e (sym (append-none (by_pid f (suc b))))))
  ]

  module _ (there : ℕ → Bool) (gone : (pid : ℕ) → there pid ≡ false → f pid ≡ None) where
    gap : (last n : ℕ) → last ≤ n → ((q : ℕ) → last < q → q ≤ n → there q ≡ false) → by_pid f n ≡ by_pid f last
    unfolding by_pid
    gap last zero h none = let e : last ≡ 0 = omega (arith, h) in rw e refl
    gap last (suc n) h none = elim (cases_lt last (suc n)) [
      | inl less ↦ (
          let e : f (suc n) ≡ None = gone (suc n) (none (suc n) less (omega arith)) in
          ap (λ one. by_pid f n ++ listed one) e ∙ append-none (by_pid f n)
          ∙ gap last n (omega (arith, less)) (λ q above within. none q above (omega (arith, within))))
      | inr more ↦ (let e : last ≡ suc n = omega (arith, h, more) in rw e refl)
    ]

    -- the next process adds what there is of it
    pub next : (last pid : ℕ) → IsLeastAbove there last pid → by_pid f pid ≡ by_pid f last ++ listed (f pid)
    unfolding by_pid
    next last zero least = absurd (let e = least.above in omega (arith, e))
    next last (suc n) least =
        let e = least.above in
        ap (λ xs. xs ++ listed (f (suc n)))
        (gap last n (omega (arith, e)) (λ q above within. least.between q above (omega (arith, within))))

    -- after the last process nothing comes
    pub end : (last n : ℕ) → last ≤ n → NoneAbove there last → by_pid f n ≡ by_pid f last
    end last n h none = gap last n h (λ q above within. none q above)
