-- Steps of a folder, one after the other.
use Rattle.std.proofs.Common.{Bool, List, [], None, Err, Ok, OnErr, Option, Result, Some, false, true, refl, sym, ap}
use Rattle.std.proofs.Common.{bytes_eq, ℕ, ◌∙◌, ◌≡◌, ◌≢◌, inl, inr, ◌⊎◌}
use Rattle.std.proofs.lemmas.Bool.{false≢true}
use Rattle.std.proofs.lemmas.Slice.Eq.{bytes_eq-Decides}
use Rattle.safe_files.specs.Steps.{Begins, Ends, GivesUp, Held, IsBut, IsSame, IsSynced, Keeps, Known, Moves}
use Rattle.safe_files.specs.Steps.{Sets, Spoils, Syncs, Writes, Sweeps}
use Rattle.safe_files.specs.declared.fault.PutFault.{PutFault}
use Rattle.safe_files.specs.declared.fault.PutFault.TheVariants as fault

-- two steps are one, where it is known what the names hold
pub known-then : {one other both : Held → Held → Type 0} → ((a b c : Held) → one a b → other b c → both a c)
    → (x y z : Option Held) → Known one x y → Known other y z → Known both x z
known-then f None None None p q = tt
known-then f None None (Some c) p q = absurd q
known-then f None (Some b) z p q = absurd p
known-then f (Some a) None z p q = absurd p
known-then f (Some a) (Some b) None p q = absurd q
known-then f (Some a) (Some b) (Some c) p q = f a b c p q

pub known-synced : (x y : Option Held) → Known Syncs x y → IsSynced y
known-synced None None p = tt
known-synced None (Some b) p = absurd p
known-synced (Some a) None p = absurd p
known-synced (Some a) (Some b) p = p.synced

pub same-same : (a b c : Held) → IsSame a b → IsSame b c → IsSame a c
same-same a b c p q = λ n. q n ∙ p n

pub but-same : (name : List ℕ) (a b c : Held) → IsBut name a b → IsSame b c → IsBut name a c
but-same name a b c p q = λ n other. q n ∙ p n other

pub same-keeps : (name : List ℕ) (fault : PutFault) (a b c : Held) → IsSame a b → Keeps name fault b c
    → Keeps name fault a c
same-keeps name fault.Left a b c p q = (q.0, (q.1.0, λ n other. q.1.1 n other ∙ p n))
same-keeps name _ a b c p q = same-same a b c p q

pub on-err : {T E P : Type 0} (r : Result T E) → P → OnErr r P
on-err (Ok x) p = tt
on-err (Err e) p = p

-- ---- a file that was begun is written and gets its name

pub spoils : (bytes : List ℕ) (a b c : Held) → Writes bytes a b → IsSame b c → Spoils a c
spoils bytes a b c w same = λ n other. same n ∙ w.others n other

pub written : (bytes : List ℕ) (a b c : Held) → Writes bytes a b → Syncs b c → Writes bytes a c
written bytes a b c w synced = record {
  end = λ front here. synced.same a.begun ∙ w.end front here;
  others = λ n other. synced.same n ∙ w.others n other;
}

pub ends : (begun path bytes : List ℕ) (a b c : Held) → Writes bytes a b → Moves begun path b c
    → Ends begun path bytes a c
ends begun path bytes a b c w moves = record {
  gone = moves.gone;
  there = λ same empty. moves.there ∙ ap b.bytes (sym same) ∙ w.end [] (ap a.bytes same ∙ empty);
  others = λ n one other third. moves.others n other third ∙ w.others n one;
}

-- ---- a file that was begun is there no more

-- a name holds what it held where the one that was begun holds nothing again
pub as-before : (begun : List ℕ) (a c : Held) (n : List ℕ) (same : Bool) → bytes_eq n begun ≡ same
    → a.bytes begun ≡ None → c.bytes begun ≡ None → (n ≢ begun → c.bytes n ≡ a.bytes n) → c.bytes n ≡ a.bytes n
as-before begun a c n true is free gone others =
    let here = (bytes_eq-Decides n begun).0 is in
    ap c.bytes here ∙ gone ∙ sym free ∙ ap a.bytes (sym here)
as-before begun a c n false is free gone others =
    others (λ here. false≢true (sym is ∙ (bytes_eq-Decides n begun).1 here))

pub puts : (begun path bytes : List ℕ) (a b c : Held) → Begins begun a b → Ends begun path bytes b c
    → Sets path (Some bytes) a c
puts begun path bytes a b c begins ends = record {
  at = ends.there begins.begun begins.sets.at;
  others = λ n other. as-before begun a c n (bytes_eq n begun) refl begins.free ends.gone
      (λ fresh. ends.others n (λ e. fresh (e ∙ begins.begun)) fresh other ∙ begins.sets.others n fresh);
}

pub spoiled : (begun : List ℕ) (a b c : Held) → Begins begun a b → Spoils b c → IsBut begun a c
spoiled begun a b c begins spoils = λ n fresh. spoils n (λ e. fresh (e ∙ begins.begun)) ∙ begins.sets.others n fresh

removed : (begun : List ℕ) (a b c d : Held) → Begins begun a b → Spoils b c → Sets begun None c d → IsSame a d
removed begun a b c d begins spoils sets = λ n. as-before begun a d n (bytes_eq n begun) refl begins.free sets.at
    (λ fresh. sets.others n fresh ∙ spoiled begun a b c begins spoils n fresh)

pub given-up : (begun path : List ℕ) (fault : PutFault) → begun ≢ path → (a b c d : Held) → Begins begun a b
    → Spoils b c → GivesUp begun fault c d → Keeps path fault a d
given-up begun path fault.Left apart a b c d begins spoils gone =
    (begun, (apart, but-same begun a c d (spoiled begun a b c begins spoils) gone))
given-up begun path _ apart a b c d begins spoils gone = removed begun a b c d begins spoils gone

pub known-given-up : (begun path : List ℕ) (fault : PutFault) → begun ≢ path → (x y z w : Option Held)
    → Known (Begins begun) x y → Known Spoils y z → Known (GivesUp begun fault) z w → Known (Keeps path fault) x w
known-given-up begun path fault apart x y z w p q r =
    let both : Known (λ a c. (b : Held) × Begins begun a b × Spoils b c) x z =
    known-then (λ a b c begins spoils. (b, begins, spoils)) x y z p q in
    known-then (λ a c d both gone. given-up begun path fault apart a both.0 c d both.1 both.2 gone) x z w both r

-- ---- files that programs left are removed

pub sweeps-none : (path : List ℕ) (x : Option Held) → Known (Sweeps path) x x
sweeps-none path None = tt
sweeps-none path (Some a) = record { kept = refl; each = λ n. inl refl; left = refl }

-- a name holds what it held, or what programs left is gone, by one of two steps
gone-then : (n : List ℕ) (a b c : Held) → b.left ≡ a.left
    → (b.bytes n ≡ a.bytes n) ⊎ ((a.left n ≡ true) × (b.bytes n ≡ None))
    → (c.bytes n ≡ b.bytes n) ⊎ ((b.left n ≡ true) × (c.bytes n ≡ None))
    → (c.bytes n ≡ a.bytes n) ⊎ ((a.left n ≡ true) × (c.bytes n ≡ None))
gone-then n a b c left (inl p) (inl q) = inl (q ∙ p)
gone-then n a b c left (inr p) (inl q) = inr (p.0, q ∙ p.1)
gone-then n a b c left p (inr q) = inr (sym (ap (λ l. l n) left) ∙ q.0, q.1)

pub sweeps-then : (path : List ℕ) (a b c : Held) → Sweeps path a b → Sweeps path b c → Sweeps path a c
sweeps-then path a b c p q = record {
  kept = q.kept ∙ p.kept;
  each = λ n. gone-then n a b c p.left (p.each n) (q.each n);
  left = q.left ∙ p.left;
}
