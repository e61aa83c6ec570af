-- The table whose entries map a page, where it is known.
use Rattle.vm.proofs.Common.{Ram, arith, IsDense, low_node, None, Option, SameTables, Some, sym, table_at, ℕ, ◌%◌}
use Rattle.vm.proofs.Common.{◌+◌, ◌-◌, ◌/◌, ◌∙◌, ◌≡◌, ◌≢◌, ◌<◌, lookup_of, refl}
use Rattle.pagetable.proofs.TreeLemmas.{lookup_of-low, low_is_node}
use Rattle.ram.specs.declared.FrameNo.{FrameNo}
use Rattle.std.specs.Prelude.{IfSome}
use Rattle.vm.specs.Dense.{IsTableFor}

-- a page and the one before it, where it is not the first of its table
pub low-before : (n : ℕ) → n % 512 ≢ 0 → low_node (n - 1) ≡ low_node n
low-before n inner =
    let a : (n - 1) / 262144 % 512 ≡ n / 262144 % 512 = omega (arith, inner) in
    let b : (n - 1) / 512 % 512 ≡ n / 512 % 512 = omega (arith, inner) in
    rw (a, b) refl

pub low-after : (n : ℕ) → (n + 1) % 512 ≢ 0 → low_node (n + 1) ≡ low_node n
low-after n inner =
    let a : (n + 1) / 262144 % 512 ≡ n / 262144 % 512 = omega (arith, inner) in
    let b : (n + 1) / 512 % 512 ≡ n / 512 % 512 = omega (arith, inner) in
    rw (a, b) refl

-- the table of a page that is mapped is there
pub table-there : (m : Ram) (r p : ℕ) → lookup_of m r p ≢ None → table_at m r (low_node p) ≢ None
table-there m r p mapped none = mapped (lookup_of-low m r p (sym none))

pub below-there : {m : Ram} {r t n : ℕ} → IsDense m r t n → (p : ℕ) → p < n → table_at m r (low_node p) ≢ None
below-there {m} {r} is p below = table-there m r p (λ none. cc (is.pages p below, none))

-- so is that of the next page, if it is not the first of its table
pub next-there : {m : Ram} {r t n : ℕ} → IsDense m r t n → n % 512 ≢ 0 → table_at m r (low_node n) ≢ None
next-there {n = n} is inner = rw (low-before n inner) at (below-there is (n - 1) (omega (arith, inner)))

-- tables that are where they were
pub for-same : (m k : Ram) (r p : ℕ) (o : Option FrameNo) → SameTables m k r → IsTableFor m r p o → IsTableFor k r p o
for-same m k r p None same is = tt
for-same m k r p (Some low) same is = same (low_node p) (low_is_node p) ∙ is

-- and those of the pages beside
pub for-before : (m k : Ram) (r n : ℕ) (o : Option FrameNo) → SameTables m k r → IfSome o (λ _. n % 512 ≢ 0)
    → IsTableFor m r n o → IsTableFor k r (n - 1) o
for-before m k r n None same inner is = tt
for-before m k r n (Some low) same inner is = rw (low-before n inner) (same (low_node n) (low_is_node n) ∙ is)

pub for-after : (m k : Ram) (r n : ℕ) (o : Option FrameNo) → SameTables m k r → (n + 1) % 512 ≢ 0
    → IsTableFor m r n o → IsTableFor k r (n + 1) o
for-after m k r n None same inner is = tt
for-after m k r n (Some low) same inner is = rw (low-after n inner) (same (low_node n) (low_is_node n) ∙ is)
