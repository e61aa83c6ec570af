use Rattle.layout.proofs.Common.{◌≡◌, ℕ, ◌<◌, List, get_or, take, ap, ◌∙◌, arith, number_at, numbers_in}
use Rattle.layout.proofs.ReadsBack.{get_or-numbers_in, number_at-take}
use Rattle.layout.proofs.SuperBlock.from_front.Goals as goal

field : (bytes read : List ℕ) (k : ℕ) → k < 8 → read ≡ numbers_in 8 (take 32 bytes)
    → get_or read k 0 ≡ number_at bytes k
field bytes read k h e = ap (λ l. get_or l k 0) e ∙ get_or-numbers_in 8 (take 32 bytes) k h
    ∙ number_at-take 32 k bytes (omega arith)

pub returns : goal.returns
returns c =
    let at = λ (k : ℕ) (h : k < 8). field c.args.bytes.now c.read_numbers.new.numbers k h c.read_numbers.ensures in
    λ i. record {
      magic = at 0 (omega arith) i;
      size = at 1 (omega arith) i;
      blocks = at 2 (omega arith) i;
      inodes = at 3 (omega arith) i;
      log = at 4 (omega arith) i;
      log_start = at 5 (omega arith) i;
      inode_start = at 6 (omega arith) i;
      bitmap_start = at 7 (omega arith) i;
    }
