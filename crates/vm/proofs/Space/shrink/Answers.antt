use Rattle.vm.proofs.Common.{◌≡◌, ℕ, ◌-◌, ◌∙◌, sym, refl, take, arith, entry_marks, right_marks, pages_in, read_below}
use Rattle.vm.proofs.Common.{Perm, SameLeaves}
use Rattle.vm.proofs.PageLemmas.{open-fewer, open-read, take-pages, take-mapping}
use Rattle.vm.proofs.Space.shrink.Goals as goal

pub returns : goal.returns
returns c =
    let r = c.args.self.now.root.0 in
    let m = c.args.memory.now.ram in
    let n = pages_in (c.args.self.now.size - c.args.bytes) in
    let drops = rw (c.pages_in.ensures, c.pages_in-2.ensures) at c.drop_pages.ensures in
    let same : SameLeaves m c.drop_pages.new.memory.ram r n = λ read. drops.mapping read n (omega arith) in
    let mapping : (read : ℕ → Perm) → read_below read c.drop_pages.new.memory.ram r n
    ≡ take n (read_below read m r (pages_in c.args.self.now.size)) =
    λ read. same read ∙ sym (take-mapping read m r _ _ (omega arith)) in
    record {
      resizes = record {
        space = drops.held;
        root = refl;
        registers = drops.registers;
        opens = λ first h. open-read m c.drop_pages.new.memory.ram r n first same
            (open-fewer m r (pages_in c.args.self.now.size) n first (omega arith) h);
        trades = drops.trades;
      };
      size = omega arith;
      pages = drops.pages n (omega arith) ∙ sym (take-pages m r _ _ (omega arith));
      mapping = mapping right_marks;
      entries = mapping entry_marks;
    }
