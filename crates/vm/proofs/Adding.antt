-- Pages that are added one after another.
use Rattle.vm.proofs.Common.{append-nil, append_assoc, ap, arith, held, refl, replicate, sym, Trades-none, Trades-twice}
use Rattle.vm.proofs.Common.{ℕ, ◌+◌, ◌++◌, ◌-◌, ◌∙◌, ◌≡◌, ◌≤◌}
use Rattle.std.proofs.lemmas.List.{replicate-append-replicate}
use Rattle.frames.specs.declared.memory.Memory.{Memory}
use Rattle.vm.specs.Dense.{blank_page}
use Rattle.vm.specs.Owned.{AddsPages, HasPages}
use Rattle.vm.specs.Space.{first_pages}
use Rattle.vm.specs.declared.Space.{Space}

pub adds-none : (m : Memory) (x : Space) (n leaf : ℕ) → HasPages m x n → AddsPages m m x n n leaf
adds-none m x n leaf is =
    let none : n - n ≡ 0 = omega arith in
    record {
      held = is;
      pages = rw none (sym (append-nil (first_pages m.ram x n)));
      mapping = λ read b le. refl;
      opens = λ first h. h;
      registers = refl;
      trades = Trades-none m.ram m.frames (held m.ram x.root.0 x.trap.0 n);
      room = refl;
    }

pub adds-both : {m j k : Memory} {x : Space} {a b c leaf : ℕ} → a ≤ b → b ≤ c → AddsPages m j x a b leaf
    → AddsPages j k x b c leaf → AddsPages m k x a c leaf
adds-both {m} {j} {k} {x} {a} {b} {c} {leaf} low high one two =
    let count : b - a + (c - b) ≡ c - a = omega arith in
    let more = replicate (c - b) (blank_page leaf) in
    record {
      held = two.held;
      pages = two.pages ∙ ap (λ l. l ++ more) one.pages
          ∙ append_assoc (first_pages m.ram x a) (replicate (b - a) (blank_page leaf)) more
          ∙ ap (λ l. first_pages m.ram x a ++ l) (replicate-append-replicate (b - a) (c - b) (blank_page leaf)
          ∙ ap (λ n. replicate n (blank_page leaf)) count);
      mapping = λ read n le. two.mapping read n (omega arith) ∙ one.mapping read n le;
      opens = λ first h. two.opens first (one.opens first h);
      registers = two.registers ∙ one.registers;
      trades = Trades-twice one.trades two.trades;
      room = omega (arith, one.room, two.room);
    }
