use Rattle.cache.proofs.Common.{◌≡◌, ap, arith, length, lookup, nat_eq, None, ◌∙◌}
use Rattle.cache.proofs.Overlays.{AreKept-tried, unheld-as}
use Rattle.cache.proofs.Using.{changed-kept, rises-before, unheld-shows}
use Rattle.cache.proofs.held.write_whole.Goals as goal

pub hold-requires : goal.hold-requires
hold-requires g c = record {
  kept = c.requires.kept;
  unheld = c.requires.unheld;
  slot = changed-kept _ _ _ _ c.requires.inside (ap length c.copy_from_slice.ensures.after ∙ c.requires.whole);
}

pub returns : goal.returns
returns g c =
    let held = c.hold.ensures.holds in
    let wrote = c.write_now.ensures in
    let none : lookup (nat_eq c.args.n) c.hold.new.held.entries ≡ None =
    rw (c.in_ok-hold.ensures.refused c.if-branch.false) c.requires.unheld in
    record {
      blocks = unheld-shows c.hold.new.held.entries _ c.args.n _ c.args.bytes.now _ c.write_now.result
          (rw c.if-branch.false at c.in_ok-hold.ensures.holds.blocks)
          (omega (arith, held.count, c.requires.inside)) none c.copy_from_slice.ensures.after wrote.written;
      kept = AreKept-tried c.hold.new.held.entries _ _ _ _ c.args.n _ _
          (unheld-as c.hold.new.held.entries c.args.n _ none) held.kept wrote.count wrote.written wrote.kept
          wrote.doubt;
      count = wrote.count ∙ held.count;
      identity = wrote.identity ∙ held.identity;
      cause = record {
        later = omega (arith, held.cause.later, wrote.cause.later);
        failed = λ failed. rises-before held.cause.later (wrote.cause.failed failed);
      };
    }
