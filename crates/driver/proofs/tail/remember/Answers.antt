use Rattle.std.proofs.Common.{inl, inr, length, rules, ◌++◌, ◌-◌, ◌∙◌, ◌≡◌}
use Rattle.driver.proofs.Tails.{last-after}
use Rattle.driver.specs.Goals.{last_bytes}
use Rattle.driver.proofs.tail.remember.Goals as goal
use Rattle.driver.proofs.tail.remember.Goals.{else-newest-len, then-newest-len}

pub returns : goal.returns
returns c =
    last-after c.args.last.now.items c.if-newest-len.last.items c.args.bytes.now c.split_at.result.1.now
    c.try_extend_from_slice.new.self.items
    (elim c.if-newest-len.branch [
      | then-newest-len w ↦ inr (search rules)
      | else-newest-len w ↦ inl (search rules)
    ]) (search rules) (search rules)
