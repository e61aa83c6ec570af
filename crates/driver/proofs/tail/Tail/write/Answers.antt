use Rattle.std.proofs.Common.{ap, sym, ◌+◌, ◌++◌, ◌∙◌}
use Rattle.std.proofs.KnownBytes.{Keeps-refl}
use Rattle.driver.proofs.Tails.{known-more, last-more, taken-count}
use Rattle.driver.specs.Goals.{last_bytes}
use Rattle.driver.proofs.tail.Tail.write.Goals as goal

pub returns-then-is_over-clause-takes : goal.returns-then-is_over-clause-takes
returns-then-is_over-clause-takes g c = rw (← c.self.view_is) (Keeps-refl _)

pub returns-in-Ok-clause-takes : goal.returns-in-Ok-clause-takes
returns-in-Ok-clause-takes g c =
    rw (← c.self.view_is)
    (known-more _ _ _ _ _ _ _ c.in-Ok.ensures.bytes
    (ap (λ n. c.self.inside.count + n) (sym (taken-count c.in-Ok.count c.args.bytes.now c.in-Ok.ensures.bound)))
    (c.remember.ensures ∙ ap (λ xs. last_bytes 64 (c.self.inside.last.items ++ xs)) c.split_at.ensures.front
    ∙ sym (last-more c.self.inside.last.items _)))
