use Rattle.driver.proofs.Tails.{ends-known, ends-last}
use Rattle.driver.proofs.tail.Tail.ends_with.Goals as goal

pub returns : goal.returns
returns g c =
    rw (← c.self.view_is)
    (ends-known _ _ _ _ c.ends_with.result c.requires
    (ends-last _ _ c.requires (rw c.as_slice.ensures.value at c.ends_with.ensures.value)))
