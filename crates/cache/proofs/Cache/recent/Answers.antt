use Rattle.cache.proofs.Using.{blocks-are, hit}
use Rattle.cache.proofs.Cache.recent.Goals as goal

pub returns-in-Some : goal.returns-in-Some
returns-in-Some g c = hit c.self.inside.held _ _ _ _ (blocks-are c.self.view_is) c.requires c.in-Some.ensures
