use Rattle.tree.proofs.Ending.{end-last}
use Rattle.tree.proofs.Following.{now-begin}
use Rattle.tree.proofs.Places.{folder-fits}
use Rattle.tree.proofs.Scanning.{name-told}
use Rattle.tree.proofs.tree.Tree.find_among.Goals as goal

pub returns : goal.returns
returns g c =
    end-last now-begin _ c.scan.ensures
    (λ found told f. name-told f.places (folder-fits c.is_whole.ensures f) _ found (told f))
