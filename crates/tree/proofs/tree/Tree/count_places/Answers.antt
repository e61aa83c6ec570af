use Rattle.tree.proofs.Common.{◌∙◌}
use Rattle.tree.proofs.Following.{end-lost, now-begin, now-read}
use Rattle.tree.proofs.Ending.{end-read}
use Rattle.tree.proofs.Places.{folder-node, size-told}
use Rattle.tree.proofs.tree.Tree.count_places.Goals as goal

pub node-requires : goal.node-requires
node-requires g c = record { up = c.requires.up; node = folder-node c.requires.directory }

pub returns-in_err-node : goal.returns-in_err-node
returns-in_err-node g c = end-lost now-begin c.node.ensures c.in_err-node.was c.from_residual.ensures.1

pub returns : goal.returns
returns g c = end-read c.requires.up (now-read now-begin c.node.ensures c.in_ok-node.was)
    (λ f. c.places_of.ensures ∙ size-told f c.in_ok-node.ensures.serves.told.1)
