use Rattle.tree.proofs.Common.{ap, ◌-◌, ◌∙◌, change_node, with_links, fewer_links}
use Rattle.tree.proofs.Ending.{end-changed}
use Rattle.tree.proofs.Following.{end-lost, now-begin, now-read, now-up, some-now}
use Rattle.tree.proofs.Links.{relinked}
use Rattle.tree.proofs.Storing.{some-node}
use Rattle.tree.proofs.tree.Tree.drop_link.Goals as goal

pub node-requires : goal.node-requires
node-requires g c = record { up = c.requires.up; node = some-node _ c.requires.node }

pub returns-in_err-before : goal.returns-in_err-before
returns-in_err-before g c = end-lost now-begin c.node.ensures c.in_err-before.was c.from_residual.ensures.1

pub set_links-requires : goal.set_links-requires
set_links-requires g c = let now =
    now-read now-begin c.node.ensures c.in_ok-before.was
    in record { up = now-up now c.requires.up; node = some-now now _ c.requires.node }

pub returns : goal.returns
returns g c =
    let at = some-node _ c.requires.node in
    let links = (c.in_ok-before.ensures.serves.told.1 at.0 at.1).1 in
    end-changed (now-read now-begin c.node.ensures c.in_ok-before.was)
    (λ fs. change_node fs c.args.number (λ node. with_links node c.saturating_sub.result)) c.set_links.ensures
    (relinked _ _ at.0 at.1 _ fewer_links (ap (with_links at.0) (c.saturating_sub.ensures ∙ ap (λ k. k - 1) links)))
