use Rattle.tree.proofs.Common.{ap, arith, ◌+◌, ◌∙◌, sym, change_node, with_links, more_links, none-some}
use Rattle.tree.proofs.Ending.{end-changed}
use Rattle.tree.proofs.Following.{end-lost, now-begin, now-read, now-up, some-now}
use Rattle.tree.proofs.Links.{relinked}
use Rattle.tree.proofs.tree.Tree.add_link.Goals as goal

pub returns-in_err-before : goal.returns-in_err-before
returns-in_err-before g c = end-lost now-begin c.node.ensures c.in_err-before.was c.from_residual.ensures.1

pub overflow_add-before : goal.overflow_add-before
overflow_add-before g c =
    let links = (c.in_ok-before.ensures.serves.told.1 c.requires.node.0 c.requires.node.1).1 in
    let few = c.requires.node.2 in
    omega arith

pub set_links-requires : goal.set_links-requires
set_links-requires g c = let now =
    now-read now-begin c.node.ensures c.in_ok-before.was
    in record {
      up = now-up now c.requires.up;
      node = some-now now _ (λ none. none-some c.requires.node.0 (sym none ∙ c.requires.node.1));
    }

pub returns : goal.returns
returns g c =
    let at = c.requires.node in
    let links = (c.in_ok-before.ensures.serves.told.1 at.0 at.1).1 in
    end-changed (now-read now-begin c.node.ensures c.in_ok-before.was)
    (λ fs. change_node fs c.args.number (λ node. with_links node (c.in_ok-before.before.links + 1)))
    c.set_links.ensures
    (relinked _ _ at.0 at.1 (c.in_ok-before.before.links + 1) more_links (ap (λ k. with_links at.0 (k + 1)) links))
