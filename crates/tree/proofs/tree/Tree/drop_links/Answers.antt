use Rattle.tree.proofs.Common.{ap, sym, dropped, change_node, fewer_links}
use Rattle.tree.proofs.Ending.{end-changed, end-still, now-changed}
use Rattle.tree.proofs.Following.{end-lost, now-begin, now-up, some-now}
use Rattle.tree.proofs.Unlinked.{stays-node}
use Rattle.tree.proofs.tree.Tree.drop_links.Goals as goal

pub returns-in_err-drop_link : goal.returns-in_err-drop_link
returns-in_err-drop_link g c = end-lost now-begin c.drop_link.ensures c.in_err-drop_link.was c.from_residual.ensures.1

pub drop_link-requires-then-is_directory : goal.drop_link-requires-then-is_directory
drop_link-requires-then-is_directory g c =
    let now = now-changed now-begin (λ fs. change_node fs c.args.number fewer_links) c.drop_link.ensures
    c.in_ok-drop_link.was in
    record {
      up = now-up now c.requires.up;
      node = some-now now _ (stays-node c.args.self.now.files c.args.number fewer_links c.args.directory
          c.requires.directory);
    }

pub returns-then-is_directory : goal.returns-then-is_directory
returns-then-is_directory g c =
    end-changed (now-changed now-begin (λ fs. change_node fs c.args.number fewer_links) c.drop_link.ensures
    c.in_ok-drop_link.was) (λ fs. change_node fs c.args.directory fewer_links) c.drop_link-then-is_directory.ensures
    (sym (ap (dropped c.args.self.now.files c.args.number c.args.directory) c.if-is_directory.true))

pub returns : goal.returns
returns g c =
    end-still c.requires.up (now-changed now-begin (λ fs. change_node fs c.args.number fewer_links) c.drop_link.ensures
    c.in_ok-drop_link.was)
    (sym (ap (dropped c.args.self.now.files c.args.number c.args.directory) c.if-is_directory.false))
