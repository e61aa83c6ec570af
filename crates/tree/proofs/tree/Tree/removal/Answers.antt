use Rattle.std.proofs.Common.{None, Some, ap, cond, sym, true, ◌∙◌}
use Rattle.tree.proofs.Following.{end-lost, folder-now, now-begin, now-read, now-up}
use Rattle.tree.proofs.Ending.{end-read}
use Rattle.tree.proofs.Unlinked.{removal-directory, removal-folder, removal-other}
use Rattle.tree.proofs.tree.Tree.removal.Goals as goal

pub returns-in_err-node : goal.returns-in_err-node
returns-in_err-node g c = end-lost now-begin c.node.ensures c.in_err-node.was c.from_residual.ensures.1

pub returns-then-node-ne-DIRECTORY : goal.returns-then-node-ne-DIRECTORY
returns-then-node-ne-DIRECTORY g c =
    end-read c.requires.up (now-read now-begin c.node.ensures c.in_ok-node.was)
    (λ node here. sym (removal-other node _ (c.in_ok-node.ensures.serves.told.1 node here) c.if-node-ne-DIRECTORY.true))

pub is_empty-requires : goal.is_empty-requires
is_empty-requires g c =
    let now = now-read now-begin c.node.ensures c.in_ok-node.was in
    let at = c.requires.node in
    record {
      up = now-up now c.requires.up;
      directory = folder-now now
          (removal-folder at.0 _ (c.in_ok-node.ensures.serves.told.1 at.0 at.1) at.1 c.if-node-ne-DIRECTORY.false);
    }

pub returns-in_err-empty : goal.returns-in_err-empty
returns-in_err-empty g c =
    end-lost (now-read now-begin c.node.ensures c.in_ok-node.was) c.is_empty.ensures c.in_err-empty.was
    c.from_residual-in_err-empty.ensures.1

pub returns-then-empty : goal.returns-then-empty
returns-then-empty g c =
    let now = now-read now-begin c.node.ensures c.in_ok-node.was in
    end-read c.requires.up (now-read now c.is_empty.ensures c.in_ok-empty.was) (λ node here.
    let f = removal-folder node _ (c.in_ok-node.ensures.serves.told.1 node here) here c.if-node-ne-DIRECTORY.false in
    sym (ap (λ b. cond b (Some true) None) c.if-empty.true)
    ∙ removal-directory here f (c.in_ok-empty.ensures.serves.told.1 (folder-now now f)))

pub returns-else-empty : goal.returns-else-empty
returns-else-empty g c =
    let now = now-read now-begin c.node.ensures c.in_ok-node.was in
    end-read c.requires.up (now-read now c.is_empty.ensures c.in_ok-empty.was) (λ node here.
    let f = removal-folder node _ (c.in_ok-node.ensures.serves.told.1 node here) here c.if-node-ne-DIRECTORY.false in
    sym (ap (λ b. cond b (Some true) None) c.if-empty.false)
    ∙ removal-directory here f (c.in_ok-empty.ensures.serves.told.1 (folder-now now f)))
