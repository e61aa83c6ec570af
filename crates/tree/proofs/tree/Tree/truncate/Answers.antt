use Rattle.tree.proofs.Common.{[], sym, put, File, emptied}
use Rattle.tree.proofs.Links.{emptied-file, emptied-other}
use Rattle.tree.proofs.Ending.{end-changed, end-still, file-now, tells-more}
use Rattle.tree.proofs.Following.{end-lost, now-begin, now-read, now-up}
use Rattle.tree.proofs.Storing.{change-is, some-node}
use Rattle.tree.proofs.tree.Tree.truncate.Goals as goal

pub node-requires : goal.node-requires
node-requires g c = record { up = c.requires.up; node = some-node _ c.requires.node }

pub returns-in_err-node : goal.returns-in_err-node
returns-in_err-node g c = (end-lost now-begin c.node.ensures c.in_err-node.was c.from_residual.ensures.1).serves

pub returns-then-node-ne-FILE : goal.returns-then-node-ne-FILE
returns-then-node-ne-FILE g c =
    let at = some-node _ c.requires.node in
    (end-still c.requires.up (now-read now-begin c.node.ensures c.in_ok-node.was)
    (emptied-other _ _ at.0 at.1 _ (c.in_ok-node.ensures.serves.told.1 at.0 at.1) c.if-node-ne-FILE.true)).serves

pub empty-requires : goal.empty-requires
empty-requires g c =
    let now = now-read now-begin c.node.ensures c.in_ok-node.was in
    let at = some-node _ c.requires.node in
    record {
      up = now-up now c.requires.up;
      file = file-now now (emptied-file _ _ at.0 at.1 _ (c.in_ok-node.ensures.serves.told.1 at.0 at.1)
          c.if-node-ne-FILE.false);
    }

pub returns : goal.returns
returns g c =
    let now = now-read now-begin c.node.ensures c.in_ok-node.was in
    let at = some-node _ c.requires.node in
    let f = emptied-file _ _ at.0 at.1 _ (c.in_ok-node.ensures.serves.told.1 at.0 at.1) c.if-node-ne-FILE.false in
    (end-changed now (λ fs. put fs c.args.number (File f.links []))
    (tells-more (λ x was. was (file-now now f)) c.empty.ensures)
    (sym (change-is _ _ emptied (File f.links f.bytes) f.here))).serves
