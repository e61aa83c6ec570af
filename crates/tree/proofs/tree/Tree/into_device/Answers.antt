use Rattle.tree.proofs.Common.{OnOk, subst, IsStored, FileTree}
use Rattle.tree.proofs.Stored.{stored-after}
use Rattle.tree.proofs.Storing.{up-inside}
use Rattle.tree.proofs.tree.Tree.into_device.Goals as goal

pub returns-clause-stored : goal.returns-clause-stored
returns-clause-stored g c =
    let left = g.D.BlockDev.content c.into_device.result.0 in
    subst (λ (t : FileTree). OnOk c.into_device.result.1 (IsStored t.size left t.files)) c.self.view_is
    (stored-after left _ (c.self.invariant.held (up-inside c.self.view_is c.requires.up)) c.into_device.ensures.stored)
