use Rattle.tree.proofs.Common.{ap, arith, ◌+◌, ◌∙◌, nat_le, blocks_of, Directory}
use Rattle.tree.proofs.Ending.{end-last}
use Rattle.tree.proofs.Following.{end-lost, now-begin, now-read, now-up}
use Rattle.tree.proofs.Writing.{growth-size}
use Rattle.tree.proofs.tree.Tree.has_room.Goals as goal

pub returns-in_err-node : goal.returns-in_err-node
returns-in_err-node g c = end-lost now-begin c.node.ensures c.in_err-node.was c.from_residual.ensures.1

pub growth-requires : goal.growth-requires
growth-requires g c =
    let r = c.requires.room in
    let size = (c.in_ok-node.ensures.serves.told.1 (Directory r.links r.places) r.here).2 in
    let short = c.is_whole.ensures.short c.args.directory (Directory r.links r.places) r.here in
    record { size = omega arith }

pub has_blocks-requires : goal.has_blocks-requires
has_blocks-requires g c = record { up = now-up (now-read now-begin c.node.ensures c.in_ok-node.was) c.requires.up }

pub returns : goal.returns
returns g c =
    let now = now-read now-begin c.node.ensures c.in_ok-node.was in
    end-last now _ c.has_blocks.ensures (λ enough told r.
    let size = (c.in_ok-node.ensures.serves.told.1 (Directory r.links r.places) r.here).2 in
    told ∙ ap (λ t. nat_le (blocks_of t.files + (c.growth.result + c.args.more)) t.block_limit) now.is
    ∙ ap (λ n. nat_le (blocks_of c.args.self.now.files + (n + c.args.more)) c.args.self.now.block_limit)
    (growth-size r.places _ _ _ size c.growth.ensures))
