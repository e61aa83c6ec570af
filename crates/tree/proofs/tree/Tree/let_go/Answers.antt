use Rattle.tree.proofs.Common.{arith, sym, clear}
use Rattle.tree.proofs.Ending.{end-changed, end-still}
use Rattle.tree.proofs.Following.{end-lost, now-begin, now-read, now-up, some-now}
use Rattle.tree.proofs.Keeping.{let-go-clear, let-go-held, let-go-linked}
use Rattle.tree.proofs.Storing.{some-node}
use Rattle.tree.proofs.tree.Tree.let_go.Goals as goal

pub returns-then-holders-gt0 : goal.returns-then-holders-gt0
returns-then-holders-gt0 g c =
    end-still c.requires.up now-begin
    (sym (let-go-held c.args.self.now.holds c.args.self.now.files c.args.number
    (let some = c.if-holders-gt0.true in let is = c.holders.ensures in omega arith)))

pub node-requires : goal.node-requires
node-requires g c = record { up = c.requires.up; node = some-node _ c.requires.node }

pub returns-in_err-node : goal.returns-in_err-node
returns-in_err-node g c = end-lost now-begin c.node.ensures c.in_err-node.was c.from_residual.ensures.1

pub returns-then-node-gt0 : goal.returns-then-node-gt0
returns-then-node-gt0 g c =
    let at = some-node _ c.requires.node in
    let links = (c.in_ok-node.ensures.serves.told.1 at.0 at.1).1 in
    let some = c.if-node-gt0.true in
    end-still c.requires.up (now-read now-begin c.node.ensures c.in_ok-node.was)
    (sym (let-go-linked c.args.self.now.holds c.args.self.now.files c.args.number at.0 at.1 (omega arith)))

pub release-requires : goal.release-requires
release-requires g c = let now =
    now-read now-begin c.node.ensures c.in_ok-node.was
    in record { up = now-up now c.requires.up; node = some-now now _ c.requires.node }

pub returns : goal.returns
returns g c =
    let at = some-node _ c.requires.node in
    let links = (c.in_ok-node.ensures.serves.told.1 at.0 at.1).1 in
    let none = c.if-node-gt0.false in
    let free = c.if-holders-gt0.false in
    let is = c.holders.ensures in
    end-changed (now-read now-begin c.node.ensures c.in_ok-node.was) (λ fs. clear fs c.args.number) c.release.ensures
    (sym (let-go-clear c.args.self.now.holds c.args.self.now.files c.args.number at.0 at.1 (omega arith)
    (omega arith)))
