use Rattle.tree.proofs.Common.{[], arith, refl, sym, ◌∙◌, none-some, clear}
use Rattle.tree.proofs.Ending.{end-changed, end-still, lost-served}
use Rattle.tree.proofs.Following.{now-begin, now-served, now-up, some-now}
use Rattle.tree.proofs.Keeping.{let-go-clear, let-go-linked, let-go-free, told-free, told-node}
use Rattle.tree.proofs.tree.Tree.release_unlinked.Goals as goal

pub returns-in_err-node : goal.returns-in_err-node
returns-in_err-node g c = lost-served now-begin c.look.ensures c.in_err-node.was c.from_residual.ensures.1

pub returns-in_default : goal.returns-in_default
returns-in_default g c =
    let now = now-served now-begin c.look.ensures c.in_ok-node.was (λ told. told.0) in
    (end-still c.requires.up now
    (sym (let-go-free [] c.args.self.now.files c.args.number
    (told-free _ c.in_default.is c.in_ok-node.ensures.told.1)))).serves

pub returns-then-node-gt0 : goal.returns-then-node-gt0
returns-then-node-gt0 g c =
    let now = now-served now-begin c.look.ensures c.in_ok-node.was (λ told. told.0) in
    let at = told-node _ _ c.in-Some.is c.in_ok-node.ensures.told.1 in
    (end-still c.requires.up now
    (sym (let-go-linked [] c.args.self.now.files c.args.number at.0 at.1
    (omega (arith, at.2, c.if-node-gt0.true))))).serves

pub release-requires : goal.release-requires
release-requires g c =
    let now = now-served now-begin c.look.ensures c.in_ok-node.was (λ told. told.0) in
    let at = told-node _ _ c.in-Some.is c.in_ok-node.ensures.told.1 in
    record { up = now-up now c.requires.up; node = some-now now _ (λ none. none-some at.0 (sym none ∙ at.1)) }

pub returns : goal.returns
returns g c =
    let now = now-served now-begin c.look.ensures c.in_ok-node.was (λ told. told.0) in
    let at = told-node _ _ c.in-Some.is c.in_ok-node.ensures.told.1 in
    (end-changed now (λ fs. clear fs c.args.number) c.release.ensures
    (sym (let-go-clear [] c.args.self.now.files c.args.number at.0 at.1 refl
    (omega (arith, at.2, c.if-node-gt0.false))))).serves
