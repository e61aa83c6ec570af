use Rattle.vm.proofs.Common.{sym, ap, ◌∙◌, Mapped, tree-root, pages_in}
use Rattle.vm.proofs.StoreLemmas.{page-inside, pages-same}
use Rattle.vm.proofs.PageLemmas.{walks-entries, mapping-within, mapping-is}
use Rattle.vm.proofs.Space.walks.Goals as goal

pub returns-clause-entries : goal.returns-clause-entries
returns-clause-entries c =
    walks-entries c.args.ram.now c.args.self.now.root.0 c.args.self.now.trap.0 (pages_in c.args.self.now.size)
    c.frames_are_whole.ensures.small c.requires

pub returns-clause-root : goal.returns-clause-root
returns-clause-root c = tree-root c.requires.tree

pub returns-clause-inside : goal.returns-clause-inside
returns-clause-inside c = λ page e at.
    let n = pages_in c.args.self.now.size in
    rw (← ap (λ (x : Mapped). x.frame) (mapping-is _ _ _ _ page e at))
    (page-inside c.args.ram.now c.args.self.now.root.0 c.args.self.now.trap.0 n page c.requires
    (mapping-within _ _ _ _ page e at))

pub returns-clause-apart : goal.returns-clause-apart
returns-clause-apart c = λ once p q e d at to same.
    let m = c.args.ram.now in
    let r = c.args.self.now.root.0 in
    let n = pages_in c.args.self.now.size in
    pages-same m r c.args.self.now.trap.0 n p q once (mapping-within _ _ _ _ p e at) (mapping-within _ _ _ _ q d to)
    (ap (λ (x : Mapped). x.frame) (mapping-is _ _ _ _ p e at) ∙ same
    ∙ sym (ap (λ (x : Mapped). x.frame) (mapping-is _ _ _ _ q d to)))
