use Rattle.calls.proofs.Common.{ap, has-current, Kernel, state_of, subst, sym}
use Rattle.calls.proofs.Computing.{computes-none, computes-some}
use Rattle.calls.specs.Computing.{Computes}
use Rattle.calls.proofs.many_steps.compute.Goals as goal

pub returns-in-None-clause-computes : goal.returns-in-None-clause-computes
returns-in-None-clause-computes g c = computes-none _ _ c.is_sound.ensures.sound (sym c.in-None.ensures)

pub execute_many-requires : goal.execute_many-requires
execute_many-requires g c = has-current (sym c.in-Some.ensures)

pub returns-in-Some-clause-computes : goal.returns-in-Some-clause-computes
returns-in-Some-clause-computes g c =
    let k = c.args.kernel.now in
    let e = c.execute_many.ensures in
    subst (λ (x : Kernel). Computes (state_of k) (state_of x) c.args.addresses.now c.args.most c.execute_many.result.0)
    (sym e.done.1)
    (computes-some c.is_sound.ensures.sound (has-current (sym c.in-Some.ensures)) c.requires c.args.addresses.now
    c.args.most c.execute_many.result.0 c.execute_many.result.1 c.execute_many.new.self.spaces e.done.0 e.within
    e.ends e.trap)

pub returns-in-Some-clause-tree : goal.returns-in-Some-clause-tree
returns-in-Some-clause-tree g c = ap (λ (k : Kernel). k.tree) c.execute_many.ensures.done.1
