use Rattle.hart.proofs.Common.{cycle_by, seen}
use Rattle.hart.proofs.Steps.{step-follows, trap-still}
use Rattle.hart.proofs.state.Hart.step.Goals as goal

pub returns : goal.returns
returns g c =
    let old = c.args.self.now in
    let step = c.cycle.ensures.step in
    record {
      answered = step;
      trap = trap-still (cycle_by old.registers old.pc (seen c.args.ram.now step.answers)) step.answers c.cycle.result old
          c.cycle.new.self c.args.ram.now c.cycle.new.ram step.does;
      step = λ mapping shows. step-follows _ shows step;
      kept = c.cycle.ensures.kept;
      count = c.cycle.ensures.count;
    }
