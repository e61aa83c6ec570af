use Rattle.programs.proofs.Common.{◌-◌, HasRead}
use Rattle.programs.proofs.loading.fill_node.Given as goal

-- the bytes so far are in the pages
abbrev pub invariant-loop-done : goal.invariant-loop-done
invariant-loop-done g l = HasRead l.fn.tree l.tree l.fn.spaces l.spaces l.at l.number l.offset l.address l.count l.done

abbrev pub decreases-loop-done : goal.decreases-loop-done
decreases-loop-done g l = l.count - l.done
