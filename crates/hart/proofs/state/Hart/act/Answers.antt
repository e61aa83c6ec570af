use Rattle.hart.proofs.Common.{op_by, pc_at}
use Rattle.hart.proofs.state.Hart.act.Goals as goal

pub returns-in-Lb : goal.returns-in-Lb
unfolding op_by
returns-in-Lb g c = rw c.in-Lb.is (rw c.offset-in-Lb.ensures
    at (c.take.ensures (pc_at c.args.pc.base c.args.pc.index)))

pub returns-in-Lh : goal.returns-in-Lh
unfolding op_by
returns-in-Lh g c = rw c.in-Lh.is (rw c.offset-in-Lh.ensures
    at (c.take-in-Lh.ensures (pc_at c.args.pc.base c.args.pc.index)))

pub returns-in-Lw : goal.returns-in-Lw
unfolding op_by
returns-in-Lw g c = rw c.in-Lw.is (rw c.offset-in-Lw.ensures
    at (c.take-in-Lw.ensures (pc_at c.args.pc.base c.args.pc.index)))

pub returns-in-Ld : goal.returns-in-Ld
unfolding op_by
returns-in-Ld g c = rw c.in-Ld.is (rw c.offset-in-Ld.ensures
    at (c.take-in-Ld.ensures (pc_at c.args.pc.base c.args.pc.index)))

pub returns-in-Lbu : goal.returns-in-Lbu
unfolding op_by
returns-in-Lbu g c = rw c.in-Lbu.is (rw c.offset-in-Lbu.ensures
    at (c.take-in-Lbu.ensures (pc_at c.args.pc.base c.args.pc.index)))

pub returns-in-Lhu : goal.returns-in-Lhu
unfolding op_by
returns-in-Lhu g c = rw c.in-Lhu.is (rw c.offset-in-Lhu.ensures
    at (c.take-in-Lhu.ensures (pc_at c.args.pc.base c.args.pc.index)))

pub returns-in-Lwu : goal.returns-in-Lwu
unfolding op_by
returns-in-Lwu g c = rw c.in-Lwu.is (rw c.offset-in-Lwu.ensures
    at (c.take-in-Lwu.ensures (pc_at c.args.pc.base c.args.pc.index)))

pub returns-in-Probe : goal.returns-in-Probe
unfolding op_by
returns-in-Probe g c = rw c.in-Probe.is (rw c.offset-in-Probe.ensures
    at (c.probe.ensures (pc_at c.args.pc.base c.args.pc.index)))

pub returns-in-Sb : goal.returns-in-Sb
unfolding op_by
returns-in-Sb g c = rw c.in-Sb.is (rw (c.offset-in-Sb.ensures, c.read.ensures)
    at (c.give.ensures (pc_at c.args.pc.base c.args.pc.index)))

pub returns-in-Sh : goal.returns-in-Sh
unfolding op_by
returns-in-Sh g c = rw c.in-Sh.is
    (rw (c.offset-in-Sh.ensures, c.read-in-Sh.ensures)
    at (c.give-in-Sh.ensures (pc_at c.args.pc.base c.args.pc.index)))

pub returns-in-Sw : goal.returns-in-Sw
unfolding op_by
returns-in-Sw g c = rw c.in-Sw.is
    (rw (c.offset-in-Sw.ensures, c.read-in-Sw.ensures)
    at (c.give-in-Sw.ensures (pc_at c.args.pc.base c.args.pc.index)))

pub returns-in-Sd : goal.returns-in-Sd
unfolding op_by
returns-in-Sd g c = rw c.in-Sd.is
    (rw (c.offset-in-Sd.ensures, c.read-in-Sd.ensures)
    at (c.give-in-Sd.ensures (pc_at c.args.pc.base c.args.pc.index)))
