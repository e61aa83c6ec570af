use Rattle.kernel.proofs.Common.{arith, refl, length, ◌<◌, kernel_of}
use Rattle.std.proofs.lemmas.Int.{to_z-of_z}
use Rattle.std.specs.Int.{w32}
use Rattle.kernel.proofs.Ending.{finish-closes, finish-held, finish-serves}
use Rattle.kernel.proofs.Watching.{finish-watched, kernel-waking}
use Rattle.kernel.proofs.kernel.Kernel.finish.Goals as goal

pub let_go-requires-clause-held : goal.let_go-requires-clause-held
let_go-requires-clause-held g c =
    let s = c.is_sound.ensures in
    rw (c.as_slice.ensures.value, c.end-nodes.ensures.nodes)
    (finish-held c.args.status c.self.view_is s.sound c.requires
    (rw c.unwrap-process.ensures at c.whole.ensures.process) s.zero s.aligned)

pub invariant_of-self : goal.invariant_of-self
invariant_of-self g c =
    let s = c.is_sound.ensures in
    let k = kernel_of c.self.inside in
    let went = rw (c.as_slice.ensures.value, c.end-nodes.ensures.nodes) at c.let_go.ensures in
    let low : c.args.at < length k.table.places = omega
    (arith, c.self.invariant.sound.all, rw c.unwrap-process.ensures at c.whole.ensures.within) in
    rw (c.halted_after-halted.ensures, c.end-nodes.ensures.table, c.end-nodes.ensures.spaces, c.end-nodes.ensures.files)
    (record {
      sound = kernel-waking (finish-closes _ c.self.view_is s.sound c.requires
          (rw c.unwrap-process.ensures at c.whole.ensures.process) s.zero
          s.aligned c.let_go.new.tree c.let_go.result went.told went.down) _;
      watched = finish-watched k.table c.self.invariant.watched c.args.at c.unwrap-process.result _ low _ refl _ refl;
    })

pub returns : goal.returns
returns g c =
    let s = c.is_sound.ensures in
    rw (c.halted_after-halted.ensures, c.end-nodes.ensures.table, c.end-nodes.ensures.spaces, c.end-nodes.ensures.files)
    (finish-serves _ c.self.view_is s.sound c.requires (rw c.unwrap-process.ensures at c.whole.ensures.process)
    c.let_go.new.tree c.let_go.result _
    (rw (c.as_slice.ensures.value, c.end-nodes.ensures.nodes) at c.let_go.ensures) c.args.status
    (to_z-of_z w32 c.args.status c.ranges.status))
