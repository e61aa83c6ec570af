use Rattle.balloc.proofs.Common.{ap, arith, ◌∙◌, super_bytes, goes-after, goes-stays, step-failed, step-last}
use Rattle.balloc.proofs.Formatting.{HasParts-write, new_system, written_bits}
use Rattle.balloc.proofs.fresh.format.Goals as goal

pub returns-in_err-clear : goal.returns-in_err-clear
returns-in_err-clear g c = step-failed goes-stays c.clear.ensures c.in_err-clear.was c.from_residual.ensures.1

pub returns-in_err-write : goal.returns-in_err-write
returns-in_err-write g c =
    step-failed c.clear.ensures.goes c.write.ensures c.in_err-write.was c.from_residual-in_err-write.ensures.1

pub mark_front-requires : goal.mark_front-requires
mark_front-requires g c = record {
  parts = HasParts-write 1 c.to_bytes-head.result c.in_ok-clear.ensures.done.0 (omega (arith, c.requires.size))
      (omega arith) c.in_ok-write.ensures.done;
  clear = λ b h.
      written_bits c.in_ok-clear.ensures.done.0 c.requires.size c.in_ok-clear.ensures.done.1
      (c.to_bytes-head.ensures.bytes ∙ ap super_bytes c.super_block.ensures) c.in_ok-write.ensures.done b h;
}

pub returns : goal.returns
returns g c = step-last (goes-after c.clear.ensures.goes c.write.ensures.goes) (λ _ front.
    new_system c.in_ok-clear.ensures.done.0 c.requires.size c.in_ok-clear.ensures.done.1
    (c.to_bytes-head.ensures.bytes ∙ ap super_bytes c.super_block.ensures) c.in_ok-write.ensures.done front)
    c.mark_front.ensures
