use Rattle.calls.proofs.Common.{ap, argument, cast_signed, cast_unsigned, here-of, int_of, ℤ, ◌∙◌, ◌≡◌}
use Rattle.std.specs.Int.{w32}
use Rattle.calls.proofs.Acts.{exits, int-bits}
use Rattle.calls.proofs.process_calls.exit.Goals as goal

pub returns : goal.returns
returns g c =
    let status : cast_signed w32 (cast_unsigned w32 c.int.result) ≡ int_of (argument c.args.kernel.now 0) =
    ap (λ (z : ℤ). cast_signed w32 (cast_unsigned w32 z)) (c.int.ensures ∙ ap int_of c.argument.ensures)
    ∙ int-bits (argument c.args.kernel.now 0) in
    rw status (exits (here-of c.requires))
