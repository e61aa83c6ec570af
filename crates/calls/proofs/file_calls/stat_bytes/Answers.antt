use Rattle.calls.proofs.Common.{ap, le, refl, stat_told, zeros, ◌∙◌}
use Rattle.calls.proofs.Attributes.{le-4, le-8}
use Rattle.calls.proofs.file_calls.stat_bytes.Goals as goal

pub returns : goal.returns
unfolding stat_told zeros
returns c =
    rw (
      c.copy_from_slice.ensures.after ∙ c.to_le_bytes.ensures ∙ le-4 c.args.number,
      c.copy_from_slice-2.ensures.after ∙ c.to_le_bytes-2.ensures,
      c.copy_from_slice-3.ensures.after ∙ c.to_le_bytes-3.ensures,
      c.copy_from_slice-4.ensures.after ∙ c.to_le_bytes-4.ensures ∙ le-8 c.from.result ∙ ap (le 8) c.from.ensures,
    )
    refl
