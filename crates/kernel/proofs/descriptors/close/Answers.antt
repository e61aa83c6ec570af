use Rattle.kernel.proofs.Common.{sym, ◌∙◌, ap, Some}
use Rattle.kernel.proofs.Leaving.{stands-last}
use Rattle.kernel.proofs.descriptors.close.Goals as goal

pub destroy_pipe-requires : goal.destroy_pipe-requires
destroy_pipe-requires g c =
    stands-last c.args.files.now _ c.args.id _ c.in-Pipe.end c.requires
    (sym c.close.ensures.last ∙ c.in_ok-pipe.was ∙ ap (λ on. Some on) c.in-Pipe.is)
