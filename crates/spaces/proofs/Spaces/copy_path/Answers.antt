use Rattle.spaces.proofs.Common.{arith, length, ◌∙◌, view_at}
use Rattle.spaces.proofs.SpacesLemmas.{path-is}
use Rattle.spaces.proofs.Spaces.copy_path.Goals as goal

pub returns-clause-path : goal.returns-clause-path
returns-clause-path g c = c.copy_string.ensures.string
    ∙ path-is (length c.args.buffer.now) (view_at c.args.self.now c.args.at).memory c.args.address (omega arith)
