use Rattle.inode.proofs.Calls.{up-inside, looks, sound-same}
use Rattle.inode.proofs.volume.Volume.has_blocks.Goals as goal

pub has_blocks-result-requires : goal.has_blocks-result-requires
has_blocks-result-requires g c = (c.self.invariant (up-inside c.self.view_is c.requires.up)).parts

pub returns : goal.returns
returns g c = rw (← c.self.view_is)
    (looks c.has_blocks-result.result c.has_blocks-result.ensures c.is_err-self-inside.ensures.value (λ x told. told))

pub invariant_of-self : goal.invariant_of-self
invariant_of-self g c = sound-same c.has_blocks-result.result c.has_blocks-result.ensures
    c.is_err-self-inside.ensures.value (c.self.invariant (up-inside c.self.view_is c.requires.up))
