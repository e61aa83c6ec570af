use Rattle.pagetable.proofs.AgreeLemmas.{walk_page-tree}
use Rattle.pagetable.proofs.PageTable.walks_by_map.Goals as goal

pub returns : goal.returns
returns c = λ page access. walk_page-tree page access c.frames_are_whole.ensures.small c.requires
