use Rattle.std.proofs.Common.{arith}
use Rattle.programs.proofs.Places.{segment-loaded, still-held}
use Rattle.programs.proofs.loading.load_segment.Goals as goal

pub returns-clause-loaded : goal.returns-clause-loaded
returns-clause-loaded g c =
    segment-loaded _ _ _ _ _ c.requires.ready.space c.requires.next.follows
    (omega (arith, c.div_ceil-end.ensures, c.pages.ensures.count)) c.add_pages.ensures c.fill_node.result
    c.fill_node.ensures.filled

pub returns-clause-failed : goal.returns-clause-failed
returns-clause-failed g c = still-held _ _ _ _ c.fill_node.result c.add_pages.ensures c.fill_node.ensures.failed
