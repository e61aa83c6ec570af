use Rattle.imagecheck.proofs.Common.{sym, ap, ◌∙◌, arith, is_some, not, Decides-eqb, same_from_decides, inodes-least}
use Rattle.imagecheck.proofs.Common.{HasPlace-at, slot-past, slot-zero}
use Rattle.imagecheck.proofs.Entering.{used-is}
use Rattle.imagecheck.proofs.entries.is_used.Goals as goal

pub is_free-requires : goal.is_free-requires
is_free-requires c = HasPlace-at c.requires _ c.if-n-geometry.false

pub returns-then-n-eq0 : goal.returns-then-n-eq0
returns-then-n-eq0 c = let least =
    inodes-least c.requires in ap is_some (sym (slot-zero _ _ c.if-n-eq0.true (omega arith)))

pub returns-then-n-geometry : goal.returns-then-n-geometry
returns-then-n-geometry c = ap is_some (sym (slot-past _ _ (omega (arith, c.requires.inodes, c.if-n-geometry.true))))

pub returns : goal.returns
returns c = ap not (same_from_decides _ _ c.is_free.ensures (Decides-eqb _ 0))
    ∙ used-is _ _ (omega (arith, c.if-n-eq0.false)) (omega (arith, c.requires.inodes, c.if-n-geometry.false))
