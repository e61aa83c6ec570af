use Rattle.imagecheck.proofs.Common.{◌-◌, format_of, level_of}
use Rattle.imagecheck.proofs.blocks.+number.Given as goal

abbrev pub decreases-number : goal.decreases-number
decreases-number l = 2 - level_of (format_of l.image.now) l.slot
