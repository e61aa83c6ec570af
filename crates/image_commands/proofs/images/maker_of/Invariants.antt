use Rattle.std.specs.Prelude.{IfOk}
use Rattle.std.proofs.Common.{◌≡◌}
use Rattle.image_commands.specs.Entries.{most_of}
use Rattle.image_commands.proofs.Manifests.{HasLines}
use Rattle.image_commands.proofs.images.maker_of.Given as goal

-- the image so far has the entries of the lines so far
abbrev pub invariant-loop-line : goal.invariant-loop-line
invariant-loop-line g l =
    (l.most ≡ most_of l.size) × (g.H.Host.files l.host ≡ g.H.Host.files l.fn.host)
    × IfOk l.making (HasLines l.size l.inodes (g.H.Host.files l.fn.host) l.lines l.line-index)
