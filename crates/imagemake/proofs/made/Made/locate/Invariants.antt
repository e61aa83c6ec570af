use Rattle.imagemake.proofs.Common.{◌≡◌, ◌++◌, ◌∷◌, length, LeadsTo}
use Rattle.imagemake.proofs.made.Made.locate.Given as goal

abbrev pub invariant-name : goal.invariant-name
invariant-name l = record {
  joined : l.path ≡ l.spot.above.now ++ 0x2f ∷ l.spot.below.now;
  leads : LeadsTo l.self.items l.spot.above.now l.spot.directory;
}

abbrev pub decreases-name : goal.decreases-name
decreases-name l = length l.spot.below.now
