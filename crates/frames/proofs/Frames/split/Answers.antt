use Rattle.std.proofs.Common.{arith, refl, ap}
use Rattle.frames.specs.Holders.{count_of}
use Rattle.frames.proofs.HolderLemmas.{held-inside, not-free-held}
use Rattle.frames.proofs.TradeLemmas.{holders-table}
use Rattle.frames.proofs.Frames.split.Goals as goal

pub unshare-requires-clause-shared : goal.unshare-requires-clause-shared
unshare-requires-clause-shared c =
    let m = c.args.ram.now in
    let s = c.args.self.now in
    let inside = held-inside m s c.args.frame.0 c.requires.valid (omega (arith, c.requires.shared)) in
    omega (arith, c.requires.shared, not-free-held c.requires.valid c.args.frame.0 inside.0 inside.1)

pub returns-clause-holders : goal.returns-clause-holders
returns-clause-holders c = λ f.
    omega (
      arith,
      c.unshare.ensures.holders f,
      holders-table c.unshare.ensures.valid c.pop.ensures.valid refl c.pop.ensures.extra f,
      ap (count_of f) c.pop.ensures.some,
    )
