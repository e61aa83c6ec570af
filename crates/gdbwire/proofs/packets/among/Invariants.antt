use Rattle.std.proofs.Common.{◌≡◌, drop, map}
use Rattle.gdbwire.specs.Packets.{head_among}
use Rattle.gdbwire.proofs.packets.among.Given as goal

abbrev pub invariant-loop-word : goal.invariant-loop-word
invariant-loop-word l = head_among (map (λ row. (row.0.now, row.1)) l.heads) l.body
    ≡ head_among (map (λ row. (row.0.now, row.1)) (drop l.word-index l.heads)) l.body
