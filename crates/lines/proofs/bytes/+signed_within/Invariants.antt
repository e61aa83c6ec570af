use Rattle.lines.proofs.bytes.+signed_within.Given as goal

abbrev pub decreases-signed_within : goal.decreases-signed_within
decreases-signed_within l = l.most
