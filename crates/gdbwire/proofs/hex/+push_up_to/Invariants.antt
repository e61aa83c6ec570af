use Rattle.gdbwire.proofs.hex.+push_up_to.Given as goal

abbrev pub decreases-push_up_to : goal.decreases-push_up_to
decreases-push_up_to l = l.most
