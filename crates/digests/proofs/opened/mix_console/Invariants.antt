use Rattle.digests.proofs.Common.{[], mixed, take, ◌∷◌, ◌≡◌}
use Rattle.digests.proofs.Steps.{typed}
use Rattle.digests.proofs.opened.mix_console.Given as goal

abbrev pub invariant-loop-at : goal.invariant-loop-at
invariant-loop-at l = l.digest ≡ mixed (mixed l.fn.digest (l.committed ∷ l.edited ∷ [])) (take l.at (typed l.console))
