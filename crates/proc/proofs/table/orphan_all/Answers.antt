use Rattle.proc.proofs.Common.{arith, ◌∙◌}
use Rattle.std.proofs.lemmas.List.{append-nil, drop_all, get_or_default, take_all}
use Rattle.std.proofs.lemmas.List.Edits.{map_over_more}
use Rattle.proc.proofs.table.orphan_all.Goals as goal

pub loop-place-preserved : goal.loop-place-preserved
loop-place-preserved c =
    rw c.orphan.ensures (map_over_more _ _ _ _ _ (omega arith) c.loop-place.invariant
    (get_or_default c.loop-place.places _ _ _ (omega arith)))

pub returns : goal.returns
returns c = let all = c.loop-place-test.false in c.loop-place.invariant ∙ rw (take_all, drop_all) (append-nil _)
