use Rattle.asmtext.proofs.Common.{◌≡◌, map, take, part_seen, parts_seen}
use Rattle.unixmodel.specs.Tokens as the
use Rattle.asmtext.proofs.parts.all_trimmed.Given as goal

abbrev pub invariant-loop-part : goal.invariant-loop-part
invariant-loop-part l = parts_seen l.parts.items
    ≡ map (λ part. the.trimmed (part_seen part)) (take l.part-index l.split)
