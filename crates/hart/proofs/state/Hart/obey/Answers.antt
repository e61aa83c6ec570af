use Rattle.hart.proofs.Acts.{acts-live, keeps-live}
use Rattle.std.proofs.lemmas.List.{get_or_default}
use Rattle.hart.proofs.state.Hart.obey.Goals as goal

pub returns-clause-acts : goal.returns-clause-acts
returns-clause-acts g c = λ d.
    rw (
      c.seen_live.ensures,
      get_or_default c.args.ops.now c.args.k d c.index-ops-k.result c.requires.place.0,
      ← c.index-ops-k.is,
    ) (acts-live c.act-next.result c.args.live.now.frames c.act-next.ensures.acts)

pub returns-clause-words : goal.returns-clause-words
returns-clause-words g c =
    rw c.seen_live.ensures (keeps-live c.act-next.result c.args.live.now.frames _ _ c.act-next.ensures.only)
