use Rattle.std.proofs.Common.{ap, refl, ◌∙◌}
use Rattle.std.proofs.Math.Seq.{map-set_same}
use Rattle.events.specs.PlayTexts.{bare}
use Rattle.events.proofs.reading.Draft.close.Goals as goal
use Rattle.events.proofs.reading.Draft.close.Goals.{in-Some-get_mut, in_default-get_mut}

pub returns : goal.returns
returns c = elim c.match-get_mut.branch [
  | in-Some-get_mut w ↦
      let act = w.in-Some-get_mut.act.now in
      rw w.self-is (map-set_same bare c.args.self.now.acts.items c.in-Some.at w.end_at.new.act act
      (w.end_at.ensures ∙ ap bare w.in-Some-get_mut.ensures.value))
  | in_default-get_mut w ↦ rw w.self-is refl
]
