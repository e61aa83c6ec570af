use Rattle.std.proofs.Common.{[], rules, ◌++◌, ◌∷◌, ◌≡◌}
use Rattle.events.proofs.Wording.{quoted-more, spelled-more}
use Rattle.events.proofs.words.spelled.Goals as goal

pub loop-byte-preserved : goal.loop-byte-preserved
loop-byte-preserved c =
    let before = c.loop-byte.invariant in
    let first = c.in-Some.ensures in
    let items : c.try_push.new.self.items ≡ c.loop-byte.shown.items ++ c.in-Some.byte ∷ [] = search rules in
    rw items (
      before.0 ++ first.0,
      quoted-more c.args.word.now before.0 first.0 c.loop-byte.rest.now c.in-Some.after.now before.1 first.1,
      spelled-more before.0 c.loop-byte.shown.items first.0 c.in-Some.byte before.2 first.2,
    )
