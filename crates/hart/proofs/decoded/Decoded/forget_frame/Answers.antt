use Rattle.hart.proofs.Common.{eq-eqb, true, ◌%◌, ◌==◌, ◌≡◌, slice_index}
use Rattle.hart.proofs.Pages.{other-written}
use Rattle.hart.proofs.decoded.Decoded.forget_frame.Goals as goal

pub returns-then-has : goal.returns-then-has
returns-then-has c = λ ram bytes knows. c.forget.ensures _

pub returns-else-has : goal.returns-else-has
returns-else-has c = λ ram bytes knows current. other-written _ _ _ ram bytes _
    (λ live.
    let yes : (slice_index c.args.self.now.live.frames (c.args.frame.0 % 32) == c.args.frame.0) ≡ true =
    eq-eqb _ _ live in
    let no = c.if-has.ensures in
    cc (yes, no))
    (knows current)
