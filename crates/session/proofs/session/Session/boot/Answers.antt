use Rattle.std.specs.Prelude.{is_err}
use Rattle.machine.specs.Booted.{IsBooted}
use Rattle.std.proofs.Common.{◌%◌, [], ap, arith, length, List, subst, sym, true≢false, ℕ, ◌∙◌, ◌∷◌}
use Rattle.session.proofs.Repeating.{copied, counted, length-refused, refused-on}
use Rattle.session.proofs.session.Session.boot.Goals as goal

pub returns-in_default-new-clause-refused : goal.returns-in_default-new-clause-refused
returns-in_default-new-clause-refused c =
    length-refused c.args.image.now c.args.frames
    (λ whole. c.new.ensures.length.0 (ap is_err c.in_default-new.is)
    (ap (λ n. n % 1024) c.in-Ok.ensures.len ∙ whole))

pub returns-in_err-machine-clause-refused : goal.returns-in_err-machine-clause-refused
returns-in_err-machine-clause-refused c =
    refused-on _ _ c.args.image.now _ c.args.frames c.from_residual.result c.in_err-machine.field-0.0
    c.from_residual.ensures.1
    (copied c.new.ensures.length.1 (λ e. true≢false (sym e ∙ ap is_err c.in-Ok-new.is)) c.in-Ok.ensures.items
    c.in-Ok-new.ensures.bytes c.in-Ok.ensures.len) c.in_err-machine.ensures.refused

pub returns-clause-booted : goal.returns-clause-booted
returns-clause-booted c =
    let same = copied c.new.ensures.length.1 (λ e. true≢false (sym e ∙ ap is_err c.in-Ok-new.is)) c.in-Ok.ensures.items
    c.in-Ok-new.ensures.bytes c.in-Ok.ensures.len in
    subst (λ (bs : List ℕ). IsBooted c.args.image.now (length bs ∷ []) 0 c.args.frames c.in_ok-machine.machine)
    (c.in-Ok-new.ensures.bytes ∙ c.in-Ok.ensures.items)
    (subst (λ (bs : List ℕ). IsBooted bs (length c.in-Ok-new.disk.bytes ∷ []) 0 c.args.frames c.in_ok-machine.machine)
    same c.in_ok-machine.ensures.booted)

pub returns-clause-count : goal.returns-clause-count
returns-clause-count c =
    counted _ c.args.frames (omega (arith, c.if-frames-lt-FEWEST_FRAMES.false))
    (omega (arith, c.if-frames-gt-MOST_FRAMES.false))
