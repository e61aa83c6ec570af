use Rattle.std.proofs.Common.{◌≢◌, ap, subst, sym, ◌∙◌}
use Rattle.std.specs.Bool.{OnTrue}
use Rattle.std.specs.Prelude.{All, is_some}
use Rattle.tree.proofs.Keeping.{acts-keeps, linked-changed}
use Rattle.disk_tests.proofs.named.link.Goals as goal

pub link-told-requires-clause-directory : goal.link-told-requires-clause-directory
link-told-requires-clause-directory c = ap is_some c.requires.rules.root.here

pub returns : goal.returns
returns c =
    let up = sym c.is_lost.ensures ∙ c.if-is_lost.false in
    let plain = subst (λ b. OnTrue b (All (λ b. b ≢ 0) c.args.new.now)) c.if-not-is_plain.false c.is_plain.ensures in (
      c.link-told.ensures.failed
          ∙ up,
      acts-keeps c.link-told.ensures up c.requires.rules
          (λ x done. (linked-changed c.requires.rules 1 c.args.new.now plain c.args.old.now _ done).tree),
    )
