use Rattle.std.proofs.Common.{◌≢◌, ap, subst, sym, ◌∙◌}
use Rattle.std.specs.Bool.{OnTrue}
use Rattle.std.specs.Prelude.{All, is_some}
use Rattle.tree.proofs.Keeping.{acts-keeps, folder-changed}
use Rattle.disk_tests.proofs.named.directory.Goals as goal

pub create_directory-told-requires-clause-directory : goal.create_directory-told-requires-clause-directory
create_directory-told-requires-clause-directory c = ap is_some c.requires.rules.root.here

pub returns : goal.returns
returns c =
    let up = sym c.is_lost.ensures ∙ c.if-is_lost.false in
    let plain = subst (λ b. OnTrue b (All (λ b. b ≢ 0) c.args.path.now)) c.if-not-is_plain.false c.is_plain.ensures in (
      c.create_directory-told.ensures.failed
          ∙ up,
      acts-keeps c.create_directory-told.ensures up c.requires.rules
          (λ x done. (folder-changed c.requires.rules 1 c.args.path.now plain _ done).tree),
    )
