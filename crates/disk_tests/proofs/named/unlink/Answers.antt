use Rattle.std.proofs.Common.{ap, sym, ◌∙◌}
use Rattle.std.specs.Prelude.{is_some}
use Rattle.tree.proofs.Keeping.{acts-keeps, unlinked-reaps}
use Rattle.disk_tests.proofs.named.unlink.Goals as goal

pub unlink-told-requires-clause-directory : goal.unlink-told-requires-clause-directory
unlink-told-requires-clause-directory c = ap is_some c.requires.rules.root.here

pub returns : goal.returns
returns c =
    let up = sym c.is_lost.ensures ∙ c.if-is_lost.false in (
      c.unlink-told.ensures.failed
          ∙ up,
      acts-keeps c.unlink-told.ensures up c.requires.rules
          (λ x done. (unlinked-reaps c.requires.rules _ 1 c.args.path.now _ done).tree),
    )
