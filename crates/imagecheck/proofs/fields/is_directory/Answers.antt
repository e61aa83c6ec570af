use Rattle.imagecheck.proofs.Common.{sym, ◌∙◌, Decides-like}
use Rattle.layout.proofs.KindLemmas.{read-directory}
use Rattle.imagecheck.proofs.fields.is_directory.Goals as goal

pub returns : goal.returns
returns c = Decides-like _ (λ e. (read-directory _ _ _).0 (sym c.kind.ensures ∙ e))
    (λ e. c.kind.ensures ∙ (read-directory _ _ _).1 e) c.is_directory.ensures
