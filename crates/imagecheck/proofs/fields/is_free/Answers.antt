use Rattle.imagecheck.proofs.Common.{sym, ◌∙◌, Decides-like}
use Rattle.layout.proofs.KindLemmas.{read-free}
use Rattle.imagecheck.proofs.fields.is_free.Goals as goal

pub returns : goal.returns
returns c = Decides-like _ (λ e. (read-free _ _ _).0 (sym c.kind.ensures ∙ e))
    (λ e. c.kind.ensures ∙ (read-free _ _ _).1 e) c.is_free.ensures
