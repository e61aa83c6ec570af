use Rattle.imagecheck.proofs.Common.{◌≡◌, sym, ap, refl, ◌∙◌, bytes_eq, is_some, false≢true, Decides-at, Decides-like}
use Rattle.imagecheck.proofs.Common.{same_Some, bytes_eq-Decides, Entry, place-free, place-taken}
use Rattle.imagecheck.proofs.Judging.{never}
use Rattle.imagecheck.proofs.fronts.holds.Goals as goal

pub returns-then-is_free : goal.returns-then-is_free
returns-then-is_free c =
    never (λ h. false≢true (ap is_some
    (sym (place-free c.args.place.now (sym c.is_free.ensures ∙ c.if-is_free.true)) ∙ h)))

pub returns-then-number_in-number : goal.returns-then-number_in-number
returns-then-number_in-number c =
    let taken = place-taken _ (sym c.is_free.ensures ∙ c.if-is_free.false) in
    never (λ h. c.if-number_in-number.true
    (c.number_in.ensures ∙ ap (λ (e : Entry). e.number) (same_Some _ _ (sym taken ∙ h))))

pub returns : goal.returns
returns c =
    let same = Decides-at c.are_same.result (bytes_eq c.name_in.result.now c.args.name.now) c.are_same.ensures
    (bytes_eq-Decides c.name_in.result.now c.args.name.now) in
    rw (
      place-taken c.args.place.now (sym c.is_free.ensures ∙ c.if-is_free.false),
      ← c.name_in.ensures,
      ← c.number_in.ensures,
    )
    (Decides-like _ (λ (e : c.name_in.result.now ≡ c.args.name.now). rw (e, c.if-number_in-number.false) refl)
    (λ h. ap (λ (e : Entry). e.name) (same_Some _ _ h)) same)
