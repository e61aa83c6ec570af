use Rattle.imagecheck.proofs.Common.{sym, ap, subst, ◌∙◌, IsSome, is_some, false≢true, slot, is_name, GoodPlace}
use Rattle.imagecheck.proofs.Common.{files_in, place-free, place-taken}
use Rattle.imagecheck.proofs.Judging.{never, told}
use Rattle.imagecheck.proofs.entries.is_good.Goals as goal

pub returns-then-is_free : goal.returns-then-is_free
returns-then-is_free c =
    told (subst (GoodPlace c.args.image.now)
    (sym (place-free c.args.place.now (sym c.is_free.ensures ∙ c.if-is_free.true))) tt)

pub returns-then-not-is_used : goal.returns-then-not-is_used
returns-then-not-is_used c =
    let image = c.args.image.now in
    let taken = place-taken c.args.place.now (sym c.is_free.ensures ∙ c.if-is_free.false) in
    never (λ h. false≢true (sym c.if-not-is_used.true ∙ c.is_used.ensures
    ∙ ap (λ n. is_some (slot (files_in image) n)) c.number_in.ensures ∙ (subst (GoodPlace image) taken h).number))

pub returns : goal.returns
returns c =
    let image = c.args.image.now in
    let taken = place-taken c.args.place.now (sym c.is_free.ensures ∙ c.if-is_free.false) in
    let same = c.is_good_name.ensures ∙ ap is_name c.name_in.ensures in (
      λ t. subst (GoodPlace image) (sym taken) (record {
        name = sym same ∙ t;
        number = subst (λ n. IsSome (slot (files_in image) n)) c.number_in.ensures
            (sym c.is_used.ensures ∙ c.if-not-is_used.false);
      }),
      λ h. same ∙ (subst (GoodPlace image) taken h).name,
    )
