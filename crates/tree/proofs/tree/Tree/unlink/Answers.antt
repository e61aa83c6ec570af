use Rattle.tree.proofs.Common.{Some, ap, sym, ◌∙◌, ◌≡◌, refl, None, let_go, IsNaming, LacksName, Unlinks, Spot}
use Rattle.tree.proofs.Common.{unlinked}
use Rattle.tree.proofs.Ending.{acts-done, acts-lost, acts-refused, at-now, now-kept, now-passed, was-now}
use Rattle.tree.proofs.Following.{beside-now, now-begin, now-files, now-turned, now-up}
use Rattle.tree.proofs.Gaps.{gone-name, refused-at, spot-naming, without-spot}
use Rattle.tree.proofs.tree.Tree.unlink.Goals as goal

pub returns-in_err-above : goal.returns-in_err-above
returns-in_err-above g c =
    acts-refused now-begin c.spot.ensures c.in_err-above.was
    (λ known less why. without-spot _ _ _ _ _ known why) c.from_residual.ensures.1

pub remove_name-requires : goal.remove_name-requires
remove_name-requires g c =
    let now = now-kept now-begin c.spot.ensures c.requires.up c.in_ok-above.was in
    record {
      up = now-up now c.requires.up;
      naming = at-now now (λ t. IsNaming t.files c.in_ok-above.above)
          (spot-naming c.args.self.now.holds _ _ _ c.requires.rules _ c.in_ok-above.ensures.done.0);
    }

pub returns-in_err-number : goal.returns-in_err-number
returns-in_err-number g c =
    let now = now-kept now-begin c.spot.ensures c.requires.up c.in_ok-above.was in
    let at : Spot = record { directory = c.in_ok-above.above; name = c.in_ok-above.name.now } in
    acts-refused now c.remove_name.ensures c.in_err-number.was
    (λ known none why. refused-at _ _ _ _
    at c.in_ok-above.ensures.done.0 _ known (was-now now (λ t. unlinked t.files at ≡ None) none)
    (was-now now (λ t. LacksName t.files at c.in_err-number.field-0.0) why)) c.from_residual-in_err-number.ensures.1

-- after the removal of the name
pub let_go-requires : goal.let_go-requires
let_go-requires g c =
    let now = now-passed (now-kept now-begin c.spot.ensures c.requires.up c.in_ok-above.was) c.remove_name.ensures
    c.requires.up c.in_ok-number.was refl in
    record { up = now-up now c.requires.up; node = c.in_ok-number.ensures.done.stands }

pub returns-in_err-let_go : goal.returns-in_err-let_go
returns-in_err-let_go g c =
    let now = now-passed (now-kept now-begin c.spot.ensures c.requires.up c.in_ok-above.was) c.remove_name.ensures
    c.requires.up c.in_ok-number.was refl in
    acts-lost now c.let_go.ensures c.in_err-let_go.was c.from_residual-in_err-let_go.ensures.1

pub returns : goal.returns
returns g c =
    let at : Spot = record { directory = c.in_ok-above.above; name = c.in_ok-above.name.now } in
    let begun = now-kept now-begin c.spot.ensures c.requires.up c.in_ok-above.was in
    let second = was-now begun (λ t. Unlinks t.files c.remove_name.new.self.files at c.in_ok-number.number)
    c.in_ok-number.ensures.done in
    let now = now-passed begun c.remove_name.ensures c.requires.up c.in_ok-number.was refl in
    let last = now-turned now c.let_go.ensures c.in_ok-let_go.was in
    acts-done c.requires.up last (gone-name _ _ _ _ at c.in_ok-above.ensures.done.0 _ _ second.named second.made
    ∙ ap Some (ap (λ hs. let_go hs c.remove_name.new.self.files c.in_ok-number.number) (sym (beside-now now).holds)
    ∙ sym (now-files last)))
