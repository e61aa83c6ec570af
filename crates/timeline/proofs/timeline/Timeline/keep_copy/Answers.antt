use Rattle.std.proofs.Common.{[], Bool, false, List, sym, subst, true, ◌++◌, ◌∷◌, ◌≡◌}
use Rattle.machine.specs.View.{View}
use Rattle.std.specs.Prelude.{All, if◌then◌else◌, is_ok}
use Rattle.std.proofs.lemmas.List.Elements.{All-push, All-same}
use Rattle.timeline.specs.Inside.{IsAt, IsCopy}
use Rattle.timeline.proofs.timeline.Timeline.keep_copy.Goals as goal

-- with one more, if there is room for it
All-pushed : {X : Type 0} (P : X → Type 0) (is : Bool) (xs ys : List X) (x : X)
    → ys ≡ (if is then xs ++ x ∷ [] else xs) → All P xs → P x → All P ys
All-pushed P true xs ys x same all one = All-same P ys (xs ++ x ∷ []) same (All-push P xs x all one)
All-pushed P false xs ys x same all one = All-same P ys xs same all

pub invariant_of-self : goal.invariant_of-self
invariant_of-self c = record {
  sound = c.self.invariant.sound;
  goes = c.self.invariant.goes;
  near = c.self.invariant.near;
  here = c.self.invariant.here;
  copies = All-pushed (IsCopy c.self.inside.begin.state c.self.inside.events)
      (is_ok c.push.result) c.self.inside.copies.items _ _
      c.push.ensures.items c.self.invariant.copies
      (subst (λ (v : View). IsAt c.self.inside.begin.state c.self.inside.events c.self.inside.at v)
      (sym c.in-Ok.ensures) c.self.invariant.here);
}
