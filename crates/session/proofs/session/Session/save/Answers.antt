use Rattle.std.specs.Prelude.{vec_len}
use Rattle.std.proofs.Common.{[], arith, length, List, refl, subst, sym, ℕ, ◌∷◌, ◌≡◌}
use Rattle.session.proofs.Repeating.{disk-image}
use Rattle.session.proofs.session.Session.save.Goals as goal
use Rattle.unixmodel.specs.Image.{Denotes}
use Rattle.unixmodel.specs.Shown.{left}

pub returns : goal.returns
returns c =
    let bytes = c.into_bytes.result in (
      c.in_ok-disk.ensures.sound,
      subst (λ (bs : List ℕ). length bs ∷ [] ≡ c.args.self.machine.identity) (sym c.into_bytes.ensures.bytes)
          c.in_ok-disk.ensures.same_device,
      subst (λ (bs : List ℕ). Denotes bs (left c.args.self.machine.state))
          (disk-image bytes.items bytes.items c.in_ok-disk.disk.bytes (vec_len bytes) refl
          (sym c.into_bytes.ensures.bytes) (omega (arith, bytes.ok.0)) c.into_bytes.ensures.whole)
          c.in_ok-disk.ensures.denotes,
    )
