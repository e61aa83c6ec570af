-- What a comparison of two machines returns.
use Rattle.std.specs.Prelude.{Bool, Err, Ok, Result, true, ◌≡◌, ◌⊎◌}
use Rattle.calls.specs.declared.halt.Halt.{Halt}
use Rattle.calls.specs.declared.halt.Halt.TheVariants.{Console, Device, Halted, InitEnded}
use Rattle.machine.specs.Looks.{IsLost, IsSame}
use Rattle.machine.specs.View.{View}

-- one had failed earlier, and nothing changed
pub record IsUnmatched (one one' other other' : View) : Type 0 where
  pub failed : (one.failed ≡ true) ⊎ (other.failed ≡ true)
  pub same : one' ≡ one
  pub other_same : other' ≡ other

-- an access of one of the two devices failed, and the other machine is as it was
abbrev pub LosesOne : View → View → View → View → Type 0
LosesOne one one' other other' = (IsLost one one' × IsSame other other') ⊎ (IsSame one one' × IsLost other other')

abbrev pub MatchGives : View → View → View → View → (Bool → Type 0) → Result Bool Halt → Type 0
MatchGives one one' other other' Says (Ok alike) = IsSame one one' × IsSame other other' × Says alike
MatchGives one one' other other' Says (Err Device) = LosesOne one one' other other'
MatchGives one one' other other' Says (Err Halted) = IsUnmatched one one' other other'
MatchGives one one' other other' Says (Err (InitEnded status)) = ⊥
MatchGives one one' other other' Says (Err Console) = ⊥
