-- What a call on names returns, by what the tree returns.
use Rattle.std.specs.Prelude.{Err, Ok, Result, false, true, ◌≡◌}
use Rattle.blockdev.specs.declared.DeviceFault.{DeviceFault}
use Rattle.calls.specs.declared.outcome.Came.{Came}
use Rattle.calls.specs.declared.outcome.Came.TheVariants.{Answers, Refuses}
use Rattle.tree.specs.declared.TreeFault.{TreeFault}
use Rattle.tree.specs.Tree.{is_device}

-- nothing was made: the call is refused, or an access of the device failed
abbrev pub IsRefused : TreeFault → Result Came DeviceFault → Type 0
IsRefused fault (Ok came) = (came ≡ Refuses) × (is_device fault ≡ false)
IsRefused fault (Err lost) = is_device fault ≡ true

-- or the result is 0
abbrev pub IsNamed : {X : Type 0} → Result X TreeFault → Result Came DeviceFault → Type 0
IsNamed (Ok x) came = came ≡ Ok (Answers 0)
IsNamed (Err fault) came = IsRefused fault came
