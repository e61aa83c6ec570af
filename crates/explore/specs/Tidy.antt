-- That tables are tidy has one proof at most, so it may be a ghost field.
use Rattle.std.specs.Prelude.{List, Option, ℕ}
use Rattle.std.specs.Coded.{Unit-prop}
use Rattle.orders.specs.Tidy.{IsTidy}
use Rattle.renumbering.specs.Renumbered.{IsOnPipeThere}
use Rattle.unixmodel.specs.OpenFiles.{Target}
use Rattle.unixmodel.specs.OpenFiles.Target.{OnNode, OnPipe}
use Rattle.unixmodel.specs.State.{State}
use denote.Struct.Props as logic
use mathlib.Core.Bool.{Bool-set}

pub IsOnPipeThere-prop : (pipes : List (Option (List ℕ))) (target : Target) → IsProp (IsOnPipeThere pipes target)
IsOnPipeThere-prop pipes (OnNode n offset) = Unit-prop
IsOnPipeThere-prop pipes (OnPipe q end) = Bool-set _ _

pub IsTidy-prop : (s : State) → IsProp (IsTidy s)
IsTidy-prop s = Prim.hlevel (logic.props, IsOnPipeThere-prop)
