-- What a machine's fields represent.
use Rattle.std.specs.Prelude.{false, ◌≡◌}
use Rattle.kernel.specs.Kernel.{state_of}
use Rattle.machine.specs.declared.machine.Machine.TheInside.{Inside}
use Rattle.machine.specs.View.{View}

abbrev pub told_of : {D T : Type 0} → Inside D T → View
told_of m = record {
  state = state_of m.kernel;
  failures = m.kernel.tree.failures;
  failed = m.failed;
  identity = m.kernel.tree.identity;
}

-- until the machine has failed no access of the device has
abbrev pub IsSound : {D T : Type 0} → Inside D T → Type 0
IsSound m = m.failed ≡ false → m.kernel.tree.failed ≡ false
