-- What a search left out.
use Rattle.std.specs.Prelude.{Bool, not, ◌||◌}
use Rattle.orders.specs.declared.bounds.Missed.{Missed}

-- nothing was left out
abbrev pub is_nothing : Missed → Bool
is_nothing m = not (m.ticks || m.states || m.uptime || m.late || m.stopped)

-- nothing but timer interrupts beyond the bound, and late ones
abbrev pub is_ticks_alone : Missed → Bool
is_ticks_alone m = not (m.states || m.uptime || m.stopped)

-- nothing but late ones
abbrev pub is_late_alone : Missed → Bool
is_late_alone m = not (m.ticks || m.states || m.uptime || m.stopped)
