-- Where a play is, and where it goes from there.
use Rattle.std.specs.Prelude.{None, Option, Some, [], false, if◌then◌else◌, length, nat_lt, slice_get, take, true, ℕ}
use Rattle.std.specs.Prelude.{◌+◌, ◌++◌, ◌-◌, ◌==◌, ◌∷◌}
use Rattle.arrayvec.specs.ArrayVec.{ArrayVec}
use Rattle.events.specs.declared.grammar.Deed.{Deed}
use Rattle.events.specs.declared.grammar.Deed.TheVariants.{End, Repeat}
use Rattle.events.specs.declared.place.Place.{Place}
use Rattle.events.specs.declared.place.Round.{Round}

-- the round that began last, and those around it
abbrev pub innermost : ArrayVec Round → Option Round
innermost rounds = slice_get rounds.items (length rounds.items - 1)

abbrev pub outer : ArrayVec Round → ArrayVec Round
outer rounds = record { items = take (length rounds.items - 1) rounds.items }

-- one more round; there are 8 at most
abbrev pub with_round : ArrayVec Round → Round → ArrayVec Round
with_round rounds r = if nat_lt (length rounds.items) 8 then record { items = rounds.items ++ r ∷ [] } else rounds

-- an event came: the innermost round is not the last for want of one
abbrev pub marked : Place → Option Round → Place
marked p None = p
marked p (Some r) = record p { rounds = with_round (outer p.rounds) (record r { gave = true }) }

abbrev pub noted : Place → Place
noted p = marked p (innermost p.rounds)

-- a round begins, and `left` more follow
abbrev pub begun : Place → ℕ → ℕ → Place
begun p start left = record p { rounds = with_round p.rounds (record { start = start; left = left; gave = false }) }

-- a repeat begins, or is passed over where there are no rounds
abbrev pub opened : Place → ℕ → ℕ → Place
opened p times end = if times == 0 then record p { at = end } else begun p p.at (times - 1)

-- a round ends: the next one begins, if there is one and this one gave an event
abbrev pub again : Place → Round → Place
again p r = if r.left == 0 then p else begun (record p { at = r.start }) r.start (r.left - 1)

abbrev pub closed_by : Place → Option Round → Place
closed_by p None = p
closed_by p (Some r) =
    if r.gave then again (noted (record p { rounds = outer p.rounds })) r else record p { rounds = outer p.rounds }

abbrev pub closed : Place → Place
closed p = closed_by p (innermost p.rounds)

-- where a play is after a line
abbrev pub gone : Place → Deed → Place
gone p (Repeat times end) = opened p times end
gone p End = closed p
gone p _ = p

abbrev pub after_deed : Place → Deed → Place
after_deed p deed = gone (record p { at = p.at + 1 }) deed

abbrev pub first_place : Place
first_place = record { at = 0; rounds = record { items = [] } }
