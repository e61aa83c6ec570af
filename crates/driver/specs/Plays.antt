-- The events that the lines of a play stand for.
use Rattle.std.specs.Prelude.{Bool, Err, List, None, Ok, Option, Result, Some, [], false, length, nat_lt, slice_get}
use Rattle.std.specs.Prelude.{suc, true, zero, ℕ, ◌++◌, ◌∷◌, ◌≡◌, ◌⊎◌}
use Rattle.calls.specs.declared.halt.Halt.{Halt}
use Rattle.driver.specs.Commands.{keys_of, wanted_of}
use Rattle.driver.specs.Spots.{Leads, Spot}
use Rattle.driver.specs.Walks.{IsWait, IsWaiting}
use Rattle.driver.specs.Wanted.{Just}
use Rattle.driver.specs.declared.play.Unreached.{Unreached}
use Rattle.driver.specs.declared.wanted.Walked.{Walked}
use Rattle.driver.specs.declared.wanted.Wanted.{Wanted}
use Rattle.driver.specs.declared.wanted.Wanted.TheVariants.{Nothing, Set, Steps}
use Rattle.events.specs.Paced.{Begins, paced}
use Rattle.events.specs.Scripts.{command_events}
use Rattle.events.specs.Clocks.{passed_by}
use Rattle.events.specs.Places.{after_deed, noted}
use Rattle.events.specs.declared.grammar.Act.{Act}
use Rattle.events.specs.declared.grammar.Deed.{Deed}
use Rattle.events.specs.declared.grammar.Deed.TheVariants as deed
use Rattle.events.specs.declared.grammar.Goal.{Goal}
use Rattle.events.specs.declared.place.Place.{Place}
use Rattle.events.specs.declared.script.lines.Command.TheVariants as command
use Rattle.unixmodel.specs.declared.event.Event.{Event}

-- ---- a line

-- the events of a line at `s`; then the machine is at `t`, and `w` came of the steps of one that waits
abbrev pub LineGives : Deed → Spot → List Event → Spot → Walked → Type 0
LineGives (deed.Give (command.Step n)) s events t w =
    (events ≡ paced n s.clock) × (t.clock ≡ passed_by n s.clock)
LineGives (deed.Give c) s events t w = Just (command_events c) s events t
LineGives (deed.Until goal most) s events t w =
    IsWait (Some goal) s most w × (events ≡ paced w.made s.clock) × (t.clock ≡ passed_by w.made s.clock)
LineGives (deed.Set c) s events t w = (events ≡ []) × (t.clock ≡ c)
LineGives (deed.Repeat times end) s events t w = Just [] s events t
LineGives deed.End s events t w = Just [] s events t

-- a beginning of them
abbrev pub LineBegins : Deed → Spot → List Event → Type 0
LineBegins (deed.Give (command.Step n)) s events = Begins events (paced n s.clock)
LineBegins (deed.Give c) s events = Begins events (command_events c)
LineBegins (deed.Until goal most) s events = IsWaiting (Some goal) s most events
LineBegins _ s events = ⊥

-- what it waited for in vain, after this came of its steps
abbrev pub vain_unless : Bool → ℕ → ℕ → Option Unreached
vain_unless true line steps = None
vain_unless false line steps = Some (record { line = line; steps = steps })

abbrev pub vain_of : ℕ → Deed → Walked → Option Unreached
vain_of line (deed.Until goal most) w = vain_unless w.is_there line w.made
vain_of line _ w = None

abbrev pub in_vain : Act → Walked → Option Unreached
in_vain act w = vain_of act.line act.deed w

-- ---- the lines

abbrev pub has_event : List Event → Bool
has_event [] = false
has_event (e ∷ es) = true

abbrev pub noted_if : Bool → Place → Place
noted_if true p = noted p
noted_if false p = p

-- what a play waits for in vain, where it ends so, and its events
abbrev pub Ending : Type 1
Ending = Option Unreached → Result (Unit {0}) Halt → List Event → Type 0

-- no more events come
abbrev pub IsAtEnd : Option Unreached → Ending
IsAtEnd waited vain r events = (vain ≡ waited) × (r ≡ Ok tt) × (events ≡ [])

-- a line that waits in vain is the last
abbrev pub GoesOnUnless : Option Unreached → Ending → Ending
GoesOnUnless None Later vain r events = Later vain r events
GoesOnUnless (Some unreached) Later vain r events = IsAtEnd (Some unreached) vain r events

-- a line gives its events, and then the others give theirs
pub record LineIsDone (Later : Place → Spot → Ending) (act : Act) (p : Place) (s : Spot) (vain : Option Unreached)
    (r : Result (Unit {0}) Halt) (events : List Event) : Type 0 where
  pub first : List Event
  pub more : List Event
  pub parts : events ≡ first ++ more
  pub spot : Spot
  pub walked : Walked
  pub gives : LineGives act.deed s first spot walked
  pub leads : Leads s first spot
  pub later : GoesOnUnless (in_vain act walked) (Later (noted_if (has_event first) (after_deed p act.deed)) spot) vain r
      more

-- the machine halts within its events
abbrev pub LineHalts : Act → Spot → Ending
LineHalts act s vain (Ok u) events = ⊥
LineHalts act s vain (Err why) events = (vain ≡ None) × LineBegins act.deed s events

abbrev pub LinePlays : (Place → Spot → Ending) → Option Act → Place → Spot → Ending
LinePlays Later None p s vain r events = IsAtEnd None vain r events
LinePlays Later (Some act) p s vain r events = LineIsDone Later act p s vain r events ⊎ LineHalts act s vain r events

-- the events of the lines that come from a place on, of which there are at most `n`
unfoldable pub Plays : ℕ → List Act → Place → Spot → Ending
Plays zero acts p s vain r events = IsAtEnd None vain r events
Plays (suc n) acts p s vain r events = LinePlays (Plays n acts) (slice_get acts p.at) p s vain r events

-- ---- the lines as a source

abbrev pub wanted_by : Deed → Wanted
wanted_by (deed.Give c) = wanted_of c
wanted_by (deed.Until goal most) = Steps most
wanted_by (deed.Set c) = Set c
wanted_by _ = Nothing

abbrev pub aim_of_deed : Deed → Option Goal
aim_of_deed (deed.Until goal most) = Some goal
aim_of_deed _ = None

abbrev pub aim_of : Option Act → Option Goal
aim_of None = None
aim_of (Some act) = aim_of_deed act.deed

abbrev pub deed_keys : Deed → List ℕ
deed_keys (deed.Give c) = keys_of (Some c)
deed_keys _ = []

abbrev pub line_keys_of : Option Act → List ℕ
line_keys_of None = []
line_keys_of (Some act) = deed_keys act.deed

-- whether a line gave an event
abbrev pub gave : Deed → Walked → Bool
gave (deed.Give (command.Step n)) w = nat_lt 0 n
gave (deed.Give (command.Tick n)) w = nat_lt 0 n
gave (deed.Give (command.Keys keys)) w = nat_lt 0 (length keys.items)
gave (deed.Give (command.Type text)) w = true
gave (deed.Until goal most) w = nat_lt 0 w.made
gave _ w = false

-- the console's bytes are written out, and then the others give their events
pub record IsWrittenOut (Later : Spot → Ending) (s : Spot) (vain : Option Unreached) (r : Result (Unit {0}) Halt)
    (events : List Event) : Type 0 where
  pub spot : Spot
  pub leads : Leads s [] spot
  pub clock : spot.clock ≡ s.clock
  pub later : Later spot vain r events

-- how many questions a line that gave its events is good for
abbrev pub is_open : Option Act → ℕ
is_open None = 0
is_open (Some act) = 1

-- the events from here on, where this line gave its own and this came of them
abbrev pub PlaysOn : ℕ → List Act → Place → Option Act → Walked → Spot → Ending
PlaysOn n acts p None w s vain r events = Plays n acts p s vain r events
PlaysOn n acts p (Some act) w s vain r events =
    GoesOnUnless (in_vain act w) (IsWrittenOut (Plays n acts (noted_if (gave act.deed w) p)) s) vain r events
