-- How a performance ends whose bytes are written out, and what it leaves.
use Rattle.std.specs.Io.KnownBytes.{Keeps}
use Rattle.std.specs.Int.NonZero.{non_zero_u64_get}
use Rattle.std.specs.Prelude.{IfErr, IfOk, OnOk, is_none, is_some, option_map, ◌&&◌, ◌⊎◌}
use Rattle.std.specs.Result.{IsErrAnd}
use Rattle.std.specs.declared.num.NonZeroU64.{NonZeroU64}
use Rattle.std.proofs.Common.{[], Bool, Err, List, None, Ok, Option, Result, Some, false, inl, inr, refl, subst, sym}
use Rattle.std.proofs.Common.{true, ℕ, ◌∙◌, ◌≡◌, ◌≢◌}
use Rattle.std.proofs.KnownBytes.{Keeps-trans}
use Rattle.blockdev.specs.Disk.{Disk, Failing}
use Rattle.calls.specs.declared.halt.Halt.{Halt}
use Rattle.calls.specs.declared.halt.Halt.TheVariants as halt
use Rattle.commandline.specs.declared.jobs.Run.{Run}
use Rattle.driver.specs.Driven.{Gives, IsDriven, Printed, halts, spot_at}
use Rattle.driver.specs.Pacing.{Follows}
use Rattle.driver.specs.Played.{IsPlayed}
use Rattle.driver.specs.Plays.{Plays}
use Rattle.driver.specs.Spots.{Spot}
use Rattle.driver.specs.Tails.{shown_of, written_of}
use Rattle.driver.specs.declared.play.Unreached.{Unreached}
use Rattle.events.specs.Records.{Kept}
use Rattle.host.specs.Reports.{end_of}
use Rattle.host.specs.declared.report.End.{End}
use Rattle.host.specs.declared.report.End.TheVariants.{Halted}
use Rattle.machine.proofs.RunLemmas.{stops_before}
use Rattle.machine.specs.Booted.{IsUnbooted}
use Rattle.machine.specs.Gives.{RunGives}
use Rattle.machine.specs.View.{IsUp, View}
use Rattle.machine.specs.declared.fault.BootFault.{BootFault}
use Rattle.events.specs.Places.{first_place}
use Rattle.events.specs.declared.clock.Clock.{Clock}
use Rattle.events.specs.declared.clock.Clock.TheVariants.{Off}
use Rattle.events.specs.declared.grammar.Act.{Act}
use Rattle.run_commands.proofs.Ends.{no-device, plays-through, run-taken}
use Rattle.run_commands.proofs.Sitting.{ended-as}
use Rattle.run_commands.specs.Files.{IsMemoryEnd, RunsUnrecorded, disk_content, disk_failures, disk_identity}
use Rattle.run_commands.specs.Runs.{PlaysOut, WritesOut}
use Rattle.run_commands.specs.Shows.{IsImageRun, IsPieceGiven, IsRunWith, IsUnbootedWith, Noted, PieceGives, PlayedOut}
use Rattle.run_commands.specs.Shows.{all_of, failing_count, failing_identity, unreached_of}
use Rattle.run_commands.specs.declared.finish.Finish.{Finish}
use Rattle.run_commands.specs.declared.performing.Piece.{Piece}
use Rattle.run_commands.specs.declared.performing.Piece.TheVariants.{Play, Script}
use Rattle.events.specs.Scripts.{script_events}
use Rattle.unixmodel.specs.Failures.{Rises}
use Rattle.unixmodel.specs.declared.event.Event.{Event}

-- ---- the events of a piece

driven-as : {Wants Given : Result (Unit {0}) Halt → List Event → Type 0} {old new : View} {from to : Printed}
    {kept keeps : Option Kept} {r : Result (Unit {0}) Halt}
    → ((q : Result (Unit {0}) Halt) (events : List Event) → Wants q events → Given q events)
    → IsDriven Wants old new from to kept keeps r → IsDriven Given old new from to kept keeps r
driven-as {Wants} {Given} {old} {new} {from} {to} {kept} {keeps} {r} same d = record {
  events = d.events;
  wanted = same r d.events d.wanted;
  gives = d.gives;
}

-- a script waits for nothing
pub script-given : {piece : Piece} {all : List Event} {s : Spot} {old new : View} {from to : Printed}
    {kept keeps : Option Kept} {ran : Result (Unit {0}) Halt} {r : Result (Option Unreached) Halt}
    → ((q : Result (Unit {0}) Halt) (events : List Event) → Follows all q events → PieceGives piece s None q events)
    → IsDriven (Follows all) old new from to kept keeps ran → halts r ≡ ran → IfOk r (λ u. u ≡ None)
    → IsPieceGiven piece s old new from to kept keeps r
script-given {piece} {all} {s} {old} {new} {from} {to} {kept} {keeps} same d is none = record {
  vain = None;
  driven = driven-as same (subst (λ e. IsDriven (Follows all) old new from to kept keeps e) (sym is) d);
  told = none;
}

pub play-given : {piece : Piece} {acts : List Act} {s : Spot} {old new : View} {from to : Printed}
    {kept keeps : Option Kept} {r : Result (Option Unreached) Halt}
    → ((vain : Option Unreached) (q : Result (Unit {0}) Halt) (events : List Event)
    → Plays 0xffff_ffff_ffff_ffff acts first_place s vain q events → PieceGives piece s vain q events)
    → IsPlayed acts s old new from to kept keeps r → IsPieceGiven piece s old new from to kept keeps r
play-given same h = record { vain = h.vain; driven = driven-as (same h.vain) h.driven; told = h.told }

-- ---- what is written out

whole-run : (old new : View) (all events : List Event) (before after : Option (List ℕ)) (rising : Type 0)
    (r : Result (Unit {0}) Halt) → Follows all r events → RunGives old new events before after rising r
    → RunGives old new all before after rising r
whole-run old new all events before after rising (Ok u) follows k =
    subst (λ (es : List Event). RunGives old new es before after rising (Ok u)) follows k
whole-run old new all events before after rising (Err why) follows k =
    subst (λ (es : List Event). RunGives old new es before after rising (Err why)) follows.1
    (stops_before old new events follows.0 before after rising why k)

console-or : (ended : Result (Unit {0}) Halt) (written : Bool)
    → (end_of ended written ≡ Halted halt.Console) ⊎ (end_of ended written ≡ end_of ended true)
console-or ended true = inr refl
console-or ended false = inl refl

-- the console's bytes are written out
pub written-out : {new : View} {to : Printed} (mid : Option (List ℕ)) {after : Option (List ℕ)} {fails : ℕ}
    {ended : Result (Unit {0}) Halt} {end : End} → Keeps (written_of to.contents) mid → Keeps mid after
    → fails ≡ to.failed
    → (written : Bool) → (fails ≡ 0 → end ≡ end_of ended written) → (fails ≢ 0 → end ≡ Halted halt.Console)
    → WritesOut new to ended after end
written-out {new} {to} mid {after} {fails} {ended} {end} keep keeps same written sound fault = record {
  ends = ended-as ended (λ e. (e ≡ Halted halt.Console) ⊎ (e ≡ end_of ended true)) written
      (λ w few. console-or ended w) sound fault;
  plays = λ old events from kept kept_now up g.
      ended-as ended (λ e. PlaysOut old new events (written_of from.contents) after e) written
      (λ w few.
      plays-through old new (written_of from.contents) (written_of from.contents) (written_of to.contents)
      (written_of to.contents) after refl refl (Keeps-trans (written_of to.contents) mid after keep keeps) events
      (Rises from.failed to.failed) ended w up
      (run-taken old new from.contents to.contents events (Rises from.failed to.failed) ended g.runs))
      sound fault;
}

-- a machine that has halted takes the rest of a script without a change
gives-all : {old new : View} {from to : Printed} {kept keeps : Option Kept} (piece : Piece) (s : Spot)
    (vain : Option Unreached) (events : List Event) (r : Result (Unit {0}) Halt) → PieceGives piece s vain r events
    → Gives events old new from to kept keeps r → Gives (all_of piece events) old new from to None None r
gives-all {old} {new} {from} {to} (Script commands) s vain events r wanted g = record {
  records = tt;
  runs = whole-run old new (script_events commands.now) events from.contents to.contents
      (Rises from.failed to.failed) r wanted.1 g.runs;
  later = g.later;
}
gives-all (Play play) s vain events r wanted g = record { records = tt; runs = g.runs; later = g.later }

told-by : (r : Result (Option Unreached) Halt) (unreached vain : Option Unreached)
    → IfOk r (λ found. unreached ≡ found) → IfOk r (λ found. found ≡ vain) → OnOk (halts r) (unreached ≡ vain)
told-by (Ok found) unreached vain is told = is ∙ told
told-by (Err why) unreached vain is told = tt

-- a piece whose bytes are written out
pub played-out : {piece : Piece} {old new : View} {from to : Printed} {before after : Option (List ℕ)}
    {kept keeps : Option Kept} {clock : Clock} {r : Result (Option Unreached) Halt}
    {ended : Result (Unit {0}) Halt} {unreached : Option Unreached} {end : End} → IsUp old
    → written_of from.contents ≡ before → shown_of from.contents ≡ option_map (λ bytes. []) before → clock ≡ Off
    → IsPieceGiven piece (spot_at old from clock) old new from to kept keeps r → ended ≡ halts r
    → IfOk r (λ found. unreached ≡ found) → WritesOut new to ended after end
    → PlayedOut piece (record { kept = kept; keeps = keeps; before = before; after = after }) old new end unreached
played-out {piece} {old} {new} {from} {to} {before} {after} {kept} {keeps} {clock} {r} {ended} {unreached} {end} up
    wrote shows off h is told w =
    let wanted = subst
    (λ (shown : Option (List ℕ)).
    PieceGives piece (record { state = old.state; shown = shown; clock = Off }) h.vain (halts r) h.driven.events)
    shows
    (subst (λ (c : Clock). PieceGives piece (spot_at old from c) h.vain (halts r) h.driven.events) off
    h.driven.wanted) in
    record {
      events = h.driven.events;
      ended = halts r;
      vain = h.vain;
      wanted = wanted;
      told = told-by r unreached h.vain told h.told;
      ends = subst (λ e. (end ≡ Halted halt.Console) ⊎ (end ≡ end_of e true)) is w.ends;
      records = h.driven.gives.records;
      plays = subst (λ (b : Option (List ℕ)). PlaysOut old new (all_of piece h.driven.events) b after end) wrote
          (w.plays old (all_of piece h.driven.events) from None None up
          (subst (λ e. Gives (all_of piece h.driven.events) old new from to None None e) (sym is)
          (gives-all piece _ h.vain h.driven.events (halts r) wanted h.driven.gives)));
    }

-- ---- a run from a disk of which one access fails

module _ {D : Type 0} (identity : D → List ℕ) (count : D → ℕ) (fail : Option NonZeroU64) (n : NonZeroU64) (disk : D)
    (failing : Failing D) (is : fail ≡ Some n) (device : failing.device ≡ disk)
    (left : failing.left ≡ non_zero_u64_get n) where
  -- what runs from the disk with its access that fails
  pub runs-failing : (content : D → List (List ℕ)) (frames : ℕ) (piece : Piece) (noted : Noted) (saves : Bool)
      (end : End) (unreached : Option Unreached) (kept : Option (Failing D)) (disk' : Option D)
      → option_map (λ (d : Failing D). d.device) kept ≡ disk'
      → IsImageRun (λ (d : Failing D). content d.device) (failing_identity identity) (failing_count count) failing
      frames piece noted saves end unreached kept
      → IsRunWith content identity count fail disk frames piece noted saves end unreached disk'
  runs-failing content frames piece noted saves end unreached kept disk' inner runs = rw is (record {
    failing = kept;
    inner = inner;
    runs = rw (← device, ← left) runs;
  })

  -- what doesn't boot from it
  pub unbooted-failing : (image : List ℕ) (frames : ℕ) (fault : BootFault)
      → IsUnbooted (failing_identity identity) (failing_count count) failing image frames fault
      → IsUnbootedWith identity count fail disk image frames fault
  unbooted-failing image frames fault why = rw is (rw (← device, ← left) why)

-- what holds of a fault holds of the result that passes it on
pub passed-on : {T : Type 0} (r : Result T BootFault) (fault : BootFault) (Why : BootFault → Type 0)
    → IsErrAnd r (λ f. f ≡ fault) → Why fault → IfErr r Why
passed-on (Ok x) fault Why is why = tt
passed-on (Err f) fault Why is why = subst Why (sym is) why

-- ---- the same, whatever is recorded

abbrev pub unnoted : Noted → Noted
unnoted noted = record { kept = None; keeps = None; before = noted.before; after = noted.after }

unrecorded-out : {piece : Piece} {noted : Noted} {old new : View} {end : End} {unreached : Option Unreached}
    → PlayedOut piece noted old new end unreached → PlayedOut piece (unnoted noted) old new end unreached
unrecorded-out p = record {
  events = p.events;
  ended = p.ended;
  vain = p.vain;
  wanted = p.wanted;
  told = p.told;
  ends = p.ends;
  records = tt;
  plays = p.plays;
}

module _ {D : Type 0} (content : D → List (List ℕ)) (identity : D → List ℕ) (count : D → ℕ) where
  unrecorded-image : {disk : D} {frames : ℕ} {piece : Piece} {noted : Noted} {saves : Bool} {end : End}
      {unreached : Option Unreached} {left : Option D}
      → IsImageRun content identity count disk frames piece noted saves end unreached left
      → IsImageRun content identity count disk frames piece (unnoted noted) saves end unreached left
  unfolding unrecorded-out
  unrecorded-image i = record {
    first = i.first;
    booted = i.booted;
    performed = record {
      last = i.performed.last;
      ended = i.performed.ended;
      plays = unrecorded-out i.performed.plays;
      leaves = i.performed.leaves;
    };
  }

pub unrecorded : {D : Type 0} (content : D → List (List ℕ)) (identity : D → List ℕ) (count : D → ℕ)
    (fail : Option NonZeroU64) (disk : D) (frames : ℕ) (piece : Piece) (noted : Noted) (saves : Bool) (end : End)
    (unreached : Option Unreached) (left : Option D)
    → IsRunWith content identity count fail disk frames piece noted saves end unreached left
    → IsRunWith content identity count fail disk frames piece (unnoted noted) saves end unreached left
unrecorded content identity count None disk frames piece noted saves end unreached left i =
    unrecorded-image content identity count i
unrecorded content identity count (Some n) disk frames piece noted saves end unreached left i = record {
  failing = i.failing;
  inner = i.inner;
  runs = unrecorded-image (λ (d : Failing _). content d.device) (failing_identity identity)
      (failing_count count) i.runs;
}

-- ---- a disk in memory

pub memory-end : (fail : Option NonZeroU64) (disk : Disk) (frames : ℕ) (piece : Piece) (noted : Noted) (saves : Bool)
    (end : End) (unreached : Option Unreached) (left : Option Disk)
    → IsRunWith disk_content disk_identity disk_failures fail disk frames piece noted saves end unreached left
    → IsMemoryEnd fail end
memory-end None disk frames piece noted saves end unreached left i =
    no-device disk_content disk_identity i.first (all_of piece i.performed.plays.events) noted.before noted.after
    (saves && is_none unreached) left end i.performed.leaves
memory-end (Some n) disk frames piece noted saves end unreached left i = tt

pub memory-sound : (disk : Disk) (words : Run) (piece : Piece) (before after : Option (List ℕ)) (finish : Finish)
    (left : Option Disk) → RunsUnrecorded disk words piece before after finish left → IsMemoryEnd words.fail finish.end
memory-sound disk words piece before after finish left runs =
    memory-end words.fail disk words.frames piece
    (record { kept = None; keeps = None; before = before; after = after }) (is_some words.save) finish.end
    (unreached_of finish) left runs
