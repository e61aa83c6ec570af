-- How a session ends whose bytes are written out.
use Rattle.std.specs.Io.KnownBytes.{Keeps}
use Rattle.std.specs.Prelude.{Option, is_some}
use Rattle.blockdev.specs.Disk.{Disk}
use Rattle.calls.specs.declared.halt.Halt.{Halt}
use Rattle.commandline.specs.declared.jobs.Live.{Live}
use Rattle.driver.specs.Driven.{Printed}
use Rattle.driver.specs.Pacing.{Follows}
use Rattle.driver.specs.Sessions.{Ends, IsSession}
use Rattle.driver.specs.Tails.{written_of}
use Rattle.driver.specs.declared.terminal.Given.{Given}
use Rattle.events.specs.Records.{Kept}
use Rattle.host.specs.Files.{HoldsFront, HostFiles}
use Rattle.host.specs.Reports.{end_of}
use Rattle.host.specs.declared.host.Front.{Front}
use Rattle.host.specs.declared.report.End.{End}
use Rattle.host.specs.declared.report.End.TheVariants.{Halted}
use Rattle.machine.specs.View.{IsUp, View}
use Rattle.unixmodel.specs.declared.event.Event.{Event}
use Rattle.std.proofs.Common.{[], append-nil, arith, Bool, Err, false, inl, inr, List, Ok, refl, Result}
use Rattle.std.proofs.Common.{subst, suc, sym, true, zero, ℕ, ◌∙◌, ◌≡◌, ◌≢◌}
use Rattle.std.proofs.KnownBytes.{Keeps-trans}
use Rattle.calls.specs.declared.halt.Halt.TheVariants as halt
use Rattle.run_commands.proofs.Ends.{no-device, plays-through, run-taken}
use Rattle.run_commands.specs.Files.{BootsFront, LivesOn, disk_content, disk_failures, disk_identity, most_of_image}
use Rattle.run_commands.specs.Seats.{AreOf, IsLeft, IsSat, SitsOut, quantum_in}
use Rattle.unixmodel.specs.Failures.{Rises}

are-of : (all events : List Event) (ended : Result (Unit {0}) Halt) (written : Bool) → Follows all ended events
    → AreOf events all (end_of ended written)
are-of all events (Ok u) true f = f
are-of all events (Ok u) false f = ([], append-nil events ∙ f)
are-of all events (Err why) true f = f
are-of all events (Err why) false f = f

-- a count that stays 0 has not risen
stays : (failed fails : ℕ) → failed ≡ 0 → fails ≡ 0 → Rises failed fails → ⊥
stays failed fails e f rises = let bad = rw (e, f) at rises in absurd (omega (arith, bad))

is-left : (gave : List Given) (failed fails : ℕ) (ended : Result (Unit {0}) Halt) (written : Bool) → failed ≡ 0
    → (written ≡ true → fails ≡ 0) → Ends gave failed fails ended → IsLeft gave (end_of ended written)
is-left gave failed fails (Ok u) true e f (inl x) = inl x
is-left gave failed fails (Ok u) true e f (inr (inl rises)) = absurd (stays failed fails e (f refl) rises)
is-left gave failed fails (Ok u) true e f (inr (inr n)) = inr n
is-left gave failed fails (Err why) true e f x = tt
is-left gave failed fails _ _ e f x = tt

-- a run whose output failed is one whose console failed
pub ended-as : {fails : ℕ} {end : End} (ended : Result (Unit {0}) Halt) (P : End → Type 0) (written : Bool)
    → ((w : Bool) → (w ≡ true → fails ≡ 0) → P (end_of ended w)) → (fails ≡ 0 → end ≡ end_of ended written)
    → (fails ≢ 0 → end ≡ Halted halt.Console) → P end
ended-as {fails} {end} ended P written has sound fault = by-count fails refl
  where
    by-count : (n : ℕ) → fails ≡ n → P end
    by-count zero is = subst P (sym (sound is)) (has written (λ w. is))
    by-count (suc n) is = subst P (sym (fault (λ z. absurd (omega (arith, is, z))))) (has false (λ w. absurd (cc)))

module _ {quantum : ℕ} {gives later : Option (List Given)} {kept keeps : Option Kept} {old new : View}
    {from to : Printed} {before after : Option (List ℕ)} (mid : Option (List ℕ)) {ended : Result (Unit {0}) Halt}
    (wrote : written_of from.contents ≡ before) (keep : Keeps (written_of to.contents) mid) (same : Keeps mid after)
    (none : from.failed ≡ 0) (up : IsUp old)
    (h : IsSession quantum gives later old new from to kept keeps ended) where
  sits-with : (written : Bool) → (written ≡ true → to.failed ≡ 0)
      → SitsOut quantum gives later kept keeps old new before after (end_of ended written)
  sits-with written sound =
      let events = h.given.events in
      let rising = Rises from.failed to.failed in
      record {
        gave = h.gave;
        first = h.first;
        events = events;
        follows = are-of _ events ended written h.given.wanted;
        records = h.given.gives.records;
        left = is-left h.gave from.failed to.failed ended written none sound h.ends;
        plays = plays-through old new (written_of from.contents) before (written_of to.contents)
            (written_of to.contents) after wrote refl (Keeps-trans (written_of to.contents) mid after keep same) events
            rising ended written up
            (run-taken old new from.contents to.contents events rising ended h.given.gives.runs);
      }

  pub sits-out : {fails : ℕ} {end : End} → fails ≡ to.failed → (written : Bool)
      → (fails ≡ 0 → end ≡ end_of ended written) → (fails ≢ 0 → end ≡ Halted halt.Console)
      → SitsOut quantum gives later kept keeps old new before after end
  sits-out {fails} {end} is written sound fault =
      ended-as {fails = fails} ended (SitsOut quantum gives later kept keeps old new before after) written
      (λ w few. sits-with w (λ x. sym is ∙ few x)) sound fault

-- ---- on the machine of an image

pub lives-on : {held : Option HostFiles} {words : Live} {front : Front} {quantum : ℕ}
    {gives later : Option (List Given)} {kept keeps : Option Kept} {first : View} {before after : Option (List ℕ)}
    {saves : Bool} {end : End} {left : Option Disk} → HoldsFront words.image.now most_of_image front held
    → BootsFront front words.frames first → quantum ≡ quantum_in words.quantum → saves ≡ is_some words.save
    → IsSat disk_content disk_identity disk_failures quantum gives later kept keeps first before after saves end left
    → LivesOn held words before after end
lives-on {words = words} {front} {gives = gives} {later} {kept} {keeps} {first} {before} {after} {saves} {end} {left}
    image booted quantum_is saves_is sat = record {
      front = front;
      image = image;
      first = first;
      booted = booted;
      gives = gives;
      later = later;
      kept = kept;
      keeps = keeps;
      left = left;
      sat = rw (← quantum_is, ← saves_is) sat;
      sound = no-device disk_content disk_identity first sat.sits.events before after saves left end sat.leaves;
    }
