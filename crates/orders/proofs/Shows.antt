-- What shows the same.
use Rattle.std.proofs.Common.{ap, List, refl, ◌∙◌, ◌≡◌}
use Rattle.orders.proofs.Alike.{files-alike, halted-alike}
use Rattle.orders.proofs.Lists.{one-each}
use Rattle.orders.specs.declared.told.Outcome.{Outcome}
use Rattle.orders.specs.Ends.{ShowSame, saved_as}
use Rattle.orders.specs.Paths.{events_of}
use Rattle.orders.specs.Told.{IsTold}
use Rattle.renumbering.specs.Alike.{AlikeUpToNumbers}
use Rattle.unixmodel.specs.Calls.{After}
use Rattle.unixmodel.specs.Files.{Files, slot}
use Rattle.unixmodel.specs.Run.{run}
use Rattle.unixmodel.specs.State.{State}

pub same-refl : (a : After) → ShowSame a a
same-refl a = record { bytes = refl; status = refl; files = λ n within. refl }

pub same-on : (a b c : After) → ShowSame a b → ShowSame b c → ShowSame a c
same-on a b c one two = record {
  bytes = one.bytes ∙ two.bytes;
  status = one.status ∙ two.status;
  files = λ n within. one.files n within ∙ two.files n within;
}

-- alike states, with the same bytes
pub same-alike : (a b : After) → a.bytes ≡ b.bytes → AlikeUpToNumbers a.state b.state → ShowSame a b
same-alike a b bytes alike = record {
  bytes = bytes;
  status = halted-alike a.state b.state alike;
  files = λ n within. ap (λ (f : Files). saved_as (slot f n)) (files-alike a.state b.state alike);
}

-- what shows what is told is told
pub told-same : (s : State) (told : List Outcome) (a b : After) → ShowSame a b → IsTold s told b → IsTold s told a
told-same s told a b same h =
    one-each (λ (o : Outcome). ShowSame b (run s (events_of o.path)))
    (λ (o : Outcome). ShowSame a (run s (events_of o.path)))
    (λ o on. same-on a b (run s (events_of o.path)) same on) told h
