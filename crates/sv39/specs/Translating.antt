-- What translators that remember find, and what they then remember.
use Rattle.std.specs.Prelude.{Err, IfOk, IfSome, List, None, Ok, Option, Result, Some, length, ℕ, ◌%◌, ◌+◌, ◌/◌, ◌<◌}
use Rattle.std.specs.Prelude.{◌^◌, ◌≡◌}
use Rattle.std.specs.Result.{result_ok}
use Rattle.unixmodel.specs.declared.trap.Access.{Access}
use Rattle.unixmodel.specs.Translation.{Held, HoldsInside, IsAnswer, IsKept, place_in, walk, walk_count, walk_page}
use Rattle.sv39.specs.Lookaside.{Cache, Hits, IsFound, Keeps, KeepsOthers, Knows, Misses, Reaches, Remembers}
use Rattle.sv39.specs.Lookaside.{asked, of_page}
use Rattle.sv39.specs.Walk.{LiesInside}
use Rattle.sv39.specs.declared.Fault.{Fault}
use Rattle.sv39.specs.declared.recent.Recent.{Recent}

-- the translation of an address whose page has this frame, if it has one
abbrev pub placed : ℕ → Option ℕ → Result ℕ Fault
placed va None = Err (record {})
placed va (Some frame) = Ok (place_in va frame)

-- a translation cache of n slots walks for a page, and remembers its frame
pub record Walks (n : ℕ) (old new : Cache) (ram : List (List ℕ)) (root page : ℕ) (access : Access)
    (frame : Option ℕ) : Type 0 where
  pub is : frame ≡ (walk_page ram root page access).frame
  pub inside : IfSome frame (λ f. f < length ram)
  pub reads : new.reads ≡ (old.reads + (walk_page ram root page access).count) % 2 ^ 64
  pub joins : IfSome frame (λ f. Keeps n new.kept (of_page root page access f))
  pub stays : KeepsOthers n page (Keeps n old.kept) (Keeps n new.kept)
  pub kept : IsKept (Keeps n old.kept) (Keeps n new.kept) ram root

-- a translation cache translates an address by what it remembers, or else walks
pub record RecallsOrWalks (n : ℕ) (old new : Cache) (ram : List (List ℕ)) (root va : ℕ) (access : Access)
    (result : Result ℕ Fault) : Type 0 where
  pub answer : IsAnswer (Keeps n old.kept) ram root va access (result_ok result)
  -- what is held may be of another memory: where it lies inside this one, so does the result
  pub inside : HoldsInside (Keeps n old.kept) ram → IfOk result (LiesInside ram)
  pub kept : IsKept (Keeps n old.kept) (Keeps n new.kept) ram root
  pub hit : Hits (Keeps n old.kept) root va access (λ f. (result ≡ Ok (place_in va f)) × (new ≡ old))
  pub walks : Misses (Keeps n old.kept) root va access → (result_ok result ≡ walk ram root va access)
      × (new.reads ≡ (old.reads + walk_count ram root va access) % 2 ^ 64)
  pub joins : IfOk result (Reaches (Keeps n new.kept) root va access)
  pub stays : KeepsOthers n (va / 4096) (Keeps n old.kept) (Keeps n new.kept)

-- the translator below is asked for the frame of an address, and its result remembered
pub record Asks {T : Type 0} (held : T → Held) (old new : Recent T) (ram : List (List ℕ)) (root va : ℕ)
    (access : Access) (frame : Option ℕ) : Type 0 where
  pub found : IsFound (held old.below) ram root va access frame
  pub inside : IfSome frame (λ f. f < length ram)
  pub kept : IsKept (Knows held old.below old.places) (Knows held new.below new.places) ram root
  pub below : IsKept (held old.below) (held new.below) ram root
  pub joins : IfSome frame (λ f. Remembers new.places (asked root va access f))
  pub stays : KeepsOthers 256 (va / 4096) (Remembers old.places) (Remembers new.places)

-- an address is translated by what is remembered, or else by the translator below
pub record RecallsOrAsks {T : Type 0} (held : T → Held) (old new : Recent T) (ram : List (List ℕ)) (root va : ℕ)
    (access : Access) (result : Result ℕ Fault) : Type 0 where
  pub answer : IsAnswer (Knows held old.below old.places) ram root va access (result_ok result)
  pub inside : IfOk result (LiesInside ram)
  pub kept : IsKept (Knows held old.below old.places) (Knows held new.below new.places) ram root
  pub hit : Hits (Remembers old.places) root va access (λ f. (result ≡ Ok (place_in va f)) × (new ≡ old))
  pub miss : Misses (Remembers old.places) root va access
      → IsAnswer (held old.below) ram root va access (result_ok result)
      × IsKept (held old.below) (held new.below) ram root
  pub joins : IfOk result (Reaches (Remembers new.places) root va access)
  pub stays : KeepsOthers 256 (va / 4096) (Remembers old.places) (Remembers new.places)
