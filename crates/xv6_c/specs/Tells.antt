-- What the exports return.
use Rattle.std.proofs.Common.{Global, Vec}
use Rattle.std.specs.Prelude.{Bool, IsErrOf, List, Option, Result, [], length, option_map, ℕ, ◌∷◌, ◌≡◌}
use Rattle.calls.specs.declared.halt.Halt.{Halt}
use Rattle.calls.specs.declared.halt.Halt.TheVariants.{Halted}
use Rattle.digests.specs.Digest.{digest_of}
use Rattle.machine.specs.Booted.{IsBooted}
use Rattle.machine.specs.declared.fault.BootFault.{BootFault}
use Rattle.machine.specs.declared.inodes.Stat.{Stat}
use Rattle.machine.specs.Looks.{ReadsAt, stat_seen}
use Rattle.machine.specs.View.{View}
use Rattle.proc.specs.Next.{IsNextOf}
use Rattle.session.specs.Copied.{ShowsPage}
use Rattle.session.specs.Held.{ShowsDescriptor, ShowsPipe}
use Rattle.session.specs.Played.{Looks, Refuses, Runs, Saves, console_of}
use Rattle.session.specs.declared.held.OpenedTold.{OpenedTold}
use Rattle.session.specs.declared.play.Ran.{Ran}
use Rattle.session.specs.declared.session.Session.{Session}
use Rattle.unixmodel.specs.Memory.{Page}
use Rattle.unixmodel.specs.Shown.{shown_process, shown_stat}
use Rattle.vm.specs.declared.Perm.{Perm}
use Rattle.xv6_c.specs.Numbers.{answer_number, fault_number, marks_number, or_zero}
use Rattle.xv6_c.specs.Puts.{Puts, image_put, length_put, number_put, stat_put}
use Rattle.walks.specs.declared.WalkTold.{WalkTold}
use Rattle.xv6_c.specs.Walked.{ShowsWalk}
use Rattle.xv6_c.specs.declared.told.StatTold.{StatTold}

-- the number is that of a result of which this holds
abbrev pub Numbers : {X : Type 0} → (Result X Halt → Type 0) → ℕ → Type 0
Numbers {X} Told number = (answer : Result X Halt) × (number ≡ answer_number answer) × Told answer

-- a machine boots from an image, and has printed nothing
abbrev pub Boots : List ℕ → ℕ → Type 0
Boots image frames = (s : Session) × IsBooted image (length image ∷ []) 0 frames s.machine × (console_of s ≡ [])

-- the number is that of a fault for which an image doesn't boot
abbrev pub RefusesBy : List ℕ → ℕ → ℕ → Type 0
RefusesBy image frames number = (why : BootFault) × (number ≡ fault_number why) × Refuses image frames why

-- a run of at most `most` steps took `done`, and this is the number of its result
abbrev pub RunsTo : Session → Session → ℕ → ℕ → ℕ → Type 0
RunsTo old new most done number = (ran : Ran) × (done ≡ ran.steps) × (number ≡ answer_number ran.answer)
    × Runs old new most ran

-- the least pid above another, or 0
abbrev pub NextTells : (ℕ → Bool) → ℕ → ℕ → Type 0
NextTells there after number = (next : Option ℕ) × (number ≡ or_zero next) × IsNextOf there after next

-- a page is copied, where there is one, and this is the number of its marks
abbrev pub PageTells : Option Page → List ℕ → List ℕ → ℕ → Type 0
PageTells page old new number = (marks : Option Perm) × (number ≡ marks_number marks) × ShowsPage page old new marks

-- the open file that a descriptor names is put, where there is one
abbrev pub PutsDescriptor : View → ℕ → ℕ → OpenedTold → OpenedTold → ℕ → Type 0
PutsDescriptor m pid descriptor old new number =
    (named : Option OpenedTold) × ShowsDescriptor m pid descriptor named × Puts named old new number

-- the bytes of a pipe are copied, where there is one, and how many it has is put
abbrev pub PutsPipe : Option (List ℕ) → List ℕ → List ℕ → ℕ → ℕ → ℕ → Type 0
PutsPipe pipe before after old new number =
    (count : Option ℕ) × ShowsPipe pipe before after count × Puts count old new number

-- the entries that a walk reads are put, where there is such a process
abbrev pub PutsWalk : View → ℕ → ℕ → WalkTold → WalkTold → ℕ → Type 0
PutsWalk m pid address old new number =
    (told : Option WalkTold) × ShowsWalk (shown_process m.state pid) address told × Puts told old new number

-- the digest of a state is put
abbrev pub DigestTells : Session → Session → ℕ → ℕ → Result ℕ Halt → Type 0
DigestTells old new before after answer =
    (after ≡ number_put answer before) × Looks old new (λ digest. digest ≡ digest_of old.machine.state) answer

-- a node is put
abbrev pub StatTells : Session → Session → ℕ → StatTold → StatTold → Result (Option Stat) Halt → Type 0
StatTells old new number before after answer =
    (after ≡ stat_put answer before)
    × Looks old new (λ told. told ≡ option_map stat_seen (shown_stat old.machine.state number)) answer

-- bytes of a node are copied, and how many is put
abbrev pub ReadTells : Session → Session → ℕ → ℕ → List ℕ → List ℕ → ℕ → ℕ → Result ℕ Halt → Type 0
ReadTells old new number at before after count counted answer =
    (counted ≡ number_put answer count) × Looks old new (ReadsAt old.machine.state number at before after) answer
    × (IsErrOf answer Halted → after ≡ before)

-- the image is copied, and its length is put
abbrev pub SaveTells : Session → List ℕ → List ℕ → ℕ → ℕ → Result (Vec ℕ Global) Halt → Type 0
SaveTells old before after length told answer =
    (after ≡ image_put answer before) × (told ≡ length_put answer length) × Saves old.machine answer
