-- The command line that the program declares, and what a job says of it.
use Rattle.std.specs.Prelude.{◌≡◌, ◌↔◌, IsTrue, Bool, ℕ, ℤ, negsuc, pos, List, [], ◌∷◌, None, Option, Some, true, false}
use Rattle.std.specs.Prelude.{codes}
use Rattle.std.specs.Prelude.{fold, option_map, slice_get}
use Rattle.std.specs.Borrow.{Bor}
use Rattle.std.specs.Int.NonZero.{non_zero_u64_get}
use Rattle.std.specs.Str.Parse.{IsNumeral, digits_value, signed_digits_value, without_leading_sign}
use Rattle.std.specs.declared.num.NonZeroU64.{NonZeroU64}
use Rattle.clap.specs.Words.{App, Row, Rule, Text, all_of, app_of, first_of, new_app, new_rule, with_rule}
use Rattle.clap.specs.Words.{with_subcommand}
use Rattle.clap.specs.declared.builder.action.ArgAction.TheVariants.{SetTrue}
use Rattle.clap.specs.declared.builder.command.Command.{Command}
use Rattle.clap.specs.declared.builder.command.Command.TheViews.{out-Command}
use Rattle.clap.specs.declared.builder.value_parser.ValueParser.TheVariants.{Signed}
use Rattle.commandline.specs.declared.declarations.Declared.{Declared}
use Rattle.commandline.specs.declared.declarations.Given.{Given}
use Rattle.commandline.specs.declared.declarations.Given.TheVariants as given
use Rattle.commandline.specs.declared.declarations.Word.{Word}
use Rattle.commandline.specs.declared.jobs.As.{As}
use Rattle.commandline.specs.declared.jobs.Asm.{Asm}
use Rattle.commandline.specs.declared.jobs.Check.{Check}
use Rattle.commandline.specs.declared.jobs.Dump.{Dump}
use Rattle.commandline.specs.declared.jobs.Explore.{Explore}
use Rattle.commandline.specs.declared.jobs.Files.{Files}
use Rattle.commandline.specs.declared.jobs.Flat.{Flat}
use Rattle.commandline.specs.declared.jobs.Gdb.{Gdb}
use Rattle.commandline.specs.declared.jobs.Job.{Job}
use Rattle.commandline.specs.declared.jobs.Job.TheVariants as job
use Rattle.commandline.specs.declared.jobs.Live.{Live}
use Rattle.commandline.specs.declared.jobs.Ls.{Ls}
use Rattle.commandline.specs.declared.jobs.Migrate.{Migrate}
use Rattle.commandline.specs.declared.jobs.Mkfs.{Mkfs}
use Rattle.commandline.specs.declared.jobs.Get.{Get}
use Rattle.commandline.specs.declared.jobs.Lines.{Lines}
use Rattle.commandline.specs.declared.jobs.Part.{Part}
use Rattle.commandline.specs.declared.jobs.Play.{Play}
use Rattle.commandline.specs.declared.jobs.Put.{Put}
use Rattle.commandline.specs.declared.jobs.Reach.{Reach}
use Rattle.commandline.specs.declared.jobs.Telling.{Telling}
use Rattle.commandline.specs.declared.jobs.Trace.{Trace}
use Rattle.commandline.specs.declared.jobs.Run.{Run}

-- a word that has to be there
abbrev pub word_rule : Text → Rule
word_rule name = record (new_rule name) { required = true }

-- a word that may be left out
abbrev pub last_rule : Text → Rule
last_rule name = new_rule name

-- --name N, a number of 32 bits, with a default where it is left out
abbrev pub number_rule : Text → Text → Rule
number_rule name default = record (new_rule name) {
  long = Some name;
  value_names = 1;
  parser = Some (Signed (pos 0) (pos 4294967295));
  defaults = default ∷ [];
}

-- --name N, a number of 32 bits from 1 on, which may be left out
abbrev pub count_rule : Text → Rule
count_rule name = record (new_rule name) {
  long = Some name;
  value_names = 1;
  parser = Some (Signed (pos 1) (pos 4294967295));
}

-- the same of a number from 2 on
abbrev pub several_rule : Text → Rule
several_rule name = record (count_rule name) { parser = Some (Signed (pos 2) (pos 4294967295)) }

-- the same of any number of 32 bits
abbrev pub amount_rule : Text → Rule
amount_rule name = record (count_rule name) { parser = Some (Signed (pos 0) (pos 4294967295)) }

-- the same of a number of 32 bits with a sign
abbrev pub signed_rule : Text → Rule
signed_rule name = record (count_rule name) { parser = Some (Signed (negsuc 2147483647) (pos 2147483647)) }

-- --name
abbrev pub named_rule : Text → Rule
named_rule name = record (new_rule name) { long = Some name }

-- --name WORD, which may be left out
abbrev pub option_rule : Text → Rule
option_rule name = record (new_rule name) { long = Some name; value_names = 1 }

-- --name WORD, or -l WORD, which may be left out
abbrev pub short_rule : Text → ℕ → Rule
short_rule name letter = record (option_rule name) { short = Some letter }

-- one to eight words
abbrev pub each_rule : Text → Rule
each_rule name = record (word_rule name) { range = Some (record { start_inclusive = 1; end_inclusive = 8 }) }

-- --name, a flag
abbrev pub flag_rule : Text → Rule
flag_rule name = record (new_rule name) { long = Some name; action = Some SetTrue }

-- --name, a flag with a letter
abbrev pub letter_rule : Text → ℕ → Rule
letter_rule name letter = record (new_rule name) { long = Some name; short = Some letter; action = Some SetTrue }

-- [--frames N] [--tlb]
abbrev pub boot_options : App → App
boot_options app = with_rule (with_rule app (number_rule (codes "frames") (codes "256"))) (flag_rule (codes "tlb"))

-- [--report] [--json FILE] [--registers PID] [--memory PID] [--status] [--progress]
abbrev pub telling_options : App → App
telling_options app =
    with_rule (with_rule (with_rule (with_rule (with_rule (with_rule app
    (flag_rule (codes "report"))) (option_rule (codes "json"))) (count_rule (codes "registers")))
    (count_rule (codes "memory")))
    (flag_rule (codes "status"))) (flag_rule (codes "progress"))

-- [--explain]
abbrev pub explained : App → App
explained app = with_rule app (flag_rule (codes "explain"))

-- one more word
abbrev pub with_bare : App → Text → App
with_bare app name = with_rule app (word_rule name)

-- [--faults]
abbrev pub with_faults : App → App
with_faults app = with_rule app (flag_rule (codes "faults"))

-- what all runs from an image take, and traces
abbrev pub image_options : App → App
image_options app =
    telling_options (with_rule (with_rule (boot_options app) (count_rule (codes "fail"))) (option_rule (codes "save")))

-- [--symbols DIR] [--explain]
abbrev pub named_options : App → App
named_options app = explained (with_rule app (option_rule (codes "symbols")))

abbrev pub run_options : App → App
run_options app = named_options (with_faults (image_options app))

-- flat [..] FILE SCRIPT
abbrev pub declared_flat : App
declared_flat = with_bare
    (with_bare (explained (with_faults (telling_options (boot_options (new_app (codes "flat")))))) (codes "FILE"))
    (codes "SCRIPT")

-- run [..] [--fail N] [--save OUT] IMAGE SCRIPT
abbrev pub declared_run : App
declared_run = with_bare (with_bare (run_options (new_app (codes "run"))) (codes "IMAGE")) (codes "SCRIPT")

-- live [--frames N] [--quantum N] [--record SCRIPT] [--save OUT] [--terminal] [--edit] [--symbols DIR] IMAGE
abbrev pub declared_live : App
declared_live =
    with_bare (named_options (with_rule (with_rule (with_rule (with_rule (with_rule (with_rule (new_app (codes "live"))
    (number_rule (codes "frames") (codes "256"))) (several_rule (codes "quantum"))) (option_rule (codes "record")))
    (option_rule (codes "save"))) (flag_rule (codes "terminal"))) (flag_rule (codes "edit")))) (codes "IMAGE")

-- play [..] [--script OUT] IMAGE PLAY
abbrev pub declared_play : App
declared_play = with_bare
    (with_bare (with_rule (run_options (new_app (codes "play"))) (option_rule (codes "script"))) (codes "IMAGE"))
    (codes "PLAY")

-- [--pid PID] [--calls NAMES] [--from N] [--to N]
abbrev pub part_options : App → App
part_options app =
    with_rule (with_rule (with_rule (with_rule app
    (count_rule (codes "pid"))) (option_rule (codes "calls"))) (count_rule (codes "from"))) (count_rule (codes "to"))

-- [--bytes N] [--each] [--time] [--turns]
abbrev pub line_options : App → App
line_options app =
    with_rule (with_rule (with_rule (with_rule app
    (number_rule (codes "bytes") (codes "32"))) (flag_rule (codes "each"))) (flag_rule (codes "time")))
    (flag_rule (codes "turns"))

-- trace [..] [--text FILE] [--perfetto FILE] [--commits FILE] [--core-is-pid] [--jsonl FILE] [--play] IMAGE SCRIPT
abbrev pub declared_trace : App
declared_trace =
    with_bare (with_bare (with_rule (with_rule (with_rule (with_rule (with_rule (with_rule
    (line_options (part_options (named_options (image_options (new_app (codes "trace"))))))
    (option_rule (codes "text"))) (option_rule (codes "perfetto"))) (option_rule (codes "commits")))
    (flag_rule (codes "core-is-pid")))
    (option_rule (codes "jsonl"))) (flag_rule (codes "play"))) (codes "IMAGE")) (codes "SCRIPT")

-- gdb [--frames N] [--memory MB] [--record SCRIPT] [--init] [--symbols DIR] [IMAGE] [SCRIPT]
abbrev pub declared_gdb : App
declared_gdb =
    with_rule (with_rule (named_options (with_rule (with_rule (with_rule (with_rule (new_app (codes "gdb"))
    (number_rule (codes "frames") (codes "256"))) (number_rule (codes "memory") (codes "1024")))
    (option_rule (codes "record"))) (flag_rule (codes "init")))) (last_rule (codes "IMAGE")))
    (last_rule (codes "SCRIPT"))

-- [--ticks K] [--states N] [--seconds S] [--fine]
abbrev pub bound_options : App → App
bound_options app =
    with_rule (with_rule (with_rule (with_rule app
    (amount_rule (codes "ticks"))) (number_rule (codes "states") (codes "1000000"))) (count_rule (codes "seconds")))
    (flag_rule (codes "fine"))

-- [--scripts DIR] [--want FILE] [--status N]
abbrev pub wanting_options : App → App
wanting_options app =
    with_rule (with_rule (with_rule app (option_rule (codes "scripts"))) (option_rule (codes "want")))
    (signed_rule (codes "status"))

-- [--random N] [--seed S]
abbrev pub random_options : App → App
random_options app = with_rule (with_rule app (count_rule (codes "random"))) (number_rule (codes "seed") (codes "1"))

-- explore [--frames N] [..] IMAGE [SCRIPT]
abbrev pub declared_explore : App
declared_explore =
    with_rule (with_bare (explained (random_options (wanting_options (bound_options
    (with_rule (new_app (codes "explore")) (number_rule (codes "frames") (codes "256"))))))) (codes "IMAGE"))
    (last_rule (codes "SCRIPT"))

-- mkfs [--size N] [--inodes N] MANIFEST IMAGE
abbrev pub declared_mkfs : App
declared_mkfs =
    with_bare (with_bare (explained (with_rule (with_rule (new_app (codes "mkfs"))
    (number_rule (codes "size") (codes "2000"))) (number_rule (codes "inodes") (codes "200"))))
    (codes "MANIFEST")) (codes "IMAGE")

-- check IMAGE
abbrev pub declared_check : App
declared_check = with_bare (explained (new_app (codes "check"))) (codes "IMAGE")

-- ls [-R] IMAGE PATH
abbrev pub declared_ls : App
declared_ls = with_bare (with_bare (explained (with_rule (new_app (codes "ls")) (letter_rule (codes "recursive") 82)))
    (codes "IMAGE")) (codes "PATH")

-- get IMAGE PATH [OUT]
abbrev pub declared_get : App
declared_get = with_rule (with_bare (with_bare (explained (new_app (codes "get"))) (codes "IMAGE")) (codes "PATH"))
    (last_rule (codes "OUT"))

-- put IMAGE PATH FILE
abbrev pub declared_put : App
declared_put = with_bare (with_bare (with_bare (explained (new_app (codes "put"))) (codes "IMAGE")) (codes "PATH"))
    (codes "FILE")

-- migrate OLD NEW
abbrev pub declared_migrate : App
declared_migrate = with_bare (with_bare (explained (new_app (codes "migrate"))) (codes "OLD")) (codes "NEW")

-- asm TEXT ELF
abbrev pub declared_asm : App
declared_asm = with_bare (with_bare (explained (new_app (codes "asm"))) (codes "TEXT")) (codes "ELF")

-- as [-o OUT] [--expand] [-g] [-v] FILE..
abbrev pub declared_as : App
declared_as =
    with_rule (explained (with_rule (with_rule (with_rule (with_rule (new_app (codes "as"))
    (short_rule (codes "out") 111)) (flag_rule (codes "expand"))) (letter_rule (codes "debug") 103))
    (letter_rule (codes "verbose") 118)))
    (each_rule (codes "FILE"))

-- dump [--names] ELF
abbrev pub declared_dump : App
declared_dump = with_bare (explained (with_rule (new_app (codes "dump")) (flag_rule (codes "names")))) (codes "ELF")

-- a command has to be there
abbrev pub declared_top : App
declared_top = record (new_app (codes "xv6")) {
  top = record (new_app (codes "xv6")).top
      { subcommand_required = true; arg_required_else_help = true; has_version = true };
}

-- what boots a machine
abbrev pub with_machines : App → App
with_machines app =
    with_subcommand (with_subcommand (with_subcommand (with_subcommand (with_subcommand (with_subcommand
    (with_subcommand app
    declared_flat.top) declared_run.top) declared_live.top) declared_play.top) declared_trace.top) declared_gdb.top)
    declared_explore.top

-- what works on disk images
abbrev pub with_images : App → App
with_images app =
    with_subcommand (with_subcommand (with_subcommand (with_subcommand (with_subcommand (with_subcommand app
    declared_mkfs.top) declared_check.top) declared_ls.top) declared_get.top) declared_put.top) declared_migrate.top

-- what works on the texts and the files of programs
abbrev pub with_programs : App → App
with_programs app = with_subcommand (with_subcommand (with_subcommand app declared_asm.top) declared_as.top)
    declared_dump.top

abbrev pub declared : App
declared = with_programs (with_images (with_machines declared_top))

-- the command declares no more than this, for itself alone
pub record DeclaresOwn (app : App) (command : Command) : Type 0 where
  pub shape : app_of command ≡ app
  pub local : (out-Command command).has_globals ≡ false

-- ---- the rows in which it is declared

abbrev pub rule_given : Text → Given → Rule
rule_given name given.Bare = word_rule name
rule_given name given.Last = last_rule name
rule_given name (given.Number default) = number_rule name default.now
rule_given name (given.Count value) = count_rule name
rule_given name (given.Several value) = several_rule name
rule_given name (given.Amount value) = amount_rule name
rule_given name (given.Signed value) = signed_rule name
rule_given name (given.Option value) = option_rule name
rule_given name (given.Short letter) = short_rule name letter
rule_given name given.Each = each_rule name
rule_given name given.Flag = flag_rule name
rule_given name (given.Letter letter) = letter_rule name letter

abbrev pub with_word : App → Word → App
with_word app word = with_rule app (rule_given word.name.now word.given)

abbrev pub declared_by : Declared → App
declared_by row = fold with_word (new_app row.name.now) row.words.now

abbrev pub with_declared : App → Declared → App
with_declared app row = with_subcommand app (declared_by row).top

-- the text is n in decimal digits alone
pub record Writes (text : Text) (n : ℕ) : Type 0 where
  pub numeral : IsNumeral 10 text
  pub value : digits_value 10 text ≡ n

-- the number that was found of this name
abbrev pub IsWritten : Text → List Row → ℕ → Type 0
IsWritten name found n = (text : Text) × (first_of name found ≡ Some text) × Writes text n

-- the number that was found of this name, none where there is none
abbrev pub IsCount : Text → List Row → Option NonZeroU64 → Type 0
IsCount name found None = first_of name found ≡ None
IsCount name found (Some n) = IsWritten name found (non_zero_u64_get n)

-- the same of any number
abbrev pub IsAmount : Text → List Row → Option ℕ → Type 0
IsAmount name found None = first_of name found ≡ None
IsAmount name found (Some n) = IsWritten name found n

-- the text is z in decimal digits, after a sign or none
pub record WritesSigned (text : Text) (z : ℤ) : Type 0 where
  pub numeral : IsNumeral 10 (without_leading_sign text)
  pub value : signed_digits_value 10 text ≡ z

-- the same of a number with a sign
abbrev pub IsSigned : Text → List Row → Option ℤ → Type 0
IsSigned name found None = first_of name found ≡ None
IsSigned name found (Some z) = (text : Text) × (first_of name found ≡ Some text) × WritesSigned text z

-- the flag was found
abbrev pub IsFlag : Text → List Row → Bool → Type 0
IsFlag name found given = IsTrue given ↔ (first_of name found ≡ Some (codes "true"))

-- the word that was found, none where it was left out
abbrev pub IsOption : Text → List Row → Option (Bor Text) → Type 0
IsOption name found word = option_map (λ w. w.now) word ≡ first_of name found

-- the words and the numbers are those found
pub record IsTelling (found : List Row) (telling : Telling) : Type 0 where
  pub report : IsFlag (codes "report") found telling.report
  pub json : IsOption (codes "json") found telling.json
  pub registers : IsCount (codes "registers") found telling.registers
  pub memory : IsCount (codes "memory") found telling.memory
  pub status : IsFlag (codes "status") found telling.status
  pub progress : IsFlag (codes "progress") found telling.progress
  pub faults : IsFlag (codes "faults") found telling.faults
  pub symbols : IsOption (codes "symbols") found telling.symbols

pub record IsFlat (found : List Row) (flat : Flat) : Type 0 where
  pub frames : IsWritten (codes "frames") found flat.frames
  pub tlb : IsFlag (codes "tlb") found flat.tlb
  pub telling : IsTelling found flat.telling
  pub file : first_of (codes "FILE") found ≡ Some flat.file.now
  pub script : first_of (codes "SCRIPT") found ≡ Some flat.script.now

-- the same of a run, whose last word has this name
pub record IsRun (last : Text) (found : List Row) (run : Run) : Type 0 where
  pub frames : IsWritten (codes "frames") found run.frames
  pub tlb : IsFlag (codes "tlb") found run.tlb
  pub fail : IsCount (codes "fail") found run.fail
  pub save : IsOption (codes "save") found run.save
  pub telling : IsTelling found run.telling
  pub image : first_of (codes "IMAGE") found ≡ Some run.image.now
  pub script : first_of last found ≡ Some run.script.now

pub record IsPlay (found : List Row) (play : Play) : Type 0 where
  pub run : IsRun (codes "PLAY") found play.run
  pub script : IsOption (codes "script") found play.script

pub record IsPart (found : List Row) (part : Part) : Type 0 where
  pub pid : IsCount (codes "pid") found part.pid
  pub calls : IsOption (codes "calls") found part.calls
  pub from : IsCount (codes "from") found part.from
  pub to : IsCount (codes "to") found part.to

pub record IsLines (found : List Row) (lines : Lines) : Type 0 where
  pub bytes : IsWritten (codes "bytes") found lines.bytes
  pub each : IsFlag (codes "each") found lines.each
  pub time : IsFlag (codes "time") found lines.time
  pub turns : IsFlag (codes "turns") found lines.turns
  pub core_is_pid : IsFlag (codes "core-is-pid") found lines.core_is_pid

pub record IsTrace (found : List Row) (trace : Trace) : Type 0 where
  pub run : IsRun (codes "SCRIPT") found trace.run
  pub part : IsPart found trace.part
  pub lines : IsLines found trace.lines
  pub text : IsOption (codes "text") found trace.text
  pub perfetto : IsOption (codes "perfetto") found trace.perfetto
  pub commits : IsOption (codes "commits") found trace.commits
  pub jsonl : IsOption (codes "jsonl") found trace.jsonl
  pub play : IsFlag (codes "play") found trace.play

pub record IsGdb (found : List Row) (gdb : Gdb) : Type 0 where
  pub frames : IsWritten (codes "frames") found gdb.frames
  pub memory : IsWritten (codes "memory") found gdb.memory
  pub recorded : IsOption (codes "record") found gdb.recorded
  pub symbols : IsOption (codes "symbols") found gdb.symbols
  pub image : first_of (codes "IMAGE") found ≡ Some gdb.image.now
  pub script : IsOption (codes "SCRIPT") found gdb.script

pub record IsReach (found : List Row) (reach : Reach) : Type 0 where
  pub ticks : IsAmount (codes "ticks") found reach.ticks
  pub states : IsWritten (codes "states") found reach.states
  pub seconds : IsCount (codes "seconds") found reach.seconds
  pub fine : IsFlag (codes "fine") found reach.fine
  pub random : IsCount (codes "random") found reach.random
  pub seed : IsWritten (codes "seed") found reach.seed

pub record IsExplore (found : List Row) (explore : Explore) : Type 0 where
  pub frames : IsWritten (codes "frames") found explore.frames
  pub reach : IsReach found explore.reach
  pub scripts : IsOption (codes "scripts") found explore.scripts
  pub want : IsOption (codes "want") found explore.want
  pub status : IsSigned (codes "status") found explore.status
  pub image : first_of (codes "IMAGE") found ≡ Some explore.image.now
  pub script : IsOption (codes "SCRIPT") found explore.script

pub record IsMkfs (found : List Row) (mkfs : Mkfs) : Type 0 where
  pub size : IsWritten (codes "size") found mkfs.size
  pub inodes : IsWritten (codes "inodes") found mkfs.inodes
  pub manifest : first_of (codes "MANIFEST") found ≡ Some mkfs.manifest.now
  pub image : first_of (codes "IMAGE") found ≡ Some mkfs.image.now

pub record IsCheck (found : List Row) (check : Check) : Type 0 where
  pub image : first_of (codes "IMAGE") found ≡ Some check.image.now

pub record IsLs (found : List Row) (ls : Ls) : Type 0 where
  pub recursive : IsFlag (codes "recursive") found ls.recursive
  pub image : first_of (codes "IMAGE") found ≡ Some ls.image.now
  pub path : first_of (codes "PATH") found ≡ Some ls.path.now

pub record IsGet (found : List Row) (get : Get) : Type 0 where
  pub image : first_of (codes "IMAGE") found ≡ Some get.image.now
  pub path : first_of (codes "PATH") found ≡ Some get.path.now
  pub out : IsOption (codes "OUT") found get.out

pub record IsPut (found : List Row) (put : Put) : Type 0 where
  pub image : first_of (codes "IMAGE") found ≡ Some put.image.now
  pub path : first_of (codes "PATH") found ≡ Some put.path.now
  pub file : first_of (codes "FILE") found ≡ Some put.file.now

pub record IsMigrate (found : List Row) (migrate : Migrate) : Type 0 where
  pub old : first_of (codes "OLD") found ≡ Some migrate.old.now
  pub new : first_of (codes "NEW") found ≡ Some migrate.new.now

pub record IsAsm (found : List Row) (asm : Asm) : Type 0 where
  pub text : first_of (codes "TEXT") found ≡ Some asm.text.now
  pub elf : first_of (codes "ELF") found ≡ Some asm.elf.now

-- the word of this index of all these, none where there is none
abbrev pub IsWordOf : List Text → ℕ → Option (Bor Text) → Type 0
IsWordOf all index word = option_map (λ w. w.now) word ≡ slice_get all index

-- the first eight of the words of a name
pub record AreFirst (name : Text) (found : List Row) (files : Files) : Type 0 where
  pub all : List Text
  pub are : all_of name found ≡ Some all
  pub first : slice_get all 0 ≡ Some files.first.now
  pub second : IsWordOf all 1 files.second
  pub third : IsWordOf all 2 files.third
  pub fourth : IsWordOf all 3 files.fourth
  pub fifth : IsWordOf all 4 files.fifth
  pub sixth : IsWordOf all 5 files.sixth
  pub seventh : IsWordOf all 6 files.seventh
  pub eighth : IsWordOf all 7 files.eighth

pub record IsAs (found : List Row) (as_job : As) : Type 0 where
  pub texts : AreFirst (codes "FILE") found as_job.texts
  pub out : IsOption (codes "out") found as_job.out
  pub expand : IsFlag (codes "expand") found as_job.expand
  pub debug : IsFlag (codes "debug") found as_job.debug
  pub verbose : IsFlag (codes "verbose") found as_job.verbose

pub record IsDump (found : List Row) (dump : Dump) : Type 0 where
  pub names : IsFlag (codes "names") found dump.names
  pub elf : first_of (codes "ELF") found ≡ Some dump.elf.now

pub record IsLive (found : List Row) (live : Live) : Type 0 where
  pub frames : IsWritten (codes "frames") found live.frames
  pub quantum : IsCount (codes "quantum") found live.quantum
  pub script : IsOption (codes "record") found live.script
  pub save : IsOption (codes "save") found live.save
  pub terminal : IsFlag (codes "terminal") found live.terminal
  pub edit : IsFlag (codes "edit") found live.edit
  pub symbols : IsOption (codes "symbols") found live.symbols
  pub image : first_of (codes "IMAGE") found ≡ Some live.image.now

-- the job is the command found, with its words
abbrev pub IsJob : Option (Text × List Row) → Job → Type 0
IsJob found (job.Flat flat) = (rows : List Row) × (found ≡ Some (codes "flat", rows)) × IsFlat rows flat
IsJob found (job.Run run) = (rows : List Row) × (found ≡ Some (codes "run", rows)) × IsRun (codes "SCRIPT") rows run
IsJob found (job.Play play) = (rows : List Row) × (found ≡ Some (codes "play", rows)) × IsPlay rows play
IsJob found (job.Trace trace) = (rows : List Row) × (found ≡ Some (codes "trace", rows)) × IsTrace rows trace
IsJob found (job.Gdb gdb) = (rows : List Row) × (found ≡ Some (codes "gdb", rows))
    × IsFlag (codes "init") rows false × IsGdb rows gdb
IsJob found job.GdbInit = (rows : List Row) × (found ≡ Some (codes "gdb", rows)) × IsFlag (codes "init") rows true
IsJob found (job.Explore explore) = (rows : List Row) × (found ≡ Some (codes "explore", rows)) × IsExplore rows explore
IsJob found (job.Mkfs mkfs) = (rows : List Row) × (found ≡ Some (codes "mkfs", rows)) × IsMkfs rows mkfs
IsJob found (job.Check check) = (rows : List Row) × (found ≡ Some (codes "check", rows)) × IsCheck rows check
IsJob found (job.Ls ls) = (rows : List Row) × (found ≡ Some (codes "ls", rows)) × IsLs rows ls
IsJob found (job.Get get) = (rows : List Row) × (found ≡ Some (codes "get", rows)) × IsGet rows get
IsJob found (job.Put put) = (rows : List Row) × (found ≡ Some (codes "put", rows)) × IsPut rows put
IsJob found (job.Migrate migrate) = (rows : List Row) × (found ≡ Some (codes "migrate", rows)) × IsMigrate rows migrate
IsJob found (job.Asm asm) = (rows : List Row) × (found ≡ Some (codes "asm", rows)) × IsAsm rows asm
IsJob found (job.As words) = (rows : List Row) × (found ≡ Some (codes "as", rows)) × IsAs rows words
IsJob found (job.Dump dump) = (rows : List Row) × (found ≡ Some (codes "dump", rows)) × IsDump rows dump
IsJob found (job.Live live) = (rows : List Row) × (found ≡ Some (codes "live", rows)) × IsLive rows live
