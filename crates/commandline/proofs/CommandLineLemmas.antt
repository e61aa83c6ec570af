-- What a command declares, and what was found of its words.
use Rattle.std.proofs.Common.{◌≡◌, ◌∙◌, ◌↔◌, ◌<◌, ◌+◌, ap, ap₂, ℕ, Bool, List, Option, Some, None, IfSome, IsTrue}
use Rattle.std.proofs.Common.{false, fold, get_or, length, option_map, refl, subst, sym, take}
use Rattle.std.proofs.lemmas.List.Sums.{fold_more}
use Rattle.std.proofs.lemmas.Slice.Eq.{bytes_eq-Decides}
use Rattle.std.specs.Str.{bytes_eq}
use Rattle.clap.specs.Built.{AddsArg, AddsSubcommand}
use Rattle.clap.specs.Simple.{App, app_of, with_rule, with_subcommand}
use Rattle.clap.specs.Words.{found_of, subcommand_name_of, subcommand_rows_of}
use Rattle.clap.specs.Walk.{Row, Rule, Text, rows_of, rule_of}
use Rattle.clap.specs.declared.parser.matches.ArgMatches.{ArgMatches}
use Rattle.clap.specs.declared.parser.matches.ArgMatches.TheViews.{out-ArgMatches, out-SubCommand}
use Rattle.std.specs.Box.{box_value}
use Rattle.clap.specs.declared.builder.arg.Arg.{Arg}
use Rattle.clap.specs.declared.builder.command.Command.{Command}
use Rattle.commandline.specs.Declarations.{DeclaresOwn, IsJob, declared_by, rule_given, with_declared, with_word}
use Rattle.commandline.specs.declared.declarations.Declared.{Declared}
use Rattle.commandline.specs.declared.declarations.Word.{Word}
use Rattle.commandline.specs.declared.jobs.Job.{Job}

-- an argument that is the command's own is one rule more
pub adds-rule : (old new : Command) (a : Arg) (rule : Rule) → AddsArg old a new → a.global ≡ false → rule_of a ≡ rule
    → (app : App) → DeclaresOwn app old
    → DeclaresOwn (with_rule app rule) new
adds-rule old new a rule h local is app own = record {
  shape = h.shape local ∙ ap₂ with_rule own.shape is;
  local = rw (h.globals, own.local, local) refl;
}

-- the words of a row, and one more
pub declares-more : (start : App) (words : List Word) (i : ℕ) (d : Word) (old new : Command) (a : Arg)
    → i < length words → DeclaresOwn (fold with_word start (take i words)) old → AddsArg old a new → a.global ≡ false
    → rule_of a ≡ rule_given (get_or words i d).name.now (get_or words i d).given
    → DeclaresOwn (fold with_word start (take (i + 1) words)) new
declares-more start words i d old new a less own adds local is =
    rw (fold_more with_word start words i d less) (adds-rule old new a _ adds local is _ own)

-- the commands of rows, and one more
pub commands-more : (start : App) (rows : List Declared) (i : ℕ) (d : Declared) (old sub new : Command)
    → i < length rows → app_of old ≡ fold with_declared start (take i rows)
    → DeclaresOwn (declared_by (get_or rows i d)) sub
    → AddsSubcommand old sub new → app_of new ≡ fold with_declared start (take (i + 1) rows)
commands-more start rows i d old sub new less before own adds =
    adds.shape own.local
    ∙ ap (λ (a : App). with_subcommand (app_of old) a.top) own.shape
    ∙ ap (λ a. with_declared a (get_or rows i d)) before
    ∙ sym (fold_more with_declared start rows i d less)

-- the word that an argument has
pub word-found : {W : Type 0} (text_of : W → Text) (r : Option W) (first : Option Text) → option_map text_of r ≡ first
    → IfSome r (λ word. first ≡ Some (text_of word))
word-found text_of None first is = tt
word-found text_of (Some word) first is = sym is

-- the first word of a name is a flag's where it is `true`
pub flag-given : (value word : Text) (first : Option Text) (given : Bool) → Some word ≡ first
    → given ≡ bytes_eq word value → IsTrue given ↔ (first ≡ Some value)
flag-given value word first given is same =
    let decides = bytes_eq-Decides word value in (
      λ h. sym is ∙ ap Some (decides.0 (sym same ∙ h)),
      λ h. same
          ∙ decides.1 (let e : Some word ≡ Some value = is ∙ h in cc),
    )

pub flag-missing : (value : Text) (first : Option Text) → None ≡ first → IsTrue false ↔ (first ≡ Some value)
flag-missing value first is = (λ h. absurd (cc), λ h. absurd (let e : None ≡ Some value = is ∙ h in cc))

both : {X A B : Type 0} (f : X → A) (g : X → B) (o : Option X) (a : A) (b : B) → option_map f o ≡ Some a
    → option_map (λ (p : A × B). p.1) (option_map {U = A × B} (λ x. (f x, g x)) o) ≡ Some b
    → option_map {U = A × B} (λ x. (f x, g x)) o ≡ Some (a, b)
both f g None a b name rows = absurd (cc)
both f g (Some x) a b name rows = cc

-- a job of the command that was entered, whose name and rows are given one by one
pub is-job : (r : Option Job) (m : ArgMatches) (name : Text) (rows : List Row) → subcommand_name_of m ≡ Some name
    → option_map (λ (p : Text × List Row). p.1) (subcommand_rows_of m) ≡ Some rows
    → IfSome r (IsJob (Some (name, rows)))
    → IfSome r (IsJob (subcommand_rows_of m))
is-job r m name rows named told job =
    subst (λ found. IfSome r (IsJob found))
    (sym (both (λ b. (out-SubCommand (box_value b)).name.now)
    (λ b. rows_of (found_of (out-SubCommand (box_value b)).matches)) (out-ArgMatches m).subcommand name rows named
    told)) job

-- what holds of the rows of a command holds of the job
pub told : {name : Text} {rows : List Row} {Is : List Row → Type 0} → Is rows
    → (all : List Row) × (◌≡◌ {A = Option (Text × List Row)} (Some (name, rows)) (Some (name, all))) × Is all
told {rows = rows} is = (rows, refl, is)
