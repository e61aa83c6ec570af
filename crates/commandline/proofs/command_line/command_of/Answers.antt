use Rattle.std.proofs.Common.{[], Bor, List, fold, subst, ℕ}
use Rattle.std.proofs.lemmas.List.{take_all}
use Rattle.clap.specs.Simple.{new_app}
use Rattle.commandline.specs.Declarations.{DeclaresOwn, with_word}
use Rattle.commandline.specs.declared.declarations.Given.TheVariants as given
use Rattle.commandline.proofs.CommandLineLemmas.{declares-more}
use Rattle.commandline.proofs.command_line.command_of.Goals as goal

pub loop-word-preserved : goal.loop-word-preserved
loop-word-preserved c =
    let no : Bor (List ℕ) = record { ref_ptr = (0, 0); now = [] } in
    declares-more (new_app c.args.row.now.name.now) c.args.row.now.words.now c.loop-word.word-index
    (record { name = no; given = given.Bare; help = no }) c.loop-word.command _ _ c.loop-word-test.true
    c.loop-word.invariant
    c.in_ok-command.ensures c.arg.ensures.local c.arg.ensures.rule

pub loop-word-init : goal.loop-word-init
loop-word-init c = record {
  shape = rw (c.after_help-command.ensures, c.about.ensures) c.new.ensures.app;
  local = rw (c.after_help-command.ensures, c.about.ensures) c.new.ensures.local;
}

pub returns : goal.returns
returns c =
    subst (λ words. DeclaresOwn (fold with_word (new_app c.args.row.now.name.now) words) c.loop-word.command)
    (take_all c.loop-word.word-index c.args.row.now.words.now c.loop-word-test.false) c.loop-word.invariant
