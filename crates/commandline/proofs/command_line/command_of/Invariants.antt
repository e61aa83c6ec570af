use Rattle.std.proofs.Common.{fold, take}
use Rattle.clap.specs.Simple.{new_app}
use Rattle.commandline.specs.Declarations.{DeclaresOwn, with_word}
use Rattle.commandline.proofs.command_line.command_of.Given as goal

abbrev pub invariant-loop-word : goal.invariant-loop-word
invariant-loop-word l = DeclaresOwn (fold with_word (new_app l.row.name.now) (take l.word-index l.row.words.now))
    l.command
