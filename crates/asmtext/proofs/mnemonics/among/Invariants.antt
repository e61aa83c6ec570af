use Rattle.std.proofs.Common.{◌≡◌, drop, map}
use Rattle.unixmodel.specs.Statements as the
use Rattle.asmtext.specs.Forms.{named_form}
use Rattle.asmtext.proofs.mnemonics.among.Given as goal

abbrev pub invariant-loop-word : goal.invariant-loop-word
invariant-loop-word l = the.form_among (map named_form l.words) l.name
    ≡ the.form_among (map named_form (drop l.word-index l.words)) l.name
