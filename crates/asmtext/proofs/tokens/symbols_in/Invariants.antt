use Rattle.asmtext.proofs.Common.{◌≡◌, [], fold, take, reader_of}
use Rattle.unixmodel.specs.Tokens as the
use Rattle.asmtext.proofs.tokens.symbols_in.Given as goal

abbrev pub invariant-loop-c : goal.invariant-loop-c
invariant-loop-c l = reader_of l.reader ≡ fold the.read (the.standing [] the.Mode.Outside) (take l.c-index l.line)
