use Rattle.std.specs.Fmt.{HasWritten, IsPlainFormatter}
use Rattle.tracetext.proofs.TextLemmas.{quoted_front}
use Rattle.tracetext.proofs.quoting.write_bytes.Given as goal

-- the bytes so far are written
abbrev pub invariant-loop-index : goal.invariant-loop-index
invariant-loop-index g l =
    IsPlainFormatter l.initial.f
    → HasWritten g.W.Write.write_str_gives l.initial.f (quoted_front l.index l.bytes) l.f
