use Rattle.std.proofs.Common.{◌≡◌, length}
use Rattle.xv6.proofs.real_files.RealFilesHost.type_in.Given as goal

-- as many bytes as the buffer has at the call
abbrev pub invariant-loop : goal.invariant-loop
invariant-loop g l = l.most ≡ length l.fn.bytes
