-- The arguments of calls, as a program passes them in a0, a1 and a2.
use Rattle.std.specs.Prelude.{List, None, Option, Some, [], ℕ, ℤ, ◌%◌, ◌^◌, ◌∷◌}
use Rattle.std.specs.Int.{cast_signed, w16}
use Rattle.unixmodel.specs.Numbers.{int_of}
use Rattle.unixmodel.specs.declared.call.Call.{Call}
use Rattle.unixmodel.specs.declared.call.Call.TheVariants as call
use Rattle.jsonrows.specs.declared.arguments.Argument.{Argument}
use Rattle.jsonrows.specs.declared.arguments.Argument.TheVariants.{Address, Int}

-- the number of a device: the low 16 bits, signed
abbrev pub short_of : ℕ → ℤ
short_of x = cast_signed w16 (x % 2 ^ 16)

-- the arguments of a call; of a number of no call the three registers, as addresses
abbrev pub arguments : Option Call → ℕ → ℕ → ℕ → List Argument
arguments None a b c = Address a ∷ Address b ∷ Address c ∷ []
arguments (Some call.Fork) a b c = []
arguments (Some call.Exit) a b c = Int (int_of a) ∷ []
arguments (Some call.Wait) a b c = Address a ∷ []
arguments (Some call.Pipe) a b c = Address a ∷ []
arguments (Some call.Read) a b c = Int (int_of a) ∷ Address b ∷ Int (int_of c) ∷ []
arguments (Some call.Kill) a b c = Int (int_of a) ∷ []
arguments (Some call.Exec) a b c = Address a ∷ Address b ∷ []
arguments (Some call.Fstat) a b c = Int (int_of a) ∷ Address b ∷ []
arguments (Some call.Chdir) a b c = Address a ∷ []
arguments (Some call.Dup) a b c = Int (int_of a) ∷ []
arguments (Some call.Getpid) a b c = []
arguments (Some call.Sbrk) a b c = Int (int_of a) ∷ []
arguments (Some call.Sleep) a b c = Int (int_of a) ∷ []
arguments (Some call.Uptime) a b c = []
arguments (Some call.Open) a b c = Address a ∷ Int (int_of b) ∷ []
arguments (Some call.Write) a b c = Int (int_of a) ∷ Address b ∷ Int (int_of c) ∷ []
arguments (Some call.Mknod) a b c = Address a ∷ Int (short_of b) ∷ Int (short_of c) ∷ []
arguments (Some call.Unlink) a b c = Address a ∷ []
arguments (Some call.Link) a b c = Address a ∷ Address b ∷ []
arguments (Some call.Mkdir) a b c = Address a ∷ []
arguments (Some call.Close) a b c = Int (int_of a) ∷ []
