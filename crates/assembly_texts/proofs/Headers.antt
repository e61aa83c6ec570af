-- A program's file has a whole header.
use Rattle.std.proofs.Common.{◌≡◌, ◌≤◌, ◌++◌, ◌-◌, ℕ, List, Ok, Err, Result, arith, length, length-append, refl, subst}
use Rattle.unixmodel.specs.Assembly as the
use Rattle.unixmodel.specs.ElfFile.{elf_file, elf_header, program_header}
use Rattle.unixmodel.specs.Memory.{zeros}
use Rattle.unixmodel.specs.declared.assembly.AsmKind.{AsmKind}

longer : (a b c d : List ℕ) → 64 ≤ length a → 64 ≤ length (a ++ b ++ c ++ d)
longer a b c d h = omega (arith, length-append (a ++ b ++ c) d, length-append (a ++ b) c, length-append a b)

header : length elf_header ≡ 64
unfolding elf_header zeros
header = refl

long : (bytes : List ℕ) → 64 ≤ length (elf_file bytes)
unfolding elf_file
long bytes = longer elf_header (program_header (length bytes)) (zeros (4096 - 120)) bytes (omega (arith, header))

of : (r : Result (List ℕ) (ℕ × AsmKind)) (file : List ℕ) → the.file_of r ≡ Ok file → 64 ≤ length file
of (Ok bytes) file is = let e : elf_file bytes ≡ file = cc in
    subst (λ (f : List ℕ). 64 ≤ length f) e (long bytes)
of (Err fault) file is = cc

pub whole : (text file : List ℕ) → the.assembled text ≡ Ok file → 64 ≤ length file
whole text file is = of (the.object text) file is
