-- The passes of the assembler, one after the other.
use Rattle.asm.proofs.Common.{◌≡◌, ◌∙◌, ℕ, List, Ok, Result, ap, inl, inr, map, refl, sym, assembled, codes_from}
use Rattle.asm.proofs.Common.{object, placed, placed_from, elf_file, AsmKind, Tells}
use Rattle.unixmodel.specs.Assembly as the
use Rattle.unixmodel.specs.Statements.{Line, line_of}
use Rattle.unixmodel.specs.Tokens.{lines_of}
use Rattle.asm.specs.declared.fault.AsmFault.{AsmFault}

object_is : (text : List ℕ) (lines : List Line) (all : List the.Placed) → lines ≡ map line_of (lines_of text)
    → all ≡ placed_from 1 0 lines → codes_from all all ≡ object text
unfolding object placed
object_is text lines all read stand = rw (stand, read) refl

pub made : (text : List ℕ) (lines : List Line) (all : List the.Placed) (program file : List ℕ)
    → lines ≡ map line_of (lines_of text) → all ≡ placed_from 1 0 lines
    → codes_from all all ≡ Ok program → file ≡ elf_file program → assembled text ≡ Ok file
made text lines all program file read stand coded is =
    ap the.file_of (sym (object_is text lines all read stand) ∙ coded) ∙ ap Ok (sym is)

through_file : (told : Result (List ℕ) (ℕ × AsmKind)) (fault : AsmFault) → Tells told fault
    → Tells (the.file_of told) fault
through_file told fault tells = elim tells [ inl e ↦ inl (ap the.file_of e) | inr e ↦ inr e ]

pub told : (text : List ℕ) (lines : List Line) (all : List the.Placed) (fault : AsmFault)
    → lines ≡ map line_of (lines_of text) → all ≡ placed_from 1 0 lines
    → Tells (codes_from all all) fault → Tells (assembled text) fault
told text lines all fault read stand tells =
    through_file (object text) fault (rw (object_is text lines all read stand) at tells)
