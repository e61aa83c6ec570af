use Rattle.console.proofs.Common.{inl, inr, key}
use Rattle.console.proofs.Lines.{erases-byte, erases-line}
use Rattle.console.proofs.input.Console.change.Goals as goal

pub returns-in-21-clause-does : goal.returns-in-21-clause-does
unfolding key
returns-in-21-clause-does c = rw c.in-21.is (erases-line _ c.edited_len-in-21.ensures)

pub returns-in-8-clause-does : goal.returns-in-8-clause-does
unfolding key
returns-in-8-clause-does c =
    let e = erases-byte _ (rw c.edited_len.ensures at c.min.ensures) in
    elim c.in-8.is [ inl is ↦ rw is e | inr is ↦ rw is e ]
