use Rattle.tree.proofs.Common.{Some, ap, refl, sym, ◌∙◌, made_files, Files, Made}
use Rattle.tree.proofs.Ending.{acts-done, acts-lost, acts-not, acts-refused, now-changed, now-kept, now-none, now-took}
use Rattle.tree.proofs.Following.{now-begin, now-files, now-up}
use Rattle.tree.proofs.NewFiles.{fresh-now, leaf-empty, made-asked, made-done, made-unnumbered, overflow-none}
use Rattle.tree.proofs.NewFiles.{weaker-gap}
use Rattle.tree.specs.Calls.{filled}
use Rattle.tree.proofs.tree.Tree.create.Goals as goal

pub returns-in_err-gap : goal.returns-in_err-gap
returns-in_err-gap g c =
    acts-refused now-begin c.find_gap.ensures c.in_err-gap.was
    (λ known less why. weaker-gap _ _ _ _ (leaf-empty _) _ _ known why) c.from_residual.ensures.1

pub take_node-requires : goal.take_node-requires
take_node-requires g c =
    record { up = now-up (now-kept now-begin c.find_gap.ensures c.requires.up c.in_ok-gap.was) c.requires.up }

pub returns-in_err-number : goal.returns-in_err-number
returns-in_err-number g c =
    acts-lost (now-kept now-begin c.find_gap.ensures c.requires.up c.in_ok-gap.was) c.take_node.ensures
    c.in_err-number.was c.from_residual-in_err-number.ensures.1

pub returns-in_default : goal.returns-in_default
returns-in_default g c =
    let none = now-none (now-kept now-begin c.find_gap.ensures c.requires.up c.in_ok-gap.was) c.kind.result
    c.take_node.ensures c.in_ok-number.was c.in_default.is in
    let nothing = ap made_files (made-unnumbered _ _ _ _ c.in_ok-gap.ensures.done.0.spot none.0) in
    acts-not c.requires.up none.1 refl (overflow-none _ nothing) none.0

-- after the new node
pub put_entry-requires : goal.put_entry-requires
put_entry-requires g c =
    let took = now-took (now-kept now-begin c.find_gap.ensures c.requires.up c.in_ok-gap.was) c.kind.result
    c.take_node.ensures c.in_ok-number.was c.in-Some.is in
    let now = fresh-now _ _ c.kind.ensures took.1 in
    let asked = made-asked _ (leaf-empty _) c.in_ok-gap.ensures.done.0 took.0 now c.requires.path in
    record {
      up = now-up now c.requires.up;
      plain = asked.plain;
      number = asked.node;
      room = asked.room;
      fits = asked.fits;
    }

pub returns-in_err-put_entry : goal.returns-in_err-put_entry
returns-in_err-put_entry g c =
    let took = now-took (now-kept now-begin c.find_gap.ensures c.requires.up c.in_ok-gap.was) c.kind.result
    c.take_node.ensures c.in_ok-number.was c.in-Some.is in
    acts-lost took.1 c.put_entry.ensures c.in_err-put_entry.was c.from_residual-in_err-put_entry.ensures.1

pub returns : goal.returns
returns g c =
    let took = now-took (now-kept now-begin c.find_gap.ensures c.requires.up c.in_ok-gap.was) c.kind.result
    c.take_node.ensures c.in_ok-number.was c.in-Some.is in
    let last = now-changed (fresh-now _ _ c.kind.ensures took.1) (λ fs. filled fs c.in_ok-gap.gap c.in-Some.number)
    c.put_entry.ensures c.in_ok-put_entry.was in
    acts-done c.requires.up last (made-done _ _ _ _ c.in_ok-gap.ensures.done.0 took.0
    ∙ ap (λ (fs : Files). let made : Made = record { files = fs; number = c.in-Some.number } in Some made)
    (sym (now-files last)))
