use Rattle.tree.proofs.Common.{[], sym, None, ◌∙◌, ◌≢◌, none-some, HasRoom, entered, dot_dot, slot, Directory}
use Rattle.tree.proofs.Directories.{dot-plain, dots-plain, first-fits, first-room, first-stays, own, second-fits}
use Rattle.tree.proofs.Directories.{second-is, second-room}
use Rattle.tree.proofs.Ending.{at-now, end-changed, now-changed}
use Rattle.tree.proofs.Following.{end-lost, now-begin, now-up}
use Rattle.tree.specs.Calls.{HasBlocks}
use Rattle.tree.proofs.tree.Tree.put_dots.Goals as goal

pub put_entry-requires : goal.put_entry-requires
put_entry-requires g c = record {
  up = c.requires.up;
  plain = dot-plain;
  number = λ none. none-some (Directory 1 []) (sym none ∙ c.requires.bare);
  room = first-room _ _ c.requires.bare;
  fits = first-fits _ _ c.requires.bare c.requires.block;
}

pub returns-in_err-put_entry : goal.returns-in_err-put_entry
returns-in_err-put_entry g c = end-lost now-begin c.put_entry.ensures c.in_err-put_entry.was c.from_residual.ensures.1

pub put_entry-requires-2 : goal.put_entry-requires-2
put_entry-requires-2 g c =
    let now = now-changed now-begin (λ fs. entered fs c.args.number 0 (own c.args.number)) c.put_entry.ensures
    c.in_ok-put_entry.was in
    record {
      up = now-up now c.requires.up;
      plain = dots-plain;
      number = at-now now (λ t. slot t.files c.args.above ≢ None) (first-stays _ _ c.requires.bare _ c.requires.above);
      room = at-now now (λ t. HasRoom t.files c.args.number 1) (second-room _ _ c.requires.bare);
      fits = at-now now (λ t. HasBlocks t c.args.number 1) (second-fits _ _ c.requires.bare c.requires.block);
    }

pub returns : goal.returns
returns g c =
    let now = now-changed now-begin (λ fs. entered fs c.args.number 0 (own c.args.number)) c.put_entry.ensures
    c.in_ok-put_entry.was in
    end-changed now (λ fs. entered fs c.args.number 1 (record { name = dot_dot; number = c.args.above }))
    c.put_entry-2.ensures (second-is _ _ c.requires.bare _)
