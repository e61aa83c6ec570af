use Rattle.session.proofs.Copying.{copied-in}
use Rattle.session.proofs.looks.copy_both.Goals as goal

pub returns : goal.returns
returns c =
    copied-in c.args.first.now c.args.second.now c.args.out.now c.copy_front-count.new.out c.copy_front-rest.new.out
    c.copy_front-count.result
    c.copy_front-count.ensures.count c.copy_front-count.ensures.bytes c.copy_front-rest.ensures.bytes
