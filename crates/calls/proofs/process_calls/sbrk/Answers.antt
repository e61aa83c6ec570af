use Rattle.calls.proofs.Common.{argument, asked, current, here-of, int_of, None, rules, ◌≡◌}
use Rattle.calls.proofs.Processes.{sbrk-below}
use Rattle.calls.proofs.process_calls.sbrk.Goals as goal

pub returns-then-bytes-size : goal.returns-then-bytes-size
returns-then-bytes-size g c =
    let k = c.args.kernel.now in
    let below : asked k (current k) (int_of (argument k 0)) ≡ None = search rules in
    sbrk-below (here-of c.requires) below
