use Rattle.std.proofs.Common.{◌≡◌, ◌++◌, take}
use Rattle.gdbreplies.specs.Replies.{more_sent}
use Rattle.gdbreplies.proofs.threads.push_more.Given as goal

abbrev pub invariant-loop-pid : goal.invariant-loop-pid
invariant-loop-pid l = l.out.items ≡ l.fn.out.items ++ more_sent (take l.pid-index l.pids)
