use Rattle.std.proofs.Common.{◌≡◌, ◌∙◌, ap, arith, length, ◌-◌, ◌+◌, drop}
use Rattle.std.proofs.lemmas.List.{length-take-le}
use Rattle.ram.specs.Memory.{put_bytes}
use Rattle.ram.proofs.MemoryLemmas.{put_mid-bytes}
use Rattle.ram.proofs.copy_bytes.Goals as goal

pub returns-clause-value : goal.returns-clause-value
returns-clause-value c =
    let k = c.args.j + c.args.len - c.args.j in
    let bs = c.copy_from_slice.new.self in
    let size : length bs ≡ k =
    omega (arith, c.copy_from_slice.ensures.len, length-take-le k (drop c.args.j c.args.to.now)) in
    put_mid-bytes c.args.j k c.args.to.now bs size
    ∙ ap (put_bytes c.args.to.now c.args.j) c.copy_from_slice.ensures.after
