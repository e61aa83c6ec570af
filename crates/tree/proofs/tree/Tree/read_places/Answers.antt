use Rattle.tree.proofs.Common.{◌*◌, arith, flat_map, length-spelling, place_bytes, Directory}
use Rattle.tree.proofs.Following.{end-lost, now-begin, now-read}
use Rattle.tree.proofs.Ending.{end-read}
use Rattle.tree.proofs.Places.{folder-fits, folder-node}
use Rattle.tree.proofs.Scanning.{read-whole}
use Rattle.tree.proofs.tree.Tree.read_places.Goals as goal

pub overflow_mul-k : goal.overflow_mul-k
overflow_mul-k g c =
    let f = c.requires.directory in
    let within = c.requires.within f in
    let short = c.is_whole.ensures.short c.args.directory (Directory f.links f.places) f.here in
    omega arith

pub bytes-requires : goal.bytes-requires
bytes-requires g c = record { up = c.requires.up; node = folder-node c.requires.directory }

pub returns-in_err-_count : goal.returns-in_err-_count
returns-in_err-_count g c = end-lost now-begin c.bytes.ensures c.in_err-_count.was c.from_residual.ensures.1

pub returns : goal.returns
returns g c = end-read c.requires.up (now-read now-begin c.bytes.ensures c.in_ok-_count.was) (λ f.
    let told = c.in_ok-_count.ensures.serves.told.1 (Directory f.links f.places) f.here in
    let within = c.requires.within f in
    read-whole (16 * c.args.k) c.in_ok-_count._count (flat_map place_bytes f.places) c.args.out.now c.bytes.new.out
    told.0 (omega (arith, length-spelling f.places (folder-fits c.is_whole.ensures f))) told.1)
