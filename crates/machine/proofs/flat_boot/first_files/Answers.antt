use Rattle.machine.proofs.FlatLemmas.{open-first}
use Rattle.std.proofs.Common.{arith, refl}
use Rattle.machine.proofs.flat_boot.first_files.Goals as goal

pub dup-requires : goal.dup-requires
dup-requires c =
    let first = open-first _ _ _ _ c.new-files.ensures c.open-console.ensures.place c.open-console.ensures.ok in
    rw first (omega arith)

pub dup-requires-2 : goal.dup-requires-2
dup-requires-2 c =
    let first = open-first _ _ _ _ c.new-files.ensures c.open-console.ensures.place c.open-console.ensures.ok in
    rw (c.dup.ensures, first) (omega arith)

pub returns : goal.returns
returns c =
    let first = open-first _ _ _ _ c.new-files.ensures c.open-console.ensures.place c.open-console.ensures.ok in
    rw (c.dup-2.ensures, c.dup.ensures, first) refl
