use Rattle.machine.proofs.Common.{ap, arith, FileTree, first_kernel, flat_space, Kernel, refl, Some, state_of, sym}
use Rattle.machine.proofs.Common.{View, watched-all, ◌∙◌, ◌≡◌}
use Rattle.machine.proofs.flat_boot.boot_flat_on.Goals as goal
use Rattle.machine.proofs.FlatLemmas.{few-console, few-root, first-sound, hold-console, hold-root, length-flat}
use Rattle.machine.proofs.FlatLemmas.{start-fits, start-over}
use Rattle.machine.proofs.FlatSpaces.{flat-size, frames-of, none-of}

pub load-requires : goal.load-requires
load-requires g c = none-of c.in-Ok.ensures

pub returns-then-not-load-clause-no_init : goal.returns-then-not-load-clause-no_init
returns-then-not-load-clause-no_init g c =
    λ is. start-over c.args.bytes.now c.args.frames (rw (frames-of c.in-Ok.ensures) at c.if-not-load.ensures)

pub first_table-requires : goal.first_table-requires
first_table-requires g c =
    omega (arith, flat-size c.args.bytes.now c.size.ensures c.if-not-load.ensures.0, length-flat c.args.bytes.now)

pub new-kernel-requires : goal.new-kernel-requires
new-kernel-requires g c =
    rw (
      c.in-Ok-first_table.ensures,
      c.first_files.ensures,
      c.hold-2.ensures,
      c.hold.ensures,
      flat-size c.args.bytes.now c.size.ensures c.if-not-load.ensures.0,
      c.if-not-load.ensures.0,
    )
    (record {
      sound = first-sound c.requires.flat _ (flat_space c.args.bytes.now) c.if-not-load.ensures.1;
      watched = watched-all 64;
    })

pub returns-clause-booted : goal.returns-clause-booted
returns-clause-booted g c =
    let bytes = c.args.bytes.now in
    let frames = frames-of c.in-Ok.ensures in
    let size = flat-size bytes c.size.ensures c.if-not-load.ensures.0 in
    let kernel : c.new-kernel.result ≡ first_kernel c.args.tree c.args.frames (flat_space bytes) = c.new-kernel.ensures
    ∙ rw (
      c.in-Ok-first_table.ensures,
      c.first_files.ensures,
      c.hold-2.ensures,
      c.hold.ensures,
      size,
      c.if-not-load.ensures.0,
      frames,
    ) refl in
    rw c.new-machine.ensures
    (start-fits c.requires.flat bytes c.args.frames (rw frames at c.if-not-load.ensures.1)
    ∙ ap (λ (k : Kernel). Some (state_of k)) (sym kernel))

pub hold-requires : goal.hold-requires
hold-requires g c = record { up = c.requires.flat.up; node = hold-root c.requires.flat; few = few-root c.requires.flat }

pub hold-requires-2 : goal.hold-requires-2
hold-requires-2 g c =
    record {
      up = rw c.hold.ensures c.requires.flat.up;
      node = rw c.hold.ensures (hold-console c.requires.flat);
      few = rw c.hold.ensures (few-console c.requires.flat);
    }

pub returns-clause-identity : goal.returns-clause-identity
returns-clause-identity g c =
    ap (λ (m : View). m.identity) c.new-machine.ensures
    ∙ ap (λ (k : Kernel). k.tree.identity) c.new-kernel.ensures
    ∙ ap (λ (t : FileTree). t.identity) c.hold-2.ensures
    ∙ ap (λ (t : FileTree). t.identity) c.hold.ensures
