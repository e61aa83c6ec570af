use Rattle.machine.proofs.image_boot.boot_on.Goals as goal
use Rattle.machine.proofs.Common.{ap, arith, FileTree, Kernel, refl, Rises, subst, sym, watched-all, ◌∙◌, ◌≤◌}
use Rattle.machine.proofs.Beginning.{begun-init, kernel-sound, not-begun, root-few, root-there}
use Rattle.machine.proofs.FlatSpaces.{frames-of, none-of}

pub new-kernel-requires : goal.new-kernel-requires
new-kernel-requires g c = record {
  sound = kernel-sound c.requires.unheld c.in-Ok-Some.ensures.serves.told c.is_whole.ensures c.in-Ok.spaces
      c.put_init.new.spaces (frames-of c.in-Ok.ensures) c.in-Ok-Some.field-0-is c.in-Ok-Some.ensures.put c.hold.ensures
      c.in-Ok-first_table.ensures c.new-files.ensures;
  watched = rw c.in-Ok-first_table.ensures (watched-all 64);
}

pub returns-in-Ok-first_table-clause-begun : goal.returns-in-Ok-first_table-clause-begun
returns-in-Ok-first_table-clause-begun g c =
    begun-init c.requires.unheld c.in-Ok-Some.ensures.serves.told c.is_whole.ensures c.in-Ok.spaces
    c.put_init.new.spaces (frames-of c.in-Ok.ensures) c.in-Ok-Some.field-0-is c.in-Ok-Some.ensures.put
    c.hold.ensures c.in-Ok-first_table.ensures c.new-files.ensures
    c.new-kernel.ensures c.new-machine.ensures c.in-Ok-Some.ensures.serves.cause.later

pub returns-in-Ok-None-clause-refused : goal.returns-in-Ok-None-clause-refused
returns-in-Ok-None-clause-refused g c =
    not-begun c.args.tree c.args.frames c.in-Ok.spaces c.put_init.new.spaces (frames-of c.in-Ok.ensures)
    c.in-Ok-None.field-0 c.in-Ok-None.field-0-is c.in-Ok-None.ensures.put

pub put_init-requires-clause-none : goal.put_init-requires-clause-none
put_init-requires-clause-none g c = none-of c.in-Ok.ensures

pub put_init-requires-clause-few : goal.put_init-requires-clause-few
put_init-requires-clause-few g c = omega (arith, frames-of c.in-Ok.ensures, c.requires.few)

pub is_whole-requires : goal.is_whole-requires
is_whole-requires g c = c.in-Ok-Some.ensures.serves.up

pub hold-requires : goal.hold-requires
hold-requires g c = record {
  up = c.in-Ok-Some.ensures.serves.up;
  node = root-there c.requires.unheld c.in-Ok-Some.ensures.serves.told c.is_whole.ensures;
  few = root-few c.requires.unheld c.in-Ok-Some.ensures.serves.told c.is_whole.ensures;
}

pub new-machine-requires : goal.new-machine-requires
new-machine-requires g c = ap (λ (k : Kernel). k.tree.failed) c.new-kernel.ensures
    ∙ ap (λ (t : FileTree). t.failed) c.hold.ensures ∙ c.in-Ok-Some.ensures.serves.up

pub returns-in-Err-clause-refused : goal.returns-in-Err-clause-refused
returns-in-Err-clause-refused g c =
    let serves = c.in-Err.ensures.serves in
    record {
      disk = c.device-device.result.now;
      same_device = c.device-device.ensures.identity ∙ serves.same_device;
      later = subst (λ n. c.args.tree.failures ≤ n) (sym c.device-device.ensures.failures) serves.cause.later;
      rises = subst (Rises c.args.tree.failures) (sym c.device-device.ensures.failures) (serves.cause.failed refl);
    }
