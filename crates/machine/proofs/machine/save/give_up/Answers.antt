use Rattle.machine.proofs.Common.{ap, AreLinked, arith, Denotes, FileTree, image_of, is_err, KeepsTree, le_trans, OnOk}
use Rattle.machine.proofs.Common.{Rises, subst, sym, ◌∙◌, ◌≤◌}
use Rattle.calls.proofs.Acts.{where-err}
use Rattle.name_rules.proofs.Quiet.{leaves, left-linked}
use Rattle.machine.proofs.machine.save.give_up.Goals as goal

pub unmount-disk-requires-clause-rules : goal.unmount-disk-requires-clause-rules
unmount-disk-requires-clause-rules g c =
    subst KeepsTree (sym (ap (λ (t : FileTree). t.files) c.in_ok-released.ensures.told)) (leaves c.requires.rules)

pub unmount-disk-requires-clause-linked : goal.unmount-disk-requires-clause-linked
unmount-disk-requires-clause-linked g c =
    subst AreLinked (sym (ap (λ (t : FileTree). t.files) c.in_ok-released.ensures.told)) (left-linked c.args.tree.files)

pub returns-clause-denotes : goal.returns-clause-denotes
returns-clause-denotes g c =
    let bytes = image_of (g.D.BlockDev.content c.unmount-disk.result.0) in
    subst (Denotes bytes) (ap (λ (t : FileTree). t.files) c.in_ok-released.ensures.told)
    (subst (λ r. OnOk r (Denotes bytes c.release_all-released.new.self.files)) c.in_ok-flushed.was
    c.unmount-disk.ensures.denotes)

pub returns-in_err-released-clause-cause : goal.returns-in_err-released-clause-cause
returns-in_err-released-clause-cause g c =
    let serves = c.release_all-released.ensures in
    where-err c.from_residual.result (record {
      disk = c.device-device.result.now;
      same_device = c.device-device.ensures.identity ∙ serves.same_device;
      later = subst (λ n. c.args.tree.failures ≤ n) (sym c.device-device.ensures.failures) serves.cause.later;
      rises = subst (Rises c.args.tree.failures) (sym c.device-device.ensures.failures)
          (serves.cause.failed (ap is_err c.in_err-released.was));
    })

pub returns-in_err-flushed-clause-cause : goal.returns-in_err-flushed-clause-cause
returns-in_err-flushed-clause-cause g c =
    let serves = c.release_all-released.ensures in
    let cause = c.unmount-disk.ensures.cause in
    let rises = cause.failed (ap is_err c.in_err-flushed.was) in
    where-err c.from_residual-in_err-flushed.result (record {
      disk = c.unmount-disk.result.0;
      same_device = c.unmount-disk.ensures.identity ∙ serves.same_device;
      later = le_trans serves.cause.later cause.later;
      rises = omega (arith, rises, serves.cause.later);
    })

pub returns-clause-identity : goal.returns-clause-identity
returns-clause-identity g c = c.unmount-disk.ensures.identity ∙ c.release_all-released.ensures.same_device
