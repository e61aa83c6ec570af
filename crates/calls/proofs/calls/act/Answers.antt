use Rattle.calls.proofs.Common.{[], ActsOnDisk, Appends-nil, arith, current, err_from_is_err_and, None, refl, Some}
use Rattle.calls.proofs.Acts.{unbuilt}
use Rattle.calls.proofs.calls.act.Given as given
use Rattle.calls.proofs.calls.act.Goals.{After-branch-came, in-Chdir, in-Close, in-Dup, in-Exec, in-Exit, in-Fork}
use Rattle.calls.proofs.calls.act.Goals.{in-Fstat, in-Getpid, in-Kill, in-Link, in-Mkdir, in-Mknod, in-Open, in-Pipe}
use Rattle.calls.proofs.calls.act.Goals.{in-Read, in-Sbrk, in-Sleep, in-Unlink, in-Uptime, in-Wait}
use Rattle.calls.proofs.calls.act.Goals as goal

-- each call but write says what it did
acts : (g : given.Over) (c : After-branch-came g)
    → ActsOnDisk c.args.kernel.now c.match-call-2.kernel (current c.args.kernel.now) (Some c.in-Some.call)
    c.match-call-2.came
acts g c = elim c.match-call-2.branch [
  | in-Fork w ↦ rw (w.kernel-is, w.came-is, w.in-Fork.is) w.fork.ensures
  | in-Exit w ↦ rw (w.kernel-is, w.came-is, w.in-Exit.is) w.exit.ensures
  | in-Wait w ↦ rw (w.kernel-is, w.came-is, w.in-Wait.is) w.wait.ensures
  | in-Pipe w ↦ rw (w.kernel-is, w.came-is, w.in-Pipe.is) w.pipe.ensures
  | in-Read w ↦ rw (w.kernel-is, w.came-is, w.in-Read.is) w.read-came.ensures
  | in-Kill w ↦ rw (w.kernel-is, w.came-is, w.in-Kill.is) w.kill.ensures
  | in-Exec w ↦ rw (w.kernel-is, w.came-is, w.in-Exec.is) w.exec-came.ensures
  | in-Fstat w ↦ rw (w.kernel-is, w.came-is, w.in-Fstat.is) w.fstat-came.ensures
  | in-Chdir w ↦ rw (w.kernel-is, w.came-is, w.in-Chdir.is) w.chdir-came.ensures
  | in-Dup w ↦ rw (w.kernel-is, w.came-is, w.in-Dup.is) w.dup.ensures
  | in-Getpid w ↦ rw (w.kernel-is, w.came-is, w.in-Getpid.is) w.getpid.ensures
  | in-Sbrk w ↦ rw (w.kernel-is, w.came-is, w.in-Sbrk.is) w.sbrk.ensures
  | in-Sleep w ↦ rw (w.kernel-is, w.came-is, w.in-Sleep.is) w.sleep.ensures
  | in-Uptime w ↦ rw (w.kernel-is, w.came-is, w.in-Uptime.is) w.uptime.ensures
  | in-Open w ↦ rw (w.kernel-is, w.came-is, w.in-Open.is) w.open-came.ensures
  | in-Mknod w ↦ rw (w.kernel-is, w.came-is, w.in-Mknod.is) w.mknod-came.ensures
  | in-Unlink w ↦ rw (w.kernel-is, w.came-is, w.in-Unlink.is) w.unlink-came.ensures
  | in-Link w ↦ rw (w.kernel-is, w.came-is, w.in-Link.is) w.link-came.ensures
  | in-Mkdir w ↦ rw (w.kernel-is, w.came-is, w.in-Mkdir.is) w.mkdir-came.ensures
  | in-Close w ↦ rw (w.kernel-is, w.came-is, w.in-Close.is) w.close-came.ensures
]

pub returns-in_default : goal.returns-in_default
returns-in_default g c = record { tries = unbuilt None c.requires c.in_default.is (λ p. refl) _; later = omega arith }

pub returns : goal.returns
returns g c =
    let did = rw c.in_ok-came.was at (acts g (goal.at.returns g c).After-branch-came) in
    record { tries = rw c.in-Some.is ([], did, Appends-nil _); later = omega arith }

pub returns-in_err-came : goal.returns-in_err-came
returns-in_err-came g c =
    let lost = rw c.in_err-came.was at (acts g (goal.at.returns-in_err-came g c).After-branch-came) in
    let e = err_from_is_err_and c.from_residual.result c.from_residual.ensures.1 in
    record { tries = rw (e.1, e.2) (lost, Appends-nil _); later = omega arith }
