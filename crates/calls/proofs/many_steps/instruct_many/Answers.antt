use Rattle.calls.proofs.Common.{[], arith, current-is, has-current}
use Rattle.calls.proofs.Pieces.{begun, busy-advances, ends-all, last-goes}
use Rattle.calls.proofs.many_steps.instruct_many.Goals as goal

pub trap_once-requires : goal.trap_once-requires
trap_once-requires g c =
    let e = c.execute_many.ensures in
    let b = begun c.is_sound.ensures.sound c.requires.running c.requires.goes [] c.execute_many.result.0
    c.execute_many.new.self (g.W.Out.contents c.args.console.now) c.requires.up e.done in
    rw (current-is b.active)
    (record { running = b.active; up = b.went.served.up; traps = (rw c.in_default-Some.is-1 at e.trap).1 })

pub returns-in_default-None-clause-does : goal.returns-in_default-None-clause-does
returns-in_default-None-clause-does g c =
    let done = c.execute_many.result.0 in
    let e = c.execute_many.ensures in
    let all = ends-all c.args.most done c.execute_many.new.self.spaces.pc (rw c.in_default-None.is-1 at e.ends) in
    let some = c.requires.some in
    record {
      within = e.within;
      busy = λ n less. busy-advances c.is_sound.ensures.sound c.requires.running c.requires.goes [] done
          c.execute_many.new.self.spaces e.done.0 n (omega (arith, less));
      goes = (
        (begun c.is_sound.ensures.sound c.requires.running c.requires.goes [] done c.execute_many.new.self
            (g.W.Out.contents c.args.console.now) c.requires.up e.done).went,
        λ none. absurd (omega (arith, all, some, none)),
      );
    }

pub returns-in_default-Some-clause-does : goal.returns-in_default-Some-clause-does
returns-in_default-Some-clause-does g c =
    let mid = c.execute_many.new.self in
    let done = c.execute_many.result.0 in
    let e = c.execute_many.ensures in
    let b = begun c.is_sound.ensures.sound c.requires.running c.requires.goes [] done mid
    (g.W.Out.contents c.args.console.now) c.requires.up e.done in
    let more = (rw c.in_default-Some.is-1 at e.trap).0 in
    let told = c.trap_once.ensures in
    record {
      within = omega (arith, more);
      busy = λ n less. busy-advances c.is_sound.ensures.sound c.requires.running c.requires.goes [] done mid.spaces
          e.done.0 n (omega (arith, less));
      goes = last-goes c.trap_once.new.kernel _ _ c.trap_once.result b.went c.requires.goes b.is
          (rw (current-is b.active) at told.does) told.tree;
    }
