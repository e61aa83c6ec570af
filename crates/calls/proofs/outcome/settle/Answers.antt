use Rattle.calls.proofs.Common.{answered, ap, counting, current, ended, here-in, IsEnd, Kernel, marked, negsuc, refl}
use Rattle.calls.proofs.Common.{serves-disk, state-but, state-waking, state_of, subst, sym, waking, ◌∙◌}
use Rattle.calls.proofs.Acts.{runs-of, settles-answer, settles-blocks, settles-exits-if, same-served, where-err}
use Rattle.calls.proofs.Processes.{settles-killed}
use Rattle.calls.proofs.outcome.settle.Goals as goal

pub returns-in-Answers : goal.returns-in-Answers
returns-in-Answers g c =
    let s = c.is_sound.ensures in
    record {
      gives = rw c.in-Answers.is
          (settles-answer (runs-of c.requires.running c.requires.up s.sound s.zero s.aligned) _ c.answer.ensures);
      fails = tt;
      tree = same-served (ap (λ (x : Kernel). x.tree) c.answer.ensures) c.requires.up;
    }

pub returns-in-Refuses : goal.returns-in-Refuses
returns-in-Refuses g c =
    let s = c.is_sound.ensures in
    record {
      gives = rw c.in-Refuses.is
          (settles-answer (runs-of c.requires.running c.requires.up s.sound s.zero s.aligned) _
          c.answer-in-Refuses.ensures);
      fails = tt;
      tree = same-served (ap (λ (x : Kernel). x.tree) c.answer-in-Refuses.ensures) c.requires.up;
    }

pub returns-in-Blocks : goal.returns-in-Blocks
returns-in-Blocks g c =
    let s = c.is_sound.ensures in
    record {
      gives = rw c.in-Blocks.is
          (settles-blocks (runs-of c.requires.running c.requires.up s.sound s.zero s.aligned)
          (rw c.in-Blocks.is at c.requires.can) c.block.ensures);
      fails = tt;
      tree = same-served (ap (λ (x : Kernel). x.tree) c.block.ensures) c.requires.up;
    }

pub finish-requires : goal.finish-requires
finish-requires g c =
    rw c.current-at.ensures (record { up = c.requires.up; can = rw c.requires.running refl })

pub returns-in-Exits : goal.returns-in-Exits
returns-in-Exits g c =
    let s = c.is_sound.ensures in
    record {
      gives = rw c.in-Exits.is
          (settles-exits-if (runs-of c.requires.running c.requires.up s.sound s.zero s.aligned) c.finish.new.self
          (rw c.in-Exits.is at c.requires.can) c.finish.result (rw c.current-at.ensures at c.finish.ensures.told));
      fails = where-err c.finish.result (subst IsEnd (sym c.in-Exits.is) tt);
      tree = serves-disk c.finish.ensures;
    }

pub finish-requires-in-KillsItself : goal.finish-requires-in-KillsItself
finish-requires-in-KillsItself g c =
    rw (c.answer-in-KillsItself.ensures, c.current-at-in-KillsItself.ensures)
    (record { up = c.requires.up; can = rw c.requires.running refl })

pub returns-in_ok-finish-in-KillsItself-clause-gives : goal.returns-in_ok-finish-in-KillsItself-clause-gives
returns-in_ok-finish-in-KillsItself-clause-gives g c =
    let s = c.is_sound.ensures in
    let k = c.args.kernel.now in
    let last = c.finish-in-KillsItself.new.self in
    let made = rw c.current-at-in-KillsItself.ensures at c.in_ok-finish-in-KillsItself.ensures.told
    ∙ ap (λ (x : Kernel). waking (counting (ended x (current k) (negsuc 0)) last.tree.failures) last.table.awake)
    c.answer-in-KillsItself.ensures in
    rw c.in-KillsItself.is (
    state-but (marked last (current k)) (rw c.current-at-in-KillsItself.ensures at c.mark.ensures)
    ∙ ap (λ (x : Kernel). state_of (marked x (current k))) made
    ∙ state-waking (marked (counting (ended (answered k 0) (current k) (negsuc 0)) last.tree.failures) (current k))
    last.table.awake
    ∙ settles-killed (here-in s.sound c.requires.running c.requires.up) s.zero s.aligned)
