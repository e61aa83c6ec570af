use Rattle.calls.proofs.Common.{ap, arith, FileTree, Kernel, LeavesTree, state-but, subst, sym, turn-alive, ◌≡◌}
use Rattle.calls.proofs.Pieces.{busy-turn, idle-now, last-goes, turn-is, went-none, went-still}
use Rattle.calls.proofs.Takes.{took-gives, took-leaves}
use Rattle.calls.proofs.many_steps.turn_once.Goals as goal

pub take-taken-requires-clause-alive : goal.take-taken-requires-clause-alive
take-taken-requires-clause-alive g c =
    let found = sym c.in-Some.ensures.turn in
    rw c.in-Some.ensures.picked (turn-alive c.args.kernel.now c.requires.idle c.in-Some.at found)

pub returns-in-None : goal.returns-in-None
returns-in-None g c =
    let k = c.args.kernel.now in
    let none = c.in-None.ensures.none in
    let same = state-but k none in
    record {
      does = λ at most some. record {
        within = omega arith;
        busy = λ done less. absurd (omega (arith, less));
        goes = (
          went-still at c.requires.goes c.requires.up same (ap (λ (x : Kernel). x.tree) none),
          λ zero. idle-now c.is_sound.ensures.sound c.requires.idle c.turn.new.self (sym c.in-None.ensures.turn)
              same,
        );
      };
    }

pub returns-in-Some : goal.returns-in-Some
returns-in-Some g c =
    let k = c.args.kernel.now in
    let mid = c.turn.new.self in
    let is = c.is_sound.ensures.sound in
    let found = sym c.in-Some.ensures.turn in
    let picked = c.in-Some.ensures.picked in
    let r = c.take-taken.result in
    let new = c.take-taken.new.kernel in
    let tree : mid.tree ≡ k.tree = ap (λ (x : Kernel). x.tree) picked in
    record {
      does = λ at most some. record {
        within = some;
        busy = busy-turn is c.requires.idle found c.requires.goes;
        goes = last-goes new
            at ⊥ c.halt_after.result (went-none at c.requires.goes c.requires.up) c.requires.goes
            (turn-is is c.requires.idle found mid picked)
            (rw c.halt_after.ensures (took-gives new _ at r c.take-taken.ensures.gives))
            (subst (λ (t : FileTree). LeavesTree {X = Unit {0}} t new.tree c.halt_after.result) tree
            (rw c.halt_after.ensures (took-leaves _ _ new.halted r c.take-taken.ensures.tree)));
      };
    }
