use Rattle.programs.proofs.Common.{arith, refl, zeros}
use Rattle.programs.proofs.Stacks.{all-pushed, ended, none-pushed, string-pushed, string-refused, word-refused}
use Rattle.vm.proofs.ReachLemmas.{string-fits}
use Rattle.programs.proofs.arguments.read_arguments.Goals as goal

pub loop-i-init : goal.loop-i-init
unfolding zeros
loop-i-init g c = none-pushed _ _ refl refl refl

pub overflow_add-argv : goal.overflow_add-argv
overflow_add-argv g c =
    let low = string-fits _ _ _ _ c.pages_are_whole.ensures.sized c.pages_are_whole.ensures.few c.ranges.argv.fits
    c.loop-i.invariant.reached in
    omega (arith, low)

pub returns-in_default : goal.returns-in_default
returns-in_default g c =
    word-refused c.pages_are_whole.ensures.sized c.loop-i.invariant c.loop-i-test.true c.in_default.ensures refl

pub returns-then-word-eq0 : goal.returns-then-word-eq0
returns-then-word-eq0 g c =
    ended c.pages_are_whole.ensures.sized c.loop-i.invariant c.loop-i-test.true c.in-Some.ensures refl
    c.if-word-eq0.true refl _ c.finish.ensures

pub returns-in_default-push_string : goal.returns-in_default-push_string
returns-in_default-push_string g c =
    string-refused c.pages_are_whole.ensures.sized c.loop-i.invariant c.loop-i-test.true c.in-Some.ensures refl
    c.if-word-eq0.false c.push_string.new.page c.in_default-push_string.ensures

pub loop-i-preserved : goal.loop-i-preserved
loop-i-preserved g c =
    string-pushed c.pages_are_whole.ensures.sized c.loop-i.invariant c.loop-i-test.true c.in-Some.ensures refl
    c.if-word-eq0.false c.in-Some-push_string.ensures refl c.put_pointer.ensures

pub returns : goal.returns
returns g c = all-pushed c.loop-i.invariant c.loop-i-test.false
