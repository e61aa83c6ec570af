use Rattle.machine.proofs.image_boot.read_init.Goals as goal
use Rattle.machine.proofs.Booting.{argless-init, few-pages, init-found, large-init, no-init, resolved-node, unresolved}
use Rattle.std.proofs.Common.{arith}

pub returns-in_default : goal.returns-in_default
returns-in_default g c = unresolved c.args.frames c.in_ok-number.ensures c.in_default.is

pub read_program-requires-clause-node : goal.read_program-requires-clause-node
read_program-requires-clause-node g c = resolved-node c.in_ok-number.ensures c.in-Some.is c.requires.rules

pub returns-in_default-2 : goal.returns-in_default-2
returns-in_default-2 g c =
    no-init c.in_ok-number.ensures c.in-Some.is c.in_ok-program.ensures c.args.frames c.in_default-2.is

pub returns-then-frames-from : goal.returns-then-frames-from
returns-then-frames-from g c =
    large-init c.in_ok-number.ensures c.in-Some.is c.in_ok-program.ensures c.in-Some-2.is c.args.frames
    c.frames.ensures (omega (arith, c.from.ensures, c.if-frames-from.true))

pub one_argument-requires : goal.one_argument-requires
one_argument-requires g c =
    record {
      fits = few-pages c.in_ok-number.ensures c.in-Some.is c.in_ok-program.ensures c.in-Some-2.is c.args.frames
          c.frames.ensures (omega (arith, c.from.ensures, c.if-frames-from.false))
          (omega (arith, c.ranges.frames.fits));
    }

pub returns-in_default-one_argument : goal.returns-in_default-one_argument
returns-in_default-one_argument g c =
    argless-init c.in_ok-number.ensures c.in-Some.is c.in_ok-program.ensures c.in-Some-2.is c.args.frames
    c.frames.ensures c.one_argument.result c.one_argument.ensures c.in_default-one_argument.is

pub returns : goal.returns
returns g c = init-found c.in_ok-number.ensures c.in-Some.is c.in_ok-program.ensures c.in-Some-2.is c.args.frames
    c.frames.ensures (omega (arith, c.from.ensures, c.if-frames-from.false)) c.in-Some-one_argument.arguments
    c.in-Some-one_argument.ensures
