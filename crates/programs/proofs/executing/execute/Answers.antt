use Rattle.programs.proofs.Common.{arith, refl, sym, ◌∙◌, none-some}
use Rattle.programs.proofs.Plans.{is-executed, loaded-there, not-passed, over-frames, program-kept, program-none}
use Rattle.programs.proofs.Plans.{program-of, program-there}
use Rattle.programs.proofs.Places.{held-still, room-beside}
use Rattle.programs.proofs.Reading.{err-left, err-told, kept-is-file, kept-leaves, kept-more, kept-none, lost}
use Rattle.programs.proofs.executing.execute.Goals as goal

pub returns-in_err-program : goal.returns-in_err-program
returns-in_err-program g c = record {
  serves = lost c.from_residual.result _ c.from_residual.ensures.1 _ (kept-none _ c.requires.up)
      c.in_err-program.ensures;
  executed = err-told c.from_residual.result _ c.from_residual.ensures.1 _;
  failed = held-still _ _ c.from_residual.result c.requires.space;
}

pub returns-in_default-clause-executed : goal.returns-in_default-clause-executed
returns-in_default-clause-executed g c = (
  refl,
  λ p is. absurd (none-some p
      (sym (program-none c.args.number c.in_ok-program.ensures c.in_default.is _ _) ∙ is)),
)

pub returns-then-frames-from-clause-executed : goal.returns-then-frames-from-clause-executed
returns-then-frames-from-clause-executed g c = (
  refl,
  over-frames (program-of c.args.number c.in_ok-program.ensures c.in-Some.is) c.args.spaces.now c.args.at c.args.argv
      c.frames.ensures c.free.ensures (omega (arith, c.if-frames-from.true, c.from.ensures)),
)

pub returns-in_default-read_arguments-clause-executed : goal.returns-in_default-read_arguments-clause-executed
returns-in_default-read_arguments-clause-executed g c = (
  refl,
  not-passed (program-of c.args.number c.in_ok-program.ensures c.in-Some.is) c.args.spaces.now c.args.at c.args.argv
      c.in_default-read_arguments.ensures,
)

pub load-requires : goal.load-requires
load-requires g c = record {
  up = c.in_ok-program.ensures.up;
  file = kept-is-file (program-kept c.args.number c.in_ok-program.ensures)
      (program-of c.args.number c.in_ok-program.ensures c.in-Some.is).file;
  program = program-there c.args.number c.in_ok-program.ensures
      (program-of c.args.number c.in_ok-program.ensures c.in-Some.is);
  few = omega (arith, c.frames.ensures, c.if-frames-from.false, c.from.ensures, c.free.type_inv);
  space = c.requires.space;
  room = room-beside c.args.spaces.now c.args.at _ c.requires.space
      (omega (arith, c.frames.ensures, c.free.ensures, c.if-frames-from.false, c.from.ensures));
}

pub returns-clause-executed : goal.returns-clause-executed
returns-clause-executed g c =
    let of = program-of c.args.number c.in_ok-program.ensures c.in-Some.is in
    is-executed of c.args.spaces.now c.args.at c.args.argv c.in-Some-read_arguments.ensures
    c.frames.ensures c.free.ensures (omega (arith, c.if-frames-from.false, c.from.ensures))
    (c.in_ok-load.ensures.loaded of.is.loaded (loaded-there c.args.number c.in_ok-program.ensures of))

pub frames-requires : goal.frames-requires
frames-requires g c =
    let few = rw c.in-Some.is at c.in_ok-program.ensures.told.1 in
    omega (arith, few)

pub returns-in_default-clause-serves : goal.returns-in_default-clause-serves
returns-in_default-clause-serves g c = kept-leaves (program-kept c.args.number c.in_ok-program.ensures)

pub returns-then-frames-from-clause-serves : goal.returns-then-frames-from-clause-serves
returns-then-frames-from-clause-serves g c = kept-leaves (program-kept c.args.number c.in_ok-program.ensures)

pub returns-in_default-read_arguments-clause-serves : goal.returns-in_default-read_arguments-clause-serves
returns-in_default-read_arguments-clause-serves g c = kept-leaves (program-kept c.args.number c.in_ok-program.ensures)

pub read_arguments-requires-clause-fits : goal.read_arguments-requires-clause-fits
read_arguments-requires-clause-fits g c =
    omega (arith, c.frames.ensures, c.if-frames-from.false, c.from.ensures, c.free.type_inv)

pub returns-in_err-load : goal.returns-in_err-load
returns-in_err-load g c = record {
  serves = lost c.from_residual-in_err-load.result _ c.from_residual-in_err-load.ensures.1 _
      (program-kept c.args.number c.in_ok-program.ensures) c.in_err-load.ensures.serves;
  executed = err-told c.from_residual-in_err-load.result _ c.from_residual-in_err-load.ensures.1 _;
  failed = err-left c.from_residual-in_err-load.result _ c.from_residual-in_err-load.ensures.1 _
      c.in_err-load.ensures.failed;
}

pub returns-clause-serves : goal.returns-clause-serves
returns-clause-serves g c =
    kept-leaves (kept-more (program-kept c.args.number c.in_ok-program.ensures) c.in_ok-load.ensures.serves.told
    c.in_ok-load.ensures.serves)
