use Rattle.machine.proofs.image_boot.put_init.Goals as goal
use Rattle.machine.proofs.FlatSpaces.{first-free}
use Rattle.machine.proofs.Booting.{in-place, ready}

pub returns-clause-put : goal.returns-clause-put
returns-clause-put g c =
    in-place c.in_ok-init.ensures c.in-Some.is c.args.spaces.now c.create.new.self c.requires.none
    c.if-not-create.ensures.done.1 c.free.ensures c.load.new.spaces c.in_ok-load.ensures.loaded

pub load-requires : goal.load-requires
load-requires g c =
    let asks = ready c.in_ok-init.ensures c.in-Some.is c.args.spaces.now c.create.new.self c.requires.none
    c.if-not-create.ensures.done.1 c.free.ensures c.requires.few in
    record {
      up = c.in_ok-init.ensures.up;
      file = asks.file;
      program = asks.program_is;
      few = asks.few;
      space = asks.space;
      room = asks.room;
    }

pub create-requires-clause-free : goal.create-requires-clause-free
create-requires-clause-free g c = first-free c.requires.none
