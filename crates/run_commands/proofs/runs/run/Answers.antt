use Rattle.run_commands.proofs.Showing.{memory-sound}
use Rattle.run_commands.proofs.runs.run.Goals as goal
use Rattle.run_commands.specs.declared.performing.Piece.TheVariants.{Script}

pub returns-in-Ok-clause-ran : goal.returns-in-Ok-clause-ran
returns-in-Ok-clause-ran g c = record {
  front = c.in_ok-image.image;
  piece = Script c.as_slice-2.result;
  read = record {
    text = c.in_ok-image.bytes.items;
    image = c.in_ok-image.ensures.image;
    script = c.in_ok-image.ensures.script;
    said = rw (c.as_slice-2.ensures.value, ← c.as_slice.ensures.value) c.in_ok-script.ensures;
  };
  runs = record {
    disk = c.in_ok-disk.disk;
    made = record { whole = c.in_ok-disk.ensures.whole; cut = c.in_ok-disk.ensures.cut };
    runs = c.in-Ok.ensures.ran;
    sound = memory-sound c.in_ok-disk.disk c.args.words.now (Script c.as_slice-2.result)
        (g.W.Write.contents c.args.stdout) (g.W.Write.contents c.in-Ok.performed.stdout) c.in-Ok.performed.finish
        c.in-Ok.performed.disk c.in-Ok.ensures.ran;
  };
}
