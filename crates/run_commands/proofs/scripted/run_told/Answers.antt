use Rattle.run_commands.proofs.Showing.{memory-sound}
use Rattle.run_commands.proofs.scripted.run_told.Goals as goal
use Rattle.run_commands.specs.declared.performing.Piece.TheVariants.{Script}

pub returns : goal.returns
returns g c =
    let disk = c.in_ok-disk.disk in
    let piece = Script c.as_slice-2.result in
    let left = c.in_ok-finish.field-0 in record {
      front = c.in_ok-image.image;
      piece = piece;
      read = record {
        text = c.in_ok-image.bytes.items;
        image = c.in_ok-image.ensures.image;
        script = c.in_ok-image.ensures.script;
        said = rw (c.as_slice-2.ensures.value, ← c.as_slice.ensures.value) c.in_ok-script.ensures;
      };
      runs = record {
        disk = disk;
        made = record { whole = c.in_ok-disk.ensures.whole; cut = c.in_ok-disk.ensures.cut };
        runs = c.in_ok-finish.ensures;
        sound = memory-sound disk c.args.words.now piece (g.W.Write.contents c.args.stdout)
            (g.W.Write.contents left.stdout) left.finish left.disk c.in_ok-finish.ensures;
      };
    }
