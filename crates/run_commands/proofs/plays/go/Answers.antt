use Rattle.std.specs.Prelude.{is_some}
use Rattle.run_commands.proofs.Showing.{memory-end, unrecorded}
use Rattle.run_commands.specs.Files.{disk_content, disk_failures, disk_identity}
use Rattle.run_commands.specs.Shows.{noted_by, unreached_of}
use Rattle.run_commands.proofs.plays.go.Goals as goal
use Rattle.run_commands.specs.declared.performing.Piece.TheVariants.{Play}

pub returns : goal.returns
returns g c =
    let run = c.args.reading.words.now.run in
    let piece = Play c.args.reading.play in
    let disk = c.in_ok-disk.disk in
    let performed = c.in-Ok.performed in
    let end = performed.finish.end in
    let unreached = unreached_of performed.finish in
    let noted = noted_by g.W.Write.contents (λ s. s.kept) c.new-scribe.result performed.keeper c.args.stdout
    performed.stdout in
    let ran = c.in-Ok.ensures.ran in (
      performed.disk,
      record {
        front = c.args.reading.image;
        piece = piece;
        read = c.requires;
        runs = record {
          disk = disk;
          made = record { whole = c.in_ok-disk.ensures.whole; cut = c.in_ok-disk.ensures.cut };
          runs = unrecorded disk_content disk_identity disk_failures run.fail disk run.frames piece noted
              (is_some run.save) end unreached performed.disk ran;
          sound = memory-end run.fail disk run.frames piece noted (is_some run.save) end unreached performed.disk ran;
        };
      },
    )
