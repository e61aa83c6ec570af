-- The files of the host that the words of a job name.
use Rattle.std.specs.Prelude.{List, [], None, Option, Some, ◌∷◌}
use Rattle.std.specs.Borrow.{Bor}
use Rattle.clap.specs.Words.{Text}
use Rattle.commandline.specs.declared.jobs.Job.{Job}
use Rattle.commandline.specs.declared.jobs.Job.TheVariants as job
use Rattle.commandline.specs.declared.jobs.Run.{Run}

abbrev pub Name : Type 0
Name = Option (Bor Text)

-- one name of five
abbrev pub one_of : Name → List Name
one_of name = name ∷ None ∷ None ∷ None ∷ None ∷ []

-- reports, records and traces, and what is taken out of an image
abbrev pub outputs_of : Job → List Name
outputs_of (job.Flat flat) = one_of flat.telling.json
outputs_of (job.Run run) = one_of run.telling.json
outputs_of (job.Live live) = one_of live.script
outputs_of (job.Get get) = one_of get.out
outputs_of (job.Play play) = play.run.telling.json ∷ play.script ∷ None ∷ None ∷ None ∷ []
outputs_of (job.Trace trace) =
    trace.run.telling.json ∷ trace.text ∷ trace.jsonl ∷ trace.perfetto ∷ trace.commits ∷ []
outputs_of (job.Gdb gdb) = one_of gdb.recorded
outputs_of _ = one_of None

abbrev pub others_of_run : Run → List Name
others_of_run run = Some run.image ∷ Some run.script ∷ run.save ∷ []

-- what a job with such outputs reads, and the image that it leaves
abbrev pub others_of : Job → List Name
others_of (job.Flat flat) = Some flat.file ∷ Some flat.script ∷ None ∷ []
others_of (job.Run run) = others_of_run run
others_of (job.Live live) = Some live.image ∷ live.save ∷ None ∷ []
others_of (job.Get get) = Some get.image ∷ None ∷ None ∷ []
others_of (job.Play play) = others_of_run play.run
others_of (job.Trace trace) = others_of_run trace.run
others_of (job.Gdb gdb) = Some gdb.image ∷ gdb.script ∷ None ∷ []
others_of _ = None ∷ None ∷ None ∷ []
