use Rattle.image_files.proofs.putting.put.Goals as goal

pub file_at-requires : goal.file_at-requires
file_at-requires g c = c.in_ok-make_missing.ensures.rests
