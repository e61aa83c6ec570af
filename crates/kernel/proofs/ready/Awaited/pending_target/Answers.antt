use Rattle.kernel.proofs.Common.{file-opens, file_of, target_of, opens_of, ap, refl, sym, ◌∙◌, option_map}
use Rattle.kernel.proofs.Readies.{stands-open}
use Rattle.kernel.proofs.ready.Awaited.pending_target.Goals as goal

pub returns-in-Some-file-clause-stands : goal.returns-in-Some-file-clause-stands
returns-in-Some-file-clause-stands g c =
    stands-open c.args.self.now.spaces.now (opens_of c.args.self.now.files.now) _ (file_of c.in-Some-file.file)
    (target_of c.in-Some-file.file.target) c.requires
    (file-opens c.args.self.now.files.now _ ∙ ap (option_map file_of) (sym c.in-Some-file.ensures)) refl
