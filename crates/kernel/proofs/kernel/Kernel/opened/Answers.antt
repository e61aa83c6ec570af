use Rattle.kernel.proofs.Common.{ap, false, sym, ◌∙◌, ◌≡◌, option_map, file-opens, file_of, kernel_of}
use Rattle.kernel.proofs.Readies.{count-shown, fits-in}
use Rattle.kernel.proofs.kernel.Kernel.opened.Goals as goal

pub returns : goal.returns
returns g c =
    let k = kernel_of c.self.inside in
    rw (← c.self.view_is) (record {
      file = ap (option_map file_of) c.in_ok-file.ensures ∙ sym (file-opens k.files c.args.id);
      count = c.references.ensures ∙ count-shown k c.self.invariant.sound c.args.id;
      fits = λ (up : k.tree.failed ≡ false). fits-in k _ c.in_ok-file.file c.in_ok-file.ensures
          ((c.self.invariant.sound.used up).fits c.args.id);
    })
