use Rattle.imagecheck.proofs.Common.{◌≡◌, ◌+◌, ap, sym, subst, ◌∙◌, parent_of, number_at, HasBlocks-of, IsDirectoryIn}
use Rattle.imagecheck.proofs.Parents.{parent-read, parent_directory}
use Rattle.imagecheck.proofs.reach.parent.Goals as goal

pub returns : goal.returns
returns c =
    let image = c.args.image.now in
    let blocks = HasBlocks-of image c.requires.sound.blocks in
    let is : c.number16.result ≡ parent_of _ _ =
    c.number16.ensures ∙ ap (λ at. number_at 2 (at + 16) image) c.front_place.ensures.place
    ∙ parent-read image blocks _ c.requires.directory c.requires.sound.entries in
    record {
      parent = is;
      directory = subst (IsDirectoryIn image) (sym is)
          (parent_directory image blocks c.requires.sound.entries c.requires.sound.links c.args.n c.requires.directory);
    }
