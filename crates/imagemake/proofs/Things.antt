-- Which things make directories, and so links.
use Rattle.imagemake.proofs.Common.{◌≡◌, ℕ, false, refl, sym, true, false≢true, Node, is_directory, linked, node_for}
use Rattle.imagemake.proofs.Common.{Folder, makes_directory, thing_of}
use Rattle.imagemake.specs.declared.manifest.Thing.{Thing}
use Rattle.imagemake.specs.declared.manifest.Thing.TheVariants.{Directory}

pub folder-thing : (n d : ℕ) (thing : Thing) → makes_directory thing ≡ is_directory (node_for n d (thing_of thing))
folder-thing n d Directory = refl
folder-thing n d node = refl

pub thing-folder : (thing : Thing) → makes_directory thing ≡ true → thing_of thing ≡ Folder
thing-folder Directory e = refl
thing-folder node e = absurd (false≢true e)

-- nothing else makes a link
pub thing-unlinked : (thing : Thing) (node : Node) → makes_directory thing ≡ false → linked (thing_of thing) node ≡ node
thing-unlinked Directory node e = absurd (false≢true (sym e))
thing-unlinked x node e = refl
