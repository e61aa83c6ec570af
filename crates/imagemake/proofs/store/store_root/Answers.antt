use Rattle.imagemake.proofs.Common.{[], sym, ◌∙◌, none-some, end-lost, now-begin, now-turned, now-up, turned-last}
use Rattle.imagemake.proofs.Common.{Directory}
use Rattle.imagemake.proofs.Putting.{root-bare, root-block, root-free, root-made}
use Rattle.imagemake.proofs.store.store_root.Goals as goal

pub take_node_at-requires-clause-number : goal.take_node_at-requires-clause-number
take_node_at-requires-clause-number g c = root-free c.args.tree.now c.requires.none c.requires.some

pub returns-in_err-take_node_at : goal.returns-in_err-take_node_at
returns-in_err-take_node_at g c =
    end-lost now-begin c.take_node_at.ensures c.in_err-take_node_at.was c.from_residual.ensures.1

pub put_dots-requires : goal.put_dots-requires
put_dots-requires g c =
    let now = now-turned now-begin c.take_node_at.ensures c.in_ok-take_node_at.was in
    let bare = root-bare _ c.requires.none c.requires.some now in
    record {
      up = now-up now c.requires.up;
      bare = bare;
      above = λ none. none-some (Directory 1 []) (sym none ∙ bare);
      block = root-block c.args.tree.now c.requires.none c.requires.some now c.requires.block;
    }

pub returns : goal.returns
returns g c =
    let now = now-turned now-begin c.take_node_at.ensures c.in_ok-take_node_at.was in
    turned-last now _ c.put_dots.ensures (root-made _ c.requires.none c.requires.some now)
