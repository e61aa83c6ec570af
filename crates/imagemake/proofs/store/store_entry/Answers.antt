use Rattle.imagemake.proofs.Common.{sym, ◌∙◌, none-some, now-up, thing_of, Directory}
use Rattle.imagemake.proofs.AddedFiles.{directory-after, name-refused, named-up, node-refused, now-one, number-after}
use Rattle.imagemake.proofs.AddedFiles.{stores-named}
use Rattle.imagemake.proofs.store.store_entry.Goals as goal

pub store_node-requires : goal.store_node-requires
store_node-requires g c =
    let can = c.requires.able in
    record {
      up = c.requires.up;
      number = can.number;
      directory = λ none. none-some (Directory can.links can.places) (sym none ∙ can.directory);
    }

pub returns-in_err-store_node : goal.returns-in_err-store_node
returns-in_err-store_node g c = node-refused _ _ c.requires.able c.in_err-store_node.ensures c.from_residual.ensures.1

pub store_name-requires : goal.store_name-requires
store_name-requires g c =
    let can = c.requires.able in
    let put = c.in_ok-store_node.ensures in
    record {
      up = now-up (now-one c.args.tree.now (thing_of c.args.thing.now) can put) c.requires.up;
      able = directory-after c.args.tree.now (thing_of c.args.thing.now) can put;
      name = can.named;
      number = number-after c.args.tree.now (thing_of c.args.thing.now) can put;
    }

pub returns-in_err-store_name : goal.returns-in_err-store_name
returns-in_err-store_name g c =
    name-refused _ _ c.requires.able c.in_ok-store_node.ensures c.in_err-store_name.ensures
    c.from_residual-in_err-store_name.ensures.1

pub is_whole-requires : goal.is_whole-requires
is_whole-requires g c = named-up _ _ c.requires.able c.in_ok-store_node.ensures c.in_ok-store_name.ensures c.requires.up

pub returns : goal.returns
returns g c = stores-named _ _ c.requires.able c.in_ok-store_node.ensures c.in_ok-store_name.ensures c.is_whole.ensures
